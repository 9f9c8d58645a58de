use Rattle.std.proofs.Common.{◌-◌, ◌++◌, [], ◌∷◌, length, get_or, refl, ap, ◌∙◌}
use Rattle.net_host.proofs.ReportLemmas.{last_is, last_set}
use Rattle.server_run.specs.declared.report.ServeRow.{ServeRow}
use Rattle.server_run.proofs.report.fill_last.Goals as goal

pub returns-then-count-gt0 : goal.returns-then-count-gt0
returns-then-count-gt0 c = λ before row same.
    let found = get_or c.args.rows.now (length c.args.rows.now - 1) c.index-rows-count.result in
    let is_row = last_is c.args.rows.now before row c.index-rows-count.result (length c.args.rows.now) same refl in
    let filled : ServeRow → ServeRow = λ r. record r { answered = c.args.answered; sent = c.args.sent } in
    last_set c.args.rows.now before row (filled found) (length c.args.rows.now) same refl ∙ ap (λ r. before ++ filled r ∷ []) is_row
