-- The lines of rows in the order of the law.
use Rattle.net_host.proofs.QueryRowLemmas.{one_line_each}
use Rattle.net_host.proofs.laws.rows_have_one_line_each.Goals as goal

pub returns : goal.returns
returns c = λ settings words events rows are number. one_line_each settings number words events rows are
