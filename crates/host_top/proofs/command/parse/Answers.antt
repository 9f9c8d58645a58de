use Rattle.std.specs.String.{string_bytes}
use Rattle.host_top.proofs.CommandLemmas.{opened, not_opened, unplain}
use Rattle.host_top.proofs.command.parse.Goals as goal

pub returns-in_err-command_of-clause-refuses : goal.returns-in_err-command_of-clause-refuses
returns-in_err-command_of-clause-refuses c =
    let are = opened string_bytes c.args.words.now c.name-item.result c.as_bytes.result.now c.in-len1-up.len_at_least c.name-item.is
    c.as_bytes.ensures.value in
    rw c.from_residual-in_err-command_of.ensures
    (unplain string_bytes c.args.words.now c.in_err-command_of.ensures.refuses
    (not_opened _ _ c.as_bytes.result.now are (c.is_live_word.ensures.no c.if-is_live_word.false)))
