use Rattle.std.specs.String.{string_bytes}
use Rattle.host_top.proofs.CommandLemmas.{unset}
use Rattle.host_top.proofs.command.run_of.Goals as goal

pub returns-in_err-settings_of-clause-refuses : goal.returns-in_err-settings_of-clause-refuses
returns-in_err-settings_of-clause-refuses c =
    rw c.from_residual-in_err-settings_of.ensures (unset string_bytes c.args.words.now c.in_err-settings_of.ensures.refuses)
