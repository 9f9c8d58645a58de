use Rattle.host_top.proofs.CommandLemmas.{names_one}
use Rattle.host_top.proofs.command.one_command.Goals as goal

pub returns : goal.returns
returns c = names_one
