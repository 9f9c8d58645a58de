use Rattle.host_top.proofs.ServeLemmas.{never_accepted}
use Rattle.host_top.proofs.serve_command.serve_of.Goals as goal

pub returns-in-Err-clause-refuses : goal.returns-in-Err-clause-refuses
returns-in-Err-clause-refuses c = never_accepted _ _ _ _ c.in_ok-serve.ensures.found c.values_of.ensures c.in-Err.ensures
