use Rattle.host_top.proofs.TextLemmas.{puts_took}
use Rattle.host_top.proofs.text.flush.Goals as goal

pub returns-in-Ok : goal.returns-in-Ok
returns-in-Ok g c = puts_took c.in-Ok.is c.flush.ensures.took
