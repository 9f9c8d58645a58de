-- The sink took the piece behind what it took before.
use Rattle.capture_explain.proofs.TextLemmas.{puts_took}
use Rattle.capture_explain.proofs.text.put.Goals as goal

pub returns-in-Ok : goal.returns-in-Ok
returns-in-Ok g c = puts_took c.in-Ok.is c.write.ensures.took
