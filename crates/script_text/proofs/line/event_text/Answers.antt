-- All pieces were handed on, and no other.
use Rattle.script_text.proofs.LineLemmas.{all_put}
use Rattle.script_text.proofs.line.event_text.Goals as goal

pub returns : goal.returns
returns g c = record { text = all_put c.put_event.ensures.text }
