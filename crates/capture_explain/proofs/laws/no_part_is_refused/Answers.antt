-- It is a lemma.
use Rattle.capture_explain.proofs.PlaceLemmas.{no_part}
use Rattle.capture_explain.proofs.laws.no_part_is_refused.Goals as goal

pub returns : goal.returns
returns c = no_part
