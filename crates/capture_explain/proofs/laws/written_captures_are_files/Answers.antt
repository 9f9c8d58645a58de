-- It is a lemma.
use Rattle.capture_explain.proofs.WrittenLemmas.{are_written}
use Rattle.capture_explain.proofs.laws.written_captures_are_files.Goals as goal

pub returns : goal.returns
returns c = are_written
