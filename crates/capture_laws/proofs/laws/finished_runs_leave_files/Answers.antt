-- It is a lemma.
use Rattle.capture_laws.proofs.RunLemmas.{finished_files}
use Rattle.capture_laws.proofs.laws.finished_runs_leave_files.Goals as goal

pub returns : goal.returns
returns c = finished_files
