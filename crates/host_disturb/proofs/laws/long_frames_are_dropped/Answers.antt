use Rattle.host_disturb.proofs.StepLemmas.{long_frames}
use Rattle.host_disturb.proofs.laws.long_frames_are_dropped.Goals as goal

pub returns : goal.returns
returns c = long_frames
