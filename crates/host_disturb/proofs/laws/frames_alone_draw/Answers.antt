use Rattle.host_disturb.proofs.StepLemmas.{frames_alone}
use Rattle.host_disturb.proofs.laws.frames_alone_draw.Goals as goal

pub returns : goal.returns
returns c = frames_alone
