use Rattle.host_model.proofs.FrameCountLemmas.{four_frames}
use Rattle.host_model.proofs.laws.four_frames_to_a_place.Goals as goal

pub returns : goal.returns
returns c = λ settings entries rising number place. four_frames settings entries rising number place
