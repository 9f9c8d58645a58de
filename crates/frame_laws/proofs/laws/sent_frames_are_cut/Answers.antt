use Rattle.frame_laws.proofs.SentLemmas.{cut_as_sent}
use Rattle.frame_laws.proofs.laws.sent_frames_are_cut.Goals as goal

pub returns : goal.returns
returns c = cut_as_sent
