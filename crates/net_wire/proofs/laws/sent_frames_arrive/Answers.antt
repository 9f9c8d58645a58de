use Rattle.net_wire.proofs.SentArrivesLemmas as lemmas
use Rattle.net_wire.proofs.laws.sent_frames_arrive.Goals as goal

pub returns : goal.returns
returns c = lemmas.sent_frames_arrive
