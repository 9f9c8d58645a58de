-- There is one checksum of each kind within its bounds.
use Rattle.net_wire.proofs.SentFrameLemmas as lemmas
use Rattle.net_wire.proofs.laws.one_sent_frame.Goals as goal

pub returns : goal.returns
returns c = lemmas.one_sent_frame
