use Rattle.frame_laws.proofs.ArpLemmas.{arp_cut_as_sent}
use Rattle.frame_laws.proofs.laws.sent_arp_frames_are_cut.Goals as goal

pub returns : goal.returns
returns c = arp_cut_as_sent
