use Rattle.net_wire.proofs.SentArpLemmas as lemmas
use Rattle.net_wire.proofs.laws.sent_arp_counts.Goals as goal

pub returns : goal.returns
returns c = lemmas.sent_arp_counts
