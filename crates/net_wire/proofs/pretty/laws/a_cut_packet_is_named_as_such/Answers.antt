use Rattle.net_wire.proofs.PrettyLemmas as lemmas
use Rattle.net_wire.proofs.pretty.laws.a_cut_packet_is_named_as_such.Goals as goal

pub returns : goal.returns
returns c = lemmas.cut
