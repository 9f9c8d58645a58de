use Rattle.std.proofs.Common.{ap, slice_index}
use Rattle.net_wire.specs.Protocol.{ip_protocol_of}
use Rattle.net_wire.proofs.ProtocolLemmas.{each_number_is_its_protocol}
use Rattle.ipsec_wire.proofs.ah.Repr.parse.Goals as goal

pub invariant_of-result-clause-named : goal.invariant_of-result-clause-named
invariant_of-result-clause-named c =
    rw c.next_header.ensures.value
    (ap ip_protocol_of (each_number_is_its_protocol (slice_index c.args.packet.now 0)))
