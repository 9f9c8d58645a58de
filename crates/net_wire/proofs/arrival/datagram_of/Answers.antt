use Rattle.std.proofs.Common.{rules}
use Rattle.net_wire.specs.ArrivalValues.{datagram_value}
use Rattle.std.specs.Prelude.{option_map}
use Rattle.net_wire.proofs.ArrivalLemmas.{packet_arrives}
use Rattle.net_wire.proofs.arrival.datagram_of.Goals as goal

pub returns : goal.returns
returns c =
    packet_arrives c.args.sources c.args.hardware c.args.frame.now c.split_at.result.1.now (option_map datagram_value c.packet_datagram.result)
    (search rules) (search rules) c.packet_datagram.ensures
