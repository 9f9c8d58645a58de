-- What a frame carries to a station.
use Rattle.std.proofs.Common.{◌≡◌, ℕ, List, drop, true, Option}
use Rattle.net_wire.specs.declared.address.EthernetAddress.{EthernetAddress}
use Rattle.net_wire.specs.Arrival.{has_packet_for, packet_datagram, carried_datagram}
use Rattle.net_wire.specs.declared.arrival.Sources.{Sources}
use Rattle.net_wire.specs.Datagram.{Datagram}

pub packet_arrives : (sources : Sources) (hardware : EthernetAddress) (frame packet : List ℕ) (found : Option Datagram)
    → has_packet_for hardware frame ≡ true → packet ≡ drop 14 frame → found ≡ packet_datagram sources packet
    → found ≡ carried_datagram sources hardware frame
packet_arrives sources hardware frame packet found is are is_found = rw (is, ← are) is_found
