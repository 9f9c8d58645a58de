-- A datagram that was read, without where its payload lies.
use Rattle.net_wire.specs.Datagram as value
use Rattle.net_wire.specs.declared.arrival.Datagram as declared

abbrev pub datagram_value : declared.Datagram → value.Datagram
datagram_value datagram = record {
  source = datagram.src_addr;
  destination = datagram.dst_addr;
  source_port = datagram.src_port;
  destination_port = datagram.dst_port;
  payload = datagram.payload.now;
}
