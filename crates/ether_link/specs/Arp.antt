-- A packet of the address resolution protocol (RFC 826).
use Rattle.std.specs.Prelude.{ℕ, ◌+◌, ◌*◌, List, slice_index}
use Rattle.wire_base.specs.Bytes.{bytes_between, be16_at}
use Rattle.ether_link.specs.Form.{Form, never_refused, never_alone}
use Rattle.ether_link.specs.declared.len_source.LenSource.TheVariants.{ArpAddrLengths}
use Rattle.ether_link.specs.declared.err.layers.Layer.TheVariants.{Arp as ArpLayer}
use Rattle.ether_link.specs.declared.err.length.LenError.{LenError}
use Rattle.ether_link.specs.declared.link.arp.ArpPacket.{ArpPacket}

-- the lengths of a hardware and of a protocol address
abbrev pub hw_size : List ℕ → ℕ
hw_size bytes = slice_index bytes 4

abbrev pub protocol_size : List ℕ → ℕ
protocol_size bytes = slice_index bytes 5

-- a packet has eight bytes and then four addresses
abbrev pub arp_form : {E : Type 0} → (LenError → E) → Form E
arp_form wrong_len = record {
  least = 8;
  layer = ArpLayer;
  early = never_refused;
  more = λ head. 2 * hw_size head + 2 * protocol_size head;
  whole = λ head. ArpLayer;
  source = ArpAddrLengths;
  late = never_refused;
  alone = never_alone;
  wrong_len = wrong_len;
}

-- the addresses, one behind the other
abbrev pub sender_hw_addr : List ℕ → List ℕ
sender_hw_addr bytes = bytes_between 8 (8 + hw_size bytes) bytes

abbrev pub sender_protocol_addr : List ℕ → List ℕ
sender_protocol_addr bytes = bytes_between (8 + hw_size bytes) (8 + hw_size bytes + protocol_size bytes) bytes

abbrev pub target_hw_addr : List ℕ → List ℕ
target_hw_addr bytes =
    bytes_between (8 + hw_size bytes + protocol_size bytes)
    (8 + 2 * hw_size bytes + protocol_size bytes) bytes

abbrev pub target_protocol_addr : List ℕ → List ℕ
target_protocol_addr bytes =
    bytes_between (8 + 2 * hw_size bytes + protocol_size bytes)
    (8 + 2 * hw_size bytes + 2 * protocol_size bytes) bytes

-- the fields
abbrev pub arp_packet : List ℕ → ArpPacket
arp_packet bytes = record {
  hw_addr_type = record { 0 = be16_at bytes 0 };
  proto_addr_type = record { 0 = be16_at bytes 2 };
  operation = record { 0 = be16_at bytes 6 };
  sender_hw_addr = record { items = sender_hw_addr bytes };
  sender_protocol_addr = record { items = sender_protocol_addr bytes };
  target_hw_addr = record { items = target_hw_addr bytes };
  target_protocol_addr = record { items = target_protocol_addr bytes };
}
