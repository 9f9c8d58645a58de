-- The fields of link headers whose bytes all differ, one byte of payload behind each.
use Rattle.std.specs.Prelude.{◌≡◌, ℕ, List, [], ◌∷◌, map, option_map, Some, None}
use Rattle.ether_link.specs.Form.{header_len, no_map, refusal}
use Rattle.ether_link.specs.Arp.{arp_form, arp_packet}
use Rattle.ether_link.specs.Ethernet2.{ethernet2_form, ethernet2_header}
use Rattle.ether_link.specs.LinuxSll.{linux_sll_slice_form, linux_sll_header}
use Rattle.ether_link.specs.declared.err.linux_sll.HeaderError.TheVariants.{UnsupportedPacketTypeField, UnsupportedArpHardwareId}
use Rattle.ether_link.specs.declared.err.linux_sll.HeaderSliceError.TheVariants.{Content}
use Rattle.ether_link.specs.declared.link.linux_sll.LinuxSllProtocolType.TheVariants.{EtherType, NetlinkProtocolType, GenericRoutingEncapsulationProtocolType, Ignored}

abbrev pub ethernet2 : List ℕ
ethernet2 = 1 ∷ 2 ∷ 3 ∷ 4 ∷ 5 ∷ 6 ∷ 7 ∷ 8 ∷ 9 ∷ 10 ∷ 11 ∷ 12 ∷ 0x0D ∷ 0x0E ∷ 15 ∷ []

-- destination, source and type (IEEE 802.3, section 3.2; RFC 894)
pub record Ethernet2Fields : Type 0 where
  pub fields : ethernet2_header ethernet2
      ≡ record {
        source = 7 ∷ 8 ∷ 9 ∷ 10 ∷ 11 ∷ 12 ∷ [];
        destination = 1 ∷ 2 ∷ 3 ∷ 4 ∷ 5 ∷ 6 ∷ [];
        ether_type = record { 0 = 0x0D0E };
      }
  pub size : header_len (ethernet2_form no_map) ethernet2 ≡ 14

-- a hardware type of 6, addresses of three and of two bytes, and an operation of 9
abbrev pub arp : List ℕ
arp = 0 ∷ 6 ∷ 0x08 ∷ 0 ∷ 3 ∷ 2 ∷ 0 ∷ 9 ∷ 11 ∷ 12 ∷ 13 ∷ 14 ∷ 15 ∷ 16 ∷ 17 ∷ 18 ∷ 19 ∷ 20 ∷ 21 ∷ []

-- hardware and protocol, the two sizes, the operation, and the addresses of sender and target (RFC 826)
pub record ArpFields : Type 0 where
  pub fields : arp_packet arp
      ≡ record {
        hw_addr_type = record { 0 = 6 };
        proto_addr_type = record { 0 = 0x0800 };
        operation = record { 0 = 9 };
        sender_hw_addr = record { items = 11 ∷ 12 ∷ 13 ∷ [] };
        sender_protocol_addr = record { items = 14 ∷ 15 ∷ [] };
        target_hw_addr = record { items = 16 ∷ 17 ∷ 18 ∷ [] };
        target_protocol_addr = record { items = 19 ∷ 20 ∷ [] };
      }
  pub size : header_len (arp_form no_map) arp ≡ 18

-- a cooked header with a packet type, a kind of hardware (high and low byte) and a protocol of 0x0F10
abbrev pub cooked : ℕ → ℕ → ℕ → List ℕ
cooked packet_type high low =
    0 ∷ packet_type ∷ high ∷ low ∷ 0x05 ∷ 0x06 ∷ 7 ∷ 8 ∷ 9 ∷ 10 ∷ 11 ∷ 12 ∷ 13 ∷ 14 ∷ 0x0F ∷ 0x10 ∷ 17 ∷ []

-- Packet type, hardware type, length of the address, address and protocol (LINKTYPE_LINUX_SLL). Packet types are
-- 0 to 4. The kinds of hardware are 1 Ethernet, 772 loopback, 824 netlink, 778 and 823 GRE over IPv4 and IPv6, 803
-- radiotap and 770 frame relay; 2 is none of them.
pub record CookedFields : Type 0 where
  pub fields : linux_sll_header (cooked 3 0 1)
      ≡ Some (record {
        packet_type = 3;
        arp_hrd_type = record { 0 = 1 };
        sender_address_valid_length = 0x0506;
        sender_address = 7 ∷ 8 ∷ 9 ∷ 10 ∷ 11 ∷ 12 ∷ 13 ∷ 14 ∷ [];
        protocol_type = EtherType (record { 0 = 0x0F10 });
      })
  pub size : header_len linux_sll_slice_form (cooked 3 0 1) ≡ 16
  pub protocols : map (λ low. option_map (λ header. header.protocol_type) (linux_sll_header (cooked 0 3 low)))
      (4 ∷ 56 ∷ 10 ∷ 55 ∷ 35 ∷ 2 ∷ [])
      ≡ Some (EtherType (record { 0 = 0x0F10 })) ∷ Some (NetlinkProtocolType 0x0F10)
      ∷ Some (GenericRoutingEncapsulationProtocolType 0x0F10)
      ∷ Some (GenericRoutingEncapsulationProtocolType 0x0F10)
      ∷ Some (Ignored 0x0F10) ∷ Some (Ignored 0x0F10) ∷ []
  pub last_packet_type : refusal linux_sll_slice_form (cooked 4 0 1) ≡ None
  pub next_packet_type : refusal linux_sll_slice_form (cooked 5 0 1)
      ≡ Some (Content (UnsupportedPacketTypeField 5))
  pub other_hardware : refusal linux_sll_slice_form (cooked 3 0 2)
      ≡ Some (Content (UnsupportedArpHardwareId (record { 0 = 2 })))
