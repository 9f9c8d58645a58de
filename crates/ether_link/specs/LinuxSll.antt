-- The header of a packet in a Linux cooked capture (LINKTYPE_LINUX_SLL of the link-layer header types).
use Rattle.std.specs.Prelude.{ℕ, ◌==◌, nat_lt, Bool, ◌||◌, if◌then◌else◌, List, Option, Some, None, option_map}
use Rattle.wire_base.specs.Bytes.{bytes_between, be16_at}
use Rattle.ether_link.specs.Form.{Form, or_else, never_refused, nothing_more, never_alone}
use Rattle.ether_link.specs.declared.len_source.LenSource.TheVariants.{Slice}
use Rattle.ether_link.specs.declared.err.layers.Layer.TheVariants.{LinuxSllHeader as LinuxSllLayer}
use Rattle.ether_link.specs.declared.err.length.LenError.{LenError}
use Rattle.ether_link.specs.declared.err.linux_sll.HeaderError.{HeaderError}
use Rattle.ether_link.specs.declared.err.linux_sll.HeaderError.TheVariants.{UnsupportedPacketTypeField, UnsupportedArpHardwareId}
use Rattle.ether_link.specs.declared.err.linux_sll.HeaderSliceError.{HeaderSliceError}
use Rattle.ether_link.specs.declared.err.linux_sll.HeaderSliceError.TheVariants.{Len, Content}
use Rattle.ether_link.specs.declared.link.linux_sll.LinuxSllHeader.{LinuxSllHeader}
use Rattle.ether_link.specs.declared.link.linux_sll.LinuxSllProtocolType.{LinuxSllProtocolType}
use Rattle.ether_link.specs.declared.link.linux_sll.LinuxSllProtocolType.TheVariants.{EtherType, NetlinkProtocolType, GenericRoutingEncapsulationProtocolType, Ignored}

-- what a protocol field means on a kind of hardware, where that is known
abbrev pub protocol_type_of : ℕ → ℕ → Option LinuxSllProtocolType
protocol_type_of hardware number =
    if (hardware == 1) || (hardware == 772) then Some (EtherType (record { 0 = number }))
    else (if hardware == 824 then Some (NetlinkProtocolType number)
    else (if (hardware == 778) || (hardware == 823) then Some (GenericRoutingEncapsulationProtocolType number)
    else (if (hardware == 803) || (hardware == 770) then Some (Ignored number)
    else None)))

-- a known kind of hardware
abbrev pub is_known_hardware : ℕ → Bool
is_known_hardware hardware =
    (hardware == 1) || (hardware == 772) || (hardware == 824) || (hardware == 778) || (hardware == 823)
    || (hardware == 803) || (hardware == 770)

-- a header has 16 bytes, a packet type of at most 4, and a known kind of hardware
abbrev pub linux_sll_form : {E : Type 0} → (LenError → E) → (HeaderError → E) → Form E
linux_sll_form wrong_len wrong = record {
  least = 16;
  layer = LinuxSllLayer;
  early = λ head. or_else
      (if nat_lt 4 (be16_at head 0) then Some (wrong (UnsupportedPacketTypeField (be16_at head 0))) else None)
      (if is_known_hardware (be16_at head 2) then None
      else Some (wrong (UnsupportedArpHardwareId (record { 0 = be16_at head 2 }))));
  more = nothing_more;
  whole = λ head. LinuxSllLayer;
  source = Slice;
  late = never_refused;
  alone = never_alone;
  wrong_len = wrong_len;
}

abbrev pub linux_sll_slice_form : Form HeaderSliceError
linux_sll_slice_form = linux_sll_form Len Content

-- the fields, by what the protocol field means
abbrev pub header_with : List ℕ → LinuxSllProtocolType → LinuxSllHeader
header_with bytes protocol_type = record {
  packet_type = be16_at bytes 0;
  arp_hrd_type = record { 0 = be16_at bytes 2 };
  sender_address_valid_length = be16_at bytes 4;
  sender_address = bytes_between 6 14 bytes;
  protocol_type = protocol_type;
}

abbrev pub linux_sll_header : List ℕ → Option LinuxSllHeader
linux_sll_header bytes =
    option_map (header_with bytes) (protocol_type_of (be16_at bytes 2) (be16_at bytes 14))
