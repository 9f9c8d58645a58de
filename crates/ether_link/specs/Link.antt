-- The header that a frame begins with, of whichever kind.
use Rattle.std.specs.Prelude.{◌≡◌, ℕ, List, drop, Option, Some, None, false}
use Rattle.ether_link.specs.Ethernet2.{ethernet2_header}
use Rattle.ether_link.specs.LinuxSll.{linux_sll_header}
use Rattle.ether_link.specs.declared.link.LinkHeader as header
use Rattle.ether_link.specs.declared.link.LinkSlice as link
use Rattle.ether_link.specs.declared.link.LinkExtHeader as extension

-- the whole frame, or the payload where there is no header
abbrev pub bytes_of_link : link.LinkSlice → List ℕ
bytes_of_link (link.TheVariants.Ethernet2 frame) = frame
bytes_of_link (link.TheVariants.LinuxSll packet) = packet
bytes_of_link (link.TheVariants.EtherPayload payload) = payload.payload.now
bytes_of_link (link.TheVariants.LinuxSllPayload payload) = payload.payload.now

-- the bytes behind the header, or all of them where there is none
abbrev pub payload_of_link : link.LinkSlice → List ℕ
payload_of_link (link.TheVariants.Ethernet2 frame) = drop 14 frame
payload_of_link (link.TheVariants.LinuxSll packet) = drop 16 packet
payload_of_link (link.TheVariants.EtherPayload payload) = payload.payload.now
payload_of_link (link.TheVariants.LinuxSllPayload payload) = payload.payload.now

-- the fields of its header, if it has one
abbrev pub IsHeaderOfLink : link.LinkSlice → Option header.LinkHeader → Type 0
IsHeaderOfLink (link.TheVariants.Ethernet2 frame) (Some (header.TheVariants.Ethernet2 fields)) =
    fields ≡ ethernet2_header frame
IsHeaderOfLink (link.TheVariants.LinuxSll packet) (Some (header.TheVariants.LinuxSll fields)) =
    Some fields ≡ linux_sll_header packet
IsHeaderOfLink (link.TheVariants.EtherPayload payload) None = Unit {0}
IsHeaderOfLink (link.TheVariants.LinuxSllPayload payload) None = Unit {0}
IsHeaderOfLink bytes other = ⊥

-- a VLAN tag of zeros
abbrev pub zero_tag : extension.LinkExtHeader
zero_tag = extension.TheVariants.Vlan (record {
  pcp = 0;
  drop_eligible_indicator = false;
  vlan_id = 0;
  ether_type = record { 0 = 0 };
})
