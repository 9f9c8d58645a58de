-- The numbers of link types (the link type registry of draft-ietf-opsawg-pcaplinktype).
use Rattle.std.specs.Prelude.{ℕ, ◌==◌, if◌then◌else◌}
use Rattle.phy_layers.specs.declared.pcap.link_type.PcapLinkType.{PcapLinkType}
use Rattle.phy_layers.specs.declared.pcap.link_type.PcapLinkType.TheVariants.{Ethernet, Ip, Ieee802154WithoutFcs, Unknown}

-- the number that stands in a capture
abbrev pub link_type_number : PcapLinkType → ℕ
link_type_number Ethernet = 1
link_type_number Ip = 101
link_type_number Ieee802154WithoutFcs = 230
link_type_number (Unknown number) = number

-- the link type of a number: a number that has a name is never unknown
abbrev pub link_type_of : ℕ → PcapLinkType
link_type_of number =
    if number == 1 then Ethernet else if number == 101 then Ip else if number == 230 then Ieee802154WithoutFcs
    else Unknown number
