-- One VLAN tag or two, one behind the other.
use Rattle.std.specs.Prelude.{ℕ, List}
use Rattle.ether_link.specs.Vlan.{vlan_header}
use Rattle.ether_link.specs.declared.link.vlan.VlanHeader as header
use Rattle.ether_link.specs.declared.link.vlan.VlanSlice as tags

-- the outer tag and all that is behind it
abbrev pub bytes_of_tags : tags.VlanSlice → List ℕ
bytes_of_tags (tags.TheVariants.SingleVlan tag) = tag
bytes_of_tags (tags.TheVariants.DoubleVlan both) = both.outer

-- the last tag and all that is behind it
abbrev pub last_tag : tags.VlanSlice → List ℕ
last_tag (tags.TheVariants.SingleVlan tag) = tag
last_tag (tags.TheVariants.DoubleVlan both) = both.inner

abbrev pub header_of_tags : tags.VlanSlice → header.VlanHeader
header_of_tags (tags.TheVariants.SingleVlan tag) = header.TheVariants.Single (vlan_header tag)
header_of_tags (tags.TheVariants.DoubleVlan both) =
    header.TheVariants.Double (record { outer = vlan_header both.outer; inner = vlan_header both.inner })
