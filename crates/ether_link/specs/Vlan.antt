-- A VLAN tag (IEEE 802.1Q, section 9.6).
use Rattle.std.specs.Prelude.{ℕ, ◌/◌, ◌%◌, List, slice_index}
use Rattle.wire_base.specs.Bytes.{be16_at, flag_at}
use Rattle.ether_link.specs.Form.{Form, never_refused, nothing_more, never_alone}
use Rattle.ether_link.specs.declared.len_source.LenSource.TheVariants.{Slice}
use Rattle.ether_link.specs.declared.err.layers.Layer.TheVariants.{VlanHeader}
use Rattle.ether_link.specs.declared.err.length.LenError.{LenError}
use Rattle.ether_link.specs.declared.link.vlan.SingleVlanHeader.{SingleVlanHeader}

-- a tag has four bytes
abbrev pub vlan_form : {E : Type 0} → (LenError → E) → Form E
vlan_form wrong_len = record {
  least = 4;
  layer = VlanHeader;
  early = never_refused;
  more = nothing_more;
  whole = λ head. VlanHeader;
  source = Slice;
  late = never_refused;
  alone = never_alone;
  wrong_len = wrong_len;
}

-- its fields
abbrev pub vlan_header : List ℕ → SingleVlanHeader
vlan_header bytes = record {
  pcp = slice_index bytes 0 / 32;
  drop_eligible_indicator = flag_at bytes 0 4;
  vlan_id = be16_at bytes 0 % 4096;
  ether_type = record { 0 = be16_at bytes 2 };
}
