-- The VLAN tags of a packet (IEEE 802.1Q, section 9.6).
use Rattle.std.specs.Prelude.{ℕ, ◌%◌, List, [], ◌∷◌, map, Option, Some, None}
use Rattle.wire_base.specs.Bytes.{be16_at}
use Rattle.ether_link.specs.declared.link.LinkExtHeader.{LinkExtHeader}
use Rattle.ether_link.specs.declared.link.LinkExtHeader.TheVariants.{Vlan, Macsec}
use Rattle.ether_link.specs.declared.link.vlan.SingleVlanHeader.{SingleVlanHeader}
use Rattle.ether_link.specs.declared.link.vlan.VlanHeader as header
use Rattle.ether_link.specs.declared.link.vlan.VlanSlice as tags
use Rattle.ether_lax.specs.LinkExts.{LinkExtPart, TagPart, SecuredPart, ModifiedPart}

-- the tags among link extensions
abbrev pub tags_of : List LinkExtPart → List (List ℕ)
tags_of [] = []
tags_of (TagPart bytes ∷ more) = bytes ∷ tags_of more
tags_of (SecuredPart header payload ∷ more) = tags_of more
tags_of (ModifiedPart header incomplete bytes ∷ more) = tags_of more

-- the first of them, or the first two
abbrev pub first_tags : List (List ℕ) → Option tags.VlanSlice
first_tags [] = None
first_tags (tag ∷ []) = Some (tags.TheVariants.SingleVlan tag)
first_tags (outer ∷ inner ∷ more) =
    Some (tags.TheVariants.DoubleVlan (record { outer = outer; inner = inner }))

-- their numbers
abbrev pub ids_of : List (List ℕ) → List ℕ
ids_of tags = map (λ tag. be16_at tag 0 % 4096) tags

-- the same of tags as structs
abbrev pub tag_headers : List LinkExtHeader → List SingleVlanHeader
tag_headers [] = []
tag_headers (Vlan tag ∷ more) = tag ∷ tag_headers more
tag_headers (Macsec header ∷ more) = tag_headers more

abbrev pub first_headers : List SingleVlanHeader → Option header.VlanHeader
first_headers [] = None
first_headers (tag ∷ []) = Some (header.TheVariants.Single tag)
first_headers (outer ∷ inner ∷ more) =
    Some (header.TheVariants.Double (record { outer = outer; inner = inner }))

abbrev pub header_ids : List SingleVlanHeader → List ℕ
header_ids tags = map (λ tag. tag.vlan_id) tags
