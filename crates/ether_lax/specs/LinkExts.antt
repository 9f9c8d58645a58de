-- Link extensions, as values: a tag, or a security tag with its payload (IEEE 802.1Q, section 9.6; IEEE
-- 802.1AE, section 9).
use Rattle.std.specs.Prelude.{ℕ, Bool, true, false, if◌then◌else◌, List, length, drop, Option, Some, None}
use Rattle.wire_base.specs.Bytes.{be16_at}
use Rattle.ether_link.specs.Macsec.{macsec_next_ether_type, macsec_header}
use Rattle.ether_link.specs.Vlan.{vlan_header}
use Rattle.ether_link.specs.declared.link.LinkExtHeader.{LinkExtHeader}
use Rattle.ether_link.specs.declared.link.LinkExtHeader.TheVariants.{Vlan as VlanHeader, Macsec as MacsecHeader}
use Rattle.ether_link.specs.declared.len_source.LenSource.{LenSource}
use Rattle.ether_link.specs.declared.len_source.LenSource.TheVariants.{Slice}
use Rattle.ether_link.specs.declared.numbers.EtherType.{EtherType}
use Rattle.ether_lax.specs.declared.ether_payload.LaxEtherPayloadSlice.{LaxEtherPayloadSlice}
use Rattle.ether_lax.specs.declared.macsec.LaxMacsecPayloadSlice.{LaxMacsecPayloadSlice}
use Rattle.ether_lax.specs.declared.macsec.LaxMacsecPayloadSlice.TheVariants.{Unmodified, Modified}
use Rattle.ether_lax.specs.declared.macsec.LaxMacsecSlice.{LaxMacsecSlice}
use Rattle.ether_lax.specs.declared.link_ext.LaxLinkExtSlice.{LaxLinkExtSlice}
use Rattle.ether_lax.specs.declared.link_ext.LaxLinkExtSlice.TheVariants.{Vlan, Macsec}

-- the payload of a link: whether bytes are missing, what it holds, where its end is from, and its bytes
pub record EtherPart : Type 0 where
  pub incomplete : Bool
  pub ether_type : EtherType
  pub source : LenSource
  pub bytes : List ℕ

-- a tag and what it carries; a security tag and its payload, which says what it holds or was modified
pub data LinkExtPart : Type 0 where
  TagPart : List ℕ → LinkExtPart
  SecuredPart : List ℕ → EtherPart → LinkExtPart
  ModifiedPart : List ℕ → Bool → List ℕ → LinkExtPart

-- what a caller holds of each
abbrev pub ether_in : LaxEtherPayloadSlice → EtherPart
ether_in payload = record {
  incomplete = payload.incomplete;
  ether_type = payload.ether_type;
  source = payload.len_source;
  bytes = payload.payload.now;
}

abbrev pub payload_in : List ℕ → LaxMacsecPayloadSlice → LinkExtPart
payload_in header (Unmodified payload) = SecuredPart header (ether_in payload)
payload_in header (Modified incomplete payload) = ModifiedPart header incomplete payload.now

abbrev pub macsec_in : LaxMacsecSlice → LinkExtPart
macsec_in macsec = payload_in macsec.header macsec.payload

abbrev pub ext_in : LaxLinkExtSlice → LinkExtPart
ext_in (Vlan bytes) = TagPart bytes
ext_in (Macsec macsec) = macsec_in macsec

-- a security tag with its payload
abbrev pub secured : List ℕ → Bool → LenSource → List ℕ → Option EtherType → LinkExtPart
secured header incomplete source bytes (Some ether_type) =
    SecuredPart header
    (record { incomplete = incomplete; ether_type = ether_type; source = source; bytes = bytes })
secured header incomplete source bytes None = ModifiedPart header incomplete bytes

abbrev pub macsec_part : List ℕ → Bool → LenSource → List ℕ → LinkExtPart
macsec_part header incomplete source bytes =
    secured header incomplete source bytes (macsec_next_ether_type header)

-- the length is that of the slice
abbrev pub is_slice : LenSource → Bool
is_slice Slice = true
is_slice source = false

-- the source of the windows behind a link extension, by the one of those before
abbrev pub source_behind : LenSource → LinkExtPart → LenSource
source_behind before (SecuredPart header payload) = if is_slice payload.source then before else payload.source
source_behind before ext = before

-- the payload of a link extension that says what it holds: of a tag it is found by its ether type
abbrev pub payload_of_ext : LinkExtPart → Option EtherPart
payload_of_ext (TagPart bytes) = Some (record {
  incomplete = false;
  ether_type = record { 0 = be16_at bytes 2 };
  source = Slice;
  bytes = drop 4 bytes;
})
payload_of_ext (SecuredPart header payload) = Some payload
payload_of_ext (ModifiedPart header incomplete bytes) = None

abbrev pub type_of_ext : LinkExtPart → Option EtherType
type_of_ext (SecuredPart header payload) = Some payload.ether_type
type_of_ext other = None

-- the number of bytes and the fields of the header of a link extension
abbrev pub header_len_of_ext : LinkExtPart → ℕ
header_len_of_ext (TagPart bytes) = 4
header_len_of_ext (SecuredPart header payload) = length header
header_len_of_ext (ModifiedPart header incomplete bytes) = length header

abbrev pub header_of_ext : LinkExtPart → LinkExtHeader
header_of_ext (TagPart bytes) = VlanHeader (vlan_header bytes)
header_of_ext (SecuredPart header payload) = MacsecHeader (macsec_header header)
header_of_ext (ModifiedPart header incomplete bytes) = MacsecHeader (macsec_header header)

-- the payload of a link extension has more bytes than are there
abbrev pub is_cut : LinkExtPart → Bool
is_cut (TagPart bytes) = false
is_cut (SecuredPart header payload) = payload.incomplete
is_cut (ModifiedPart header incomplete bytes) = incomplete
