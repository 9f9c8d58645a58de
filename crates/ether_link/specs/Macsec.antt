-- The security tag of a MACsec frame (IEEE 802.1AE, sections 9.3 to 9.9).
use Rattle.std.specs.Prelude.{ℕ, ◌+◌, ◌-◌, ◌%◌, ◌==◌, Bool, not, ◌&&◌, if◌then◌else◌, List, length, slice_index, Option, Some, None}
use Rattle.wire_base.specs.Bytes.{be16_at, be32_at, be64_at, flag_at}
use Rattle.ether_link.specs.Form.{Form, never_alone}
use Rattle.ether_link.specs.declared.len_source.LenSource.TheVariants.{Slice}
use Rattle.ether_link.specs.declared.err.layers.Layer.TheVariants.{MacsecHeader as MacsecLayer}
use Rattle.ether_link.specs.declared.err.length.LenError.{LenError}
use Rattle.ether_link.specs.declared.err.macsec.HeaderError.{HeaderError}
use Rattle.ether_link.specs.declared.err.macsec.HeaderError.TheVariants.{UnexpectedVersion, InvalidUnmodifiedShortLen}
use Rattle.ether_link.specs.declared.err.macsec.HeaderSliceError.{HeaderSliceError}
use Rattle.ether_link.specs.declared.err.macsec.HeaderSliceError.TheVariants.{Len, Content}
use Rattle.ether_link.specs.declared.numbers.EtherType.{EtherType}
use Rattle.ether_link.specs.declared.link.macsec.MacsecHeader.{MacsecHeader}
use Rattle.ether_link.specs.declared.link.macsec.MacsecPType.{MacsecPType}
use Rattle.ether_link.specs.declared.link.macsec.MacsecPType.TheVariants.{Unmodified, Modified, Encrypted, EncryptedUnmodified}

-- the payload is neither encrypted (bit E) nor changed (bit C)
abbrev pub is_unmodified : List ℕ → Bool
is_unmodified bytes = not (flag_at bytes 0 3) && not (flag_at bytes 0 2)

-- the number of bytes behind the tag, or 0 where there are 48 or more
abbrev pub short_len : List ℕ → ℕ
short_len bytes = slice_index bytes 1 % 64

-- a tag has six bytes, eight of a channel identifier where bit SC is set, and two of an ether type where the
-- payload is unmodified
abbrev pub macsec_form : {E : Type 0} → (LenError → E) → (HeaderError → E) → Form E
macsec_form wrong_len wrong = record {
  least = 6;
  layer = MacsecLayer;
  early = λ head. if flag_at head 0 7 then Some (wrong UnexpectedVersion) else None;
  more = λ head. (if flag_at head 0 5 then 8 else 0) + (if is_unmodified head then 2 else 0);
  whole = λ head. MacsecLayer;
  source = Slice;
  late = λ head.
      if is_unmodified head && (short_len head == 1) then Some (wrong InvalidUnmodifiedShortLen) else None;
  alone = never_alone;
  wrong_len = wrong_len;
}

abbrev pub macsec_slice_form : Form HeaderSliceError
macsec_slice_form = macsec_form Len Content

-- how many bytes follow the tag, if it says so
abbrev pub expected_len : List ℕ → Option ℕ
expected_len bytes =
    if short_len bytes == 0 then None else Some (short_len bytes - (if is_unmodified bytes then 2 else 0))

-- the secure channel identifier
abbrev pub macsec_sci : List ℕ → Option ℕ
macsec_sci bytes = if flag_at bytes 0 5 then Some (be64_at bytes 6) else None

-- what an unmodified payload holds
abbrev pub macsec_next_ether_type : List ℕ → Option EtherType
macsec_next_ether_type bytes =
    if is_unmodified bytes then Some (record { 0 = be16_at bytes (length bytes - 2) }) else None

-- what was done to the payload
abbrev pub macsec_ptype : List ℕ → MacsecPType
macsec_ptype bytes =
    if is_unmodified bytes then Unmodified (record { 0 = be16_at bytes (length bytes - 2) })
    else (if flag_at bytes 0 3
    then (if flag_at bytes 0 2 then Encrypted else EncryptedUnmodified)
    else Modified)

-- the fields
abbrev pub macsec_header : List ℕ → MacsecHeader
macsec_header bytes = record {
  ptype = macsec_ptype bytes;
  endstation_id = flag_at bytes 0 6;
  scb = flag_at bytes 0 4;
  an = slice_index bytes 0 % 4;
  short_len = short_len bytes;
  packet_nr = be32_at bytes 2;
  sci = macsec_sci bytes;
}
