-- The fields of VLAN tags and of security tags, bit by bit.
use Rattle.std.specs.Prelude.{◌≡◌, ℕ, true, false, List, [], ◌∷◌, map, Some, None}
use Rattle.ether_link.specs.Form.{header_len, no_map, refusal}
use Rattle.ether_link.specs.Macsec.{macsec_header, macsec_ptype, macsec_slice_form}
use Rattle.ether_link.specs.Vlan.{vlan_form, vlan_header}
use Rattle.ether_link.specs.declared.err.macsec.HeaderError.TheVariants.{UnexpectedVersion, InvalidUnmodifiedShortLen}
use Rattle.ether_link.specs.declared.err.macsec.HeaderSliceError.TheVariants.{Content}
use Rattle.ether_link.specs.declared.link.macsec.MacsecPType.TheVariants.{Unmodified, Modified, Encrypted, EncryptedUnmodified}

-- the bits of a first byte, one by one from the highest
abbrev pub bits : List ℕ
bits = 0x80 ∷ 0x40 ∷ 0x20 ∷ 0x10 ∷ 0x08 ∷ 0x04 ∷ 0x02 ∷ 0x01 ∷ []

-- three bits of priority, one that says eligible to be dropped, 12 of the identifier, and an ether type (IEEE
-- 802.1Q, section 9.6)
pub record VlanFields : Type 0 where
  pub eligible : vlan_header (0xB2 ∷ 0x34 ∷ 0x56 ∷ 0x78 ∷ 9 ∷ [])
      ≡ record {
        pcp = 5;
        drop_eligible_indicator = true;
        vlan_id = 0x234;
        ether_type = record { 0 = 0x5678 };
      }
  pub other : vlan_header (0x4F ∷ 0xFE ∷ 0x01 ∷ 0x02 ∷ [])
      ≡ record {
        pcp = 2;
        drop_eligible_indicator = false;
        vlan_id = 0xFFE;
        ether_type = record { 0 = 0x0102 };
      }
  pub eligible_bits : map (λ bit. (vlan_header (bit ∷ 0 ∷ 0 ∷ 0 ∷ [])).drop_eligible_indicator) bits
      ≡ false ∷ false ∷ false ∷ true ∷ false ∷ false ∷ false ∷ false ∷ []
  pub priority_bits : map (λ bit. (vlan_header (bit ∷ 0 ∷ 0 ∷ 0 ∷ [])).pcp) bits
      ≡ 4 ∷ 2 ∷ 1 ∷ 0 ∷ 0 ∷ 0 ∷ 0 ∷ 0 ∷ []
  pub identifier_bits : map (λ bit. (vlan_header (bit ∷ 0 ∷ 0 ∷ 0 ∷ [])).vlan_id) bits
      ≡ 0 ∷ 0 ∷ 0 ∷ 0 ∷ 2048 ∷ 1024 ∷ 512 ∷ 256 ∷ []
  pub size : header_len (vlan_form no_map) (0xB2 ∷ 0x34 ∷ 0x56 ∷ 0x78 ∷ 9 ∷ []) ≡ 4

-- a tag with its first byte and its short length, and an ether type behind it
abbrev pub secured : ℕ → ℕ → List ℕ
secured first short = first ∷ short ∷ 1 ∷ 2 ∷ 3 ∷ 4 ∷ 0x08 ∷ 0x06 ∷ []

-- From the highest bit V is the version, ES says end station, SC that an identifier of eight bytes is there, SCB broadcast, E encrypted
-- and C changed, and AN has two bits (IEEE 802.1AE, sections 9.5 to 9.9)
pub record SecurityTagFields : Type 0 where
  pub all_but_broadcast : macsec_header
      (0x6F ∷ 0xEA ∷ 1 ∷ 2 ∷ 3 ∷ 4 ∷ 5 ∷ 6 ∷ 7 ∷ 8 ∷ 9 ∷ 10 ∷ 11 ∷ 12 ∷ [])
      ≡ record {
        ptype = Encrypted;
        endstation_id = true;
        scb = false;
        an = 3;
        short_len = 42;
        packet_nr = 0x01020304;
        sci = Some 0x05060708090A0B0C;
      }
  pub broadcast : macsec_header (secured 0x12 0)
      ≡ record {
        ptype = Unmodified (record { 0 = 0x0806 });
        endstation_id = false;
        scb = true;
        an = 2;
        short_len = 0;
        packet_nr = 0x01020304;
        sci = None;
      }
  pub end_stations : map (λ bit. (macsec_header (secured bit 0)).endstation_id) bits
      ≡ false ∷ true ∷ false ∷ false ∷ false ∷ false ∷ false ∷ false ∷ []
  pub broadcasts : map (λ bit. (macsec_header (secured bit 0)).scb) bits
      ≡ false ∷ false ∷ false ∷ true ∷ false ∷ false ∷ false ∷ false ∷ []
  pub associations : map (λ bit. (macsec_header (secured bit 0)).an) bits
      ≡ 0 ∷ 0 ∷ 0 ∷ 0 ∷ 0 ∷ 0 ∷ 2 ∷ 1 ∷ []
  pub payloads : map (λ first. macsec_ptype (secured first 0)) (0x00 ∷ 0x04 ∷ 0x08 ∷ 0x0C ∷ 0xF3 ∷ [])
      ≡ Unmodified (record { 0 = 0x0806 }) ∷ Modified ∷ EncryptedUnmodified ∷ Encrypted
      ∷ Unmodified (record { 0 = 0x0806 }) ∷ []
  pub sizes : map (λ first. header_len macsec_slice_form (secured first 0))
      (0x00 ∷ 0x04 ∷ 0x08 ∷ 0x0C ∷ 0x20 ∷ 0x24 ∷ 0x50 ∷ [])
      ≡ 8 ∷ 6 ∷ 6 ∷ 6 ∷ 16 ∷ 14 ∷ 8 ∷ []
  pub next_version : refusal macsec_slice_form (secured 0x84 0) ≡ Some (Content UnexpectedVersion)
  -- the ether type of an unmodified payload has two bytes
  pub no_room : refusal macsec_slice_form (secured 0x00 1) ≡ Some (Content InvalidUnmodifiedShortLen)
  pub room : refusal macsec_slice_form (secured 0x00 2) ≡ None
  pub changed : refusal macsec_slice_form (secured 0x04 1) ≡ None
