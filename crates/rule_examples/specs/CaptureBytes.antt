-- The bytes of captures (libpcap's file format, draft-ietf-opsawg-pcap, sections 4 and 5), the lowest byte first.
use Rattle.std.specs.Prelude.{◌≡◌, ◌+◌, ◌*◌, true, false, [], ◌∷◌, map, pos, negsuc}
use Rattle.phy_layers.specs.CaptureLayer.{is_captured, medium_link_type}
use Rattle.phy_layers.specs.PcapBytes.{epoch_micros, global_header, packet_record, record_header}
use Rattle.phy_layers.specs.PcapLinkType.{link_type_number, link_type_of}
use Rattle.phy_layers.specs.declared.capabilities.Medium.TheVariants as medium
use Rattle.phy_layers.specs.declared.capabilities.TracerDirection.TheVariants.{RX, TX}
use Rattle.phy_layers.specs.declared.capture_mode.PcapMode.TheVariants.{Both, RxOnly, TxOnly}
use Rattle.phy_layers.specs.declared.pcap.link_type.PcapLinkType.TheVariants.{Ethernet, Ip, Ieee802154WithoutFcs, Unknown}

-- The header of a file of Ethernet frames: magic number a1b2c3d4, version 2.4, two unused numbers, at most 262144
-- bytes of a packet, link type 1.
pub record CaptureHeader : Type 0 where
  pub ethernet : global_header 1
      ≡ 0xD4 ∷ 0xC3 ∷ 0xB2 ∷ 0xA1 ∷ 2 ∷ 0 ∷ 4 ∷ 0 ∷ 0 ∷ 0 ∷ 0 ∷ 0 ∷ 0 ∷ 0 ∷ 0 ∷ 0 ∷ 0 ∷ 0 ∷ 4 ∷ 0 ∷ 1 ∷ 0 ∷ 0 ∷ 0 ∷ []
  pub other : global_header 0x01020304
      ≡ 0xD4 ∷ 0xC3 ∷ 0xB2 ∷ 0xA1 ∷ 2 ∷ 0 ∷ 4 ∷ 0 ∷ 0 ∷ 0 ∷ 0 ∷ 0 ∷ 0 ∷ 0 ∷ 0 ∷ 0 ∷ 0 ∷ 0 ∷ 4 ∷ 0 ∷ 4 ∷ 3 ∷ 2 ∷ 1 ∷ []

-- Seconds, microseconds beside them, captured length and length: 0x01020304 seconds and 0x0A0B0C microseconds; a
-- packet one byte longer than a record holds.
pub record CaptureRecords : Type 0 where
  pub header : record_header (0x01020304 * 1000000 + 0x0A0B0C) 0x0506
      ≡ 4 ∷ 3 ∷ 2 ∷ 1 ∷ 0x0C ∷ 0x0B ∷ 0x0A ∷ 0 ∷ 6 ∷ 5 ∷ 0 ∷ 0 ∷ 6 ∷ 5 ∷ 0 ∷ 0 ∷ []
  pub last_micros : record_header 1999999 0
      ≡ 1 ∷ 0 ∷ 0 ∷ 0 ∷ 0x3F ∷ 0x42 ∷ 0x0F ∷ 0 ∷ 0 ∷ 0 ∷ 0 ∷ 0 ∷ 0 ∷ 0 ∷ 0 ∷ 0 ∷ []
  pub whole : record_header 0 262144 ≡ 0 ∷ 0 ∷ 0 ∷ 0 ∷ 0 ∷ 0 ∷ 0 ∷ 0 ∷ 0 ∷ 0 ∷ 4 ∷ 0 ∷ 0 ∷ 0 ∷ 4 ∷ 0 ∷ []
  pub cut : record_header 0 262145 ≡ 0 ∷ 0 ∷ 0 ∷ 0 ∷ 0 ∷ 0 ∷ 0 ∷ 0 ∷ 0 ∷ 0 ∷ 4 ∷ 0 ∷ 1 ∷ 0 ∷ 4 ∷ 0 ∷ []
  pub packet : packet_record 2000003 (7 ∷ 8 ∷ 9 ∷ [])
      ≡ 2 ∷ 0 ∷ 0 ∷ 0 ∷ 3 ∷ 0 ∷ 0 ∷ 0 ∷ 3 ∷ 0 ∷ 0 ∷ 0 ∷ 3 ∷ 0 ∷ 0 ∷ 0 ∷ 7 ∷ 8 ∷ 9 ∷ []
  pub before_zero : map epoch_micros (pos 5 ∷ negsuc 5 ∷ []) ≡ 5 ∷ 0 ∷ []

-- link types (draft-ietf-opsawg-pcaplinktype), and which frames are captured
pub record CaptureKinds : Type 0 where
  pub numbers : map link_type_number (Ethernet ∷ Ip ∷ Ieee802154WithoutFcs ∷ Unknown 7 ∷ []) ≡ 1 ∷ 101 ∷ 230 ∷ 7 ∷ []
  pub types : map link_type_of (1 ∷ 101 ∷ 230 ∷ 7 ∷ []) ≡ Ethernet ∷ Ip ∷ Ieee802154WithoutFcs ∷ Unknown 7 ∷ []
  pub media : map medium_link_type (medium.Ethernet ∷ medium.Ip ∷ []) ≡ Ethernet ∷ Ip ∷ []
  pub received : map (λ mode. is_captured mode RX) (Both ∷ RxOnly ∷ TxOnly ∷ []) ≡ true ∷ true ∷ false ∷ []
  pub sent : map (λ mode. is_captured mode TX) (Both ∷ RxOnly ∷ TxOnly ∷ []) ≡ true ∷ false ∷ true ∷ []
