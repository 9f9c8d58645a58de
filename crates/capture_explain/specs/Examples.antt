-- Captures and dissections made by hand, as the standards say.
use Rattle.std.specs.Prelude.{◌≡◌, ℕ, List, [], ◌∷◌, ◌++◌, replicate, Some, None}
use Rattle.ether_link.specs.declared.err.layers.Layer.TheVariants.{Ethernet2Header, UdpHeader}
use Rattle.ether_link.specs.declared.layout.PartKind.TheVariants as layout
use Rattle.ether_link.specs.declared.layout.Place.{Place}
use Rattle.ether_link.specs.declared.layout.Stop.{Stop}
use Rattle.ether_link.specs.declared.len_source.LenSource.TheVariants.{Slice}
use Rattle.ether_ip.specs.declared.err.packet.SliceError.{SliceError}
use Rattle.ether_ip.specs.declared.err.packet.SliceError.TheVariants.{Len}
use Rattle.ether_lax.specs.Found.{parts_of}
use Rattle.ether_lax.specs.Notes.{stop_layer}
use Rattle.ether_lax.specs.Sliced.{net_of}
use Rattle.capture_explain.specs.Capture.{header_front, header_end, entry_bytes}
use Rattle.capture_explain.specs.Dissected.{IsLayoutOf}
use Rattle.capture_explain.specs.Parts.{parts_at, ah_at, esp_by}
use Rattle.capture_explain.specs.declared.parts.PartKind.TheVariants as kind

-- magic number, version 2.4; link type 1 (draft-ietf-opsawg-pcap, section 4)
abbrev pub HasHeaderNumbers : Type 0
HasHeaderNumbers =
    (header_front ≡ 0xd4 ∷ 0xc3 ∷ 0xb2 ∷ 0xa1 ∷ 2 ∷ 0 ∷ 4 ∷ 0 ∷ []) × (header_end ≡ 1 ∷ 0 ∷ 0 ∷ 0 ∷ [])

-- two bytes of a frame of 259, one second and two microseconds after moment 0 (section 5)
abbrev pub HasEntryBytes : Type 0
HasEntryBytes = entry_bytes (record { secs = 1; micros = 2; told = 259; frame = 7 ∷ 8 ∷ [] })
    ≡ 1 ∷ 0 ∷ 0 ∷ 0 ∷ 2 ∷ 0 ∷ 0 ∷ 0 ∷ 2 ∷ 0 ∷ 0 ∷ 0 ∷ 3 ∷ 1 ∷ 0 ∷ 0 ∷ 7 ∷ 8 ∷ []

-- an IPv4 header of 20 bytes with its total length, its flags and its protocol
abbrev pub ipv4 : ℕ → ℕ → ℕ → List ℕ
ipv4 total flags protocol =
    0x45 ∷ 0 ∷ 0 ∷ total ∷ 0 ∷ 0 ∷ flags ∷ 0 ∷ 64 ∷ protocol ∷ replicate 10 0

-- a frame with such a header
abbrev pub frame_of : List ℕ → List ℕ → List ℕ
frame_of header payload = replicate 12 0 ++ 8 ∷ 0 ∷ [] ++ header ++ payload

-- an authentication header with a check value of 12 bytes, in front of a security payload
abbrev pub auth_header : ℕ → List ℕ
auth_header next = next ∷ 4 ∷ 0 ∷ 0 ∷ 0x81 ∷ 0x79 ∷ 0xb7 ∷ 5 ∷ 0 ∷ 0 ∷ 0 ∷ 1 ∷ replicate 12 7

abbrev pub security_header : List ℕ
security_header = 0xfb ∷ 0x51 ∷ 0x28 ∷ 0xa6 ∷ 0 ∷ 0 ∷ 0 ∷ 2 ∷ []

-- the place of the Ethernet header, and those behind it
abbrev pub places_of : ℕ → List Place → List Place
places_of len more = record { kind = layout.Ethernet2; start = 0; body = 14; end = len } ∷ more

abbrev pub secured : List ℕ
secured = frame_of (ipv4 52 0 51) (auth_header 50 ++ security_header)

abbrev pub secured_places : List Place
secured_places = places_of 66
    (record { kind = layout.Ip; start = 14; body = 34; end = 66 }
    ∷ record { kind = layout.Ipv4Auth; start = 34; body = 58; end = 66 } ∷ [])

-- an authentication header and the security payload behind it, in an IPv4 packet (RFC 4302, section 2; RFC
-- 4303, section 2)
pub record HasSecurityHeaders : Type 0 where
  pub layout : IsLayoutOf secured secured_places None
  pub parts : parts_at secured secured_places
      ≡ record { kind = kind.Ethernet; header = 0; window = 14; end = 66 }
      ∷ record { kind = kind.Ipv4; header = 14; window = 34; end = 66 }
      ∷ record { kind = kind.Auth; header = 34; window = 58; end = 66 } ∷ []
  pub ah : ah_at secured secured_places
      ≡ record { next = 50; spi = 0x8179b705; sequence = 1; icv_len = 12 } ∷ []
  pub esp : esp_by {T = Stop SliceError} None (net_of secured (parts_of secured secured_places))
      ≡ Some (record { spi = 0xfb5128a6; sequence = 2 })

-- a first fragment that begins with the same bytes
abbrev pub fragment : List ℕ
fragment = frame_of (ipv4 28 0x20 50) security_header

abbrev pub fragment_places : List Place
fragment_places = places_of 42 (record { kind = layout.Ip; start = 14; body = 34; end = 42 } ∷ [])

-- what a fragment carries is no security payload
pub record HasNoFragmentHeader : Type 0 where
  pub layout : IsLayoutOf fragment fragment_places None
  pub esp : esp_by {T = Stop SliceError} None (net_of fragment (parts_of fragment fragment_places)) ≡ None

-- what refuses a frame of 13 bytes, and seven bytes of a UDP header behind an IPv4 header
abbrev pub short_frame : Stop SliceError
short_frame = record {
  kind = layout.Ethernet2;
  start = 0;
  refusal = Len (record {
    required_len = 14;
    len = 13;
    len_source = Slice;
    layer = Ethernet2Header;
    layer_start_offset = 0;
  });
}

abbrev pub short_udp : Stop SliceError
short_udp = record {
  kind = layout.Udp;
  start = 34;
  refusal = Len (record {
    required_len = 8;
    len = 7;
    len_source = Slice;
    layer = UdpHeader;
    layer_start_offset = 0;
  });
}

-- the layer of the refused part stops a dissection
pub record StopsAtRefused : Type 0 where
  pub frame : IsLayoutOf (replicate 13 0) [] (Some short_frame)
  pub frame_layer : stop_layer (Some short_frame) ≡ Some Ethernet2Header
  pub udp : IsLayoutOf (frame_of (ipv4 27 0 17) (replicate 7 0))
      (places_of 41 (record { kind = layout.Ip; start = 14; body = 34; end = 41 } ∷ []))
      (Some short_udp)
  pub udp_layer : stop_layer (Some short_udp) ≡ Some UdpHeader
