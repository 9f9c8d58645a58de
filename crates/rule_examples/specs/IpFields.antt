-- The fields of IP headers whose bytes all differ.
use Rattle.std.specs.Prelude.{◌≡◌, ℕ, true, false, List, [], ◌∷◌, map, replicate, Some, None}
use Rattle.ether_link.specs.Form.{header_len, refusal}
use Rattle.ether_ip.specs.Ip.{ip_slice_form}
use Rattle.ether_ip.specs.Ipv4.{ipv4_header, ipv4_slice_form, is_ipv4_fragment}
use Rattle.ether_ip.specs.Ipv6.{ipv6_header, ipv6_slice_form}
use Rattle.ether_ip.specs.declared.err.ip.HeaderError.TheVariants.{UnsupportedIpVersion, Ipv4HeaderLengthSmallerThanHeader}
use Rattle.ether_ip.specs.declared.err.ip.LaxHeaderSliceError as ip
use Rattle.ether_ip.specs.declared.err.ipv4.HeaderError.TheVariants.{UnexpectedVersion as OtherThan4, HeaderLengthSmallerThanHeader}
use Rattle.ether_ip.specs.declared.err.ipv4.HeaderSliceError as ipv4
use Rattle.ether_ip.specs.declared.err.ipv6.HeaderError.TheVariants.{UnexpectedVersion as OtherThan6}
use Rattle.ether_ip.specs.declared.err.ipv6.HeaderSliceError as ipv6

-- a header with its first byte, its type of service, and the byte of the flags: it has one option of four bytes
abbrev pub packet4 : ℕ → ℕ → ℕ → List ℕ
packet4 first service flags =
    first ∷ service ∷ 0x12 ∷ 0x34 ∷ 0x56 ∷ 0x78 ∷ flags ∷ 0x32 ∷ 77 ∷ 89 ∷ 0xDE ∷ 0xF0 ∷ 1 ∷ 2 ∷ 3 ∷ 4 ∷ 5 ∷ 6
    ∷ 7 ∷ 8 ∷ 9 ∷ 10 ∷ 11 ∷ 12 ∷ []

-- Version and length, six bits of DSCP and two of ECN, total length, identification, the flags reserved, DF and
-- MF, 13 bits of offset, time to live, protocol, checksum, source, destination and options (RFC 791, section 3.1;
-- RFC 2474, section 3; RFC 3168, section 5).
pub record Ipv4Fields : Type 0 where
  pub fields : ipv4_header (packet4 0x46 0xB9 0x54)
      ≡ record {
        dscp = 46;
        ecn = 1;
        total_len = 0x1234;
        identification = 0x5678;
        dont_fragment = true;
        more_fragments = false;
        fragment_offset = 0x1432;
        time_to_live = 77;
        protocol = record { 0 = 89 };
        header_checksum = 0xDEF0;
        source = 1 ∷ 2 ∷ 3 ∷ 4 ∷ [];
        destination = 5 ∷ 6 ∷ 7 ∷ 8 ∷ [];
        options = record { items = 9 ∷ 10 ∷ 11 ∷ 12 ∷ [] };
      }
  pub codepoints : map (λ service. (ipv4_header (packet4 0x46 service 0)).dscp) (0xFC ∷ 0x04 ∷ 0x03 ∷ [])
      ≡ 63 ∷ 1 ∷ 0 ∷ []
  pub congestion : map (λ service. (ipv4_header (packet4 0x46 service 0)).ecn)
      (0xFC ∷ 0x04 ∷ 0x01 ∷ 0x02 ∷ 0x03 ∷ []) ≡ 0 ∷ 0 ∷ 1 ∷ 2 ∷ 3 ∷ []
  pub do_not_fragment : map (λ flags. (ipv4_header (packet4 0x46 0 flags)).dont_fragment)
      (0x80 ∷ 0x40 ∷ 0x20 ∷ 0x10 ∷ []) ≡ false ∷ true ∷ false ∷ false ∷ []
  pub more_fragments : map (λ flags. (ipv4_header (packet4 0x46 0 flags)).more_fragments)
      (0x80 ∷ 0x40 ∷ 0x20 ∷ 0x10 ∷ []) ≡ false ∷ false ∷ true ∷ false ∷ []
  pub offsets : map (λ flags. (ipv4_header (packet4 0x46 0 flags)).fragment_offset) (0xE0 ∷ 0x10 ∷ [])
      ≡ 0x32 ∷ 0x1032 ∷ []
  -- the header length counts words of four bytes, five at least
  pub size : header_len ipv4_slice_form (packet4 0x46 0 0) ≡ 24
  pub least : header_len ipv4_slice_form (packet4 0x45 0 0) ≡ 20
  pub short : refusal ipv4_slice_form (packet4 0x44 0 0)
      ≡ Some (ipv4.TheVariants.Content (HeaderLengthSmallerThanHeader 4))
  pub version : refusal ipv4_slice_form (packet4 0x65 0 0) ≡ Some (ipv4.TheVariants.Content (OtherThan4 6))
  pub accepted : refusal ipv4_slice_form (packet4 0x46 0 0) ≡ None

abbrev pub packet6 : ℕ → List ℕ
packet6 first =
    first ∷ 0xBC ∷ 0xDE ∷ 0xF1 ∷ 0x23 ∷ 0x45 ∷ 103 ∷ 137 ∷ 1 ∷ 2 ∷ 3 ∷ 4 ∷ 5 ∷ 6 ∷ 7 ∷ 8 ∷ 9 ∷ 10 ∷ 11 ∷ 12 ∷ 13
    ∷ 14 ∷ 15 ∷ 16 ∷ 17 ∷ 18 ∷ 19 ∷ 20 ∷ 21 ∷ 22 ∷ 23 ∷ 24 ∷ 25 ∷ 26 ∷ 27 ∷ 28 ∷ 29 ∷ 30 ∷ 31 ∷ 32 ∷ 33 ∷ []

-- version, eight bits of traffic class, 20 of flow label, payload length, next header, hop limit, source and
-- destination (RFC 8200, section 3)
pub record Ipv6Fields : Type 0 where
  pub fields : ipv6_header (packet6 0x6A)
      ≡ record {
        traffic_class = 0xAB;
        flow_label = 0xCDEF1;
        payload_length = 0x2345;
        next_header = record { 0 = 103 };
        hop_limit = 137;
        source = 1 ∷ 2 ∷ 3 ∷ 4 ∷ 5 ∷ 6 ∷ 7 ∷ 8 ∷ 9 ∷ 10 ∷ 11 ∷ 12 ∷ 13 ∷ 14 ∷ 15 ∷ 16 ∷ [];
        destination = 17 ∷ 18 ∷ 19 ∷ 20 ∷ 21 ∷ 22 ∷ 23 ∷ 24 ∷ 25 ∷ 26 ∷ 27 ∷ 28 ∷ 29 ∷ 30 ∷ 31 ∷ 32 ∷ [];
      }
  pub size : header_len ipv6_slice_form (packet6 0x6A) ≡ 40
  pub accepted : refusal ipv6_slice_form (packet6 0x6A) ≡ None
  pub version : refusal ipv6_slice_form (packet6 0x4A) ≡ Some (ipv6.TheVariants.Content (OtherThan6 4))

-- The same by the version in the first byte (RFC 791, section 3.1; RFC 8200, section 3).
pub record IpByVersion : Type 0 where
  pub sizes : map (header_len ip_slice_form) (packet4 0x45 0 0 ∷ packet4 0x46 0 0 ∷ packet6 0x60 ∷ []) ≡ 20 ∷ 24 ∷ 40 ∷ []
  pub accepted : map (refusal ip_slice_form) (packet4 0x45 0 0 ∷ packet6 0x60 ∷ []) ≡ None ∷ None ∷ []
  pub short : refusal ip_slice_form (packet4 0x44 0 0)
      ≡ Some (ip.TheVariants.Content (Ipv4HeaderLengthSmallerThanHeader 4))
  pub five : refusal ip_slice_form (packet4 0x55 0 0) ≡ Some (ip.TheVariants.Content (UnsupportedIpVersion 5))
  pub seven : refusal ip_slice_form (packet6 0x70) ≡ Some (ip.TheVariants.Content (UnsupportedIpVersion 7))

-- a packet is a fragment where MF is set or the offset is not zero (RFC 791, section 3.1)
abbrev pub fragment_bits : ℕ → ℕ → List ℕ
fragment_bits high low = 0x45 ∷ 0 ∷ 0 ∷ 20 ∷ 0 ∷ 0 ∷ high ∷ low ∷ replicate 12 0

pub record Ipv4Fragments : Type 0 where
  pub whole : is_ipv4_fragment (fragment_bits 0 0) ≡ false
  pub reserved : is_ipv4_fragment (fragment_bits 0x80 0) ≡ false
  pub not_to_fragment : is_ipv4_fragment (fragment_bits 0x40 0) ≡ false
  pub first : is_ipv4_fragment (fragment_bits 0x20 0) ≡ true
  pub last : is_ipv4_fragment (fragment_bits 0 1) ≡ true
  pub far : is_ipv4_fragment (fragment_bits 0x10 0) ≡ true
