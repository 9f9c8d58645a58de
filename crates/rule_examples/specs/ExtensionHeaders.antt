-- The fields of extension headers whose bytes all differ.
use Rattle.std.specs.Prelude.{◌≡◌, ℕ, true, false, List, [], ◌∷◌, map, replicate, Some, None}
use Rattle.ether_link.specs.Form.{header_len, no_map, refusal}
use Rattle.ether_link.specs.declared.err.layers.Layer.TheVariants.{Ipv6DestOptionsHeader, Ipv6HopByHopHeader, Ipv6RouteHeader}
use Rattle.ether_ip.specs.Auth.{auth_header, auth_slice_form}
use Rattle.ether_ip.specs.Fragment.{fragment_form, fragment_header, is_ipv6_fragment}
use Rattle.ether_ip.specs.Numbers.{authentication, destination_options, hop_by_hop, icmp, icmpv6, ipv6_fragment, ipv6_route, tcp, udp}
use Rattle.ether_ip.specs.RawExt.{raw_ext_form, raw_ext_header, raw_ext_layer}
use Rattle.ether_ip.specs.declared.err.ip_auth.HeaderError.TheVariants.{ZeroPayloadLen}
use Rattle.ether_ip.specs.declared.err.ip_auth.HeaderSliceError.TheVariants.{Content}

-- an authentication header with the payload length that it says
abbrev pub auth : ℕ → List ℕ
auth words = 103 ∷ words ∷ 0 ∷ 0 ∷ 4 ∷ 5 ∷ 6 ∷ 7 ∷ 8 ∷ 9 ∷ 10 ∷ 11 ∷ 12 ∷ 13 ∷ 14 ∷ 15 ∷ []

-- Next header, length in words of four bytes without the first two, two reserved bytes, security parameters index,
-- sequence number and integrity check value (RFC 4302, section 2).
pub record AuthFields : Type 0 where
  pub fields : auth_header (auth 2)
      ≡ record {
        next_header = record { 0 = 103 };
        spi = 0x04050607;
        sequence_number = 0x08090A0B;
        icv = record { items = 12 ∷ 13 ∷ 14 ∷ 15 ∷ [] };
      }
  pub sizes : map (λ words. header_len auth_slice_form (auth words)) (1 ∷ 2 ∷ []) ≡ 12 ∷ 16 ∷ []
  pub accepted : map (λ words. refusal auth_slice_form (auth words)) (1 ∷ 2 ∷ []) ≡ None ∷ None ∷ []
  pub none : refusal auth_slice_form (auth 0) ≡ Some (Content ZeroPayloadLen)

-- a fragment header with the low byte of its offset and flags
abbrev pub fragment : ℕ → List ℕ
fragment low = 103 ∷ 2 ∷ 0x9A ∷ low ∷ 5 ∷ 6 ∷ 7 ∷ 8 ∷ 9 ∷ []

-- Next header, a reserved byte, 13 bits of offset, two reserved bits, the flag M and the identification (RFC 8200,
-- section 4.5): 0x9AB8 is 8 times 0x1357.
pub record FragmentFields : Type 0 where
  pub more : fragment_header (fragment 0xBB)
      ≡ record {
        next_header = record { 0 = 103 };
        fragment_offset = 0x1357;
        more_fragments = true;
        identification = 0x05060708;
      }
  pub last : fragment_header (fragment 0xBE)
      ≡ record {
        next_header = record { 0 = 103 };
        fragment_offset = 0x1357;
        more_fragments = false;
        identification = 0x05060708;
      }
  pub size : header_len (fragment_form no_map) (fragment 0xBB) ≡ 8
  pub whole : is_ipv6_fragment (17 ∷ 0 ∷ 0 ∷ 6 ∷ replicate 4 0) ≡ false
  pub first : is_ipv6_fragment (17 ∷ 0 ∷ 0 ∷ 1 ∷ replicate 4 0) ≡ true
  pub later : is_ipv6_fragment (17 ∷ 0 ∷ 0 ∷ 8 ∷ replicate 4 0) ≡ true

-- Next header, length in units of eight bytes without the first, and what is there (RFC 8200, sections 4.3, 4.4 and
-- 4.6). The number that names a header says which layer it is.
pub record OptionFields : Type 0 where
  pub fields : raw_ext_header (103 ∷ 0 ∷ 2 ∷ 3 ∷ 4 ∷ 5 ∷ 6 ∷ 7 ∷ [])
      ≡ record {
        next_header = record { 0 = 103 };
        payload = record { items = 2 ∷ 3 ∷ 4 ∷ 5 ∷ 6 ∷ 7 ∷ [] };
      }
  pub sizes : map (λ units. header_len (raw_ext_form Ipv6RouteHeader no_map) (103 ∷ units ∷ replicate 22 0))
      (0 ∷ 1 ∷ 2 ∷ []) ≡ 8 ∷ 16 ∷ 24 ∷ []
  pub layers : map raw_ext_layer (0 ∷ 43 ∷ 60 ∷ [])
      ≡ Ipv6HopByHopHeader ∷ Ipv6RouteHeader ∷ Ipv6DestOptionsHeader ∷ []

-- the numbers of what an IP packet carries (IANA, "Assigned Internet Protocol Numbers")
pub record NumbersByExample : Type 0 where
  pub extensions : hop_by_hop ∷ ipv6_route ∷ ipv6_fragment ∷ authentication ∷ destination_options ∷ []
      ≡ 0 ∷ 43 ∷ 44 ∷ 51 ∷ 60 ∷ []
  pub transports : icmp ∷ tcp ∷ udp ∷ icmpv6 ∷ [] ≡ 1 ∷ 6 ∷ 17 ∷ 58 ∷ []
