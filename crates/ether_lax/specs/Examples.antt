-- Windows and stops of packets made by hand, as the standards say.
use Rattle.std.specs.Prelude.{◌≡◌, ℕ, ◌+◌, Bool, true, false, List, [], ◌∷◌, ◌++◌, length, map, replicate, Some, None}
use Rattle.ether_link.specs.Layout.{place_of, IsLayoutFrom}
use Rattle.ether_link.specs.declared.err.layers.Layer.TheVariants.{Ipv6DestOptionsHeader}
use Rattle.ether_link.specs.declared.len_source.LenSource.TheVariants.{Slice, MacsecShortLength, Ipv4HeaderTotalLen, Ipv6HeaderPayloadLen}
use Rattle.ether_link.specs.declared.layout.PartKind.{PartKind}
use Rattle.ether_link.specs.declared.layout.PartKind.TheVariants.{Ethernet2, Macsec, Ip, Fragment, DestinationOptions, Udp}
use Rattle.ether_link.specs.declared.layout.Place.{Place}
use Rattle.ether_ip.specs.PacketGrammar.{packet_grammar}
use Rattle.ether_ip.specs.declared.err.packet.SliceError.TheVariants.{Len}
use Rattle.ether_lax.specs.Parts.{source_at, is_incomplete}
use Rattle.ether_lax.specs.Steps.{begins_with}

-- the place of the part of a kind that is all bytes
abbrev pub whole : PartKind → List ℕ → Place
whole kind bytes = place_of packet_grammar kind bytes 0 (length bytes)

abbrev pub ends : PartKind → List (List ℕ) → List ℕ
ends kind parts = map (λ bytes. (whole kind bytes).end) parts

abbrev pub lacks : PartKind → List (List ℕ) → List Bool
lacks kind parts = map (λ bytes. is_incomplete bytes (whole kind bytes)) parts

-- a security tag whose short length counts its ether type and four bytes, with so many bytes behind it
abbrev pub secured : ℕ → List ℕ
secured n = 0 ∷ 6 ∷ 0 ∷ 0 ∷ 0 ∷ 0 ∷ 0x12 ∷ 0x34 ∷ replicate n 0

-- an IPv4 header with its total length, and an IPv6 header with its payload length
abbrev pub ipv4 : ℕ → ℕ → List ℕ
ipv4 total n = 0x45 ∷ 0 ∷ 0 ∷ total ∷ 0 ∷ 0 ∷ 0x40 ∷ 0 ∷ 64 ∷ 17 ∷ replicate (10 + n) 0

abbrev pub ipv6 : ℕ → ℕ → ℕ → List ℕ
ipv6 payload next n = 0x60 ∷ 0 ∷ 0 ∷ 0 ∷ 0 ∷ payload ∷ next ∷ 64 ∷ replicate (32 + n) 0

abbrev pub udp : ℕ → ℕ → List ℕ
udp len n = 0 ∷ 1 ∷ 0 ∷ 2 ∷ 0 ∷ len ∷ 0 ∷ 0 ∷ replicate n 0

-- a window ends where the short length says, if so much is there (IEEE 802.1AE, section 9.7)
abbrev pub HasSecuredWindow : Type 0
HasSecuredWindow =
    (ends Macsec (secured 3 ∷ secured 4 ∷ secured 5 ∷ []) ≡ 11 ∷ 12 ∷ 12 ∷ [])
    × (lacks Macsec (secured 3 ∷ secured 4 ∷ secured 5 ∷ []) ≡ true ∷ false ∷ false ∷ [])
    × (map (λ n. source_at (secured n) (whole Macsec (secured n))) (3 ∷ 4 ∷ 5 ∷ [])
    ≡ Slice ∷ MacsecShortLength ∷ MacsecShortLength ∷ [])

-- a packet ends where its total length says, unless that has no room for the header (RFC 791, section 3.1)
abbrev pub HasIpv4Window : Type 0
HasIpv4Window =
    (ends Ip (ipv4 24 3 ∷ ipv4 24 4 ∷ ipv4 24 5 ∷ ipv4 19 5 ∷ []) ≡ 23 ∷ 24 ∷ 24 ∷ 25 ∷ [])
    × (lacks Ip (ipv4 24 3 ∷ ipv4 24 4 ∷ ipv4 24 5 ∷ ipv4 19 5 ∷ []) ≡ true ∷ false ∷ false ∷ false ∷ [])
    × (map (λ bytes. source_at bytes (whole Ip bytes)) (ipv4 24 3 ∷ ipv4 24 4 ∷ ipv4 19 5 ∷ [])
    ≡ Slice ∷ Ipv4HeaderTotalLen ∷ Slice ∷ [])

-- the same by the payload length, where 0 is right if nothing follows (RFC 8200, section 3)
abbrev pub HasIpv6Window : Type 0
HasIpv6Window =
    (ends Ip (ipv6 4 17 3 ∷ ipv6 4 17 4 ∷ ipv6 4 17 5 ∷ ipv6 0 17 0 ∷ ipv6 0 17 5 ∷ [])
    ≡ 43 ∷ 44 ∷ 44 ∷ 40 ∷ 45 ∷ [])
    × (lacks Ip (ipv6 4 17 3 ∷ ipv6 4 17 4 ∷ ipv6 0 17 5 ∷ []) ≡ true ∷ false ∷ false ∷ [])
    × (map (λ bytes. source_at bytes (whole Ip bytes))
    (ipv6 4 17 3 ∷ ipv6 4 17 4 ∷ ipv6 0 17 0 ∷ ipv6 0 17 5 ∷ [])
    ≡ Slice ∷ Ipv6HeaderPayloadLen ∷ Ipv6HeaderPayloadLen ∷ Slice ∷ [])

-- a datagram ends where its length says, if that has room for the header and so much is there (RFC 768)
abbrev pub HasUdpWindow : Type 0
HasUdpWindow = ends Udp (udp 12 3 ∷ udp 12 4 ∷ udp 12 5 ∷ udp 7 5 ∷ udp 8 5 ∷ []) ≡ 11 ∷ 12 ∷ 12 ∷ 13 ∷ 8 ∷ []

-- an IPv6 packet with a fragment header that more fragments follow, and three bytes of destination options
abbrev pub cut_fragment : List ℕ
cut_fragment =
    0x60 ∷ 0 ∷ 0 ∷ 0 ∷ 0 ∷ 11 ∷ 44 ∷ 64 ∷ replicate 32 0 ++ 60 ∷ 0 ∷ 0 ∷ 1 ∷ 0 ∷ 0 ∷ 0 ∷ 0 ∷ 59 ∷ 0 ∷ 0 ∷ []

-- a refused extension header is the stop, behind a fragment header too (RFC 8200, section 4.5)
abbrev pub StopsBehindFragment : Type 0
StopsBehindFragment = IsLayoutFrom packet_grammar cut_fragment (begins_with Ip) 0 51
    (record { kind = Ip; start = 0; body = 40; end = 51 }
    ∷ record { kind = Fragment; start = 40; body = 48; end = 51 } ∷ [])
    (Some (record {
      kind = DestinationOptions;
      start = 48;
      refusal = Len (record {
        required_len = 8;
        len = 3;
        len_source = Slice;
        layer = Ipv6DestOptionsHeader;
        layer_start_offset = 0;
      });
    }))

-- a frame with an encrypted payload that begins as an IPv4 header does
abbrev pub encrypted : List ℕ
encrypted = replicate 12 0 ++ 0x88 ∷ 0xe5 ∷ 0x0c ∷ 0 ∷ 0 ∷ 0 ∷ 0 ∷ 0 ∷ 0x08 ∷ 0x00 ∷ ipv4 20 0

-- a changed or encrypted payload ends a layout (IEEE 802.1AE, section 9.5)
abbrev pub EndsEncrypted : Type 0
EndsEncrypted = IsLayoutFrom packet_grammar encrypted (begins_with Ethernet2) 0 42
    (record { kind = Ethernet2; start = 0; body = 14; end = 42 }
    ∷ record { kind = Macsec; start = 14; body = 20; end = 42 } ∷ [])
    None
