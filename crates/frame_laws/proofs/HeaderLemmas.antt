-- What is read off the headers that a frame is written with.
use Rattle.std.proofs.Common.{◌≡◌, ℕ, ◌^◌, ◌<◌, true, false, List, [], ◌∷◌, ◌++◌, length, get_or, refl, ap, ◌∙◌}
use Rattle.std.specs.Int.{to_be_bytes, w16}
use Rattle.std.proofs.lemmas.Nat.{from_be_bytes-to_be_bytes_2}
use Rattle.wire_base.specs.Bytes.{be16_at}
use Rattle.net_wire.specs.Datagram.{udp_bytes}
use Rattle.ether_link.specs.Ethernet2.{ethernet2_header}
use Rattle.ether_link.specs.declared.link.ethernet2.Ethernet2Header.{Ethernet2Header}
use Rattle.ether_ip.specs.Ipv4.{ipv4_header, is_ipv4_fragment}
use Rattle.ether_ip.specs.Udp.{udp_header}
use Rattle.ether_ip.specs.declared.ip.ipv4.Ipv4Header.{Ipv4Header}
use Rattle.ether_ip.specs.declared.transport.udp.UdpHeader.{UdpHeader}
use Rattle.frame_laws.proofs.PartLemmas.{by_four, by_six}

-- the fields of a frame's header, by its ether type
abbrev two_stations : List ℕ → List ℕ → ℕ → Ethernet2Header
two_stations to from number = record { source = from; destination = to; ether_type = record { 0 = number } }

pub record EthernetFacts (to from : List ℕ) (number : ℕ) : Type 0 where
  pub len : length (to ++ from ++ to_be_bytes w16 number) ≡ 14
  pub ether_type : be16_at (to ++ from ++ to_be_bytes w16 number) 12 ≡ number
  pub fields : ethernet2_header (to ++ from ++ to_be_bytes w16 number) ≡ two_stations to from number

module _ (number : ℕ) (fits : number < 2 ^ 16) where
  ethernet_of : (a b c d e f g h i j k l : ℕ)
      → EthernetFacts (a ∷ b ∷ c ∷ d ∷ e ∷ f ∷ []) (g ∷ h ∷ i ∷ j ∷ k ∷ l ∷ []) number
  ethernet_of a b c d e f g h i j k l =
      let to = a ∷ b ∷ c ∷ d ∷ e ∷ f ∷ [] in
      let from = g ∷ h ∷ i ∷ j ∷ k ∷ l ∷ [] in
      let number_is : be16_at (to ++ from ++ to_be_bytes w16 number) 12 ≡ number = from_be_bytes-to_be_bytes_2 number fits in
      record { len = refl; ether_type = number_is; fields = ap (two_stations to from) number_is }

  pub ethernet_facts : (to from : List ℕ) → length to ≡ 6 → length from ≡ 6 → EthernetFacts to from number
  ethernet_facts to from six six_too =
      by_six (λ bytes. EthernetFacts bytes from number)
      (λ a b c d e f. by_six (λ bytes. EthernetFacts (a ∷ b ∷ c ∷ d ∷ e ∷ f ∷ []) bytes number)
      (λ g h i j k l. ethernet_of a b c d e f g h i j k l) from six_too) to six

-- the IPv4 header, and its fields by two numbers
abbrev pub four_bytes : List ℕ → List ℕ → ℕ → ℕ → ℕ → List ℕ
four_bytes source destination total hop_limit checksum =
    0x45 ∷ 0 ∷ [] ++ to_be_bytes w16 total ++ 0 ∷ 0 ∷ 0x40 ∷ 0 ∷ hop_limit ∷ 17 ∷ [] ++ to_be_bytes w16 checksum ++ source ++ destination

abbrev pub four_fields : List ℕ → List ℕ → ℕ → ℕ → ℕ → Ipv4Header
four_fields source destination hop_limit total checksum = record {
  dscp = 0;
  ecn = 0;
  total_len = total;
  identification = 0;
  dont_fragment = true;
  more_fragments = false;
  fragment_offset = 0;
  time_to_live = hop_limit;
  protocol = record { 0 = 17 };
  header_checksum = checksum;
  source = source;
  destination = destination;
  options = record { items = [] };
}

pub record Ipv4Facts (source destination : List ℕ) (total hop_limit checksum : ℕ) : Type 0 where
  pub len : length (four_bytes source destination total hop_limit checksum) ≡ 20
  pub version : get_or (four_bytes source destination total hop_limit checksum) 0 0 ≡ 0x45
  pub total_len : be16_at (four_bytes source destination total hop_limit checksum) 2 ≡ total
  pub whole : is_ipv4_fragment (four_bytes source destination total hop_limit checksum) ≡ false
  pub protocol : get_or (four_bytes source destination total hop_limit checksum) 9 0 ≡ 17
  pub fields : ipv4_header (four_bytes source destination total hop_limit checksum) ≡ four_fields source destination hop_limit total checksum

module _ (total hop_limit checksum : ℕ) (fits : total < 2 ^ 16) (word : checksum < 2 ^ 16) where
  ipv4_of : (a b c d e f g h : ℕ) → Ipv4Facts (a ∷ b ∷ c ∷ d ∷ []) (e ∷ f ∷ g ∷ h ∷ []) total hop_limit checksum
  ipv4_of a b c d e f g h =
      let length_is : be16_at (four_bytes (a ∷ b ∷ c ∷ d ∷ []) (e ∷ f ∷ g ∷ h ∷ []) total hop_limit checksum) 2 ≡ total = from_be_bytes-to_be_bytes_2 total fits in
      let checksum_is : be16_at (four_bytes (a ∷ b ∷ c ∷ d ∷ []) (e ∷ f ∷ g ∷ h ∷ []) total hop_limit checksum) 10 ≡ checksum = from_be_bytes-to_be_bytes_2 checksum word in
      record {
        len = refl;
        version = refl;
        total_len = length_is;
        whole = refl;
        protocol = refl;
        fields = ap (λ n. four_fields (a ∷ b ∷ c ∷ d ∷ []) (e ∷ f ∷ g ∷ h ∷ []) hop_limit n (be16_at (four_bytes (a ∷ b ∷ c ∷ d ∷ []) (e ∷ f ∷ g ∷ h ∷ []) total hop_limit checksum) 10)) length_is
            ∙ ap (four_fields (a ∷ b ∷ c ∷ d ∷ []) (e ∷ f ∷ g ∷ h ∷ []) hop_limit total) checksum_is;
      }

  pub ipv4_facts : (source destination : List ℕ) → length source ≡ 4 → length destination ≡ 4
      → Ipv4Facts source destination total hop_limit checksum
  ipv4_facts source destination four four_too =
      by_four (λ bytes. Ipv4Facts bytes destination total hop_limit checksum)
      (λ a b c d. by_four (λ bytes. Ipv4Facts (a ∷ b ∷ c ∷ d ∷ []) bytes total hop_limit checksum)
      (λ e f g h. ipv4_of a b c d e f g h) destination four_too) source four

abbrev pub udp_fields : ℕ → ℕ → ℕ → ℕ → UdpHeader
udp_fields source destination len checksum =
    record { source_port = source; destination_port = destination; length = len; checksum = checksum }

module _ (source destination len checksum : ℕ) (from : source < 2 ^ 16) (to : destination < 2 ^ 16) (fits : len < 2 ^ 16) (word : checksum < 2 ^ 16) where
  pub udp_len : length (udp_bytes source destination len checksum) ≡ 8
  unfolding udp_bytes
  udp_len = refl

  pub udp_says : be16_at (udp_bytes source destination len checksum) 4 ≡ len
  unfolding udp_bytes
  udp_says = from_be_bytes-to_be_bytes_2 len fits

  source_is : be16_at (udp_bytes source destination len checksum) 0 ≡ source
  unfolding udp_bytes
  source_is = from_be_bytes-to_be_bytes_2 source from

  destination_is : be16_at (udp_bytes source destination len checksum) 2 ≡ destination
  unfolding udp_bytes
  destination_is = from_be_bytes-to_be_bytes_2 destination to

  checksum_is : be16_at (udp_bytes source destination len checksum) 6 ≡ checksum
  unfolding udp_bytes
  checksum_is = from_be_bytes-to_be_bytes_2 checksum word

  pub udp_read : udp_header (udp_bytes source destination len checksum) ≡ udp_fields source destination len checksum
  udp_read = rw (source_is, destination_is, udp_says, checksum_is) refl
