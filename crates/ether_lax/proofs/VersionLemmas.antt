-- The version of an IP packet is that of its first byte, and what stops it is a part behind a header of that version.
use Rattle.std.proofs.Common.{◌≡◌, ℕ, ◌+◌, ◌*◌, ◌-◌, ◌<◌, ◌≤◌, Bool, true, false, cond, List, [], ◌∷◌, length, take, get_or, Option, Some, None, refl, sym, ap, ◌∙◌, arith}
use Rattle.std.specs.Prelude.{◌==◌, nat_lt, if◌then◌else◌, slice_range, slice_index, option_map}
use Rattle.std.proofs.lemmas.Bool.Decides.{nat_tests}
use Rattle.std.proofs.lemmas.List.{get_or-take}
use Rattle.ether_link.specs.Form.{or_else, header_len, refusal, IsMapped}
use Rattle.ether_link.specs.Layout.{header, IsLayoutFrom}
use Rattle.ether_link.specs.Places.{header_at}
use Rattle.ether_link.specs.declared.err.layers.Layer.{Layer}
use Rattle.ether_link.specs.declared.err.layers.Layer.TheVariants.{IpAuthHeader}
use Rattle.ether_link.specs.declared.len_source.LenSource.{LenSource}
use Rattle.ether_link.specs.declared.layout.PartKind.{PartKind}
use Rattle.ether_link.specs.declared.layout.PartKind.TheVariants as kind
use Rattle.ether_link.specs.declared.layout.Place.{Place}
use Rattle.ether_link.specs.declared.layout.Stop.{Stop}
use Rattle.ether_link.specs.declared.layout.Turn.{Turn}
use Rattle.ether_link.proofs.FormLemmas.{has_header, is_false, no_early}
use Rattle.ether_link.proofs.MapLemmas.{cond-map, refusal-mapped}
use Rattle.ether_ip.specs.Auth.{auth_slice_form}
use Rattle.ether_ip.specs.ExtensionGrammar.{extension_kind, first_extension_kind, fragmented_behind, turn_to}
use Rattle.ether_ip.specs.Extensions.{extension_slice}
use Rattle.ether_ip.specs.Ip.{ip_slice_form}
use Rattle.ether_ip.specs.IpHeaders.{is_ipv4, number_in, extension_in, is_fragment_in}
use Rattle.ether_ip.specs.Ipv4.{ipv4_slice_form}
use Rattle.ether_ip.specs.Ipv6.{ipv6_slice_form}
use Rattle.ether_ip.specs.PacketGrammar.{packet_grammar, part_turn, transport_kind}
use Rattle.ether_ip.specs.Version.{ip_version, ihl}
use Rattle.ether_ip.specs.declared.err.ip_auth.HeaderError.TheVariants.{ZeroPayloadLen}
use Rattle.ether_ip.specs.declared.err.ip_auth.HeaderSliceError as auth
use Rattle.ether_ip.specs.declared.err.ipv6_exts.HeaderSliceError.{HeaderSliceError}
use Rattle.ether_ip.specs.declared.err.packet.SliceError.{SliceError}
use Rattle.ether_ip.specs.declared.err.packet.SliceError.TheVariants as packet
use Rattle.ether_ip.specs.declared.ip.exts.Ipv6ExtensionSlice.{Ipv6ExtensionSlice}
use Rattle.ether_ip.proofs.IpLemmas.{header_has_room}
use Rattle.ether_lax.specs.Found.{Parts, no_parts, with_part, extended, parts_behind, parts_of}
use Rattle.ether_lax.specs.IpParts.{IsIpPacket, IsAuthStop}
use Rattle.ether_lax.specs.Nets.{Ipv4Part, Ipv6Part, ChainPart, IpPayloadPart, ipv4_bytes, ipv4_auth, ipv4_payload, ipv6_bytes, ipv6_chain, ipv6_payload}
use Rattle.ether_lax.specs.Parts.{part_in, part_at, whole_at}
use Rattle.ether_lax.specs.Sliced.{net_by, ip_by}
use Rattle.ether_lax.specs.Stops.{placed, at_layer, chain_refusal, ip_stop, source_of_ip}
use Rattle.ether_lax.specs.Steps.{begins_with}
use Rattle.ether_lax.specs.declared.ip.LaxIpSlice.{LaxIpSlice}
use Rattle.ether_lax.specs.declared.ip.LaxIpSlice.TheVariants as ip
use Rattle.ether_lax.specs.declared.ipv4.LaxIpv4Slice.{LaxIpv4Slice}
use Rattle.ether_lax.specs.declared.ipv6.LaxIpv6Slice.{LaxIpv6Slice}
use Rattle.ether_lax.specs.declared.found.FoundIp.{FoundIp}
use Rattle.ether_lax.specs.declared.found.IpHeader.{IpHeader}
use Rattle.ether_lax.specs.declared.found.IpHeader.TheVariants.{V4, V6}
use Rattle.ether_lax.specs.declared.step.Part.TheVariants.{Ipv4, Ipv6}
use Rattle.ether_lax.proofs.IpLemmas.{all_bytes}
use Rattle.ether_lax.proofs.MapLemmas.{ip_accepts}
use Rattle.ether_lax.proofs.StepLemmas.{header_here}

-- parts of some kinds
abbrev KindIs : (PartKind → Type 0) → Option PartKind → Type 0
KindIs P None = Unit {0}
KindIs P (Some part) = P part

abbrev TurnIs : (PartKind → Type 0) → Option Turn → Type 0
TurnIs P None = Unit {0}
TurnIs P (Some turn) = P turn.kind

abbrev pub IsStopOf : (PartKind → Type 0) → Option (Stop SliceError) → Type 0
IsStopOf P None = Unit {0}
IsStopOf P (Some stop) = P stop.kind × (bytes : List ℕ) × (refusal (packet_grammar.form_of stop.kind) bytes ≡ Some stop.refusal)

-- the kinds behind a header of version 4, and behind one of version 6
abbrev pub IsFour : PartKind → Type 0
IsFour kind.Ipv4Auth = Unit {0}
IsFour kind.Udp = Unit {0}
IsFour kind.Tcp = Unit {0}
IsFour kind.Icmpv4 = Unit {0}
IsFour kind.Icmpv6 = Unit {0}
IsFour part = ⊥

abbrev pub IsSix : PartKind → Type 0
IsSix kind.Ethernet2 = ⊥
IsSix kind.LinuxSll = ⊥
IsSix kind.Vlan = ⊥
IsSix kind.Macsec = ⊥
IsSix kind.Arp = ⊥
IsSix kind.Ip = ⊥
IsSix part = Unit {0}

kind_either : (P : PartKind → Type 0) (b : Bool) (x y : Option PartKind) → KindIs P x → KindIs P y → KindIs P (if b then x else y)
kind_either P true x y a b = a
kind_either P false x y a b = b

turn_either : (P : PartKind → Type 0) (b : Bool) (x y : Option Turn) → TurnIs P x → TurnIs P y → TurnIs P (if b then x else y)
turn_either P true x y a b = a
turn_either P false x y a b = b

turn_first : (P : PartKind → Type 0) (x y : Option Turn) → TurnIs P x → TurnIs P y → TurnIs P (or_else x y)
turn_first P None y a b = b
turn_first P (Some turn) y a b = a

turned : (P : PartKind → Type 0) (count : ℕ) (fragmented : Bool) (part : Option PartKind) → KindIs P part → TurnIs P (turn_to count fragmented part)
turned P count fragmented None is = tt
turned P count fragmented (Some part) is = is

module _ (P : PartKind → Type 0) (udp : P kind.Udp) (tcp : P kind.Tcp) (icmpv4 : P kind.Icmpv4) (icmpv6 : P kind.Icmpv6) where
  transport : (number : ℕ) → KindIs P (transport_kind number)
  transport number =
      kind_either P (number == 1) _ _ icmpv4
      (kind_either P (number == 17) _ _ udp
      (kind_either P (number == 6) _ _ tcp
      (kind_either P (number == 58) _ _ icmpv6 tt)))

  by_number : (count : ℕ) (fragmented : Bool) (extension : Option PartKind) (number : ℕ) → KindIs P extension
      → TurnIs P (part_turn count fragmented extension number)
  by_number count fragmented extension number is =
      turn_first P (turn_to count fragmented extension) (if fragmented then None else turn_to count false (transport_kind number))
      (turned P count fragmented extension is)
      (turn_either P fragmented None (turn_to count false (transport_kind number)) tt (turned P count false (transport_kind number) (transport number)))

six_extension : (number : ℕ) → KindIs IsSix (extension_kind number)
six_extension number =
    kind_either IsSix (number == 0) _ _ tt
    (kind_either IsSix (number == 43) _ _ tt
    (kind_either IsSix (number == 44) _ _ tt
    (kind_either IsSix (number == 60) _ _ tt
    (kind_either IsSix (number == 51) _ _ tt tt))))

next_four : (part : PartKind) (count : ℕ) (fragmented : Bool) (bytes : List ℕ) → IsFour part
    → TurnIs IsFour (packet_grammar.next (record { kind = part; link_exts = count; fragmented = fragmented }) bytes)
next_four kind.Ipv4Auth count fragmented bytes is = by_number IsFour tt tt tt tt count fragmented None (slice_index bytes 0) tt
next_four kind.Udp count fragmented bytes is = tt
next_four kind.Tcp count fragmented bytes is = tt
next_four kind.Icmpv4 count fragmented bytes is = tt
next_four kind.Icmpv6 count fragmented bytes is = tt
next_four part count fragmented bytes is = absurd is

next_six : (part : PartKind) (count : ℕ) (fragmented : Bool) (bytes : List ℕ) → IsSix part
    → TurnIs IsSix (packet_grammar.next (record { kind = part; link_exts = count; fragmented = fragmented }) bytes)
next_six kind.Ethernet2 count fragmented bytes is = absurd is
next_six kind.LinuxSll count fragmented bytes is = absurd is
next_six kind.Vlan count fragmented bytes is = absurd is
next_six kind.Macsec count fragmented bytes is = absurd is
next_six kind.Arp count fragmented bytes is = absurd is
next_six kind.Ip count fragmented bytes is = absurd is
next_six kind.Udp count fragmented bytes is = tt
next_six kind.Tcp count fragmented bytes is = tt
next_six kind.Icmpv4 count fragmented bytes is = tt
next_six kind.Icmpv6 count fragmented bytes is = tt
next_six kind.Ipv4Auth count fragmented bytes is = by_number IsSix tt tt tt tt count fragmented None (slice_index bytes 0) tt
next_six kind.Fragment count fragmented bytes is =
    by_number IsSix tt tt tt tt count (fragmented_behind kind.Fragment fragmented bytes) (extension_kind (slice_index bytes 0)) (slice_index bytes 0) (six_extension (slice_index bytes 0))
next_six part count fragmented bytes is =
    by_number IsSix tt tt tt tt count fragmented (extension_kind (slice_index bytes 0)) (slice_index bytes 0) (six_extension (slice_index bytes 0))

-- the version of the header that was found
abbrev is_four_header : IpHeader → Bool
is_four_header (V4 header) = true
is_four_header (V6 header) = false

abbrev pub version_of : Option FoundIp → Option Bool
version_of None = None
version_of (Some ip) = Some (is_four_header ip.header)

extended_version : (place : Place) (header : Ipv6ExtensionSlice) (ip : Option FoundIp) → version_of (extended place header ip) ≡ version_of ip
extended_version place header None = refl
extended_version place header (Some ip) = refl

same_version : (frame : List ℕ) (place : Place) (parts : Parts) (part : PartKind) (header whole : List ℕ) → (part ≡ kind.Ip → ⊥)
    → version_of (with_part frame place (part_in part header whole) parts).ip ≡ version_of parts.ip
same_version frame place parts kind.Ethernet2 header whole isnt = refl
same_version frame place parts kind.LinuxSll header whole isnt = refl
same_version frame place parts kind.Vlan header whole isnt = refl
same_version frame place parts kind.Macsec header whole isnt = refl
same_version frame place parts kind.Arp header whole isnt = refl
same_version frame place parts kind.Ip header whole isnt = absurd (isnt refl)
same_version frame place parts kind.Udp header whole isnt = refl
same_version frame place parts kind.Tcp header whole isnt = refl
same_version frame place parts kind.Icmpv4 header whole isnt = refl
same_version frame place parts kind.Icmpv6 header whole isnt = refl
same_version frame place parts other header whole isnt = extended_version place (extension_slice other header) parts.ip

module _ (P : PartKind → Type 0) (not_ip : P kind.Ip → ⊥)
    (closed : (part : PartKind) (count : ℕ) (fragmented : Bool) (bytes : List ℕ) → P part
    → TurnIs P (packet_grammar.next (record { kind = part; link_exts = count; fragmented = fragmented }) bytes))
    (frame : List ℕ) where
  behind : (places : List Place) (parts : Parts) (turn : Option Turn) (start end : ℕ) (stop : Option (Stop SliceError)) → TurnIs P turn
      → IsLayoutFrom packet_grammar frame turn start end places stop
      → (version_of (parts_behind frame parts places).ip ≡ version_of parts.ip) × IsStopOf P stop
  behind [] parts None start end stop is right = (refl, rw right tt)
  behind [] parts (Some turn) start end stop is right = (refl, rw right.2 (is, slice_range frame start end, right.1))
  behind (place ∷ more) parts None start end stop is right = absurd right
  behind (place ∷ more) parts (Some turn) start end stop is right =
      let same : place.kind ≡ turn.kind = ap (λ (p : Place). p.kind) right.1 in
      let isnt : place.kind ≡ kind.Ip → ⊥ = λ ip. not_ip (rw (sym same ∙ ip) at is) in
      let on = closed turn.kind turn.link_exts turn.fragmented (header packet_grammar turn.kind (slice_range frame start end)) is in
      let rest = behind more (with_part frame place (part_at frame place) parts)
      (packet_grammar.next turn (header packet_grammar turn.kind (slice_range frame start end))) place.body place.end stop on right.2 in
      (rest.0 ∙ same_version frame place parts place.kind (header_at frame place) (whole_at frame place) isnt, rest.1)

first_version : (frame : List ℕ) (place : Place) (parts : Parts) (header : List ℕ) (b : Bool)
    → version_of (with_part frame place (if b then Ipv4 header else Ipv6 header) parts).ip ≡ Some b
first_version frame place parts header true = refl
first_version frame place parts header false = refl

first_in : (frame : List ℕ) (place : Place) (parts : Parts) (part : PartKind) (header whole : List ℕ) → part ≡ kind.Ip
    → version_of (with_part frame place (part_in part header whole) parts).ip ≡ Some (is_ipv4 header)
first_in frame place parts part header whole is = rw is (first_version frame place parts header (is_ipv4 header))

head_byte : (n : ℕ) (bytes : List ℕ) → 0 < n → get_or (take n bytes) 0 0 ≡ get_or bytes 0 0
head_byte n bytes some = get_or-take n bytes 0 0 some

-- the header that a packet begins with has the version of its first byte
module _ (bytes : List ℕ) (accepted : refusal ip_slice_form bytes ≡ None) where
  abbrev head : List ℕ
  head = header packet_grammar kind.Ip (slice_range bytes 0 (length bytes))

  head_version : ip_version head ≡ ip_version bytes
  head_version =
      let room = header_has_room bytes accepted in
      rw (all_bytes bytes, head_byte (header_len ip_slice_form bytes) bytes (omega arith)) refl

  four_turn : ip_version bytes ≡ 4 → TurnIs IsFour (packet_grammar.next (record { kind = kind.Ip; link_exts = 0; fragmented = false }) head)
  four_turn is =
      let four : is_ipv4 head ≡ true = rw (head_version, is) refl in
      let named : KindIs IsFour (extension_in head) = rw four (kind_either IsFour (slice_index head 9 == 51) (Some kind.Ipv4Auth) None tt tt) in
      by_number IsFour tt tt tt tt 0 (is_fragment_in head) (extension_in head) (number_in head) named

  six_turn : ip_version bytes ≡ 6 → TurnIs IsSix (packet_grammar.next (record { kind = kind.Ip; link_exts = 0; fragmented = false }) head)
  six_turn is =
      let six : is_ipv4 head ≡ false = rw (head_version, is) refl in
      let named : KindIs IsSix (extension_in head)
      = rw six (kind_either IsSix (slice_index head 6 == 0) (Some kind.HopByHop) (extension_kind (slice_index head 6)) tt (six_extension (slice_index head 6))) in
      by_number IsSix tt tt tt tt 0 (is_fragment_in head) (extension_in head) (number_in head) named

  module _ (P : PartKind → Type 0) (not_ip : P kind.Ip → ⊥)
      (closed : (part : PartKind) (count : ℕ) (fragmented : Bool) (bytes : List ℕ) → P part
      → TurnIs P (packet_grammar.next (record { kind = part; link_exts = count; fragmented = fragmented }) bytes))
      (first : TurnIs P (packet_grammar.next (record { kind = kind.Ip; link_exts = 0; fragmented = false }) head)) where
    version_stays : (places : List Place) (stop : Option (Stop SliceError)) → IsLayoutFrom packet_grammar bytes (begins_with kind.Ip) 0 (length bytes) places stop
        → (version_of (parts_of bytes places).ip ≡ Some (ip_version bytes == 4)) × IsStopOf P stop
    version_stays [] stop right =
        let read = ip_accepts bytes accepted in
        let refused = rw (all_bytes bytes) at right.1 in
        absurd (cc)
    version_stays (place ∷ more) stop right =
        let is_kind : place.kind ≡ kind.Ip = ap (λ (p : Place). p.kind) right.1 in
        let rest = behind P not_ip closed bytes more (with_part bytes place (part_at bytes place) no_parts)
        (packet_grammar.next (record { kind = kind.Ip; link_exts = 0; fragmented = false }) head) place.body place.end stop first right.2 in
        let whole = header_here bytes kind.Ip 0 (length bytes) (omega arith) (omega arith) (rw (all_bytes bytes) (ip_accepts bytes accepted)) in
        let same : head ≡ header_at bytes place = rw right.1 whole in
        let version : is_ipv4 (header_at bytes place) ≡ (ip_version bytes == 4) = rw (← same, head_version) refl in
        (rest.0 ∙ first_in bytes place no_parts place.kind (header_at bytes place) (whole_at bytes place) is_kind ∙ ap Some version, rest.1)

-- a packet of one version is no packet of the other
no_six_in : (frame : List ℕ) (auth : Option (List ℕ)) (ip : FoundIp) (is : IpHeader) (header : List ℕ) (chain : ChainPart) (payload : IpPayloadPart)
    → Some (is_four_header is) ≡ Some true → Some (ip_by frame auth ip is) ≡ Some (Ipv6Part header chain payload) → ⊥
no_six_in frame auth ip (V4 bytes) header chain payload is part = absurd (cc)
no_six_in frame auth ip (V6 bytes) header chain payload is part = absurd (cc)

no_four_in : (frame : List ℕ) (auth : Option (List ℕ)) (ip : FoundIp) (is : IpHeader) (header : List ℕ) (held : Option (List ℕ)) (payload : IpPayloadPart)
    → Some (is_four_header is) ≡ Some false → Some (ip_by frame auth ip is) ≡ Some (Ipv4Part header held payload) → ⊥
no_four_in frame auth ip (V4 bytes) header held payload is part = absurd (cc)
no_four_in frame auth ip (V6 bytes) header held payload is part = absurd (cc)

no_four : (frame : List ℕ) (auth : Option (List ℕ)) (ip : Option FoundIp) (arp : Option (List ℕ)) (header : List ℕ) (held : Option (List ℕ)) (payload : IpPayloadPart)
    → version_of ip ≡ Some false → net_by frame auth ip arp ≡ Some (Ipv4Part header held payload) → ⊥
no_four frame auth None arp header held payload is part = absurd (cc)
no_four frame auth (Some ip) arp header held payload is part = no_four_in frame auth ip ip.header header held payload is part

no_six : (frame : List ℕ) (auth : Option (List ℕ)) (ip : Option FoundIp) (arp : Option (List ℕ)) (header : List ℕ) (chain : ChainPart) (payload : IpPayloadPart)
    → version_of ip ≡ Some true → net_by frame auth ip arp ≡ Some (Ipv6Part header chain payload) → ⊥
no_six frame auth None arp header chain payload is part = absurd (cc)
no_six frame auth (Some ip) arp header chain payload is part = no_six_in frame auth ip ip.header header chain payload is part

-- what stops among the headers of version 4 is the authentication header
abbrev of_auth : auth.HeaderSliceError → SliceError
of_auth (auth.TheVariants.Len error) = packet.Len error
of_auth (auth.TheVariants.Content error) = packet.Ipv4Exts error

auth_mapped : IsMapped of_auth auth_slice_form (packet_grammar.form_of kind.Ipv4Auth)
auth_mapped = record {
  least = refl;
  layer = refl;
  early = λ head. cond-map of_auth (get_or head 1 0 == 0) (auth.TheVariants.Content ZeroPayloadLen);
  more = λ head. refl;
  whole = λ head. refl;
  source = refl;
  late = λ head. refl;
  alone = λ head. refl;
  wrong_len = λ error. refl;
}

auth_told : (source : LenSource) (start : ℕ) (why : auth.HeaderSliceError)
    → IsAuthStop (at_layer IpAuthHeader (chain_refusal (placed source start (of_auth why))))
auth_told source start (auth.TheVariants.Len error) = refl
auth_told source start (auth.TheVariants.Content error) = refl

auth_refused : (source : LenSource) (start : ℕ) (why : SliceError) (read : Option auth.HeaderSliceError) → Some why ≡ option_map of_auth read
    → IsAuthStop (at_layer IpAuthHeader (chain_refusal (placed source start why)))
auth_refused source start why None is = absurd (cc)
auth_refused source start why (Some read) is = let same : why ≡ of_auth read = cc in rw same (auth_told source start read)

auth_stops : (source : LenSource) (part : PartKind) (start : ℕ) (why : SliceError) → IsFour part → (bytes : List ℕ)
    → refusal (packet_grammar.form_of part) bytes ≡ Some why → IsAuthStop (ip_stop source (Some (record { kind = part; start = start; refusal = why })))
auth_stops source kind.Ipv4Auth start why is bytes refused =
    auth_refused source start why (refusal auth_slice_form bytes) (sym refused ∙ refusal-mapped of_auth auth_slice_form (packet_grammar.form_of kind.Ipv4Auth) auth_mapped bytes)
auth_stops source kind.Udp start why is bytes refused = tt
auth_stops source kind.Tcp start why is bytes refused = tt
auth_stops source kind.Icmpv4 start why is bytes refused = tt
auth_stops source kind.Icmpv6 start why is bytes refused = tt
auth_stops source part start why is bytes refused = absurd is

auth_stop : (source : LenSource) (stop : Option (Stop SliceError)) → IsStopOf IsFour stop → IsAuthStop (ip_stop source stop)
auth_stop source None is = tt
auth_stop source (Some stop) is = auth_stops source stop.kind stop.start stop.refusal is.0 is.1 is.2

-- what the readers of one version accept
four_or : {E : Type 0} (b : Bool) (x : Option E) (other : E) → cond b x (Some other) ≡ None → b ≡ true
four_or true x other is = refl
four_or false x other is = absurd (cc)

six_or : {E : Type 0} (b : Bool) (other : E) → cond b None (Some other) ≡ None → b ≡ true
six_or true other is = refl
six_or false other is = absurd (cc)

of_version_four : {E : Type 0} (few other : E) (version words : ℕ) → cond (version == 4) (cond (nat_lt words 5) (Some few) None) (Some other) ≡ None
    → (version ≡ 4) × (5 ≤ words)
of_version_four few other version words accepted =
    let four : (version == 4) ≡ true = four_or (version == 4) (cond (nat_lt words 5) (Some few) None) other accepted in
    let small : nat_lt words 5 ≡ false = is_false (nat_lt words 5) few (rw four at accepted) in
    (grind (arith, nat_tests), grind (arith, nat_tests))

module _ (bytes : List ℕ) (accepted : refusal ipv4_slice_form bytes ≡ None) where
  as_four : (ip_version bytes ≡ 4) × (5 ≤ ihl bytes)
  as_four = of_version_four _ _ (ip_version bytes) (ihl bytes) (rw (head_byte 20 bytes (omega arith)) at (no_early ipv4_slice_form bytes accepted))

  pub accepted_four : refusal ip_slice_form bytes ≡ None
  accepted_four =
      let four = as_four in
      let there : 20 + (4 * ihl bytes - 20) ≤ length bytes = rw (head_byte 20 bytes (omega arith)) at (has_header ipv4_slice_form bytes accepted) in
      let first : nat_lt (length bytes) 1 ≡ false = grind (arith, nat_tests) in
      let few : nat_lt (ihl bytes) 5 ≡ false = grind (arith, nat_tests) in
      let whole : nat_lt (length bytes) (1 + (4 * ihl bytes - 1)) ≡ false = grind (arith, nat_tests) in
      rw (head_byte 1 bytes (omega arith), first, four.0, few, whole) refl

  module _ (stop : Option (HeaderSliceError × Layer)) where
    -- a packet of version 4
    pub is_no_six : (packet : LaxIpv6Slice) → IsIpPacket bytes (ip.Ipv6 packet) stop → ⊥
    is_no_six packet is =
        let four = as_four in
        let stays = version_stays bytes accepted_four IsFour (λ no. no) next_four (four_turn bytes accepted_four four.0) is.places is.last is.layout in
        let version : version_of (parts_of bytes is.places).ip ≡ Some true = rw four.0 at (stays.0) in
        no_six bytes (parts_of bytes is.places).held.auth (parts_of bytes is.places).ip (parts_of bytes is.places).arp (ipv6_bytes packet) (ipv6_chain packet) (ipv6_payload packet)
        version is.part

    pub stops_at_auth : (packet : LaxIpSlice) → IsIpPacket bytes packet stop → IsAuthStop stop
    stops_at_auth packet is =
        let four = as_four in
        let stays = version_stays bytes accepted_four IsFour (λ no. no) next_four (four_turn bytes accepted_four four.0) is.places is.last is.layout in
        rw is.stopped (auth_stop (source_of_ip (parts_of bytes is.places).ip) is.last stays.1)

module _ (bytes : List ℕ) (accepted : refusal ipv6_slice_form bytes ≡ None) where
  as_six : ip_version bytes ≡ 6
  as_six =
      let six : (ip_version bytes == 6) ≡ true = six_or (ip_version bytes == 6) _ (rw (head_byte 40 bytes (omega arith)) at (no_early ipv6_slice_form bytes accepted)) in
      grind (arith, nat_tests)

  pub accepted_six : refusal ip_slice_form bytes ≡ None
  accepted_six =
      let six = as_six in
      let there : 40 + 0 ≤ length bytes = has_header ipv6_slice_form bytes accepted in
      let first : nat_lt (length bytes) 1 ≡ false = grind (arith, nat_tests) in
      let whole : nat_lt (length bytes) 40 ≡ false = grind (arith, nat_tests) in
      rw (head_byte 1 bytes (omega arith), first, six, whole) refl

  -- a packet of version 6
  pub is_no_four : (stop : Option (HeaderSliceError × Layer)) (packet : LaxIpv4Slice) → IsIpPacket bytes (ip.Ipv4 packet) stop → ⊥
  is_no_four stop packet is =
      let six = as_six in
      let stays = version_stays bytes accepted_six IsSix (λ no. no) next_six (six_turn bytes accepted_six six) is.places is.last is.layout in
      let version : version_of (parts_of bytes is.places).ip ≡ Some false = rw six at (stays.0) in
      no_four bytes (parts_of bytes is.places).held.auth (parts_of bytes is.places).ip (parts_of bytes is.places).arp (ipv4_bytes packet) (ipv4_auth packet) (ipv4_payload packet)
      version is.part
