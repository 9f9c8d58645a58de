-- The two dissectors agree where each extension header finds its place free.
use Rattle.std.proofs.Common.{◌≡◌, ℕ, ◌+◌, ◌-◌, ◌<◌, ◌≤◌, Bool, true, false, List, [], ◌∷◌, length, drop, Option, Some, None, refl, sym, ap, ◌∙◌, arith}
use Rattle.std.specs.Prelude.{◌==◌, if◌then◌else◌, slice_range, slice_index}
use Rattle.std.proofs.lemmas.Bool.Decides.{nat_tests}
use Rattle.std.proofs.lemmas.List.{length-take, length-drop}
use Rattle.ether_link.specs.Form.{header_len}
use Rattle.ether_link.specs.Layout.{header, IsLayoutFrom, AreNested}
use Rattle.ether_link.specs.Places.{header_at}
use Rattle.ether_link.specs.declared.len_source.LenSource.{LenSource}
use Rattle.ether_link.specs.declared.layout.PartKind.{PartKind}
use Rattle.ether_link.specs.declared.layout.PartKind.TheVariants as kind
use Rattle.ether_link.specs.declared.layout.Place.{Place}
use Rattle.ether_link.specs.declared.layout.Stop.{Stop}
use Rattle.ether_link.specs.declared.layout.Turn.{Turn}
use Rattle.ether_link.proofs.FormLemmas.{has_header}
use Rattle.ether_link.proofs.RangeLemmas.{range_range, header_is}
use Rattle.ether_ip.specs.ExtensionGrammar.{first_extension_kind}
use Rattle.ether_ip.specs.Extensions.{bytes_of_extension, extension_slice, fragmented_by}
use Rattle.ether_ip.specs.Held.{no_extensions, is_extension, is_taken, with_header, held_by, free_places, free_stop, extensions_of}
use Rattle.ether_ip.specs.IpHeaders.{is_ipv4}
use Rattle.ether_ip.specs.PacketGrammar.{packet_grammar, part_turn}
use Rattle.ether_ip.specs.Transport.{payload_of_transport}
use Rattle.ether_ip.specs.declared.err.packet.SliceError.{SliceError}
use Rattle.ether_ip.specs.declared.err.packet.SliceError.TheVariants.{Len}
use Rattle.ether_ip.specs.declared.ip.ext_places.ExtensionPlaces.{ExtensionPlaces}
use Rattle.ether_ip.specs.declared.ip.exts.Ipv6ExtensionSlice.{Ipv6ExtensionSlice}
use Rattle.ether_ip.specs.declared.transport.TransportSlice.{TransportSlice}
use Rattle.ether_ip.specs.declared.transport.TransportSlice.TheVariants.{Udp, Tcp, Icmpv4, Icmpv6}
use Rattle.ether_lax.specs.Agreement.{AreFree, HoldsChain, AgreeStops, sourceless}
use Rattle.ether_lax.specs.Found.{Parts, with_part, parts_behind}
use Rattle.ether_lax.specs.Parts.{part_at, part_in, whole_at}
use Rattle.ether_lax.specs.Payloads.{bytes_of_carried, carried_in_transport}
use Rattle.ether_lax.specs.Sliced.{chain_at}
use Rattle.ether_lax.specs.Stops.{placed, told}
use Rattle.ether_lax.specs.declared.found.FoundIp.{FoundIp}
use Rattle.ether_lax.specs.declared.found.IpHeader.{IpHeader}
use Rattle.ether_lax.specs.declared.found.IpHeader.TheVariants.{V4, V6}
use Rattle.ether_lax.specs.declared.step.Part.TheVariants as part
use Rattle.ether_lax.proofs.ChainLemmas.{zeroed, part_zero, chain_places, chain_end, chain_within, chain_layout}
use Rattle.ether_lax.proofs.FoundLemmas.{held_with}
use Rattle.ether_lax.proofs.RankLemmas.{rank, behind, AreParts}
use Rattle.ether_lax.proofs.CutPacketLemmas.{none_behind}

-- nothing is left out where all places are free
pub free_all : (frame : List ℕ) (places : List Place) (held : ExtensionPlaces) (stop : Option (Stop SliceError)) → AreFree frame held places stop
    → (free_places frame held places ≡ places) × (free_stop frame held places stop ≡ stop)
free_all frame [] held None free = (refl, refl)
free_all frame [] held (Some stop) free = (refl, rw free refl)
free_all frame (p ∷ ps) held stop free =
    let rest = free_all frame ps (with_header p.kind (header_at frame p) held) stop free.1 in
    (rw (free.0) (ap (λ more. p ∷ more) rest.0), rw (free.0) (rest.1))

-- stops differ by the sources of lengths alone
placed_same : (source other : LenSource) (at : ℕ) (error : SliceError) → sourceless (placed source at error) ≡ sourceless (placed other at error)
placed_same source other at (Len error) = refl
placed_same source other at error = refl

pub told_same : (source other : PartKind → LenSource) (stop : Option (Stop SliceError)) → AgreeStops (told source stop) (told other stop)
told_same source other None = tt
told_same source other (Some stop) = (placed_same (source stop.kind) (other stop.kind) stop.start stop.refusal, refl)

pub carried_same : (t : TransportSlice) (incomplete : Bool) → bytes_of_carried (carried_in_transport t incomplete) ≡ payload_of_transport t
carried_same (Udp bytes) incomplete = refl
carried_same (Tcp bytes) incomplete = refl
carried_same (Icmpv4 bytes) incomplete = refl
carried_same (Icmpv6 bytes) incomplete = refl

-- a header in the chain by itself
module _ (frame : List ℕ) (a to : ℕ) where
  abbrev there : Place → Place
  there p = record { kind = p.kind; start = p.start - a; body = p.body - a; end = to - a }

  header_there : (p : Place) → a ≤ p.start → p.start ≤ p.body → p.body ≤ to → header_at (slice_range frame a to) (there p) ≡ header_at frame p
  header_there p begins order within =
      let begin : a + (p.start - a) ≡ p.start = omega arith in
      let ends : a + (p.body - a) ≡ p.body = omega arith in
      rw (begin, ends) at (range_range frame a to (p.start - a) (p.body - a) (omega arith))

  free_by : (p : Place) (ps : List Place) (held : ExtensionPlaces) → is_taken p.kind held ≡ false → header_at (slice_range frame a to) (there p) ≡ header_at frame p
      → AreFree (slice_range frame a to) (with_header p.kind (header_at frame p) held) (chain_places a to ps) None
      → AreFree (slice_range frame a to) held (there p ∷ chain_places a to ps) None
  free_by p ps held free same rest = (free, rw same rest)

  later : (p : Place) (start : ℕ) → start < p.body → a ≤ start → a ≤ p.body
  later p start order begins = omega arith

  free_if : (p : Place) (ps : List Place) (start end : ℕ) (held : ExtensionPlaces) → a ≤ start → AreNested start end (p ∷ ps) → is_taken p.kind held ≡ false
      → (chain_end p.body ps ≤ to → AreFree (slice_range frame a to) (with_header p.kind (header_at frame p) held) (chain_places a to ps) None)
      → (b : Bool) → (if b then chain_end p.body ps else start) ≤ to
      → AreFree (slice_range frame a to) held (if b then (there p ∷ chain_places a to ps) else []) None
  free_if p ps start end held begins inside free rest true within =
      let at_start = inside.0 in
      let order = inside.1 in
      let low = (chain_within ps p.body p.end inside.2 inside.4).0 in
      free_by p ps held free (header_there p (omega arith) (omega arith) (omega arith)) (rest within)
  free_if p ps start end held begins inside free rest false within = tt

  pub chain_free : (ps : List Place) (start end : ℕ) (held : ExtensionPlaces) (stop : Option (Stop SliceError)) → a ≤ start → start ≤ end → AreNested start end ps
      → chain_end start ps ≤ to → AreFree frame held ps stop → AreFree (slice_range frame a to) held (chain_places a to ps) None
  chain_free [] start end held stop begins order inside within free = tt
  chain_free (p ∷ ps) start end held stop begins order inside within free =
      free_if p ps start end held begins inside free.0 (λ there_is. chain_free ps p.body p.end (with_header p.kind (header_at frame p) held) stop
      (later p start inside.1 begins) inside.2 inside.4 there_is free.1) (is_extension p.kind) within

-- what an extension header and a transport header leave
abbrev moved_ip : Place → Ipv6ExtensionSlice → FoundIp → FoundIp
moved_ip p ext ip = record ip {
  last = p;
  number = record { 0 = slice_index (bytes_of_extension ext) 0 };
  fragmented = fragmented_by ip.fragmented ext;
}

ext_found : (frame : List ℕ) (p : Place) (w : Parts) (ip : FoundIp) (part_kind : PartKind) (header whole : List ℕ) → is_extension part_kind ≡ true → w.ip ≡ Some ip
    → (with_part frame p (part_in part_kind header whole) w).ip ≡ Some (moved_ip p (extension_slice part_kind header) ip)
ext_found frame p w ip kind.HopByHop bytes whole ext is = rw is refl
ext_found frame p w ip kind.LateHopByHop bytes whole ext is = rw is refl
ext_found frame p w ip kind.Route bytes whole ext is = rw is refl
ext_found frame p w ip kind.DestinationOptions bytes whole ext is = rw is refl
ext_found frame p w ip kind.Fragment bytes whole ext is = rw is refl
ext_found frame p w ip kind.Ipv4Auth bytes whole ext is = rw is refl
ext_found frame p w ip kind.Ipv6Auth bytes whole ext is = rw is refl
ext_found frame p w ip other bytes whole ext is = absurd (cc)

ext_behind : (part_kind : PartKind) (header : List ℕ) → is_extension part_kind ≡ true → 3 ≤ behind part_kind header
ext_behind kind.HopByHop header ext = omega arith
ext_behind kind.LateHopByHop header ext = omega arith
ext_behind kind.Route header ext = omega arith
ext_behind kind.DestinationOptions header ext = omega arith
ext_behind kind.Fragment header ext = omega arith
ext_behind kind.Ipv4Auth header ext = omega arith
ext_behind kind.Ipv6Auth header ext = omega arith
ext_behind other header ext = absurd (cc)

last_part : (frame : List ℕ) (p : Place) (w : Parts) (r : ℕ) (part_kind : PartKind) (header whole : List ℕ) → is_extension part_kind ≡ false → 3 ≤ r → r ≤ rank part_kind
    → ((with_part frame p (part_in part_kind header whole) w).ip ≡ w.ip) × (behind part_kind header ≡ 6) × (with_header part_kind header w.held ≡ w.held)
last_part frame p w r kind.Udp header whole no_ext high ranked = (refl, refl, refl)
last_part frame p w r kind.Tcp header whole no_ext high ranked = (refl, refl, refl)
last_part frame p w r kind.Icmpv4 header whole no_ext high ranked = (refl, refl, refl)
last_part frame p w r kind.Icmpv6 header whole no_ext high ranked = (refl, refl, refl)
last_part frame p w r kind.Ethernet2 header whole no_ext high ranked = absurd (omega arith)
last_part frame p w r kind.LinuxSll header whole no_ext high ranked = absurd (omega arith)
last_part frame p w r kind.Vlan header whole no_ext high ranked = absurd (omega arith)
last_part frame p w r kind.Macsec header whole no_ext high ranked = absurd (omega arith)
last_part frame p w r kind.Arp header whole no_ext high ranked = absurd (omega arith)
last_part frame p w r kind.Ip header whole no_ext high ranked = absurd (omega arith)
last_part frame p w r other header whole no_ext high ranked = absurd (cc)

-- how far the extension headers behind an IP header reach, and the same ones in their places
pub record IsChainFound (frame : List ℕ) (a to : ℕ) (ip : FoundIp) (ends : ℕ) (held : ExtensionPlaces) (places : List Place) (final : Parts) : Type 0 where
  pub found : FoundIp
  pub is : final.ip ≡ Some found
  pub header : found.header ≡ ip.header
  pub first : found.first ≡ ip.first
  pub last : found.last.body ≡ ends
  pub held_is : final.held ≡ held_by (slice_range frame a to) held (chain_places a to places)

module _ (frame : List ℕ) (a to : ℕ) where
  found_if : (p : Place) (ps : List Place) (r start end : ℕ) (w : Parts) (ip : FoundIp) → a ≤ start → 3 ≤ r → AreParts frame r start end (p ∷ ps)
      → AreNested start end (p ∷ ps) → w.ip ≡ Some ip → ip.last.body ≡ start
      → ((next : FoundIp) → (with_part frame p (part_at frame p) w).ip ≡ Some next → next.last.body ≡ p.body → chain_end p.body ps ≤ to
      → 3 ≤ behind p.kind (header_at frame p)
      → IsChainFound frame a to next (chain_end p.body ps) (with_part frame p (part_at frame p) w).held ps (parts_behind frame w (p ∷ ps)))
      → (b : Bool) → is_extension p.kind ≡ b → (if b then chain_end p.body ps else start) ≤ to
      → (final : Parts) → final ≡ parts_behind frame w (p ∷ ps)
      → (found : FoundIp) × (final.ip ≡ Some found) × (found.header ≡ ip.header) × (found.first ≡ ip.first)
      × (found.last.body ≡ (if b then chain_end p.body ps else start))
      × (final.held ≡ held_by (slice_range frame a to) w.held (if b then (there frame a to p ∷ chain_places a to ps) else []))
  found_if p ps r start end w ip begins high parts inside is at_start again true ext within final final_is =
      let one = ext_found frame p w ip p.kind (header_at frame p) (whole_at frame p) ext is in
      let next = moved_ip p (extension_slice p.kind (header_at frame p)) ip in
      let low = (chain_within ps p.body p.end inside.2 inside.4).0 in
      let order = inside.1 in
      let begin = inside.0 in
      let rest = again next one refl within (ext_behind p.kind (header_at frame p) ext) in
      let same = header_there frame a to p (omega arith) (omega arith) (omega arith) in
      let moved = ap (λ h. held_by (slice_range frame a to) (with_header p.kind h w.held) (chain_places a to ps)) same in
      let kept = ap (λ held. held_by (slice_range frame a to) held (chain_places a to ps)) (held_with frame p w) in
      (rest.found, rw final_is (rest.is), rest.header, rest.first, rest.last, rw final_is (rest.held_is ∙ kept ∙ sym moved))
  found_if p ps r start end w ip begins high parts inside is at_start again false ext within final final_is =
      let one = last_part frame p w r p.kind (header_at frame p) (whole_at frame p) ext high parts.0.ranked in
      let none = none_behind frame p.body p.end ps (rw (one.1) at (parts.1)) in
      (ip, rw (final_is, none) (one.0 ∙ is), refl, refl, at_start, rw (final_is, none) (held_with frame p w ∙ one.2))

  pub chain_found : (ps : List Place) (r start end : ℕ) (w : Parts) (ip : FoundIp) → a ≤ start → 3 ≤ r → AreParts frame r start end ps → AreNested start end ps
      → w.ip ≡ Some ip → ip.last.body ≡ start → chain_end start ps ≤ to
      → IsChainFound frame a to ip (chain_end start ps) w.held ps (parts_behind frame w ps)
  chain_found [] r start end w ip begins high parts inside is at_start within =
      record { found = ip; is = is; header = refl; first = refl; last = at_start; held_is = refl }
  chain_found (p ∷ ps) r start end w ip begins high parts inside is at_start within =
      let got = found_if p ps r start end w ip begins high parts inside is at_start
      (λ next next_is at_body room more. chain_found ps (behind p.kind (header_at frame p)) p.body p.end (with_part frame p (part_at frame p) w) next
      (later frame a to p start inside.1 begins) more parts.1 inside.4 next_is at_body room)
      (is_extension p.kind) refl within (parts_behind frame w (p ∷ ps)) refl in
      record { found = got.0; is = got.1; header = got.2; first = got.3; last = got.4; held_is = got.5 }

-- no extension header, where none has bytes
none_if : (first : Place) (more : List Place) (start body ends : ℕ) → body ≤ ends → start < body → (b : Bool) → (if b then ends else start) ≤ start
    → (if b then (first ∷ more) else []) ≡ []
none_if first more start body ends low order true none = absurd (omega arith)
none_if first more start body ends low order false none = refl

chain_none : (a to start end : ℕ) (ps : List Place) → AreNested start end ps → chain_end start ps ≤ start → chain_places a to ps ≡ []
chain_none a to start end [] inside none = refl
chain_none a to start end (p ∷ ps) inside none =
    none_if (record { kind = p.kind; start = p.start - a; body = p.body - a; end = to - a }) (chain_places a to ps) start p.body (chain_end p.body ps)
    (chain_within ps p.body p.end inside.2 inside.4).0 inside.1 (is_extension p.kind) none

-- the chain of an IPv6 packet by itself
module _ (frame : List ℕ) (header : List ℕ) (ps : List Place) (a end : ℕ) (fragmented : Bool) where
  abbrev to : ℕ
  to = chain_end a ps

  chain_holds_by : (final : ExtensionPlaces) (stop : Option (Stop SliceError)) → to ≤ length frame → a ≤ to → AreNested a end ps
      → IsLayoutFrom packet_grammar (slice_range frame a to) (part_turn 0 false (first_extension_kind (slice_index header 6)) (slice_index header 6)) 0 (to - a)
      (chain_places a to ps) stop
      → AreFree (slice_range frame a to) no_extensions (chain_places a to ps) None
      → final ≡ held_by (slice_range frame a to) no_extensions (chain_places a to ps)
      → (b : Bool) → (length (slice_range frame a to) == 0) ≡ b
      → HoldsChain (record { first = if b then None else Some (record { 0 = slice_index header 6 }); fragmented = fragmented; bytes = slice_range frame a to })
      (extensions_of final)
  chain_holds_by final stop within order inside right free final_is true empty =
      let there : length (slice_range frame a to) ≡ to - a = omega (arith, length-take (to - a) (drop a frame), length-drop a frame) in
      let none : length (slice_range frame a to) ≡ 0 = grind (arith, nat_tests) in
      let no_places = chain_none a to a end ps inside (omega arith) in
      record { places = []; stop = None; layout = refl; free = tt; holds = ap extensions_of (rw no_places at final_is) }
  chain_holds_by final stop within order inside right free final_is false some =
      let there : length (slice_range frame a to) ≡ to - a = omega (arith, length-take (to - a) (drop a frame), length-drop a frame) in
      record { places = chain_places a to ps; stop = stop; layout = rw there right; free = free; holds = ap extensions_of final_is }

abbrev is_ip_kind : PartKind → Bool
is_ip_kind kind.Ip = true
is_ip_kind other = false

ip_kind : (part_kind : PartKind) → is_ip_kind part_kind ≡ true → part_kind ≡ kind.Ip
ip_kind kind.Ip is = refl
ip_kind other is = absurd (cc)

none_ip : (frame : List ℕ) (p : Place) (w : Parts) (part_kind : PartKind) (header whole : List ℕ) → is_ip_kind part_kind ≡ false → w.ip ≡ None
    → (with_part frame p (part_in part_kind header whole) w).ip ≡ None
none_ip frame p w kind.Ethernet2 header whole other_kind is = is
none_ip frame p w kind.LinuxSll header whole other_kind is = is
none_ip frame p w kind.Vlan header whole other_kind is = is
none_ip frame p w kind.Macsec header whole other_kind is = is
none_ip frame p w kind.Arp header whole other_kind is = is
none_ip frame p w kind.Ip header whole other_kind is = absurd (cc)
none_ip frame p w kind.Udp header whole other_kind is = is
none_ip frame p w kind.Tcp header whole other_kind is = is
none_ip frame p w kind.Icmpv4 header whole other_kind is = is
none_ip frame p w kind.Icmpv6 header whole other_kind is = is
none_ip frame p w other header whole other_kind is = rw is refl

low_held : (part_kind : PartKind) (header : List ℕ) (held : ExtensionPlaces) (r : ℕ) → is_ip_kind part_kind ≡ false → r ≤ rank part_kind
    → (r ≤ 2 → held ≡ no_extensions) → behind part_kind header ≤ 2 → with_header part_kind header held ≡ no_extensions
low_held kind.Ethernet2 header held r other_kind ranked is low = is (omega arith)
low_held kind.LinuxSll header held r other_kind ranked is low = is (omega arith)
low_held kind.Vlan header held r other_kind ranked is low = is (omega arith)
low_held kind.Macsec header held r other_kind ranked is low = is (omega arith)
low_held kind.Ip header held r other_kind ranked is low = absurd (cc)
low_held other header held r other_kind ranked is low = absurd (omega arith)

version_at : (frame : List ℕ) (p : Place) (w : Parts) (part_kind : PartKind) (header whole : List ℕ) (b : Bool) → part_kind ≡ kind.Ip → is_ipv4 header ≡ b
    → with_part frame p (part_in part_kind header whole) w ≡ with_part frame p (if b then part.Ipv4 header else part.Ipv6 header) w
version_at frame p w part_kind header whole b is is_b = rw (is, is_b) refl

behind_at : (part_kind : PartKind) (header : List ℕ) (b : Bool) → part_kind ≡ kind.Ip → is_ipv4 header ≡ b → 3 ≤ behind part_kind header
behind_at part_kind header true is is_b = rw (is, is_b) (omega arith)
behind_at part_kind header false is is_b = rw (is, is_b) (omega arith)

next_at : (turn : Turn) (bytes : List ℕ) → turn.kind ≡ kind.Ip → is_ipv4 bytes ≡ false
    → packet_grammar.next turn bytes ≡ part_turn turn.link_exts false (first_extension_kind (slice_index bytes 6)) (slice_index bytes 6)
next_at turn bytes is six = rw (is, six) refl

some_same : {X : Type 0} (a b : X) (x : Option X) → x ≡ Some a → x ≡ Some b → a ≡ b
some_same a b x is other = cc

not_both : (a b : List ℕ) (header : IpHeader) → header ≡ V4 a → header ≡ V6 b → ⊥
not_both a b header is other = absurd (cc)

v6_same : (a b : List ℕ) (header : IpHeader) → header ≡ V6 a → header ≡ V6 b → a ≡ b
v6_same a b header is other = cc

-- the chain that a packet holds, and its headers in their places
abbrev ChainHolds : List ℕ → Parts → Type 0
ChainHolds frame final = (ip : FoundIp) (h : List ℕ) → final.ip ≡ Some ip → ip.header ≡ V6 h → HoldsChain (chain_at frame h ip) (extensions_of final.held)

module _ (frame : List ℕ) (p : Place) (ps : List Place) (turn : Turn) (start end : ℕ) (stop : Option (Stop SliceError)) (w : Parts)
    (is_ip : p.kind ≡ kind.Ip) (turn_ip : turn.kind ≡ kind.Ip) (within : end ≤ length frame)
    (none : w.held ≡ no_extensions) (inside : AreNested start end (p ∷ ps)) (ranked : AreParts frame (behind p.kind (header_at frame p)) p.body p.end ps)
    (right : IsLayoutFrom packet_grammar frame (packet_grammar.next turn (header_at frame p)) p.body p.end ps stop)
    (free : AreFree frame (with_part frame p (part_at frame p) w).held ps stop) where
  ends : ℕ
  ends = chain_end p.body ps

  reach : (p.body ≤ chain_end p.body ps) × (chain_end p.body ps ≤ p.end)
  reach = chain_within ps p.body p.end inside.2 inside.4

  held_none : (with_part frame p (part_at frame p) w).held ≡ no_extensions
  held_none = held_with frame p w ∙ (rw (is_ip, none) refl)

  chain_of_ip : (b : Bool) → is_ipv4 (header_at frame p) ≡ b → ChainHolds frame (parts_behind frame w (p ∷ ps))
  chain_of_ip true four = λ ip h is six.
      let w1 = version_at frame p w p.kind (header_at frame p) (whole_at frame p) true is_ip four in
      let first = ap (λ (parts : Parts). parts.ip) w1 in
      let found = chain_found frame p.body (chain_end p.body ps) ps (behind p.kind (header_at frame p)) p.body p.end (with_part frame p (part_at frame p) w) _
      (omega arith) (behind_at p.kind (header_at frame p) true is_ip four) ranked inside.4 first refl (omega arith) in
      let same = some_same found.found ip (parts_behind frame w (p ∷ ps)).ip found.is is in
      let header = ap (λ (x : FoundIp). x.header) same in
      absurd (not_both (header_at frame p) h ip.header (sym header ∙ found.header) six)
  chain_of_ip false four = λ ip h is six.
      let w1 = version_at frame p w p.kind (header_at frame p) (whole_at frame p) false is_ip four in
      let first = ap (λ (parts : Parts). parts.ip) w1 in
      let a = p.body in
      let to = chain_end p.body ps in
      let low = reach.0 in
      let high = reach.1 in
      let last = inside.3 in
      let found = chain_found frame p.body (chain_end p.body ps) ps (behind p.kind (header_at frame p)) p.body p.end (with_part frame p (part_at frame p) w) _
      (omega arith) (behind_at p.kind (header_at frame p) false is_ip four) ranked inside.4 first refl (omega arith) in
      let same = some_same found.found ip (parts_behind frame w (p ∷ ps)).ip found.is is in
      let header = ap (λ (x : FoundIp). x.header) same in
      let h_is = v6_same (header_at frame p) h ip.header (sym header ∙ found.header) six in
      let first_is : ip.first.body ≡ p.body = sym (ap (λ (x : FoundIp). x.first.body) same) ∙ ap (λ (q : Place). q.body) found.first in
      let last_is : ip.last.body ≡ chain_end p.body ps = sym (ap (λ (x : FoundIp). x.last.body) same) ∙ found.last in
      let chain = chain_layout frame p.body (chain_end p.body ps) ps (packet_grammar.next turn (header_at frame p)) p.body p.end stop
      (omega arith) inside.2 right inside.4 refl in
      let zero : p.body - p.body ≡ 0 = omega arith in
      let turn_is : zeroed (packet_grammar.next turn (header_at frame p))
      ≡ part_turn 0 false (first_extension_kind (slice_index (header_at frame p) 6)) (slice_index (header_at frame p) 6)
      = ap zeroed (next_at turn (header_at frame p) turn_ip four)
      ∙ sym (part_zero turn.link_exts false (first_extension_kind (slice_index (header_at frame p) 6)) (slice_index (header_at frame p) 6)) in
      let chain_right = rw (turn_is, zero) at (chain.1) in
      let free_there = chain_free frame p.body (chain_end p.body ps) ps p.body p.end (with_part frame p (part_at frame p) w).held stop (omega arith) inside.2 inside.4
      (omega arith) free in
      let holds = chain_holds_by frame (header_at frame p) ps p.body p.end ip.fragmented (parts_behind frame w (p ∷ ps)).held chain.0 (omega arith) low inside.4
      chain_right (rw held_none at free_there) (found.held_is ∙ ap (λ held. held_by (slice_range frame p.body (chain_end p.body ps)) held
      (chain_places p.body (chain_end p.body ps) ps)) held_none)
      (length (slice_range frame p.body (chain_end p.body ps)) == 0) refl in
      rw (first_is, last_is, ← h_is) holds

located_if : (frame : List ℕ) (p : Place) (ps : List Place) (turn : Turn) (r start end : ℕ) (stop : Option (Stop SliceError)) (w : Parts) → end ≤ length frame
    → IsLayoutFrom packet_grammar frame (Some turn) start end (p ∷ ps) stop → AreNested start end (p ∷ ps) → AreParts frame r start end (p ∷ ps)
    → w.ip ≡ None → (r ≤ 2 → w.held ≡ no_extensions) → AreFree frame w.held (p ∷ ps) stop
    → ((with_part frame p (part_at frame p) w).ip ≡ None → (behind p.kind (header_at frame p) ≤ 2 → (with_part frame p (part_at frame p) w).held ≡ no_extensions)
    → AreFree frame (with_part frame p (part_at frame p) w).held ps stop → ChainHolds frame (parts_behind frame w (p ∷ ps)))
    → (b : Bool) → is_ip_kind p.kind ≡ b → ChainHolds frame (parts_behind frame w (p ∷ ps))
located_if frame p ps turn r start end stop w within right inside ranked none held free again false is =
    let free_next = rw (← held_with frame p w) at (free.1) in
    again (none_ip frame p w p.kind (header_at frame p) (whole_at frame p) is none)
    (λ low. held_with frame p w ∙ low_held p.kind (header_at frame p) w.held r is ranked.0.ranked held low) free_next
located_if frame p ps turn r start end stop w within right inside ranked none held free again true is =
    let is_ip = ip_kind p.kind is in
    let at_kind : p.kind ≡ turn.kind = ap (λ (q : Place). q.kind) right.1 in
    let at_body : p.body ≡ start + header_len (packet_grammar.form_of turn.kind) (slice_range frame start end) = ap (λ (q : Place). q.body) right.1 in
    let there_is = has_header (packet_grammar.form_of turn.kind) (slice_range frame start end) right.0 in
    let front = header_is frame start end (header_len (packet_grammar.form_of turn.kind) (slice_range frame start end)) there_is in
    let same_header : header packet_grammar turn.kind (slice_range frame start end) ≡ header_at frame p = rw (inside.0, at_body) front in
    let rank_is = ranked.0.ranked in
    let ranks : rank p.kind ≡ 2 = ap rank is_ip in
    let free_next = rw (← held_with frame p w) at (free.1) in
    chain_of_ip frame p ps turn start end stop w is_ip (sym at_kind ∙ is_ip) within (held (omega arith)) inside ranked.1 (rw same_header at (right.2)) free_next
    (is_ipv4 (header_at frame p)) refl

pub located : (frame : List ℕ) (places : List Place) (turn : Option Turn) (r start end : ℕ) (stop : Option (Stop SliceError)) (w : Parts) → end ≤ length frame
    → IsLayoutFrom packet_grammar frame turn start end places stop → AreNested start end places → AreParts frame r start end places
    → w.ip ≡ None → (r ≤ 2 → w.held ≡ no_extensions) → AreFree frame w.held places stop → ChainHolds frame (parts_behind frame w places)
located frame [] turn r start end stop w within right inside ranked none held free = λ ip h is six. absurd (cc)
located frame (p ∷ ps) None r start end stop w within right inside ranked none held free = absurd right
located frame (p ∷ ps) (Some turn) r start end stop w within right inside ranked none held free =
    let last = inside.3 in
    located_if frame p ps turn r start end stop w within right inside ranked none held free
    (λ none_there held_there free_there. located frame ps (packet_grammar.next turn (header packet_grammar turn.kind (slice_range frame start end)))
    (behind p.kind (header_at frame p)) p.body p.end stop (with_part frame p (part_at frame p) w) (omega arith) right.2 inside.4 ranked.1
    none_there held_there free_there) (is_ip_kind p.kind) refl
