-- The chain of extension headers of an IPv6 packet by itself: the same headers as in the packet's frame.
use Rattle.std.proofs.Common.{◌≡◌, ℕ, ◌+◌, ◌-◌, ◌<◌, ◌≤◌, Bool, true, false, List, [], ◌∷◌, length, take, drop, Option, Some, None, refl, sym, ap, ◌∙◌, arith}
use Rattle.std.specs.Prelude.{if◌then◌else◌, slice_range, slice_index}
use Rattle.std.proofs.lemmas.List.{length-take, take-take}
use Rattle.ether_link.specs.Form.{header_len, refusal}
use Rattle.ether_link.specs.Layout.{header, place_of, IsLayoutFrom, AreNested}
use Rattle.ether_link.specs.declared.layout.PartKind.{PartKind}
use Rattle.ether_link.specs.declared.layout.PartKind.TheVariants as kind
use Rattle.ether_link.specs.declared.layout.Place.{Place}
use Rattle.ether_link.specs.declared.layout.Stop.{Stop}
use Rattle.ether_link.specs.declared.layout.Turn.{Turn}
use Rattle.ether_link.proofs.FormLemmas.{has_header, same_part, kept_part}
use Rattle.ether_link.proofs.RangeLemmas.{range_range}
use Rattle.ether_ip.specs.ExtensionGrammar.{extension_kind, fragmented_behind, turn_to}
use Rattle.ether_ip.specs.Held.{is_extension}
use Rattle.ether_ip.specs.PacketGrammar.{packet_grammar, part_turn, transport_kind, is_icmp}
use Rattle.ether_ip.specs.declared.err.packet.SliceError.{SliceError}
use Rattle.ether_ip.proofs.PacketLemmas.{packets_orderly, packets_cuttable}

-- the same turn, behind no link extensions
abbrev pub zeroed : Option Turn → Option Turn
zeroed None = None
zeroed (Some turn) = Some (record { kind = turn.kind; link_exts = 0; fragmented = turn.fragmented })

turn_zero : (count : ℕ) (fragmented : Bool) (part : Option PartKind) → turn_to 0 fragmented part ≡ zeroed (turn_to count fragmented part)
turn_zero count fragmented None = refl
turn_zero count fragmented (Some part) = refl

pub part_zero : (count : ℕ) (fragmented : Bool) (extension : Option PartKind) (number : ℕ)
    → part_turn 0 fragmented extension number ≡ zeroed (part_turn count fragmented extension number)
part_zero count fragmented (Some part) number = refl
part_zero count true None number = refl
part_zero count false None number = turn_zero count false (transport_kind number)

next_zero : (part : PartKind) (count : ℕ) (fragmented : Bool) (bytes : List ℕ) → is_extension part ≡ true
    → packet_grammar.next (record { kind = part; link_exts = 0; fragmented = fragmented }) bytes
    ≡ zeroed (packet_grammar.next (record { kind = part; link_exts = count; fragmented = fragmented }) bytes)
next_zero kind.HopByHop count fragmented bytes is = part_zero count fragmented (extension_kind (slice_index bytes 0)) (slice_index bytes 0)
next_zero kind.LateHopByHop count fragmented bytes is = part_zero count fragmented (extension_kind (slice_index bytes 0)) (slice_index bytes 0)
next_zero kind.Route count fragmented bytes is = part_zero count fragmented (extension_kind (slice_index bytes 0)) (slice_index bytes 0)
next_zero kind.DestinationOptions count fragmented bytes is = part_zero count fragmented (extension_kind (slice_index bytes 0)) (slice_index bytes 0)
next_zero kind.Ipv6Auth count fragmented bytes is = part_zero count fragmented (extension_kind (slice_index bytes 0)) (slice_index bytes 0)
next_zero kind.Fragment count fragmented bytes is =
    part_zero count (fragmented_behind kind.Fragment fragmented bytes) (extension_kind (slice_index bytes 0)) (slice_index bytes 0)
next_zero kind.Ipv4Auth count fragmented bytes is = part_zero count fragmented None (slice_index bytes 0)
next_zero other count fragmented bytes is = absurd (cc)

-- an extension header takes no note of where the bytes end, and says nothing of it
ext_open : (part : PartKind) → is_extension part ≡ true → is_icmp part ≡ false
ext_open kind.Icmpv4 is = absurd (cc)
ext_open kind.Icmpv6 is = absurd (cc)
ext_open other is = refl

ext_silent : (part : PartKind) (header : List ℕ) → is_extension part ≡ true → packet_grammar.announced part header ≡ None
ext_silent kind.HopByHop header is = refl
ext_silent kind.LateHopByHop header is = refl
ext_silent kind.Route header is = refl
ext_silent kind.DestinationOptions header is = refl
ext_silent kind.Fragment header is = refl
ext_silent kind.Ipv4Auth header is = refl
ext_silent kind.Ipv6Auth header is = refl
ext_silent other header is = absurd (cc)

-- the places of the extension headers that some places begin with, counted from a place on, and where they end
abbrev pub chain_places : ℕ → ℕ → List Place → List Place
chain_places a to [] = []
chain_places a to (p ∷ ps) =
    if is_extension p.kind then (record { kind = p.kind; start = p.start - a; body = p.body - a; end = to - a } ∷ chain_places a to ps) else []

abbrev pub chain_end : ℕ → List Place → ℕ
chain_end at [] = at
chain_end at (p ∷ ps) = if is_extension p.kind then chain_end p.body ps else at

end_by : (at end : ℕ) (p : Place) (ps : List Place) → at < p.body → p.body ≤ p.end → p.end ≤ end
    → (p.body ≤ chain_end p.body ps) × (chain_end p.body ps ≤ p.end)
    → (b : Bool) → (at ≤ (if b then chain_end p.body ps else at)) × ((if b then chain_end p.body ps else at) ≤ end)
end_by at end p ps order window within rest true = let low = rest.0 in let high = rest.1 in (omega arith, omega arith)
end_by at end p ps order window within rest false = (omega arith, omega arith)

pub chain_within : (ps : List Place) (at end : ℕ) → at ≤ end → AreNested at end ps → (at ≤ chain_end at ps) × (chain_end at ps ≤ end)
chain_within [] at end order inside = (omega arith, order)
chain_within (p ∷ ps) at end order inside =
    end_by at end p ps inside.1 inside.2 inside.3 (chain_within ps p.body p.end inside.2 inside.4) (is_extension p.kind)

-- no part begins where no bytes are left
nothing_left : (bytes : List ℕ) (at : ℕ) (turn : Turn) (answer : Option SliceError) → refusal (packet_grammar.form_of turn.kind) (slice_range bytes at at) ≡ answer
    → (stop : Option (Stop SliceError)) × IsLayoutFrom packet_grammar bytes (Some turn) at at [] stop
nothing_left bytes at turn (Some why) is = (Some (record { kind = turn.kind; start = at; refusal = why }), (why, is, refl))
nothing_left bytes at turn None is =
    let there = has_header (packet_grammar.form_of turn.kind) (slice_range bytes at at) is in
    let positive = packets_orderly.positive turn.kind (slice_range bytes at at) is in
    let none : length (slice_range bytes at at) ≡ 0 = omega (arith, length-take (at - at) (drop at bytes)) in
    absurd (omega arith)

empty_layout : (bytes : List ℕ) (at : ℕ) (turn : Option Turn) → (stop : Option (Stop SliceError)) × IsLayoutFrom packet_grammar bytes turn at at [] stop
empty_layout bytes at None = (None, refl)
empty_layout bytes at (Some turn) = nothing_left bytes at turn (refusal (packet_grammar.form_of turn.kind) (slice_range bytes at at)) refl

place_in_chain : (part : PartKind) (bytes whole : List ℕ) (start body to a : ℕ) → is_extension part ≡ true
    → header_len (packet_grammar.form_of part) bytes ≡ header_len (packet_grammar.form_of part) whole
    → body ≡ start + header_len (packet_grammar.form_of part) whole → a ≤ start
    → record { kind = part; start = start - a; body = body - a; end = to - a } ≡ place_of packet_grammar part bytes (start - a) (to - a)
place_in_chain part bytes whole start body to a ext same is begins =
    let at_body : body - a ≡ start - a + header_len (packet_grammar.form_of part) bytes = omega arith in
    rw (ext_silent part (header packet_grammar part bytes) ext, at_body) refl

module _ (frame : List ℕ) (a to : ℕ) where
  abbrev pub HasChain : Option Turn → ℕ → List Place → Type 0
  HasChain turn start places =
      (stop : Option (Stop SliceError)) × IsLayoutFrom packet_grammar (slice_range frame a to) turn (start - a) (to - a) places stop

  empty_chain : (turn : Option Turn) (start : ℕ) → to ≡ start → HasChain turn start []
  empty_chain turn start is = rw is (empty_layout (slice_range frame a start) (start - a) turn)

  one_header : (turn : Turn) (p : Place) (ps : List Place) (start end : ℕ) → a ≤ start → p.body ≤ to → to ≤ end
      → refusal (packet_grammar.form_of turn.kind) (slice_range frame start end) ≡ None
      → p ≡ place_of packet_grammar turn.kind (slice_range frame start end) start end
      → is_extension turn.kind ≡ true
      → HasChain (zeroed (packet_grammar.next turn (header packet_grammar turn.kind (slice_range frame start end)))) p.body ps
      → HasChain (zeroed (Some turn)) start (record { kind = p.kind; start = p.start - a; body = p.body - a; end = to - a } ∷ ps)
  one_header turn p ps start end begins inside within accepted is ext rest =
      let body : p.body ≡ start + header_len (packet_grammar.form_of turn.kind) (slice_range frame start end) = ap (λ (q : Place). q.body) is in
      let at_start : p.start ≡ start = ap (λ (q : Place). q.start) is in
      let at_kind : p.kind ≡ turn.kind = ap (λ (q : Place). q.kind) is in
      let begin : a + (start - a) ≡ start = omega arith in
      let ends : a + (to - a) ≡ to = omega arith in
      let moved : slice_range (slice_range frame a to) (start - a) (to - a) ≡ slice_range frame start to
      = rw (begin, ends) at (range_range frame a to (start - a) (to - a) (omega arith)) in
      let short : take (to - start) (slice_range frame start end) ≡ slice_range frame start to = take-take (to - start) (end - start) (drop start frame) (omega arith) in
      let bytes = moved ∙ sym short in
      let open_end = packets_cuttable.open_end turn.kind (take (packet_grammar.form_of turn.kind).least (slice_range frame start end)) (ext_open turn.kind ext) in
      let accepted_there = kept_part (packet_grammar.form_of turn.kind) (to - start) (slice_range frame start end) open_end accepted (omega arith) in
      let same = same_part (packet_grammar.form_of turn.kind) (to - start) (slice_range frame start end) open_end accepted_there in
      let len = same.same_len in
      let len_there : header_len (packet_grammar.form_of turn.kind) (slice_range (slice_range frame a to) (start - a) (to - a))
      ≡ header_len (packet_grammar.form_of turn.kind) (slice_range frame start end)
      = ap (header_len (packet_grammar.form_of turn.kind)) bytes ∙ sym same.same_len in
      let place = place_in_chain turn.kind (slice_range (slice_range frame a to) (start - a) (to - a)) (slice_range frame start end) start p.body to a
      ext len_there body begins in
      let header_there : header packet_grammar turn.kind (slice_range (slice_range frame a to) (start - a) (to - a))
      ≡ header packet_grammar turn.kind (slice_range frame start end)
      = ap (header packet_grammar turn.kind) bytes ∙ same.same_header in
      let next = next_zero turn.kind turn.link_exts turn.fragmented (header packet_grammar turn.kind (slice_range frame start end)) ext in
      (rest.0, (rw bytes accepted_there, rw (at_kind, at_start) place, rw (header_there, next) (rest.1)))

  chain_by : (p : Place) (ps : List Place) (turn : Turn) (start end : ℕ) → a ≤ start → start ≤ end → AreNested start end (p ∷ ps)
      → refusal (packet_grammar.form_of turn.kind) (slice_range frame start end) ≡ None
      → p ≡ place_of packet_grammar turn.kind (slice_range frame start end) start end
      → (to ≡ chain_end p.body ps
      → HasChain (zeroed (packet_grammar.next turn (header packet_grammar turn.kind (slice_range frame start end)))) p.body (chain_places a to ps))
      → (b : Bool) → is_extension p.kind ≡ b → to ≡ (if b then chain_end p.body ps else start)
      → HasChain (zeroed (Some turn)) start (if b then (record { kind = p.kind; start = p.start - a; body = p.body - a; end = to - a } ∷ chain_places a to ps) else [])
  chain_by p ps turn start end begins order inside accepted is rest false ext ends = empty_chain (zeroed (Some turn)) start ends
  chain_by p ps turn start end begins order inside accepted is rest true ext ends =
      let within = chain_within ps p.body p.end inside.2 inside.4 in
      let low = within.0 in
      let high = within.1 in
      let last = inside.3 in
      let at_kind : p.kind ≡ turn.kind = ap (λ (q : Place). q.kind) is in
      one_header turn p (chain_places a to ps) start end begins (omega arith) (omega arith) accepted is (rw at_kind at ext) (rest ends)

  -- the chain by itself has the same headers
  pub chain_layout : (ps : List Place) (turn : Option Turn) (start end : ℕ) (stop : Option (Stop SliceError)) → a ≤ start → start ≤ end
      → IsLayoutFrom packet_grammar frame turn start end ps stop → AreNested start end ps → to ≡ chain_end start ps
      → HasChain (zeroed turn) start (chain_places a to ps)
  chain_layout [] turn start end stop begins order right inside ends = empty_chain (zeroed turn) start ends
  chain_layout (p ∷ ps) None start end stop begins order right inside ends = absurd right
  chain_layout (p ∷ ps) (Some turn) start end stop begins order right inside ends =
      let first = inside.1 in
      chain_by p ps turn start end begins order inside right.0 right.1
      (λ there. chain_layout ps (packet_grammar.next turn (header packet_grammar turn.kind (slice_range frame start end))) p.body p.end stop
      (omega arith) inside.2 right.2 inside.4 there)
      (is_extension p.kind) refl ends
