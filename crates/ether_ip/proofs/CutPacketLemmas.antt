-- The first bytes of a packet have the front of its parts.
use Rattle.std.proofs.Common.{◌≡◌, ℕ, ◌+◌, ◌-◌, ◌≤◌, min, Bool, true, false, List, [], ◌∷◌, length, take, drop, Option, refl, sym, ap, ◌∙◌, subst, arith}
use Rattle.std.specs.Prelude.{nat_lt, slice_range, if◌then◌else◌}
use Rattle.std.proofs.lemmas.Bool.Decides.{nat_tests}
use Rattle.std.proofs.lemmas.List.{length-take, take_all}
use Rattle.ether_link.specs.Places.{header_at}
use Rattle.ether_link.specs.Layout.{IsLayoutFrom, AreNested}
use Rattle.ether_link.specs.Cut.{cut_places, proper}
use Rattle.ether_link.specs.declared.layout.Place.{Place}
use Rattle.ether_link.specs.declared.layout.Stop.{Stop}
use Rattle.ether_link.specs.declared.layout.Turn.{Turn}
use Rattle.ether_link.proofs.CutLemmas.{cut}
use Rattle.ether_link.proofs.LayoutLemmas.{some, one, nested}
use Rattle.ether_link.proofs.RangeLemmas.{range_cut}
use Rattle.ether_ip.specs.CutPacket.{HasOnePacket, IsCutPart, AreCutParts, AreOrdered}
use Rattle.ether_ip.specs.PacketGrammar.{packet_grammar, is_icmp}
use Rattle.ether_ip.specs.declared.err.packet.SliceError.{SliceError}
use Rattle.ether_ip.proofs.PacketLemmas.{packets_orderly, packets_cuttable}

pub one_packet : (frame : List ℕ) (turn : Option Turn) (start end : ℕ) → HasOnePacket frame turn start end
one_packet frame turn start end = record {
  exists = some packet_grammar frame packets_orderly turn start end;
  unique = one packet_grammar frame turn start end;
}

header_kept : (frame : List ℕ) (n start body : ℕ) → start ≤ n → body ≤ n → slice_range (take n frame) start body ≡ slice_range frame start body
header_kept frame n start body begins within =
    let least : min body n ≡ body = omega arith in
    let short : length (slice_range frame start body) ≤ n - start = omega (arith, length-take (body - start) (drop start frame)) in
    let front = rw least at (range_cut frame n start body begins) in
    front ∙ take_all (n - start) (slice_range frame start body) short

part_kept : (frame : List ℕ) (n : ℕ) (place : Place) → place.start ≤ place.body → place.body ≤ n
    → IsCutPart frame n (record place { end = min place.end n }) place
part_kept frame n place order within = record {
  kind = refl;
  header = header_kept frame n place.start place.body (omega arith) within;
  window = range_cut frame n place.body place.end within;
}

by_room : (frame : List ℕ) (n : ℕ) (place : Place) (more : List Place) → place.start ≤ place.body → AreCutParts frame n (cut_places n more) more
    → (b : Bool) → nat_lt n place.body ≡ b
    → AreCutParts frame n (if b then [] else (record place { end = min place.end n } ∷ cut_places n more)) (place ∷ more)
by_room frame n place more order rest true is = tt
by_room frame n place more order rest false is = (part_kept frame n place order (grind (arith, nat_tests)), rest)

parts_kept : (frame : List ℕ) (n : ℕ) (places : List Place) → AreOrdered places → AreCutParts frame n (cut_places n places) places
parts_kept frame n [] ordered = tt
parts_kept frame n (place ∷ more) ordered = by_room frame n place more ordered.0 (parts_kept frame n more ordered.1) (nat_lt n place.body) refl

by_kind : (place : Place) (more : List Place) → place.start ≤ place.body → AreOrdered more
    → (b : Bool) → AreOrdered (if b then more else (place ∷ more))
by_kind place more order rest true = rest
by_kind place more order rest false = (order, rest)

ordered_proper : (places : List Place) → AreOrdered places → AreOrdered (proper is_icmp places)
ordered_proper [] ordered = tt
ordered_proper (place ∷ more) ordered = by_kind place (proper is_icmp more) ordered.0 (ordered_proper more ordered.1) (is_icmp place.kind)

ordered_nested : (places : List Place) (start end : ℕ) → AreNested start end places → AreOrdered places
ordered_nested [] start end inside = tt
ordered_nested (place ∷ more) start end inside =
    let begins = inside.0 in
    let header = inside.1 in
    (omega arith, ordered_nested more place.body place.end inside.4)

-- the front of a packet
pub cut_packet : (frame : List ℕ) (n : ℕ) (turn : Option Turn) (start end : ℕ) (places kept : List Place) (stop last : Option (Stop SliceError)) → start ≤ n
    → IsLayoutFrom packet_grammar frame turn start end places stop
    → IsLayoutFrom packet_grammar (take n frame) turn start (min end n) kept last
    → (proper is_icmp kept ≡ cut_places n (proper is_icmp places)) × AreCutParts frame n (proper is_icmp kept) (proper is_icmp places)
cut_packet frame n turn start end places kept stop last within right right_cut =
    let same = cut packet_grammar is_icmp packets_cuttable frame n turn start end places kept stop last within right right_cut in
    let inside = nested packet_grammar frame packets_orderly places turn start end stop right in
    (same, rw same (parts_kept frame n (proper is_icmp places) (ordered_proper places (ordered_nested places start end inside))))
