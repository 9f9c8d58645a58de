-- Whether each header of a chain finds its place free, by two walks: along all of it, and in places.
use Rattle.std.proofs.Common.{◌≡◌, ℕ, ◌+◌, ◌<◌, ◌≤◌, Bool, true, false, List, [], ◌∷◌, length, take, get_or, Option, Some, None, refl, sym, ap, ◌∙◌, arith}
use Rattle.std.specs.Prelude.{if◌then◌else◌}
use Rattle.std.proofs.lemmas.List.{take_more_same, get_or_default}
use Rattle.ether_link.specs.Layout.{AreNested}
use Rattle.ether_link.specs.Places.{header_at}
use Rattle.ether_link.specs.declared.link.LinkExtHeader.{LinkExtHeader}
use Rattle.ether_link.specs.declared.layout.Place.{Place}
use Rattle.ether_link.specs.declared.layout.Stop.{Stop}
use Rattle.ether_link.specs.declared.layout.Turn.{Turn}
use Rattle.ether_link.specs.declared.numbers.IpNumber.{IpNumber}
use Rattle.ether_link.proofs.LayoutLemmas.{nested, one}
use Rattle.ether_ip.specs.ExtensionGrammar.{first_extension_kind}
use Rattle.ether_ip.specs.Held.{no_extensions, is_taken, with_header, held_by, free_places, extensions_of}
use Rattle.ether_ip.specs.PacketGrammar.{packet_grammar}
use Rattle.ether_ip.specs.declared.err.packet.SliceError.{SliceError}
use Rattle.ether_ip.specs.declared.ip.ext_places.ExtensionPlaces.{ExtensionPlaces}
use Rattle.ether_ip.specs.declared.ip.exts.Ipv6Extensions.{Ipv6Extensions}
use Rattle.ether_ip.proofs.PacketLemmas.{packets_orderly}
use Rattle.ether_lax.specs.Agreement.{AreFree, HoldsChain, chain_turn}
use Rattle.ether_lax.specs.Found.{Parts, no_parts, with_part, parts_behind, parts_of}
use Rattle.ether_lax.specs.Nets.{ChainPart}
use Rattle.ether_lax.specs.Parts.{part_at}
use Rattle.ether_lax.specs.Steps.{TellsCount}
use Rattle.ether_lax.specs.Walks.{IsWalked}
use Rattle.ether_lax.proofs.AgreementLemmas.{free_all}
use Rattle.ether_lax.proofs.FoundLemmas.{held_with, last_with}
use Rattle.ether_lax.proofs.WalkLemmas.{by_number, above_first}

-- the fields of link extensions, one by one
pub more_same : (xs ys : List LinkExtHeader) (i : ℕ) (one other : LinkExtHeader) → i < length xs → length xs ≡ length ys → take i xs ≡ take i ys
    → one ≡ get_or xs i one → other ≡ get_or ys i other → one ≡ other → take (i + 1) xs ≡ take (i + 1) ys
more_same xs ys i one other within long before one_is other_is same =
    take_more_same xs ys i one within (omega arith) before (sym one_is ∙ same ∙ other_is ∙ ap (get_or ys i) (sym same))

pub item_same : (xs ys : List LinkExtHeader) (i : ℕ) (one other : LinkExtHeader) → i < length xs → xs ≡ ys
    → one ≡ get_or xs i one → other ≡ get_or ys i other → one ≡ other
item_same xs ys i one other within same one_is other_is =
    one_is ∙ get_or_default xs i one other within ∙ ap (λ items. get_or items i other) same ∙ sym other_is

pub chain_counts : (first : Option IpNumber) → TellsCount 0 (chain_turn first)
chain_counts None = tt
chain_counts (Some number) = by_number 0 false (first_extension_kind number.0) number.0 (above_first number.0)

-- the last of some places, behind another one
abbrev last_of : Option Place → List Place → Option Place
last_of last [] = last
last_of last (p ∷ ps) = last_of (Some p) ps

abbrev body_of : Option Place → ℕ
body_of None = 0
body_of (Some p) = p.body

last_later : (ps : List Place) (start end : ℕ) (last : Option Place) → body_of last ≤ start → AreNested start end ps
    → body_of last ≤ body_of (last_of last ps)
last_later [] start end last before inside = omega arith
last_later (p ∷ ps) start end last before inside =
    let order = inside.1 in
    let rest = last_later ps p.body p.end (Some p) (omega arith) inside.4 in
    omega arith

module _ (bytes : List ℕ) where
  free_if : (p : Place) (ps : List Place) (held : ExtensionPlaces) (b : Bool) → is_taken p.kind held ≡ b
      → (if b then [] else (p ∷ free_places bytes (with_header p.kind (header_at bytes p) held) ps)) ≡ p ∷ ps
      → (free_places bytes (with_header p.kind (header_at bytes p) held) ps ≡ ps
      → AreFree bytes (with_header p.kind (header_at bytes p) held) ps None)
      → AreFree bytes held (p ∷ ps) None
  free_if p ps held true is same again = absurd (cc)
  free_if p ps held false is same again = (is, again (cc))

  free_kept : (ps : List Place) (held : ExtensionPlaces) → free_places bytes held ps ≡ ps → AreFree bytes held ps None
  free_kept [] held same = tt
  free_kept (p ∷ ps) held same =
      free_if p ps held (is_taken p.kind held) refl same (λ rest. free_kept ps (with_header p.kind (header_at bytes p) held) rest)

  same_if : (p : Place) (ps rest : List Place) (start end : ℕ) (last : Option Place) (b : Bool) → body_of last ≤ start → AreNested start end (p ∷ ps)
      → last_of last (if b then [] else (p ∷ rest)) ≡ last_of (Some p) ps → (last_of (Some p) rest ≡ last_of (Some p) ps → rest ≡ ps)
      → (if b then [] else (p ∷ rest)) ≡ p ∷ ps
  same_if p ps rest start end last true before inside same again =
      let order = inside.1 in
      let later = last_later ps p.body p.end (Some p) (omega arith) inside.4 in
      let there = ap body_of same in
      absurd (omega arith)
  same_if p ps rest start end last false before inside same again = ap (λ more. p ∷ more) (again same)

  same_last : (ps : List Place) (start end : ℕ) (held : ExtensionPlaces) (last : Option Place) → body_of last ≤ start → AreNested start end ps
      → last_of last (free_places bytes held ps) ≡ last_of last ps → free_places bytes held ps ≡ ps
  same_last [] start end held last before inside same = refl
  same_last (p ∷ ps) start end held last before inside same =
      same_if p ps (free_places bytes (with_header p.kind (header_at bytes p) held) ps) start end last (is_taken p.kind held) before inside same
      (λ rest. same_last ps p.body p.end (with_header p.kind (header_at bytes p) held) (Some p) (omega arith) inside.4 rest)

  last_behind : (ps : List Place) (parts : Parts) → (parts_behind bytes parts ps).last ≡ last_of parts.last ps
  last_behind [] parts = refl
  last_behind (p ∷ ps) parts =
      last_behind ps (with_part bytes p (part_at bytes p) parts) ∙ ap (λ last. last_of last ps) (last_with bytes p (part_at bytes p) parts)

  held_behind : (ps : List Place) (parts : Parts) → (parts_behind bytes parts ps).held ≡ held_by bytes parts.held ps
  held_behind [] parts = refl
  held_behind (p ∷ ps) parts =
      held_behind ps (with_part bytes p (part_at bytes p) parts) ∙ ap (λ held. held_by bytes held ps) (held_with bytes p parts)

module _ (chain : ChainPart) (exts : Ipv6Extensions) (placed all : Parts) (stop last : Option (Stop SliceError))
    (in_places : IsWalked true chain.bytes (chain_turn chain.first) placed stop)
    (along : IsWalked false chain.bytes (chain_turn chain.first) all last) where
  pub chain_decided : placed.last ≡ all.last → extensions_of placed.held ≡ exts → HoldsChain chain exts
  chain_decided same_place same_exts =
      let bytes = chain.bytes in
      let ps = in_places.places in
      let same = one packet_grammar bytes (chain_turn chain.first) 0 (length bytes) along.places ps along.last in_places.last along.layout in_places.layout in
      let inside = nested packet_grammar bytes packets_orderly ps (chain_turn chain.first) 0 (length bytes) in_places.last in_places.layout in
      let placed_last = ap (λ (parts : Parts). parts.last) in_places.parts_are ∙ last_behind bytes (free_places bytes no_extensions ps) no_parts in
      let all_last = ap (λ (parts : Parts). parts.last) along.parts_are ∙ last_behind bytes along.places no_parts ∙ ap (λ places. last_of None places) same.0 in
      let free = same_last bytes ps 0 (length bytes) no_extensions None (omega arith) inside (sym placed_last ∙ same_place ∙ all_last) in
      let held = ap (λ (parts : Parts). parts.held) in_places.parts_are ∙ held_behind bytes (free_places bytes no_extensions ps) no_parts
      ∙ ap (λ places. held_by bytes no_extensions places) free in
      record {
        places = ps;
        stop = in_places.last;
        layout = in_places.layout;
        free = free_kept bytes ps no_extensions free;
        holds = sym same_exts ∙ ap extensions_of held;
      }

  pub chain_held : HoldsChain chain exts → (placed.last ≡ all.last) × (extensions_of placed.held ≡ exts)
  chain_held holds =
      let bytes = chain.bytes in
      let ps = holds.places in
      let turn = chain_turn chain.first in
      let same = one packet_grammar bytes turn 0 (length bytes) in_places.places ps in_places.last holds.stop in_places.layout holds.layout in
      let along_same = one packet_grammar bytes turn 0 (length bytes) along.places ps along.last holds.stop along.layout holds.layout in
      let kept = free_all bytes ps no_extensions None holds.free in
      let placed_is : placed ≡ parts_of bytes ps = in_places.parts_are
      ∙ ap (λ places. parts_of bytes (free_places bytes no_extensions places)) same.0 ∙ ap (parts_of bytes) kept.0 in
      let all_is : all ≡ parts_of bytes ps = along.parts_are ∙ ap (parts_of bytes) along_same.0 in
      let held = ap (λ (parts : Parts). parts.held) placed_is ∙ held_behind bytes ps no_parts in
      (ap (λ (parts : Parts). parts.last) (placed_is ∙ sym all_is), ap extensions_of held ∙ sym holds.holds)

-- the same, as two walks tell it
pub chain_same : (chain : ChainPart) (exts fields : Ipv6Extensions) (placed all : Parts) (stop last : Option (Stop SliceError)) (bytes some : List ℕ)
    (first : Option IpNumber) (turn : Option Turn)
    → bytes ≡ chain.bytes → some ≡ chain.bytes → first ≡ chain.first → turn ≡ chain_turn first
    → IsWalked true bytes turn placed stop → IsWalked false some turn all last → fields ≡ extensions_of placed.held
    → (placed.last ≡ all.last → fields ≡ exts → HoldsChain chain exts) × (HoldsChain chain exts → (placed.last ≡ all.last) × (fields ≡ exts))
chain_same chain exts fields placed all stop last bytes some first turn bytes_is some_is first_is turn_is in_places along fields_is =
    let turned : turn ≡ chain_turn chain.first = turn_is ∙ ap chain_turn first_is in
    let there = rw (bytes_is, turned) at in_places in
    let whole = rw (some_is, turned) at along in (
      λ same_place same_exts. chain_decided chain exts placed all stop last there whole same_place (sym fields_is ∙ same_exts),
      λ holds. let held = chain_held chain exts placed all stop last there whole holds in (held.0, fields_is ∙ held.1),
    )
