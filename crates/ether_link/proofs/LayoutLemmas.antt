-- Every window has one layout.
use Rattle.std.proofs.Common.{◌≡◌, ℕ, zero, suc, ◌+◌, ◌-◌, ◌<◌, ◌≤◌, List, [], ◌∷◌, length, drop, Option, Some, None, refl, sym, ap, ◌∙◌, arith}
use Rattle.std.specs.Prelude.{slice_range}
use Rattle.std.proofs.lemmas.List.{length-take, length-drop}
use Rattle.ether_link.specs.declared.layout.PartKind.{PartKind}
use Rattle.ether_link.specs.declared.layout.Turn.{Turn}
use Rattle.ether_link.specs.declared.layout.Place.{Place}
use Rattle.ether_link.specs.declared.layout.Stop.{Stop}
use Rattle.ether_link.specs.Form.{header_len, refusal}
use Rattle.ether_link.specs.Layout.{Grammar, header, window_end, place_of, IsLayoutFrom, IsOrderly, HasLayout, HasOneLayout, AreNested}
use Rattle.ether_link.proofs.FormLemmas.{has_header}

length-range : (frame : List ℕ) (start end : ℕ) → length (slice_range frame start end) ≤ end - start
length-range frame start end = omega (arith, length-take (end - start) (drop start frame))

pub range_within : (frame : List ℕ) (start end : ℕ) → length (slice_range frame start end) ≤ length frame - start
range_within frame start end = omega (arith, length-take (end - start) (drop start frame), length-drop start frame)

pub window-within : (start end : ℕ) (said : Option ℕ) → window_end start end said ≤ end
window-within start end None = omega arith
window-within start end (Some said) = omega arith

module _ {E : Type 0} (grammar : Grammar E) (frame : List ℕ) where
  one_by : (places others : List Place) (turn : Option Turn) (start end : ℕ) (stop last : Option (Stop E))
      → IsLayoutFrom grammar frame turn start end places stop → IsLayoutFrom grammar frame turn start end others last
      → (places ≡ others) × (stop ≡ last)
  one_by [] [] None start end stop last a b = (refl, a ∙ sym b)
  one_by [] (q ∷ qs) None start end stop last a b = absurd b
  one_by (p ∷ ps) qs None start end stop last a b = absurd a
  one_by [] [] (Some turn) start end stop last a b = (refl, cc)
  one_by [] (q ∷ qs) (Some turn) start end stop last a b = absurd (cc)
  one_by (p ∷ ps) [] (Some turn) start end stop last a b = absurd (cc)
  one_by (p ∷ ps) (q ∷ qs) (Some turn) start end stop last a b =
      let same : q ≡ p = b.1 ∙ sym a.1 in
      let rest = b.2 in
      let moved = rw same at rest in
      let tails = one_by ps qs (grammar.next turn (header grammar turn.kind (slice_range frame start end))) p.body p.end stop last a.2 moved in
      let heads : p ∷ ps ≡ q ∷ qs = cc in
      (heads, tails.1)

  pub one : (turn : Option Turn) (start end : ℕ) → HasOneLayout grammar frame turn start end
  one turn start end places others stop last a b = one_by places others turn start end stop last a b

  module _ (orderly : IsOrderly grammar) where
    after : (fuel : ℕ) (again : (turn : Option Turn) (start end : ℕ) → end - start < fuel → HasLayout grammar frame turn start end)
        (turn : Turn) (start end : ℕ) → end - start < suc fuel
        → (answer : Option E) → refusal (grammar.form_of turn.kind) (slice_range frame start end) ≡ answer
        → HasLayout grammar frame (Some turn) start end
    after fuel again turn start end room (Some why) is = ([], Some (record { kind = turn.kind; start = start; refusal = why }), (why, is, refl))
    after fuel again turn start end room None is =
        let bytes = slice_range frame start end in
        let place = place_of grammar turn.kind bytes start end in
        let there = has_header (grammar.form_of turn.kind) (slice_range frame start end) is in
        let positive = orderly.positive turn.kind (slice_range frame start end) is in
        let ends = window-within start end (grammar.announced turn.kind (header grammar turn.kind (slice_range frame start end))) in
        let less : place.end - place.body < fuel = omega (arith, length-range frame start end) in
        let rest = again (grammar.next turn (header grammar turn.kind bytes)) place.body place.end less in
        (place ∷ rest.0, rest.1, (is, refl, rest.2))

    some_by : (fuel : ℕ) (turn : Option Turn) (start end : ℕ) → end - start < fuel → HasLayout grammar frame turn start end
    some_by fuel None start end room = ([], None, refl)
    some_by zero (Some turn) start end room = absurd (omega arith)
    some_by (suc fuel) (Some turn) start end room =
        after fuel (some_by fuel) turn start end room (refusal (grammar.form_of turn.kind) (slice_range frame start end)) refl

    pub some : (turn : Option Turn) (start end : ℕ) → HasLayout grammar frame turn start end
    some turn start end = some_by (suc (end - start)) turn start end (omega arith)

    window-covers : (kind : PartKind) (bytes : List ℕ) (start end : ℕ) (said : Option ℕ)
        → refusal (grammar.form_of kind) bytes ≡ None → grammar.announced kind (header grammar kind bytes) ≡ said
        → start + header_len (grammar.form_of kind) bytes ≤ end
        → start + header_len (grammar.form_of kind) bytes ≤ window_end start end said
    window-covers kind bytes start end None is says fits = fits
    window-covers kind bytes start end (Some said) is says fits =
        let room = orderly.covers kind bytes said is says in omega arith

    pub nested : (places : List Place) (turn : Option Turn) (start end : ℕ) (stop : Option (Stop E))
        → IsLayoutFrom grammar frame turn start end places stop → AreNested start end places
    nested [] turn start end stop right = tt
    nested (p ∷ ps) None start end stop right = absurd right
    nested (p ∷ ps) (Some turn) start end stop right =
        let there = has_header (grammar.form_of turn.kind) (slice_range frame start end) right.0 in
        let positive = orderly.positive turn.kind (slice_range frame start end) right.0 in
        let inside : start + header_len (grammar.form_of turn.kind) (slice_range frame start end) ≤ end = omega (arith, length-range frame start end) in
        let covered = window-covers turn.kind (slice_range frame start end) start end _ right.0 refl inside in
        let ends = window-within start end (grammar.announced turn.kind (header grammar turn.kind (slice_range frame start end))) in
        let tails = nested ps (grammar.next turn (header grammar turn.kind (slice_range frame start end))) p.body p.end stop right.2 in
        let is = right.1 in
        let at_start : p.start ≡ start = ap (λ (q : Place). q.start) is in
        let at_body : p.body ≡ start + header_len (grammar.form_of turn.kind) (slice_range frame start end) = ap (λ (q : Place). q.body) is in
        let at_end : p.end ≡ window_end start end (grammar.announced turn.kind (header grammar turn.kind (slice_range frame start end))) = ap (λ (q : Place). q.end) is in
        (at_start, omega arith, rw (at_body, at_end) covered, rw at_end ends, tails)
