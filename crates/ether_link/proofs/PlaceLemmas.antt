-- A layout of a window is one of the frame.
use Rattle.std.proofs.Common.{◌≡◌, ℕ, ◌+◌, ◌-◌, ◌≤◌, List, [], ◌∷◌, Option, Some, None, refl, ap, ◌∙◌, arith}
use Rattle.std.specs.Prelude.{slice_range}
use Rattle.ether_link.specs.declared.layout.Turn.{Turn}
use Rattle.ether_link.specs.declared.layout.Place.{Place}
use Rattle.ether_link.specs.declared.layout.Stop.{Stop}
use Rattle.ether_link.specs.Form.{header_len}
use Rattle.ether_link.specs.Layout.{Grammar, header, window_end, place_of, IsLayoutFrom, moved_place, moved_places, moved_stop}
use Rattle.ether_link.proofs.LayoutLemmas.{window-within}
use Rattle.ether_link.proofs.RangeLemmas.{range_range}

window-moved : (by start end : ℕ) (said : Option ℕ) → window_end (by + start) (by + end) said ≡ by + window_end start end said
window-moved by start end None = refl
window-moved by start end (Some said) = omega arith

module _ {E : Type 0} (grammar : Grammar E) (frame : List ℕ) (from to : ℕ) where
  moved_place-of : (turn : Turn) (bytes : List ℕ) (start end : ℕ)
      → moved_place from (place_of grammar turn.kind bytes start end) ≡ place_of grammar turn.kind bytes (from + start) (from + end)
  moved_place-of turn bytes start end =
      let body : from + (start + header_len (grammar.form_of turn.kind) bytes) ≡ from + start + header_len (grammar.form_of turn.kind) bytes = omega arith in
      rw (body, window-moved from start end (grammar.announced turn.kind (header grammar turn.kind bytes))) refl

  pub moved_by : (places : List Place) (turn : Option Turn) (start end : ℕ) (stop : Option (Stop E)) → end ≤ to - from
      → IsLayoutFrom grammar (slice_range frame from to) turn start end places stop
      → IsLayoutFrom grammar frame turn (from + start) (from + end) (moved_places from places) (moved_stop from stop)
  moved_by [] None start end stop within right = rw right refl
  moved_by (p ∷ ps) None start end stop within right = absurd right
  moved_by [] (Some turn) start end stop within right =
      let range = range_range frame from to start end within in
      (right.0, rw range at right.1, rw right.2 refl)
  moved_by (p ∷ ps) (Some turn) start end stop within right =
      let range = range_range frame from to start end within in
      let is = rw range at right.1 in
      let at_end = ap (λ (place : Place). place.end) is in
      let inside = window-within start end (grammar.announced turn.kind (header grammar turn.kind (slice_range frame (from + start) (from + end)))) in
      let p_within : p.end ≤ to - from = omega arith in
      let next = rw range at right.2 in
      let rest = moved_by ps (grammar.next turn (header grammar turn.kind (slice_range frame (from + start) (from + end)))) p.body p.end stop p_within next in
      (rw range at right.0, ap (moved_place from) is ∙ moved_place-of turn (slice_range frame (from + start) (from + end)) start end, rest)
