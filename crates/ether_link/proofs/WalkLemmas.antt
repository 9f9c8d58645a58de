-- What a reader knows that walks along the parts of a frame.
use Rattle.std.proofs.Common.{◌≡◌, ℕ, List, [], ◌∷◌, ◌++◌, Option, Some, None, refl}
use Rattle.std.specs.Prelude.{slice_range}
use Rattle.std.proofs.lemmas.List.{append-nil, append_assoc}
use Rattle.ether_link.specs.declared.layout.Turn.{Turn}
use Rattle.ether_link.specs.declared.layout.Place.{Place}
use Rattle.ether_link.specs.declared.layout.Stop.{Stop}
use Rattle.ether_link.specs.Form.{refusal}
use Rattle.ether_link.specs.Places.{end_of_headers}
use Rattle.ether_link.specs.Layout.{Grammar, header, place_of, IsLayoutFrom}

pub end_of_headers-one_more : (from : ℕ) (places : List Place) (place : Place) → end_of_headers from (places ++ place ∷ []) ≡ place.body
end_of_headers-one_more from [] place = refl
end_of_headers-one_more from (p ∷ ps) place = end_of_headers-one_more p.body ps place

-- where a layout from a turn on goes on behind some places, these are the front of a layout from the first turn
pub record IsWalk {E : Type 0} (grammar : Grammar E) (frame : List ℕ) (first : Option Turn) (from to : ℕ)
    (places : List Place) (turn : Option Turn) (start end : ℕ) : Type 0 where
  pub joins : (more : List Place) (stop : Option (Stop E)) → IsLayoutFrom grammar frame turn start end more stop
      → IsLayoutFrom grammar frame first from to (places ++ more) stop

module _ {E : Type 0} (grammar : Grammar E) (frame : List ℕ) (first : Option Turn) (from to : ℕ) where
  -- nothing was read yet
  pub begun : IsWalk grammar frame first from to [] first from to
  begun = record { joins = λ more stop right. right }

  -- one part more
  pub one_more : (places : List Place) (turn : Turn) (start end : ℕ) → IsWalk grammar frame first from to places (Some turn) start end
      → refusal (grammar.form_of turn.kind) (slice_range frame start end) ≡ None
      → IsWalk grammar frame first from to (places ++ place_of grammar turn.kind (slice_range frame start end) start end ∷ [])
      (grammar.next turn (header grammar turn.kind (slice_range frame start end)))
      (place_of grammar turn.kind (slice_range frame start end) start end).body
      (place_of grammar turn.kind (slice_range frame start end) start end).end
  one_more places turn start end walk accepted = record {
    joins = λ more stop right. rw append_assoc
        (walk.joins (place_of grammar turn.kind (slice_range frame start end) start end ∷ more) stop (accepted, refl, right));
  }

  -- no part is named
  pub ended : (places : List Place) (start end : ℕ) → IsWalk grammar frame first from to places None start end
      → IsLayoutFrom grammar frame first from to places None
  ended places start end walk = rw append-nil at (walk.joins [] None refl)

  -- the part that is named is refused
  pub stopped : (places : List Place) (turn : Turn) (start end : ℕ) (why : E) → IsWalk grammar frame first from to places (Some turn) start end
      → refusal (grammar.form_of turn.kind) (slice_range frame start end) ≡ Some why
      → IsLayoutFrom grammar frame first from to places (Some (record { kind = turn.kind; start = start; refusal = why }))
  stopped places turn start end why walk refused =
      rw append-nil at (walk.joins [] (Some (record { kind = turn.kind; start = start; refusal = why })) (why, refused, refl))
