-- A table of slots: its elements, the generation of each place in use, and the places that are free.
use Rattle.std.specs.Prelude.{◌≡◌, ℕ, ◌+◌, ◌-◌, ◌^◌, ◌<◌, ◌==◌, if◌then◌else◌, List, [], ◌∷◌, ◌++◌, length, Option, Some, None, IsSome, slice_set, slice_index_or, refl, nat_le}
use Rattle.std.specs.Coded.{Coded, code_by, coded×, coded_ℕ, coded_list, coded_option}
use Rattle.managed.specs.declared.slot_key.SlotKey.{SlotKey}

-- the generation of each place up to the next new one, where it is in use; the freed places, the last
-- one first; the generation that is handed out next; and how many places there are
pub record SlotUse : Type 0 where
  pub generations : List (Option ℕ)
  pub freed : List ℕ
  pub next_generation : ℕ
  pub capacity : ℕ

-- it is stored as the tuple of its fields
abbrev pub use_code : Coded SlotUse
use_code =
    code_by
    (List (Option ℕ) × (List ℕ × (ℕ × ℕ)))
    (coded× (coded_list (coded_option coded_ℕ)) (coded× (coded_list coded_ℕ) (coded× coded_ℕ coded_ℕ)))
    (λ u. (u.generations, (u.freed, (u.next_generation, u.capacity))))
    (λ p. record { generations = p.0; freed = p.1.0; next_generation = p.1.1.0; capacity = p.1.1.1 })
    (λ _. refl)

-- the generations go up to here, and then start at 1 again
abbrev pub last_generation : ℕ
last_generation = 2 ^ 63 - 1

-- the generation after one
abbrev pub generation_after : ℕ → ℕ
generation_after generation = if generation == last_generation then 1 else generation + 1

-- no place has been handed out
abbrev pub unused : ℕ → SlotUse
unused capacity = record { generations = []; freed = []; next_generation = 1; capacity = capacity }

-- the generation of a place in use
abbrev pub generation_at : SlotUse → ℕ → Option ℕ
generation_at u place = slice_index_or u.generations place None

-- a key is in the table: its place has its generation
abbrev pub IsLiveKey : SlotUse → SlotKey → Type 0
IsLiveKey u key = generation_at u key.place ≡ Some key.generation

-- each place is in use
abbrev pub IsFullTable : SlotUse → Type 0
IsFullTable u = (place : ℕ) → place < u.capacity → IsSome (generation_at u place)

-- the place that is handed out next: the one freed last, and a new one only where none is free
abbrev pub first_or : List ℕ → ℕ → ℕ
first_or [] place = place
first_or (freed ∷ rest) place = freed

abbrev pub place_handed_out : SlotUse → ℕ
place_handed_out u = first_or u.freed (length u.generations)

-- the key that is handed out next
abbrev pub key_handed_out : SlotUse → SlotKey
key_handed_out u = record { place = place_handed_out u; generation = u.next_generation }

-- the generations once a place is handed out, and the places that are still free
abbrev pub taken_generations : List ℕ → List (Option ℕ) → ℕ → List (Option ℕ)
taken_generations [] generations generation = generations ++ Some generation ∷ []
taken_generations (place ∷ rest) generations generation = slice_set generations place (Some generation)

abbrev pub still_free : List ℕ → List ℕ
still_free [] = []
still_free (place ∷ rest) = rest

-- the places once that key is handed out
abbrev pub handed_out : SlotUse → SlotUse
handed_out u = record {
  generations = taken_generations u.freed u.generations u.next_generation;
  freed = still_free u.freed;
  next_generation = generation_after u.next_generation;
  capacity = u.capacity;
}

-- the places once one is freed
abbrev pub freed_at : SlotUse → ℕ → SlotUse
freed_at u place = record {
  generations = slice_set u.generations place None;
  freed = place ∷ u.freed;
  next_generation = u.next_generation;
  capacity = u.capacity;
}

-- the generation that is handed out so many keys later
abbrev pub generation_later : ℕ → ℕ → ℕ
generation_later generation later =
    if nat_le (generation + later) last_generation then generation + later
    else generation + later - last_generation

-- the places after some steps: `None` hands a key out, and `Some place` frees a place
abbrev pub after_steps : SlotUse → List (Option ℕ) → SlotUse
after_steps u [] = u
after_steps u (None ∷ steps) = after_steps (handed_out u) steps
after_steps u (Some place ∷ steps) = after_steps (freed_at u place) steps

-- how many keys some steps hand out
abbrev pub hand_outs : List (Option ℕ) → ℕ
hand_outs [] = 0
hand_outs (None ∷ steps) = hand_outs steps + 1
hand_outs (Some place ∷ steps) = hand_outs steps

-- a place is not in a list
abbrev pub IsAbsent : ℕ → List ℕ → Type 0
IsAbsent place [] = Unit {0}
IsAbsent place (other ∷ rest) = (place ≡ other → ⊥) × IsAbsent place rest

-- these places were handed out once, are not in use, and come once each
abbrev pub AreFree : List (Option ℕ) → List ℕ → Type 0
AreFree generations [] = Unit {0}
AreFree generations (place ∷ rest) =
    (place < length generations) × (slice_index_or generations place None ≡ None) × IsAbsent place rest × AreFree generations rest

-- no freed place is in use. A place that was never handed out has no generation
abbrev pub IsSoundUse : SlotUse → Type 0
IsSoundUse u = AreFree u.generations u.freed

-- each place that the steps free is in use by then
abbrev pub FreesLive : SlotUse → List (Option ℕ) → Type 0
FreesLive u [] = Unit {0}
FreesLive u (None ∷ steps) = FreesLive (handed_out u) steps
FreesLive u (Some place ∷ steps) = IsSome (generation_at u place) × FreesLive (freed_at u place) steps

-- no step frees a place
abbrev pub KeepsPlace : ℕ → List (Option ℕ) → Type 0
KeepsPlace place [] = Unit {0}
KeepsPlace place (None ∷ steps) = KeepsPlace place steps
KeepsPlace place (Some freed ∷ steps) = (place ≡ freed → ⊥) × KeepsPlace place steps
