-- How a slot map links its free places inside the slots. No public clause cites this module.
use Rattle.std.specs.Prelude.{◌≡◌, ◌⊎◌, ℕ, zero, suc, ◌+◌, ◌<◌, ◌≤◌, List, [], ◌∷◌, length, map, take, Option, Some, None, slice_index_or}
use Rattle.managed.specs.SlotTable.{SlotUse, IsAbsent, last_generation}
use Rattle.managed.specs.declared.slot_key.SlotIndex.{SlotIndex}
use Rattle.managed.specs.declared.slot_key.SlotState.TheVariants.{Free, InUse}
use Rattle.managed.specs.declared.slot_key.SlotState.{SlotState}

-- the generation of a slot in use
abbrev pub state_generation : SlotState → Option ℕ
state_generation (Free next) = None
state_generation (InUse generation) = Some generation

-- the free place that a free slot names
abbrev pub state_link : SlotState → ℕ
state_link (Free next) = next
state_link (InUse generation) = 0

abbrev pub generation_of : SlotIndex → Option ℕ
generation_of slot = state_generation slot.state

-- the same of the slot at a place
abbrev pub generation_in : List SlotIndex → ℕ → Option ℕ
generation_in slots place = generation_of (slice_index_or slots place (record { state = Free 0 }))

abbrev pub link_in : List SlotIndex → ℕ → ℕ
link_in slots place = let slot = slice_index_or slots place (record { state = Free 0 }) in state_link slot.state

-- so many free places, from the first on
abbrev pub freed_from : List SlotIndex → ℕ → ℕ → List ℕ
freed_from slots zero first = []
freed_from slots (suc count) first = first ∷ freed_from slots count (link_in slots first)

-- a place is in a list
abbrev pub IsListed : ℕ → List ℕ → Type 0
IsListed place [] = ⊥
IsListed place (other ∷ rest) = (place ≡ other) ⊎ IsListed place rest

-- the free places were handed out once, are free, and come once each
abbrev pub IsFreeList : List SlotIndex → ℕ → ℕ → ℕ → Type 0
IsFreeList slots next zero first = Unit {0}
IsFreeList slots next (suc count) first =
    (first < next) × (generation_in slots first ≡ None) × IsAbsent first (freed_from slots count (link_in slots first))
    × IsFreeList slots next count (link_in slots first)

-- how many places are in use
abbrev pub in_use : List (Option ℕ) → ℕ
in_use [] = 0
in_use (None ∷ rest) = in_use rest
in_use (Some generation ∷ rest) = in_use rest + 1

-- what holds of the slots, the next new place, the count and the first of the free ones, the next
-- generation, and the capacity
pub record IsSound (slots : List SlotIndex) (next count first generation capacity : ℕ) : Type 0 where
  pub fits : capacity ≤ length slots
  pub next_fits : next ≤ capacity
  pub small : capacity < last_generation
  pub positive : 0 < generation
  pub bounded : generation ≤ last_generation
  pub free_list : IsFreeList slots next count first
  pub complete : (place : ℕ) → place < next → generation_in slots place ≡ None → IsListed place (freed_from slots count first)
  pub counted : count + in_use (map generation_of (take next slots)) ≡ next

-- the places as a contract sees them
abbrev pub use_of : List SlotIndex → ℕ → ℕ → ℕ → ℕ → ℕ → SlotUse
use_of slots next count first generation capacity = record {
  generations = map generation_of (take next slots);
  freed = freed_from slots count first;
  next_generation = generation;
  capacity = capacity;
}
