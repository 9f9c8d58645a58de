-- The table that a slot map is.
use Rattle.std.specs.Prelude.{◌≡◌, ◌≤◌, List, length}
use Rattle.managed.specs.SlotTable.{SlotUse}
use Rattle.managed.specs.declared.slot_map.SlotMap.{SlotMap}
use Rattle.managed.specs.Elements.{items_or}

module _ {T : Type 0} where
  -- the elements, by place
  abbrev pub elements_of : SlotMap T → List T
  elements_of m = items_or m.owned m.borrowed.now

  -- the places in use and the free ones
  abbrev pub places_of : SlotMap T → SlotUse
  places_of m = m.links

  -- each place has an element
  abbrev pub IsWhole : SlotMap T → Type 0
  IsWhole m = (places_of m).capacity ≤ length (elements_of m)

  -- the same elements, and the same places in use
  abbrev pub AsBefore : SlotMap T → SlotMap T → Type 0
  AsBefore old new = (elements_of new ≡ elements_of old) × (places_of new ≡ places_of old)
