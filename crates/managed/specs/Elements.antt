-- The lists that a slot map keeps.
use Rattle.std.specs.Prelude.{List, Some, None, Option}
use Rattle.std.specs.declared.vec.Vec.{Vec}
use Rattle.managed.specs.declared.elements.Elements.{Elements}

module _ {T : Type 0} where
  -- the items of one list, or of the other where there is none
  abbrev pub items_or : {Z : Type 0} → Option (Vec T Z) → List T → List T
  items_or None items = items
  items_or (Some owned) items = owned.items

  abbrev pub elements_in : Elements T → List T
  elements_in e = items_or e.owned e.borrowed.now
