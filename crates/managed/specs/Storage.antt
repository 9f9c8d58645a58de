-- A value or a list that is owned or borrowed.
use Rattle.std.specs.Prelude.{◌≡◌, List, Option, Some, None}
use Rattle.std.specs.Borrow.{GName}
use Rattle.managed.specs.declared.object.Managed as managed
use Rattle.managed.specs.declared.slice.ManagedSlice as slice

module _ {T : Type 0} where
  -- the value, wherever it lies
  abbrev pub value_of : managed.Managed T → T
  value_of (managed.TheVariants.Borrowed value) = value.now
  value_of (managed.TheVariants.Owned value) = value.value

  -- the items, wherever they lie
  abbrev pub items_of : slice.ManagedSlice T → List T
  items_of (slice.TheVariants.Borrowed items) = items.now
  items_of (slice.TheVariants.Owned items) = items.items

  -- the borrow that the items lie behind, if they are borrowed
  abbrev pub item_storage : slice.ManagedSlice T → Option GName
  item_storage (slice.TheVariants.Borrowed items) = Some items.ghost_name
  item_storage (slice.TheVariants.Owned items) = None

  -- still the same borrow, or still owned
  abbrev pub KeepsItemStorage : slice.ManagedSlice T → slice.ManagedSlice T → Type 0
  KeepsItemStorage old new = item_storage new ≡ item_storage old
