-- What a table of slots ends as once a loan of an element of it is over.
use Rattle.std.specs.Prelude.{ℕ, List, [], Option, Some, None, slice_set}
use Rattle.std.specs.Borrow.{Lends, LendsIf, follows_if, GName, MutBor, Fml, RattleType, Array}
use mathlib.Core.Option as name
use Rattle.std.specs.Vec.{with_item}
use Rattle.std.specs.declared.vec.Vec.{Vec}
use denote.Ref.{at_last}
use mir.Syntax.{named}
use Rattle.managed.specs.SlotTable.{freed_at, handed_out, place_handed_out}
use Rattle.managed.specs.declared.slot_key.SlotKey.{SlotKey}
use Rattle.managed.specs.declared.slot_map.SlotMap.{SlotMap}
use Rattle.managed.specs.contracts.slot_map.SlotMap.{the_row}

module _ {T : Type 0} where
  abbrev pub owned_with : {Z : Type 0} → Option (Vec T Z) → ℕ → T → Option (Vec T Z)
  owned_with None place w = None
  owned_with (Some items) place w = Some (with_item items place w)

  -- a list of a caller, which has the element unless there is one of its own
  abbrev pub borrowed_with : {Z : Type 0} → Option (Vec T Z) → MutBor (List T) → ℕ → T → MutBor (List T)
  borrowed_with None items place w = at_last items (slice_set items.now place w)
  borrowed_with (Some owned) items place w = items

  -- the same table with another element at a place
  abbrev pub with_element : SlotMap T → ℕ → T → SlotMap T
  with_element m place w = record m { borrowed = borrowed_with m.owned m.borrowed place w; owned = owned_with m.owned place w }

  -- the same elements, and a place that is free
  abbrev pub with_freed : SlotMap T → ℕ → SlotMap T
  with_freed m place = record m { links = freed_at m.links place }

  -- the same elements, and the next place handed out
  abbrev pub with_handed_out : SlotMap T → SlotMap T
  with_handed_out m = record m { links = handed_out m.links }

  -- the borrow of the element beside a key
  abbrev pub entry_name : Option (SlotKey × MutBor T) → name.Option GName
  entry_name None = name.none
  entry_name (Some entry) = name.some entry.1.ghost_name

module _ (T : RattleType) (m : MutBor (SlotMap T.Denot)) where
  abbrev R : RattleType
  R = the_row (record { mir = named 1; lft = [] }) T

  -- the table ends with the last value behind r at the place, and as it was at `None`
  abbrev pub lends_element : ℕ → Option (MutBor T.Denot) → Fml
  lends_element place r = LendsIf R T m r (with_element m.now place) m.now

  -- the same, and the place is free
  abbrev pub lends_removed : ℕ → Option (MutBor T.Denot) → Fml
  lends_removed place r = LendsIf R T m r (with_element (with_freed m.now place) place) m.now

  -- the same, and the place is handed out
  abbrev pub lends_handed_out : Option (MutBor T.Denot) → Fml
  lends_handed_out r = LendsIf R T m r (with_element (with_handed_out m.now) (place_handed_out m.now.links)) m.now

  -- the same beside a key
  abbrev pub lends_reserved : Option (SlotKey × MutBor T.Denot) → Fml
  lends_reserved r = follows_if R T m.ghost_name (entry_name r) (with_element (with_handed_out m.now) (place_handed_out m.now.links)) m.now

  abbrev pub lends_borrowed : MutBor (List T.Denot) → Fml
  lends_borrowed r = Lends R (Array T 0) m r (λ items. record m.now { borrowed = at_last m.now.borrowed items })

  abbrev pub lends_borrowed_item : ℕ → MutBor T.Denot → Fml
  lends_borrowed_item place r = Lends R T m r (λ w. record m.now { borrowed = at_last m.now.borrowed (slice_set m.now.borrowed.now place w) })

  abbrev pub lends_owned_item : ℕ → Option (MutBor T.Denot) → Fml
  lends_owned_item place r = LendsIf R T m r (λ w. record m.now { owned = owned_with m.now.owned place w }) m.now
