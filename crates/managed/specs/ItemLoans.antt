-- What a list ends as once a loan of an item of it is over.
use Rattle.std.specs.Prelude.{ℕ, List, [], slice_set}
use Rattle.std.specs.Vec.{with_items}
use Rattle.std.specs.declared.vec.Vec.{Vec}
use Rattle.std.specs.declared.alloc.Global.{Global}
use Rattle.std.specs.contracts.vec.Vec as vec
use Rattle.std.specs.contracts.alloc.Global as heap
use Rattle.std.specs.contracts.impls.GlobalAllocator.TheImpl as impl
use denote.Ref.{at_last}
use mir.Syntax.{named}
use Rattle.managed.specs.declared.slice.ManagedSlice as slice
use Rattle.managed.specs.contracts.slice.ManagedSlice as row
use Rattle.std.specs.Borrow.{Lends, MutBor, Fml, RattleType, Array}

-- the list ends with the last value behind r at the place
abbrev pub lends_item : (T : RattleType) → MutBor (List T.Denot) → ℕ → MutBor T.Denot → Fml
lends_item T items place r = Lends (Array T 0) T items r (slice_set items.now place)

module _ {T : Type 0} where
  -- the same storage with other items
  abbrev pub storing : slice.ManagedSlice T → List T → slice.ManagedSlice T
  storing (slice.TheVariants.Borrowed items) last = slice.TheVariants.Borrowed (at_last items last)
  storing (slice.TheVariants.Owned items) last = slice.TheVariants.Owned (with_items items last)

module _ (T : RattleType) where
  -- the list behind m ends with the last items behind r
  abbrev pub lends_items : MutBor (slice.ManagedSlice T.Denot) → MutBor (List T.Denot) → Fml
  lends_items m r = Lends (row.the_row (record { mir = named 1; lft = [] }) T) (Array T 0) m r (storing m.now)

  -- the list on the heap ends with the last items behind r
  abbrev pub lends_heap : MutBor (Vec T.Denot Global) → MutBor (List T.Denot) → Fml
  lends_heap m r = Lends (vec.the_row T heap.the_row impl.ghosts) (Array T 0) m r (with_items m.now)
