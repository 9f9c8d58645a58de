-- What a value ends as once a loan of it is over.
use Rattle.std.specs.Prelude.{[]}
use Rattle.std.specs.Borrow.{Lends, MutBor, Fml, RattleType}
use denote.MutBor.{at_last}
use mir.Syntax.{named}
use Rattle.std.specs.Box.{with_value}
use Rattle.managed.specs.declared.object.Managed as managed
use Rattle.managed.specs.contracts.object.Managed as managed_row

module _ {T : Type 0} where
  -- the same storage with another value
  abbrev pub storing : managed.Managed T → T → managed.Managed T
  storing (managed.TheVariants.Borrowed value) last = managed.TheVariants.Borrowed (at_last value last)
  storing (managed.TheVariants.Owned value) last = managed.TheVariants.Owned (with_value value last)

module _ (T : RattleType) where
  -- the storage behind m ends with the last value behind r
  abbrev pub lends_value : MutBor (managed.Managed T.Denot) → MutBor T.Denot → Fml
  lends_value m r = Lends (managed_row.the_row (record { mir = named 1; lft = [] }) T) T m r (storing m.now)
