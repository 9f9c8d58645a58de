-- What a map ends as once a walk that writes is over.
use Rattle.std.specs.Prelude.{[], drop}
use Rattle.std.specs.BTreeMap.{BTreeMap, values}
use Rattle.std.specs.BTreeMap.Lent.{OrdMembers, map_row, with_values, KeepsKeys, follows_values}
use Rattle.std.specs.BTreeMap.IterMut.{iter_mut_name as tree_name}
use Rattle.std.specs.Slice.Iter.{iter_mut_name as places_name}
use Rattle.std.specs.Borrow.{GName, MutBor, Fml, RattleType, Array, follows}
use Rattle.std.specs.contracts.alloc.Global as heap
use Rattle.std.specs.contracts.impls.GlobalAllocator.TheImpl as impl
use Rattle.std.specs.declared.collections.btree_map.IterMut as lent-tree
use denote.Ref.{at_last}
use mir.Syntax.{named}
use Rattle.managed.specs.MapLoans.{place_row}
use Rattle.managed.specs.declared.map.ManagedMap.{ManagedMap}
use Rattle.managed.specs.declared.map.ManagedMap.TheVariants.{Borrowed, Owned}
use Rattle.managed.specs.contracts.map.ManagedMap.{the_row}
use Rattle.managed.specs.declared.map.iter_mut.IterMut.{IterMut}
use Rattle.managed.specs.declared.map.iter_mut.Left as lent

module _ {K V : Type 0} where
  -- the borrow that storage holds
  abbrev pub name_of : lent.Left K V → GName
  name_of (lent.TheVariants.Borrowed places) = places_name places
  name_of (lent.TheVariants.Owned pairs) = tree_name pairs

  -- the borrow that a walk holds
  abbrev pub walk_name : IterMut K V → GName
  walk_name s = name_of s.left

  -- a tree keeps its keys, whatever values are written; nothing is said of places
  abbrev pub KeepsTreeKeys : ManagedMap K V → Type 0
  KeepsTreeKeys (Borrowed places) = Unit {0}
  KeepsTreeKeys (Owned tree) = KeepsKeys tree 0

  -- a tree with other values
  abbrev pub with_tree_values : BTreeMap K V → BTreeMap K V → ManagedMap K V
  with_tree_values tree last = Owned (with_values tree 0 (drop 0 (values last)))

module _ (K V : RattleType) (ord : OrdMembers K.Denot) where
  -- the tree keeps its keys, and has the values that the pairs leave
  abbrev pub lends_pairs : MutBor (BTreeMap K.Denot V.Denot) → lent-tree.IterMut K.Denot V.Denot → Fml
  lends_pairs tree r = follows_values K V heap.the_row ord impl.ghosts tree 0 (tree_name r)

  -- the type of a map
  abbrev pub managed_row : RattleType
  managed_row = the_row (record { mir = named 1; lft = [] }) K V (record { cmp = ord.cmp }) (record { eq = ord.eq }) (record { partial_cmp = ord.partial_cmp })

  -- what storage ends as, once the walk under a name is over
  abbrev pub lends_storage : GName → ManagedMap K.Denot V.Denot → GName → Fml
  lends_storage name (Borrowed places) r = follows managed_row (Array (place_row K V) 0) name r (λ last. Borrowed (at_last places last))
  lends_storage name (Owned tree) r = follows managed_row (map_row K V heap.the_row ord impl.ghosts) name r (with_tree_values tree)

  -- borrowed places end as what the walk leaves there, in the same borrow, and a tree with its keys and
  -- the values that the walk leaves
  abbrev pub lends_walk : MutBor (ManagedMap K.Denot V.Denot) → IterMut K.Denot V.Denot → Fml
  lends_walk m r = lends_storage m.ghost_name m.now (walk_name r)
