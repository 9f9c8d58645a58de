-- What a map ends as once a loan of a value of it is over.
use Rattle.std.specs.Prelude.{◌≡◌, ℕ, List, [], ◌∷◌, length, Option, Some, None, OnSome, slice_set, slice_index_or}
use Rattle.std.specs.declared.cmp.Ordering.{Ordering}
use Rattle.std.specs.Map.{keys_of, set_value}
use Rattle.std.specs.BTreeMap.{BTreeMap, is_at}
use Rattle.std.specs.BTreeMap.Lent.{OrdMembers, follows_get}
use Rattle.std.specs.Borrow.{Lends, LendsIf, LendsSo, MutBor, Fml, RattleType, Array}
use Rattle.std.specs.contracts.option.Option.{the_row as option_row}
use Rattle.std.specs.contracts.alloc.Global as heap
use Rattle.std.specs.contracts.impls.GlobalAllocator.TheImpl as impl
use denote.Struct.Tuple.{Tuple}
use mir.Syntax.{named}
use Rattle.managed.specs.SortedMap.{filled, pairs, IsSortedPlaces, IsSortedMap, KeepsStorage}
use Rattle.managed.specs.declared.map.ManagedMap.{ManagedMap}
use Rattle.managed.specs.contracts.map.ManagedMap.{the_row}

module _ {K V : Type 0} where
  -- the pair of a place, with another value
  abbrev pub with_value : Option (K × V) → V → Option (K × V)
  with_value None w = None
  with_value (Some e) w = Some (e.0, w)

  -- the pair of one place with another value, and the other places as they were
  abbrev pub with_value_at : List (Option (K × V)) → ℕ → V → List (Option (K × V))
  with_value_at places at w = slice_set places at (with_value (slice_index_or places at None) w)

  module _ (cmp : K → K → Ordering) (key : K) where
    -- the pairs with another value at the key, and each key as it was
    pub record IsWrittenPairs (old : List (K × V)) (w : V) (new : List (K × V)) : Type 0 where
      pub written : new ≡ set_value (is_at (cmp key)) old w
      pub keys : keys_of new ≡ keys_of old

    -- places once a value was written at a key that they have
    pub record IsWrittenPlaces (old : List (Option (K × V))) (w : V) (new : List (Option (K × V))) : Type 0 where
      pub pairs : IsWrittenPairs (filled old) w (filled new)
      pub capacity : length new ≡ length old
      pub sorted : IsSortedPlaces cmp new

    -- a map once a value was written at a key that it has: that pair's value, and nothing else
    pub record IsWrittenMap (old : ManagedMap K V) (w : V) (new : ManagedMap K V) : Type 0 where
      pub pairs : IsWrittenPairs (pairs old) w (pairs new)
      pub storage : KeepsStorage old new
      pub sorted : IsSortedMap cmp new

module _ (K V : RattleType) where
  -- the type of a place
  abbrev pub place_row : RattleType
  place_row = option_row (Tuple (K ∷ V ∷ []))

  -- the places of a map
  abbrev pub Places : Type 0
  Places = List (Option (K.Denot × V.Denot))

  -- the places end with the last value behind r at one of them
  abbrev pub lends_place : MutBor Places → ℕ → MutBor (Option (K.Denot × V.Denot)) → Fml
  lends_place places at r = Lends (Array place_row 0) place_row places r (slice_set places.now at)

  -- the place ends with the last value behind r in its pair
  abbrev pub lends_value_in : MutBor (Option (K.Denot × V.Denot)) → Option (MutBor V.Denot) → Fml
  lends_value_in place r = LendsIf place_row V place r (with_value place.now) place.now

  -- the places end with the last value behind r in the pair of one of them
  abbrev pub lends_value_at : MutBor Places → ℕ → Option (MutBor V.Denot) → Fml
  lends_value_at places at r = LendsIf (Array place_row 0) V places r (with_value_at places.now at) places.now

  module _ (ord : OrdMembers K.Denot) where
    -- the places end with the last value behind r at the key, and as they were at `None`
    abbrev pub lends_among : MutBor Places → K.Denot → Option (MutBor V.Denot) → Fml
    lends_among places key r = LendsSo (Array place_row 0) V places r (λ n w. OnSome r (IsWrittenPlaces ord.cmp key places.now w n)) (λ n. n ≡ places.now)

    -- the tree ends so
    abbrev pub lends_in_tree : MutBor (BTreeMap K.Denot V.Denot) → K.Denot → Option (MutBor V.Denot) → Fml
    lends_in_tree tree key r = follows_get K V heap.the_row ord impl.ghosts tree (ord.cmp key) r

    -- the map ends so
    abbrev pub lends_in_map : MutBor (ManagedMap K.Denot V.Denot) → K.Denot → Option (MutBor V.Denot) → Fml
    lends_in_map m key r =
        LendsSo (the_row (record { mir = named 1; lft = [] }) K V (record { cmp = ord.cmp }) (record { eq = ord.eq }) (record { partial_cmp = ord.partial_cmp }))
        V m r (λ n w. OnSome r (IsWrittenMap ord.cmp key m.now w n)) (λ n. n ≡ m.now)
