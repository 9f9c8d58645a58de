-- A sorted map: the list of its pairs by rising key, and where it is borrowed a capacity.
use Rattle.std.specs.Prelude.{◌≡◌, ℕ, List, [], ◌∷◌, length, Option, Some, None}
use Rattle.std.specs.declared.cmp.Ordering.{Ordering}
use Rattle.std.specs.List.Sorted.{IsStrictlySortedBy}
use Rattle.std.specs.Map.{keys_of, lookup}
use Rattle.std.specs.declared.cmp.Ordering.TheVariants.{Less}
use Rattle.std.specs.Ordering.{match_ordering}
use Rattle.std.specs.BTreeMap.{insert_entry, is_at}
use Rattle.std.specs.Borrow.{GName}
use Rattle.managed.specs.declared.error.InsertError.{InsertError}
use Rattle.managed.specs.declared.error.InsertError.TheVariants.{Full, NoMemory}
use Rattle.managed.specs.declared.map.ManagedMap.{ManagedMap}
use Rattle.managed.specs.declared.map.ManagedMap.TheVariants.{Borrowed, Owned}

-- the pairs before the first empty place
abbrev pub filled : {X : Type 0} → List (Option X) → List X
filled [] = []
filled (None ∷ places) = []
filled (Some x ∷ places) = x ∷ filled places

-- every place is empty
abbrev pub IsVacant : {X : Type 0} → List (Option X) → Type 0
IsVacant [] = Unit {0}
IsVacant (None ∷ places) = IsVacant places
IsVacant (Some x ∷ places) = ⊥

-- the empty places come last
abbrev pub IsPacked : {X : Type 0} → List (Option X) → Type 0
IsPacked [] = Unit {0}
IsPacked (None ∷ places) = IsVacant places
IsPacked (Some x ∷ places) = IsPacked places

module _ {K V : Type 0} where
  -- a place may stand before another: a lower key before a higher, and each before an empty place
  abbrev pub Precedes : (K → K → Ordering) → Option (K × V) → Option (K × V) → Type 0
  Precedes cmp first None = Unit {0}
  Precedes cmp None (Some f) = ⊥
  Precedes cmp (Some e) (Some f) = cmp e.0 f.0 ≡ Less

  -- the keys rise strictly, and the empty places come last
  abbrev pub IsSortedPlaces : (K → K → Ordering) → List (Option (K × V)) → Type 0
  IsSortedPlaces cmp places = IsPacked places × IsStrictlySortedBy cmp (keys_of (filled places))

  -- the pairs, by rising key
  abbrev pub pairs : ManagedMap K V → List (K × V)
  pairs (Borrowed places) = filled places.now
  pairs (Owned tree) = tree.entries

  -- the number of places, where they are borrowed
  abbrev pub capacity : ManagedMap K V → Option ℕ
  capacity (Borrowed places) = Some (length places.now)
  capacity (Owned tree) = None

  -- the borrow of the places, which each call keeps
  abbrev pub storage : ManagedMap K V → Option GName
  storage (Borrowed places) = Some places.ghost_name
  storage (Owned tree) = None

  module _ (cmp : K → K → Ordering) where
    -- what a borrowed map must meet before a call, and each call keeps
    abbrev pub IsSortedMap : ManagedMap K V → Type 0
    IsSortedMap (Borrowed places) = IsSortedPlaces cmp places.now
    IsSortedMap (Owned tree) = Unit {0}

    -- the value that the pairs have at a key
    abbrev pub value_at : List (K × V) → K → Option V
    value_at es key = lookup (is_at (cmp key)) es

    -- the pairs once a key has a value, and is itself the key of its pair
    abbrev pub with_pair : List (K × V) → K → V → List (K × V)
    with_pair [] key value = (key, value) ∷ []
    with_pair (e ∷ es) key value = match_ordering (cmp key e.0) ((key, value) ∷ e ∷ es) ((key, value) ∷ es) (e ∷ with_pair es key value)

    -- the pairs after an insert: a borrowed map takes the new key, and an owned one keeps the key that
    -- is there
    abbrev pub inserted : ManagedMap K V → K → V → List (K × V)
    inserted (Borrowed places) key value = with_pair (filled places.now) key value
    inserted (Owned tree) key value = insert_entry cmp tree.entries key value

  -- each place has a pair, and there are no more
  abbrev pub IsFull : ManagedMap K V → Type 0
  IsFull (Borrowed places) = length (filled places.now) ≡ length places.now
  IsFull (Owned tree) = ⊥

  -- why places refuse a pair: each has one, and none has the key
  abbrev pub IsPlacesRefusal : (K → K → Ordering) → List (Option (K × V)) → K → V → InsertError K V → Type 0
  IsPlacesRefusal cmp places key value (Full k v) =
      (length (filled places) ≡ length places) × (value_at cmp (filled places) key ≡ None) × (k ≡ key) × (v ≡ value)
  IsPlacesRefusal cmp places key value NoMemory = ⊥

  -- why an insert is refused: the key is not there, and either each place has a pair, which hands the
  -- new pair back, or an owned map lacks the memory
  abbrev pub IsRefusal : (K → K → Ordering) → ManagedMap K V → K → V → InsertError K V → Type 0
  IsRefusal cmp m key value (Full k v) =
      IsFull m × (value_at cmp (pairs m) key ≡ None) × (k ≡ key) × (v ≡ value)
  IsRefusal cmp m key value NoMemory = (capacity m ≡ None) × (value_at cmp (pairs m) key ≡ None)

  -- the same places, or still a tree
  abbrev pub KeepsStorage : ManagedMap K V → ManagedMap K V → Type 0
  KeepsStorage old new = (storage new ≡ storage old) × (capacity new ≡ capacity old)
