-- What closures leave of a map's values, and of an item of a list.
use Rattle.std.specs.Prelude.{◌≡◌, ℕ, List, [], ◌∷◌, Option, slice_get, slice_set}
use Rattle.std.specs.Option.{option_map, IsSomeAnd}
use Rattle.std.specs.Borrow.{Bor, MutBor}
use Rattle.std.specs.Fn.{Once, Mut, Called, FnOnceReturnsAtMut}
use Rattle.std.specs.declared.cmp.Ordering.{Ordering}
use Rattle.std.specs.BTreeMap.{is_at}
use Rattle.std.specs.Map.{set_value}
use Rattle.managed.specs.SortedMap.{value_at}
use Rattle.managed.specs.MapLoans.{with_value}

module _ {F K V : Type 0} (g : Mut F (Bor K × (MutBor V × Unit {0})) (Unit {0} × (MutBor V × Unit {0}))) where
  -- a call of f at a key and at a value v may leave w there, and f as f'
  pub record WritesValue (f : F) (k : K) (v w : V) (f' : F) : Type 0 where
    pub key : Bor K
    pub value : MutBor V
    pub shows : (key.now ≡ k) × (value.now ≡ v)
    pub left : MutBor V
    pub called : Called g f (key, (value, tt)) (tt, (left, tt)) f'
    pub leaves : left.now ≡ w

  -- f was called at each pair in turn: the keys are as they were, and the values are what it left
  abbrev pub IsUpdated : F → List (K × V) → List (K × V) → Type 0
  IsUpdated f [] [] = Unit {0}
  IsUpdated f [] (n ∷ ns) = ⊥
  IsUpdated f (e ∷ es) [] = ⊥
  IsUpdated f (e ∷ es) (n ∷ ns) = (n.0 ≡ e.0) × ((f' : F) × WritesValue f e.0 e.1 n.1 f' × IsUpdated f' es ns)

  -- f makes of each pair what h says, and stays as it was
  abbrev pub Computes : F → (K × V → K × V) → Type 0
  Computes f h = (k : K) (v w : V) (f' : F) → WritesValue f k v w f' → ((k, w) ≡ h (k, v)) × (f' ≡ f)

module _ {F V : Type 0} (g : Once F (MutBor V × Unit {0}) (Unit {0} × (MutBor V × Unit {0}))) (f : F) where
  -- there is a value, and f was called at it and left w
  abbrev pub MayLeave : Option V → V → Type 0
  MayLeave old w = IsSomeAnd old (λ v. FnOnceReturnsAtMut g f v tt w)

  -- f leaves what h says of each value
  abbrev pub Leaves : (V → V) → Type 0
  Leaves h = (v w : V) → FnOnceReturnsAtMut g f v tt w → w ≡ h v

  -- a place once f was called at the value of its pair
  pub record IsWrittenPair {K : Type 0} (old new : Option (K × V)) : Type 0 where
    pub value : V
    pub called : MayLeave (option_map (λ e. e.1) old) value
    pub pair : new ≡ with_value old value

  -- the pairs once f was called at the value of a key; each other pair is as it was
  pub record IsWrittenBy {K : Type 0} (cmp : K → K → Ordering) (key : K) (old new : List (K × V)) : Type 0 where
    pub value : V
    pub called : MayLeave (value_at cmp old key) value
    pub pairs : new ≡ set_value (is_at (cmp key)) old value

  -- a list once f was called at an item; each other item is as it was
  pub record IsWrittenAt (old : List V) (place : ℕ) (new : List V) : Type 0 where
    pub item : V
    pub called : MayLeave (slice_get old place) item
    pub items : new ≡ slice_set old place item
