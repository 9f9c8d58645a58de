-- What calls at each pair in turn leave, and one call at the pair of a place.
use Rattle.std.proofs.Common.{◌≡◌, ◌↔◌, ℕ, zero, suc, Bool, true, false, cond, List, [], ◌∷◌, map, get_or, set, Option, Some, None, Bor, MutBor, refl, sym, subst, ap, ◌∙◌}
use Rattle.std.specs.Bool.{IsTrue, IsFalse}
use Rattle.std.specs.Cmp.{IsTotalOrder}
use Rattle.std.specs.Fn.{Once, Mut}
use Rattle.std.specs.List.{FoldsTo}
use Rattle.std.specs.Map.{keys_of}
use Rattle.std.specs.Map.Calls.{SomeCallAtPair, CallableOnEachPair, RetainsPairs}
use Rattle.std.specs.Option.{IsSome, option_map}
use Rattle.std.specs.BTreeMap.{is_at}
use Rattle.std.specs.Ordering.{is_eq}
use Rattle.std.specs.declared.cmp.Ordering.{Ordering}
use Rattle.std.specs.declared.cmp.Ordering.TheVariants.{Equal}
use Rattle.std.proofs.lemmas.Map.{keys-set_value}
use Rattle.managed.specs.SortedMap.{filled, value_at, IsPacked}
use Rattle.managed.specs.Updates.{WritesValue, IsUpdated, Computes, MayLeave, Leaves, IsWrittenBy}
use Rattle.managed.proofs.LawLemmas.{value-set}
use Rattle.managed.proofs.OrderLemmas.{by_ordering}

module _ {F K V : Type 0} (g : Mut F (Bor K × (MutBor V × Unit {0})) (Unit {0} × (MutBor V × Unit {0}))) where
  -- the keys are as they were
  pub keys_of-updated : (f : F) (es ns : List (K × V)) → IsUpdated g f es ns → keys_of ns ≡ keys_of es
  keys_of-updated f [] [] updated = refl
  keys_of-updated f [] (n ∷ ns) updated = absurd updated
  keys_of-updated f (e ∷ es) [] updated = absurd updated
  keys_of-updated f (e ∷ es) (n ∷ ns) updated = rw (updated.0, keys_of-updated updated.1.0 es ns updated.1.2) refl

  -- the pairs that a closure computes
  pub updated_computed : (h : K × V → K × V) (f : F) → Computes g f h → (es ns : List (K × V)) → IsUpdated g f es ns → ns ≡ map h es
  updated_computed h f computes [] [] updated = refl
  updated_computed h f computes [] (n ∷ ns) updated = absurd updated
  updated_computed h f computes (e ∷ es) [] updated = absurd updated
  updated_computed h f computes (e ∷ es) (n ∷ ns) (key, (f', called, more)) =
      let left = computes e.0 e.1 n.1 f' called in
      let rest = updated_computed h f computes es ns (subst (λ s. IsUpdated g s es ns) left.1 more) in
      let same : n ≡ h e = (λ i. (key i, n.1)) ∙ left.0 in
      λ i. same i ∷ rest i

  -- the first places are updated, and the closure is left so
  abbrev pub IsUpdatedTo : F → List (Option (K × V)) → List (Option (K × V)) → ℕ → F → Type 0
  IsUpdatedTo f old new zero last = (new ≡ old) × (last ≡ f)
  IsUpdatedTo f (Some e ∷ old) (Some n ∷ new) (suc i) last = (n.0 ≡ e.0) × ((f' : F) × WritesValue g f e.0 e.1 n.1 f' × IsUpdatedTo f' old new i last)
  IsUpdatedTo f old new (suc i) last = ⊥

  first_updated : (f : F) (places : List (Option (K × V))) (e : K × V) (w : V) (next : F) → get_or places 0 None ≡ Some e → WritesValue g f e.0 e.1 w next → IsUpdatedTo f places (set places 0 (Some (e.0, w))) 1 next
  first_updated f [] e w next is written = cc
  first_updated f (None ∷ places) e w next is written = cc
  first_updated f (Some n ∷ places) e w next is written = let same : e ≡ n = cc in (ap (λ x. x.0) same, (next, subst (λ x. WritesValue g f x.0 x.1 w next) same written, (refl, refl)))

  pub updated_one_more : (f : F) (old new : List (Option (K × V))) (i : ℕ) (last : F) (e : K × V) (w : V) (next : F)
      → IsUpdatedTo f old new i last → get_or new i None ≡ Some e → WritesValue g last e.0 e.1 w next → IsUpdatedTo f old (set new i (Some (e.0, w))) (suc i) next
  updated_one_more f old new zero last e w next (same, before) is written =
      subst (λ places. IsUpdatedTo f places (set new 0 (Some (e.0, w))) 1 next) same (first_updated f new e w next is (subst (λ s. WritesValue g s e.0 e.1 w next) before written))
  updated_one_more f [] new (suc i) last e w next updated is written = absurd updated
  updated_one_more f (None ∷ old) new (suc i) last e w next updated is written = absurd updated
  updated_one_more f (Some o ∷ old) [] (suc i) last e w next updated is written = absurd updated
  updated_one_more f (Some o ∷ old) (None ∷ new) (suc i) last e w next updated is written = absurd updated
  updated_one_more f (Some o ∷ old) (Some n ∷ new) (suc i) last e w next (key, (f', called, more)) is written =
      (key, (f', called, updated_one_more f' old new i last e w next more is written))

  at_the_end : (places : List (Option (K × V))) → get_or places 0 None ≡ None → filled places ≡ []
  at_the_end [] is = refl
  at_the_end (None ∷ places) is = refl
  at_the_end (Some e ∷ places) is = cc

  -- where the next place has no pair, all are updated
  pub updated_all : (f : F) (old new : List (Option (K × V))) (i : ℕ) (last : F) → IsUpdatedTo f old new i last → get_or new i None ≡ None → IsUpdated g f (filled old) (filled new)
  updated_all f old new zero last (same, before) is = rw (at_the_end new is, at_the_end old (subst (λ places. get_or places 0 None ≡ None) same is)) tt
  updated_all f [] new (suc i) last updated is = absurd updated
  updated_all f (None ∷ old) new (suc i) last updated is = absurd updated
  updated_all f (Some o ∷ old) [] (suc i) last updated is = absurd updated
  updated_all f (Some o ∷ old) (None ∷ new) (suc i) last updated is = absurd updated
  updated_all f (Some o ∷ old) (Some n ∷ new) (suc i) last (key, (f', called, more)) is = (key, (f', called, updated_all f' old new i last more is))

  pub packed_all : (f : F) (old new : List (Option (K × V))) (i : ℕ) (last : F) → IsUpdatedTo f old new i last → IsPacked old → IsPacked new
  packed_all f old new zero last (same, before) packed = subst IsPacked (sym same) packed
  packed_all f [] new (suc i) last updated packed = absurd updated
  packed_all f (None ∷ old) new (suc i) last updated packed = absurd updated
  packed_all f (Some o ∷ old) [] (suc i) last updated packed = absurd updated
  packed_all f (Some o ∷ old) (None ∷ new) (suc i) last updated packed = absurd updated
  packed_all f (Some o ∷ old) (Some n ∷ new) (suc i) last (key, (f', called, more)) packed = packed_all f' old new i last more packed

-- a closure around another one, which is a part of its state: it calls that one, and keeps each pair
module _ {C K V : Type 0} (T : C → K → V → Bool → V → C → Type 0) where
  pub updated_from_retain : {F : Type 0} (g : Mut F (Bor K × (MutBor V × Unit {0})) (Unit {0} × (MutBor V × Unit {0}))) (state : C → F)
      → ((c : C) (k : K) (v : V) (b : Bool) (w : V) (c' : C) → T c k v b w c' → (b ≡ true) × WritesValue g (state c) k v w (state c'))
      → (c : C) (es kept : List (K × V)) → RetainsPairs T c es kept → IsUpdated g (state c) es kept
  updated_from_retain g state one c [] kept retained = subst (IsUpdated g (state c) []) (sym retained) tt
  updated_from_retain g state one c (e ∷ es) kept (b, w, c', rest, called, more, is) =
      let h = one c e.0 e.1 b w c' called in
      subst (IsUpdated g (state c) (e ∷ es)) (sym (is ∙ ap (λ (t : Bool). cond t ((e.0, w) ∷ rest) rest) h.0)) (refl, (state c', h.1, updated_from_retain g state one c' es rest more))

  -- it may be called at each pair, where a fact of its state lasts
  module _ (I : C → Type 0) (keeps : (c : C) (k : K) (v : V) (b : Bool) (w : V) (c' : C) → I c → T c k v b w c' → I c') where
    lasts : (es : List (K × V)) (c c' : C) → I c → FoldsTo (SomeCallAtPair T) c es c' → I c'
    lasts [] c c' i folds = subst I folds i
    lasts (e ∷ es) c c' i (j, (b, w, called), more) = lasts es j c' (keeps c e.0 e.1 b w j i called) more

    pub callable_each : (Q : C → K → V → Type 0) → ((c : C) (k : K) (v : V) → I c → Q c k v) → (c : C) (es : List (K × V)) → I c → CallableOnEachPair T Q c es
    callable_each Q asks c es i = record { at = λ before after c' k v e folds. asks c' k v (lasts before c c' i folds) }

-- what a write at a key leaves at each key
module _ {F K V : Type 0} (g : Once F (MutBor V × Unit {0}) (Unit {0} × (MutBor V × Unit {0}))) (f : F) {cmp : K → K → Ordering} (total : IsTotalOrder cmp) (key : K) (es ns : List (K × V)) where
  itself : cmp key key ≡ Equal
  itself =
      let back = total.antisymm key key in by_ordering (cmp key key)
      (λ less. let clash = rw less at back in absurd (cc)) (λ same. same) (λ greater. let clash = rw greater at back in absurd (cc))

  -- it is there
  module _ (w : IsWrittenBy g f cmp key es ns) where
    there : IsSome (value_at cmp es key)
    there = by_cases (value_at cmp es key) w.called
      where
        by_cases : (o : Option V) → MayLeave g f o w.value → IsSome o
        by_cases None called = absurd called
        by_cases (Some v) called = refl

    computed : (h : V → V) → Leaves g f h → Some w.value ≡ option_map h (value_at cmp es key)
    computed h leaves = by_cases (value_at cmp es key) w.called
      where
        by_cases : (o : Option V) → MayLeave g f o w.value → Some w.value ≡ option_map h o
        by_cases None called = absurd called
        by_cases (Some v) called = ap Some (leaves v w.value called)

  module _ (r : Bool) (found : IsTrue r ↔ IsSome (value_at cmp es key)) (written : IsTrue r → IsWrittenBy g f cmp key es ns) (empty : IsFalse r → ns ≡ es) where
    pub written_value : (h : V → V) → Leaves g f h → value_at cmp ns key ≡ option_map h (value_at cmp es key)
    written_value h leaves = by_cases r found written empty
      where
        absent : (o : Option V) → (IsSome o → IsTrue false) → o ≡ option_map h o
        absent None none = refl
        absent (Some v) none = let clash : false ≡ true = none refl in absurd (cc)

        by_cases : (r : Bool) → (IsTrue r ↔ IsSome (value_at cmp es key)) → (IsTrue r → IsWrittenBy g f cmp key es ns) → (IsFalse r → ns ≡ es) → value_at cmp ns key ≡ option_map h (value_at cmp es key)
        by_cases false found written empty = rw (empty refl) (absent (value_at cmp es key) found.1)
        by_cases true found written empty = let w = written refl in rw (w.pairs, value-set total key w.value key es (there w), itself) (computed w h leaves)

    pub written_others : (other : K) → is_eq (cmp key other) ≡ false → value_at cmp ns other ≡ value_at cmp es other
    written_others other apart = by_cases r written empty
      where
        by_cases : (r : Bool) → (IsTrue r → IsWrittenBy g f cmp key es ns) → (IsFalse r → ns ≡ es) → value_at cmp ns other ≡ value_at cmp es other
        by_cases false written empty = rw (empty refl) refl
        by_cases true written empty = let w = written refl in rw (w.pairs, value-set total key w.value other es (there w), apart) refl

    pub written_keys : keys_of ns ≡ keys_of es
    written_keys = by_cases r written empty
      where
        by_cases : (r : Bool) → (IsTrue r → IsWrittenBy g f cmp key es ns) → (IsFalse r → ns ≡ es) → keys_of ns ≡ keys_of es
        by_cases false written empty = rw (empty refl) refl
        by_cases true written empty = let w = written refl in rw w.pairs (keys-set_value (is_at (cmp key)) es w.value)
