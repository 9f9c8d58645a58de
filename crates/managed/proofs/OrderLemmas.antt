-- Comparisons of keys in a total order.
use Rattle.std.proofs.Common.{◌≡◌, ◌≤◌, List, [], ◌∷◌, Bool, true, false, refl, sym, ap, ◌∙◌, arith}
use Rattle.std.specs.declared.cmp.Ordering.{Ordering}
use Rattle.std.specs.declared.cmp.Ordering.TheVariants.{Less, Equal, Greater}
use Rattle.std.specs.Ordering.{ordering_index, ordering_reverse}
use Rattle.std.specs.Cmp.{IsTotalOrder}
use Rattle.std.specs.List.{AllByRecursion}
use Rattle.std.proofs.lemmas.Cmp.{alike_right}

-- each answer of a comparison
pub by_ordering : {P : Type 0} (o : Ordering) → (o ≡ Less → P) → (o ≡ Equal → P) → (o ≡ Greater → P) → P
by_ordering Less a b c = a refl
by_ordering Equal a b c = b refl
by_ordering Greater a b c = c refl

-- each answer of a test
pub by_test : {P : Type 0} (b : Bool) → (b ≡ true → P) → (b ≡ false → P) → P
by_test true hit miss = hit refl
by_test false hit miss = miss refl

pub all_map : {K : Type 0} {P Q : K → Type 0} (f : (x : K) → P x → Q x) (ks : List K) → AllByRecursion P ks → AllByRecursion Q ks
all_map f [] all = tt
all_map f (k ∷ ks) all = (f k all.0, all_map f ks all.1)

pub index_le : (o : Ordering) → ordering_index o ≤ 2
index_le Less = omega arith
index_le Equal = omega arith
index_le Greater = omega arith

module _ {K : Type 0} {cmp : K → K → Ordering} (total : IsTotalOrder cmp) where
  pub flip_less : (x y : K) → cmp x y ≡ Less → cmp y x ≡ Greater
  flip_less x y h = total.antisymm y x ∙ ap ordering_reverse h

  pub flip_greater : (x y : K) → cmp x y ≡ Greater → cmp y x ≡ Less
  flip_greater x y h = total.antisymm y x ∙ ap ordering_reverse h

  -- a lower key compares no higher with a third
  pub index_rises : (key a b : K) → cmp a b ≡ Less → ordering_index (cmp a key) ≤ ordering_index (cmp b key)
  index_rises key a b h = by_ordering (cmp b key)
      (λ less. rw (total.trans a b key h less) (omega arith))
      (λ same. rw (sym (alike_right total b key a same) ∙ h) (omega arith))
      (λ greater. rw greater (index_le (cmp a key)))
