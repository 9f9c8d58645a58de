-- What a loan of an element shows.
use Rattle.std.proofs.Common.{◌≡◌, ◌↔◌, ◌<◌, ℕ, List, length, Option, Some, None, IsSome, IfSome, slice_get, slice_index_or, slice_set, MutBor, refl, sym, subst, ◌∙◌}
use Rattle.std.specs.declared.vec.Vec.{Vec}
use Rattle.managed.specs.declared.slot_key.SlotKey.{SlotKey}
use Rattle.managed.specs.Elements.{items_or}
use Rattle.managed.specs.SlotLoans.{owned_with, borrowed_with}
use Rattle.std.proofs.lemmas.Option.{slice_get_read}

pub shown_at : {T : Type 0} (xs : List T) (n place : ℕ) (r : Option (MutBor T)) → n ≡ length xs
    → (IsSome r ↔ (place < n))
    → IfSome r (λ x. x.now ≡ slice_index_or xs place x.now) → IfSome r (λ x. Some x.now ≡ slice_get xs place)
shown_at xs n place None e found value = tt
shown_at xs n place (Some x) e found value = sym (slice_get_read xs n place x.now e (found.0 refl) value)

pub elements-written : {T Z : Type 0} (owned : Option (Vec T Z)) (borrowed : MutBor (List T)) (place : ℕ)
    (w : T)
    → items_or (owned_with owned place w) (borrowed_with owned borrowed place w).now ≡ slice_set
    (items_or owned borrowed.now) place w
elements-written None borrowed place w = refl
elements-written (Some items) borrowed place w = refl

-- a key beside the element that was lent at its place
module _ {T : Type 0} (r : Option (SlotKey × MutBor T)) (e : Option (MutBor T)) (k next : SlotKey)
    (is_key : IfSome r (λ entry. entry.0 ≡ k)) (is_next : k ≡ next) where
  pub reserved_key : IfSome r (λ entry. entry.0 ≡ next)
  reserved_key = by_cases r is_key
    where
      by_cases : (r : Option (SlotKey × MutBor T)) → IfSome r (λ entry. entry.0 ≡ k)
          → IfSome r (λ entry. entry.0 ≡ next)
      by_cases None is = tt
      by_cases (Some entry) is = is ∙ is_next

  pub reserved_value : (xs : List T) → IfSome r (λ entry. Some entry.1 ≡ e)
      → IfSome e (λ x. Some x.now ≡ slice_get xs next.place) → IfSome r (λ entry. Some entry.1.now ≡ slice_get
      xs entry.0.place)
  reserved_value xs is_pair shown = by_cases r reserved_key is_pair
    where
      by_cases : (r : Option (SlotKey × MutBor T)) → IfSome r (λ entry. entry.0 ≡ next)
          → IfSome r (λ entry. Some entry.1 ≡ e) → IfSome r (λ entry. Some entry.1.now ≡ slice_get xs
          entry.0.place)
      by_cases None is pair = tt
      by_cases (Some entry) is pair =
          rw is (subst (λ (o : Option (MutBor T)). IfSome o (λ x. Some x.now ≡ slice_get xs next.place))
          (sym pair) shown)
