-- The laws of the types of what is lent.
use Rattle.managed.proofs.Walks.{ℕ, param, Laws, param_laws, of_field, row_shared, mut_ref_shared, RattleType}
use Rattle.managed.proofs.Walks.{MutRef, NamedLft, mut_ref_field, mut_ref_laws, List, refl, named}

-- a reference to a value of the n-th type parameter
abbrev pub mut_laws : (n : ℕ) (κ : List ℕ) (T : RattleType) → Laws T → Laws (MutRef (named 0) κ (param n T))
mut_laws n κ T laws =
    let ℓ : NamedLft = record { mir = named 0; lft = κ } in
    of_field (mut_ref_field ℓ (param n T) tt) (mut_ref_laws ℓ (param n T) tt) refl
    (mut_ref_shared ℓ (param n T) tt (row_shared (param n T) (param_laws n T laws)))
