-- The walk over both kinds of storage, from the contracts of what it calls.
use Rattle.managed.proofs.Walks.{proved, RefOf, yes, param, mut_vals, mut_Tells, shr_vals, shr_Tells, plain}
use Rattle.managed.proofs.Walks.{Goes-dropped, Goes-spent_ref, [], ◌∷◌, refl, named}
use Rattle.managed.proofs.MapWalks.{Keys, args}
use Rattle.managed.specs.contracts.map.ManagedMap.get_mut as f
use Rattle.managed.proofs.map.borrowed.get_mut.Met.{met as among_met}
use Rattle.managed.proofs.map.loan.value_in_tree.Met.{met as in_tree_met}
use Rattle.managed.proofs.map.ManagedMap.get_mut.Statement.{statement}
use Rattle.managed.proofs.map.ManagedMap.get_mut.Code as code
use Rattle.managed.proofs.map.ManagedMap.get_mut.Proof.Walk.{function, ended, Row, stayed, clauses, by_variant}
mod Walk

pub get_mut_spec : {M : Type 1} → statement M
get_mut_spec 𝓤 𝓛 𝓜 𝓡 wired K V K-laws V-laws o o-dict e e-dict p p-dict q q-dict m₀ m₁ m₂ m₃ =
    let O : Keys K.Denot =
    record { o = o; o-dict = o-dict; e = e; e-dict = e-dict; p = p; p-dict = p-dict; q = q; q-dict = q-dict } in
    proved 𝓛 (ended K V O) (stayed K V O) (clauses K V O 𝓛 𝓜 𝓡) 𝓜 𝓡 (
      Goes-spent_ref 𝓛 5 (0 ∷ []) tt (plain (Row K V O)),
      (Goes-dropped 𝓛 5 (RefOf (2 ∷ []) tt (plain (λ _. param 0 K)) (λ _. tt)) yes (λ κs x w. refl), tt),
    )
    (f.Key.name (args K V O)) (function K V O) (code.unfolded 𝓤 𝓛.H 𝓜 𝓡 wired (K, (V, tt)) o-dict e-dict
    p-dict q-dict)
    (λ κs. (mut_vals, (shr_vals, tt)))
    (λ κs. (mut_Tells (named 0) κs.0 (Row K V O κs), (shr_Tells (named 2) κs.1.1.0 (param 0 K), tt)))
    (λ κs qs bounds a u are. by_variant K V O 𝓛 𝓜 𝓡 V-laws
    (among_met 𝓤 𝓛 𝓜 𝓡 (code.calls-managed::map::borrowed::get_mut 𝓡.env wired) K V K-laws V-laws
    o o-dict e e-dict p p-dict q q-dict m₀ m₁ m₂ m₃)
    (in_tree_met 𝓤 𝓛 𝓜 𝓡 (code.calls-managed::map::loan::value_in_tree 𝓡.env wired) K V K-laws V-laws
    o o-dict e e-dict p p-dict q q-dict m₀ m₁ m₂ m₃)
    κs qs bounds a.0.ref_ptr a.0.ghost_name a.1.0 a.0.now)
