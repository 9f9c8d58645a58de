-- The walk over both kinds of storage, from the contracts of what it calls.
use Rattle.managed.proofs.Walks.{proved, mut_vals, mut_Tells, plain, Goes-spent_ref, [], ◌∷◌, named}
use Rattle.managed.proofs.MapWalks.{Keys, args}
use Rattle.managed.specs.contracts.map.ManagedMap.iter_mut as f
use Rattle.managed.proofs.map.iter_mut.over_places.Met.{met as places_met}
use Rattle.managed.proofs.map.iter_mut.pairs_of.Met.{met as tree_met}
use Rattle.managed.proofs.map.iter_mut.over_pairs.Met.{met as pairs_met}
use Rattle.managed.proofs.map.ManagedMap.iter_mut.Statement.{statement}
use Rattle.managed.proofs.map.ManagedMap.iter_mut.Code as code
use Rattle.managed.proofs.map.ManagedMap.iter_mut.Proof.Walk.{function, ended, Row, stayed, clauses, by_variant}
mod Walk

pub iter_mut_spec : {M : Type 1} → statement M
iter_mut_spec 𝓤 𝓛 𝓜 𝓡 wired K V K-laws V-laws o o-dict e e-dict p p-dict q q-dict m₀ m₁ m₂ m₃ =
    let O : Keys K.Denot =
    record { o = o; o-dict = o-dict; e = e; e-dict = e-dict; p = p; p-dict = p-dict; q = q; q-dict = q-dict } in
    proved 𝓛 (ended K V O) (stayed K V O) (clauses K V O 𝓛 𝓜 𝓡) 𝓜 𝓡
    (Goes-spent_ref 𝓛 4 (0 ∷ []) tt (plain (Row K V O)), tt)
    (f.Key.name (args K V O)) (function K V O) (code.unfolded 𝓤 𝓛.H 𝓜 𝓡 wired (K, (V, tt)) o-dict e-dict
    p-dict q-dict)
    (λ κs. (mut_vals, tt)) (λ κs. (mut_Tells (named 0) κs.0 (Row K V O κs), tt))
    (λ κs qs bounds a u are. by_variant K V O 𝓛 𝓜 𝓡 K-laws V-laws
    (places_met 𝓤 𝓛 𝓜 𝓡 (code.calls-managed::map::iter_mut::over_places 𝓡.env wired) K V K-laws V-laws
    o o-dict e e-dict p p-dict q q-dict m₀ m₁ m₂ m₃)
    (tree_met 𝓤 𝓛 𝓜 𝓡 (code.calls-managed::map::iter_mut::pairs_of 𝓡.env wired) K V K-laws V-laws
    o o-dict e e-dict p p-dict q q-dict m₀ m₁ m₂ m₃)
    (pairs_met 𝓤 𝓛 𝓜 𝓡 (code.calls-managed::map::iter_mut::over_pairs 𝓡.env wired) K V K-laws V-laws
    o o-dict e e-dict p p-dict q q-dict m₀ m₁ m₂ m₃)
    κs qs bounds a.0.ref_ptr a.0.ghost_name a.0.now)
