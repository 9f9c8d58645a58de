-- A variant's field is lent, and a walk over it is made; the map follows the walk.
use Rattle.managed.proofs.Walks.{ℕ, ◌+◌, after, leaves, GName, id⊢, ent, ◌⊑◌, lft_at, Lfts, Shares}
use Rattle.managed.proofs.Walks.{AllOutlive, fact, MachineTables, tables, Running, Array, RefMutOf, no}
use Rattle.managed.proofs.Walks.{follows, follows_then, lone, param, Laws, param_laws, RattleType, MutBor}
use Rattle.managed.proofs.Walks.{at_last, mut_vals, NamedLft, plain, named_lft, MutSlice, mut_slice_vals}
use Rattle.managed.proofs.Walks.{nothing, heard, renamed, Clauses, Ended, framed, Stays, stay_dropped}
use Rattle.managed.proofs.Walks.{walk_of, [], ◌∷◌, ◌≡◌, refl, sym, ◌∙◌, inst_fn, named, Fn, vptr, suc-ne-zero}
use Rattle.managed.proofs.Walks.{up, align, Model, WpFn, Ura, alloc_all, pass_all, free_all, look_at, get}
use Rattle.managed.proofs.Walks.{through, sets, lands_as, lands_last, env, ‵, raw, ◌⊛◌, ◌$◌, !, done, move}
use Rattle.managed.proofs.Walks.{drop, use1, use2, fjoin, split, join, rewrite, suffices, frame, keep, fsplit}
use Rattle.managed.proofs.Walks.{fsplit3, at_ret, Logic, vrt, look_tag, by_variants, agg, whole, sub, look_in}
use Rattle.managed.proofs.Walks.{enter, addr, stop, no_more, and_then, returns, load, of_opd, fld, hop, first}
use Rattle.managed.proofs.Walks.{exec, Triple}
use Rattle.std.specs.BTreeMap.{values}
use Rattle.std.specs.BTreeMap.Lent.{KeepsKeys, with_values}
use Rattle.std.specs.BTreeMap.IterMut.{iter_mut_name, iter_mut_rest}
use Rattle.std.specs.Prelude.{drop as without}
use Rattle.std.specs.contracts.collections.btree_map.IterMut as lent-row
use Rattle.std.proofs.collections.btree_map.IterMut.TheLaws.{the_row_laws as lent_laws}
use Rattle.managed.proofs.InnerLoans.{opens_inner, lends_inner}
use Rattle.managed.proofs.MapWalks.{Keys, Map, args, Place, σ, places_field, Tree, tree_field}
use Rattle.managed.proofs.VariantLoans.{opens_field, lends_field}
use Rattle.managed.proofs.WalkSteps.{asked, asks, asks_last, gathers, states, beside, is_typed, starts}
use Rattle.managed.specs.SortedMap.{filled, IsSortedPlaces}
use Rattle.managed.specs.Walk.{pairs_to_write}
use Rattle.managed.specs.WalkLoans.{walk_name, with_tree_values}
use Rattle.managed.specs.declared.map.ManagedMap.{ManagedMap}
use Rattle.managed.specs.declared.map.ManagedMap.TheVariants.{Borrowed, Owned}
use Rattle.managed.specs.contracts.map.iter_mut.IterMut as walk
use Rattle.managed.proofs.map.iter_mut.IterMut.TheLaws.{the_row_laws as walk_laws}
use Rattle.managed.specs.contracts.map.ManagedMap.iter_mut as f
use Rattle.managed.specs.contracts.map.iter_mut.over_places as g
use Rattle.managed.specs.contracts.map.iter_mut.pairs_of as h
use Rattle.managed.specs.contracts.map.iter_mut.over_pairs as w
use Rattle.managed.proofs.map.ManagedMap.iter_mut.Code as code

module _ (K V : RattleType) (O : Keys K.Denot) where
  abbrev pub function : Fn
  function = inst_fn (args K V O) code.function

  abbrev pub ended : Ended
  ended = f.ended K V O.o O.o-dict O.e O.e-dict O.p O.p-dict O.q O.q-dict

  abbrev ℓ : Lfts 4 → NamedLft
  ℓ κs = named_lft 4 1 tt κs

  abbrev pub Row : Lfts 4 → RattleType
  Row κs = Map K V O (ℓ κs)

  abbrev pub stayed : Stays ended.signature.params ended.kept
  stayed = (stay_dropped (RefMutOf (0 ∷ []) tt (plain Row) (λ _. tt)) no, tt)

  abbrev places : Ended
  places = g.ended K V O.o O.o-dict O.e O.e-dict O.p O.p-dict O.q O.q-dict

  abbrev tree : Ended
  tree = h.ended K V O.o O.o-dict O.e O.e-dict O.p O.p-dict O.q O.q-dict

  abbrev pairs : Ended
  pairs = w.ended K V O.o O.o-dict O.e O.e-dict O.p O.p-dict O.q O.q-dict

  module _ {M : Type 1} {𝓤 : Ura M} (𝓛 : Logic 𝓤) (𝓜 : Model 𝓤 𝓛.H) (𝓡 : Running 𝓤 𝓛.H 𝓜) where
    abbrev pub clauses : Clauses 𝓤 ended
    clauses = f.clauses K V O.o O.o-dict O.e O.e-dict O.p O.p-dict O.q O.q-dict 𝓛 𝓜.mem 𝓡.returns

    abbrev places_clauses : Clauses 𝓤 places
    places_clauses = g.clauses K V O.o O.o-dict O.e O.e-dict O.p O.p-dict O.q O.q-dict 𝓛 𝓜.mem 𝓡.returns

    abbrev tree_clauses : Clauses 𝓤 tree
    tree_clauses = h.clauses K V O.o O.o-dict O.e O.e-dict O.p O.p-dict O.q O.q-dict 𝓛 𝓜.mem 𝓡.returns

    abbrev pairs_clauses : Clauses 𝓤 pairs
    pairs_clauses = w.clauses K V O.o O.o-dict O.e O.e-dict O.p O.p-dict O.q O.q-dict 𝓛 𝓜.mem 𝓡.returns

    abbrev 𝓣 : MachineTables 𝓤 𝓛.H 𝓜
    𝓣 = tables 𝓤 𝓛.H 𝓜 𝓡 𝓡.env

    module _ (K-laws : Laws K) (V-laws : Laws V) (places_met : Triple 𝓤 (𝓣.C (g.Key.name (args K V O)))
        (asked 𝓛 places places_clauses))
        (tree_met : Triple 𝓤 (𝓣.C (h.Key.name (args K V O))) (asked 𝓛 tree tree_clauses))
        (pairs_met : Triple 𝓤 (𝓣.C (w.Key.name (args K V O))) (asked 𝓛 pairs pairs_clauses))
        (κs : Lfts 4) (qs : Shares 4) (bounds : AllOutlive 4 ended.signature.outlives κs) (at : ℕ × ℕ)
        (γ : GName) where
      abbrev bound : ManagedMap K.Denot V.Denot → (walk_of 𝓛 ended stayed clauses).Ghost
      bound m =
          let self : MutBor (ManagedMap K.Denot V.Denot) = record { ref_ptr = at; ghost_name = γ; now = m } in
          ((κs, qs, bounds, (self, tt), (mut_vals self, tt)), tt)

      abbrev W : RattleType
      W = walk.the_row (named_lft 4 0 tt κs) (param 0 K) (param 1 V)

      W-laws : Laws W
      W-laws = walk_laws (named_lft 4 0 tt κs) (param 0 K) (param 1 V) (param_laws 0 K K-laws)
          (param_laws 1 V V-laws)

      pub by_variant : (m : ManagedMap K.Denot V.Denot) → ent 𝓤 ((walk_of 𝓛 ended stayed clauses).pre
          (bound m))
          (WpFn 𝓤 𝓛.H 𝓣.C 𝓣.Λ function ((walk_of 𝓛 ended stayed clauses).args (bound m))
          ((walk_of 𝓛 ended stayed clauses).post (bound m)))
      by_variant (Borrowed y) =
          let κ = κs.0 in let ρ = κs.1.0 in let P = Place K V in let S = Array P 0 in let R = Row κs in
          let F = MutSlice (named 1) ρ P in let p = at.0 in let o = at.1 in
          let place = o + up (align (σ K V)) 1 in let live_K = lft_at 4 2 tt κs ⊑ K.lives in
          let live_V = lft_at 4 3 tt κs ⊑ V.lives in let field = places_field K V O (ℓ κs) in
          let m = bound (Borrowed y) in starts 𝓛 ended stayed clauses m (
          use1 𝓛 (raw (fact 𝓤 live_K) ⊛ raw (fact 𝓤 live_V) ⊛ raw (fact 𝓤 (IsSortedPlaces O.o.cmp y.now)))
          (id⊢ 𝓤 _) $ split ! $ heard ! _ (λ low_K. split ! $ heard ! _ (λ low_V. drop ! $ fsplit ! $
          fsplit3 ! $ keep ! (1 ∷ 2 ∷ 4 ∷ 5 ∷ 6 ∷ 7 ∷ []) $ enter ! 𝓣.C 𝓣.Λ function (vptr p o ∷ []) _ $
          alloc_all ! (λ l. pass_all ! refl ((tt, tt), tt) $ let E = env function.locals l in
          opens_field field 𝓛 p o κ γ y ! tt (λ v. first ! $ by_variants ! 0 (whole !)
          (load ! (through ! refl (vrt ! refl (fld ! refl (stop !)))) (look_tag ! 0 (whole !))) tt (
            (λ _. sets ! (addr ! (through ! refl (vrt ! refl (fld ! refl (stop !))))) refl (tt, tt) $
                lends_field field 𝓛 p o κ γ y ! tt (λ δ.
                -- [the field; its token; what follows; the other tokens]
                let inner : MutBor (MutBor S.Denot) =
                record { ref_ptr = (p, place); ghost_name = δ; now = y } in
                opens_inner 𝓛 P (σ K V) κ ρ qs.0 refl inner ! tt (λ fits small.
                sets ! (of_opd ! (load ! (through ! refl (fld ! refl (stop !)))
                (look_in ! 2 (sub ! 1 refl (whole !))))) refl
                (tt, record { fits = fits }) $
                sets ! (addr ! (through ! refl (fld ! refl (hop ! (look_in ! 2 (sub ! 0 refl (whole !)))
                (stop !))))) refl (tt, tt) $
                lends_inner 𝓛 P (σ K V) κ ρ qs.0 refl inner ! tt bounds.0 fits small (λ ε.
                -- [the places; a token; what follows the field, and the list; the other tokens]
                move ! (3 ∷ 2 ∷ []) $ use2 𝓛 (‵ (follows R S γ ε (λ xs. Borrowed (at_last y xs))))
                (follows_then 𝓛 R F S Borrowed (at_last y) γ δ ε) $
                sets ! (agg ! (and_then ! (get ! refl) (and_then ! (get ! refl) (no_more !)))) refl
                (tt, (tt, (record { fits = fits }, tt))) $ let z : (asked 𝓛 places places_clauses).Ghost = (
                  (
                    (κ, κs.1.1),
                    (qs.0, qs.1.1),
                    (bounds.1.0, (bounds.1.1.0, tt)),
                    (renamed y ε, tt),
                    (mut_slice_vals y, tt),
                  ),
                  tt,
                ) in gathers ! (1 ∷ []) $ gathers ! (2 ∷ 4 ∷ 5 ∷ []) $ join ! $
                nothing ! $ beside ! low_V $ beside ! low_K $
                asks_last ! (framed 𝓤 𝓛.H 𝓜 𝓣) places places_clauses places_met z (id⊢ 𝓤 _)
                (and_then ! (get ! refl) (no_more !)) (λ w e ws.
                use1 𝓛 (raw (fact 𝓤 (walk_name e ≡ ε)) ⊛ raw (fact 𝓤 (pairs_to_write e ≡ filled y.now)))
                (id⊢ 𝓤 _) $ split ! $ heard ! _ (λ name. heard ! _ (λ left.
                -- [the walk; three tokens; what follows; the other token]
                rewrite ! 4 (λ (η : GName). ‵ (follows R S γ η (λ xs. Borrowed (at_last y xs)))) (sym name)
                refl $ is_typed ! W (W-laws.lawful 𝓛) e (w ∷ []) (λ typed. lands_last ! refl typed.0 $
                exec ! 𝓣.C 𝓣.Λ E (after 1 function.body) (at_ret E ((walk_of 𝓛 ended stayed clauses).post
                m)) $ sets ! (of_opd ! (get ! refl)) refl typed.0 $ returns ! (look_at ! 0 refl) $
                free_all ! refl $ gathers ! (1 ∷ 5 ∷ 2 ∷ 3 ∷ []) $
                suffices ! _ (leaves 𝓛 ended stayed clauses m w e (tt, tt) (tt, tt)) $ frame ! $ nothing ! $
                nothing ! $ fjoin ! $ frame ! $ frame ! $ frame ! $ states ! {φ = Unit {0}} tt $ frame ! $
                states ! left $ done !)))))))),
            ((λ e. absurd (suc-ne-zero 0 (sym e))), tt),
          ))))))
      by_variant (Owned y) =
          let κ = κs.0 in let R = Row κs in let F = Tree K V O in let ℓ₀ = named_lft 4 0 tt κs in
          let p = at.0 in let o = at.1 in let place = o + up (align (lone F.mir)) 1 in
          let N = lent-row.the_row ℓ₀ (param 0 K) (param 1 V) in
          let N-laws = lent_laws ℓ₀ (param 0 K) (param 1 V) (param_laws 0 K K-laws) (param_laws 1 V V-laws) in
          let live_K = lft_at 4 2 tt κs ⊑ K.lives in let live_V = lft_at 4 3 tt κs ⊑ V.lives in
          let field = tree_field K V O (ℓ κs) in let m = bound (Owned y) in let fm = framed 𝓤 𝓛.H 𝓜 𝓣 in
          starts 𝓛 ended stayed clauses m (
          use1 𝓛 (raw (fact 𝓤 live_K) ⊛ raw (fact 𝓤 live_V) ⊛ raw (fact 𝓤 (Unit {0}))) (id⊢ 𝓤 _) $ split ! $
          heard ! _ (λ low_K. split ! $ heard ! _ (λ low_V. drop ! $ fsplit ! $ fsplit3 ! $
          keep ! (1 ∷ 2 ∷ 4 ∷ 5 ∷ 6 ∷ 7 ∷ []) $ enter ! 𝓣.C 𝓣.Λ function (vptr p o ∷ []) _ $
          alloc_all ! (λ l. pass_all ! refl ((tt, tt), tt) $ let E = env function.locals l in
          opens_field field 𝓛 p o κ γ y ! tt (λ v. first ! $ by_variants ! 0 (whole !)
          (load ! (through ! refl (vrt ! refl (fld ! refl (stop !)))) (look_tag ! 0 (whole !))) tt (
            (λ e. absurd (suc-ne-zero 0 e)),
            (
              (λ _. sets ! (addr ! (through ! refl (vrt ! refl (fld ! refl (stop !))))) refl (tt, tt) $
                  sets ! (addr ! (through ! refl (stop !))) refl (tt, tt) $
                  lends_field field 𝓛 p o κ γ y ! tt (λ δ.
                  -- [the field; its token; what follows; the other tokens]
                  let lent : MutBor F.Denot = record { ref_ptr = (p, place); ghost_name = δ; now = y } in
                  let z : (asked 𝓛 tree tree_clauses).Ghost = (
                    (
                      (κ, κs.1.1),
                      (qs.0, qs.1.1),
                      (bounds.1.0, (bounds.1.1.0, tt)),
                      (lent, tt),
                      (
                        vptr p place
                            ∷ [],
                        tt,
                      ),
                    ),
                    tt,
                  ) in gathers ! (0 ∷ []) $ gathers ! (1 ∷ 4 ∷ 5 ∷ []) $ join ! $ nothing ! $
                  beside ! low_V $ beside ! low_K $
                  asks ! fm tree tree_clauses tree_met z (id⊢ 𝓤 _) (and_then ! (get ! refl) (no_more !))
                  (λ v r ws.
                  use1 𝓛 (‵ (follows F F δ (iter_mut_name r) (λ n. with_values y 0 (without 0 (values n))))
                  ⊛ raw (fact 𝓤 (KeepsKeys y 0)) ⊛ raw (fact 𝓤 (iter_mut_rest r ≡ y.entries))) (id⊢ 𝓤 _) $
                  split ! $ move ! (1 ∷ []) $ split ! $ heard ! _ (λ keys. heard ! _ (λ all.
                  -- [what follows; the pairs; three tokens; what follows; the other token]
                  move ! (5 ∷ 0 ∷ []) $ use2 𝓛 (‵ (follows R F γ (iter_mut_name r) (with_tree_values y)))
                  (follows_then 𝓛 R F F Owned (λ n. with_values y 0 (without 0 (values n))) γ δ
                  (iter_mut_name r)) $ move ! (1 ∷ []) $
                  is_typed ! N (N-laws.lawful 𝓛) r (v ∷ []) (λ typed. lands_as ! refl refl typed.0 $
                  -- [the pairs; what follows; the tokens]
                  let z' : (asked 𝓛 pairs pairs_clauses).Ghost = (
                    ((κ, κs.1.1), (qs.0, qs.1.1), (bounds.1.0, (bounds.1.1.0, tt)), (r, tt), (v ∷ [], tt)),
                    tt,
                  ) in gathers ! (0 ∷ []) $ gathers ! (2 ∷ 3 ∷ 4 ∷ []) $ join ! $ nothing ! $
                  beside ! low_V $ beside ! low_K $
                  asks_last ! fm pairs pairs_clauses pairs_met z' (id⊢ 𝓤 _) (and_then ! (get ! refl)
                  (no_more !)) (λ w e ws'.
                  use1 𝓛 (raw (fact 𝓤 (walk_name e ≡ iter_mut_name r))
                  ⊛ raw (fact 𝓤 (pairs_to_write e ≡ iter_mut_rest r))) (id⊢ 𝓤 _) $ split ! $
                  heard ! _ (λ name. heard ! _ (λ left.
                  -- [the walk; three tokens; what follows; the other token]
                  rewrite ! 4 (λ (η : GName). ‵ (follows R F γ η (with_tree_values y))) (sym name) refl $
                  is_typed ! W (W-laws.lawful 𝓛) e (w ∷ []) (λ typed'. lands_last ! refl typed'.0 $
                  exec ! 𝓣.C 𝓣.Λ E (after 1 function.body) (at_ret E ((walk_of 𝓛 ended stayed clauses).post
                  m)) $ sets ! (of_opd ! (get ! refl)) refl typed'.0 $ returns ! (look_at ! 0 refl) $
                  free_all ! refl $ gathers ! (1 ∷ 5 ∷ 2 ∷ 3 ∷ []) $
                  suffices ! _ (leaves 𝓛 ended stayed clauses m w e (tt, tt) (tt, tt)) $ frame ! $ nothing ! $
                  nothing ! $ fjoin ! $ frame ! $ frame ! $ frame ! $ states ! keys $ frame ! $
                  states ! (left ∙ all) $ done !)))))))))),
              tt,
            ),
          ))))))
