-- A variant's field is lent, and a function lends the value of the key in it; the map follows both.
use Rattle.managed.proofs.Walks.{ℕ, ◌+◌, after, leaves, GName, id⊢, ent, ◌⊑◌, lft_at, Lfts, Shares}
use Rattle.managed.proofs.Walks.{AllOutlive, fact, MachineTables, tables, Running, Array, RefMutOf, RefOf, no}
use Rattle.managed.proofs.Walks.{yes, follows, follows_then, follows_so, lone, param, Laws, RattleType}
use Rattle.managed.proofs.Walks.{MutRef, MutBor, at_last, mut_vals, Bor, shr_vals, NamedLft, plain, named_lft}
use Rattle.managed.proofs.Walks.{MutSlice, mut_slice_vals, nothing, heard, renamed, Clauses, Ended, framed}
use Rattle.managed.proofs.Walks.{Stays, stay_dropped, says, walk_of, [], ◌∷◌, ◌≡◌, refl, sym, ap, inst_fn}
use Rattle.managed.proofs.Walks.{named, Fn, vptr, suc-ne-zero, up, align, Model, WpFn, Ura, alloc_all}
use Rattle.managed.proofs.Walks.{pass_all, free_all, look_at, get, through, sets, lands_last, env, ‵, raw}
use Rattle.managed.proofs.Walks.{◌⊛◌, ◌$◌, !, done, move, drop, use1, use2, fjoin, split, join, suffices}
use Rattle.managed.proofs.Walks.{frame, keep, fsplit, fsplit3, at_ret, Logic, vrt, look_tag, by_variants, agg}
use Rattle.managed.proofs.Walks.{whole, sub, look_in, enter, addr, stop, no_more, and_then, returns, load}
use Rattle.managed.proofs.Walks.{of_opd, fld, hop, first, exec, Triple}
use Rattle.std.proofs.option.Option.TheLaws.{the_row_laws as option_laws}
use Rattle.std.specs.BTreeMap.{WritesThrough}
use Rattle.std.specs.Option.{OnSome, ghost_name_of, option_copied_mut}
use Rattle.std.specs.contracts.option.Option.{the_row as option_row}
use Rattle.managed.proofs.InnerLoans.{opens_inner, lends_inner}
use Rattle.managed.proofs.JoinedLoans.{joined_so}
use Rattle.managed.proofs.LoanLaws.{mut_laws}
use Rattle.managed.proofs.MapWalks.{Keys, Map, args, Place, σ, places_field, Tree, tree_field}
use Rattle.managed.proofs.MapWrites.{places_written, tree_written}
use Rattle.managed.proofs.VariantLoans.{opens_field, lends_field}
use Rattle.managed.proofs.WalkSteps.{asked, asks_last, gathers, states, beside, is_typed, starts}
use Rattle.managed.specs.MapLoans.{IsWrittenPlaces, IsWrittenMap}
use Rattle.managed.specs.SortedMap.{filled, value_at, IsSortedPlaces}
use Rattle.managed.specs.declared.map.ManagedMap.{ManagedMap}
use Rattle.managed.specs.declared.map.ManagedMap.TheVariants.{Borrowed, Owned}
use Rattle.managed.proofs.map.ManagedMap.get_mut.Code as code
use Rattle.managed.specs.contracts.map.ManagedMap.get_mut as f
use Rattle.managed.specs.contracts.map.borrowed.get_mut as g
use Rattle.managed.specs.contracts.map.loan.value_in_tree as h

module _ (K V : RattleType) (O : Keys K.Denot) where
  abbrev pub function : Fn
  function = inst_fn (args K V O) code.function

  abbrev pub ended : Ended
  ended = f.ended K V O.o O.o-dict O.e O.e-dict O.p O.p-dict O.q O.q-dict

  abbrev ℓ : Lfts 5 → NamedLft
  ℓ κs = named_lft 5 1 tt κs

  abbrev pub Row : Lfts 5 → RattleType
  Row κs = Map K V O (ℓ κs)

  abbrev pub stayed : Stays ended.signature.params ended.kept
  stayed = (
    stay_dropped (RefMutOf (0 ∷ []) tt (plain Row) (λ _. tt)) no,
    (stay_dropped (RefOf (2 ∷ []) tt (plain (λ _. param 0 K)) (λ _. tt)) yes, tt),
  )

  abbrev among : Ended
  among = g.ended K V O.o O.o-dict O.e O.e-dict O.p O.p-dict O.q O.q-dict

  abbrev in_tree : Ended
  in_tree = h.ended K V O.o O.o-dict O.e O.e-dict O.p O.p-dict O.q O.q-dict

  module _ {M : Type 1} {𝓤 : Ura M} (𝓛 : Logic 𝓤) (𝓜 : Model 𝓤 𝓛.H) (𝓡 : Running 𝓤 𝓛.H 𝓜) where
    abbrev pub clauses : Clauses 𝓤 ended
    clauses = f.clauses K V O.o O.o-dict O.e O.e-dict O.p O.p-dict O.q O.q-dict 𝓛 𝓜.mem 𝓡.returns

    abbrev among_clauses : Clauses 𝓤 among
    among_clauses = g.clauses K V O.o O.o-dict O.e O.e-dict O.p O.p-dict O.q O.q-dict 𝓛 𝓜.mem 𝓡.returns

    abbrev in_tree_clauses : Clauses 𝓤 in_tree
    in_tree_clauses = h.clauses K V O.o O.o-dict O.e O.e-dict O.p O.p-dict O.q O.q-dict 𝓛 𝓜.mem 𝓡.returns

    abbrev 𝓣 : MachineTables 𝓤 𝓛.H 𝓜
    𝓣 = tables 𝓤 𝓛.H 𝓜 𝓡 𝓡.env

    module _ (V-laws : Laws V) (among_met : Triple 𝓤 (𝓣.C (g.Key.name (args K V O)))
        (asked 𝓛 among among_clauses))
        (tree_met : Triple 𝓤 (𝓣.C (h.Key.name (args K V O))) (asked 𝓛 in_tree in_tree_clauses))
        (κs : Lfts 5) (qs : Shares 5) (bounds : AllOutlive 5 ended.signature.outlives κs) (at : ℕ × ℕ)
        (γ : GName)
        (key : Bor K.Denot) where
      abbrev bound : ManagedMap K.Denot V.Denot → (walk_of 𝓛 ended stayed clauses).Ghost
      bound m =
          let self : MutBor (ManagedMap K.Denot V.Denot) = record { ref_ptr = at; ghost_name = γ; now = m } in
          ((κs, qs, bounds, (self, (key, tt)), (mut_vals self, (shr_vals key, tt))), tt)

      pub by_variant : (m : ManagedMap K.Denot V.Denot) → ent 𝓤 ((walk_of 𝓛 ended stayed clauses).pre
          (bound m))
          (WpFn 𝓤 𝓛.H 𝓣.C 𝓣.Λ function ((walk_of 𝓛 ended stayed clauses).args (bound m))
          ((walk_of 𝓛 ended stayed clauses).post (bound m)))
      by_variant (Borrowed y) =
          let κ = κs.0 in let ρ = κs.1.0 in let X = param 1 V in let P = Place K V in let S = Array P 0 in
          let R = Row κs in let F = MutSlice (named 1) ρ P in let Part = MutRef (named 0) κ X in
          let cmp = O.o.cmp in let k = key.now in let live_K = lft_at 5 3 tt κs ⊑ K.lives in
          let live_V = lft_at 5 4 tt κs ⊑ V.lives in let field = places_field K V O (ℓ κs) in let p = at.0 in
          let o = at.1 in let place = o + up (align (σ K V)) 1 in let m = bound (Borrowed y) in
          starts 𝓛 ended stayed clauses m (
          use1 𝓛 (raw (fact 𝓤 live_K) ⊛ raw (fact 𝓤 live_V) ⊛ raw (fact 𝓤 (IsSortedPlaces cmp y.now)))
          (id⊢ 𝓤 _) $ split ! $ heard ! _ (λ low_K. split ! $ heard ! _ (λ low_V. heard ! _ (λ sorted.
          fsplit ! $ fsplit3 ! $ move ! (3 ∷ []) $ fsplit ! $ keep ! (3 ∷ 4 ∷ 5 ∷ 6 ∷ 7 ∷ 8 ∷ 9 ∷ 0 ∷ []) $
          enter ! 𝓣.C 𝓣.Λ function (vptr p o ∷ shr_vals key) _ $
          alloc_all ! (λ l. pass_all ! refl ((tt, tt), ((tt, tt), tt)) $ let E = env function.locals l in
          opens_field field 𝓛 p o κ γ y ! tt (λ v. first ! $ by_variants ! 0 (whole !)
          (load ! (through ! refl (vrt ! refl (fld ! refl (stop !)))) (look_tag ! 0 (whole !))) tt (
            (λ _. sets ! (addr ! (through ! refl (vrt ! refl (fld ! refl (stop !))))) refl (tt, tt) $
                lends_field field 𝓛 p o κ γ y ! tt (λ δ.
                -- [the field; its token; what follows; the other tokens; the key]
                let inner : MutBor (MutBor S.Denot) =
                record { ref_ptr = (p, place); ghost_name = δ; now = y } in
                opens_inner 𝓛 P (σ K V) κ ρ qs.0 refl inner ! tt (λ fits small.
                sets ! (of_opd ! (load ! (through ! refl (fld ! refl (stop !)))
                (look_in ! 2 (sub ! 1 refl (whole !))))) refl
                (tt, record { fits = fits }) $
                sets ! (addr ! (through ! refl (fld ! refl (hop ! (look_in ! 2 (sub ! 0 refl (whole !)))
                (stop !))))) refl (tt, tt) $
                lends_inner 𝓛 P (σ K V) κ ρ qs.0 refl inner ! tt bounds.0 fits small (λ ε.
                -- [the places; a token; what follows the field, and the list; the other tokens; the key]
                move ! (3 ∷ 2 ∷ []) $ use2 𝓛 (‵ (follows R S γ ε (λ xs. Borrowed (at_last y xs))))
                (follows_then 𝓛 R F S Borrowed (at_last y) γ δ ε) $
                sets ! (agg ! (and_then ! (get ! refl) (and_then ! (get ! refl) (no_more !)))) refl
                (tt, (tt, (record { fits = fits }, tt))) $ let z : (asked 𝓛 among among_clauses).Ghost = (
                  (
                    (κ, κs.1.1),
                    (qs.0, qs.1.1),
                    (bounds.1.0, (bounds.1.1.0, (bounds.1.1.1.1.1.0, tt))),
                    (renamed y ε, (key, tt)),
                    (mut_slice_vals y, (shr_vals key, tt)),
                  ),
                  tt,
                ) in gathers ! (1 ∷ 7 ∷ []) $ gathers ! (2 ∷ 4 ∷ 5 ∷ 6 ∷ []) $ join ! $ states ! sorted $
                beside ! low_V $ beside ! low_K $
                asks_last ! (framed 𝓤 𝓛.H 𝓜 𝓣) among among_clauses among_met z (id⊢ 𝓤 _)
                (and_then ! (get ! refl) (and_then ! (get ! refl) (no_more !))) (λ w e ws.
                use1 𝓛 (‵ (follows_so S X ε (ghost_name_of e) (λ x n. OnSome e (IsWrittenPlaces cmp k y.now x
                n)) (λ n. n ≡ y.now))
                ⊛ raw (fact 𝓤 (option_copied_mut e ≡ value_at cmp (filled y.now) k))) (id⊢ 𝓤 _) $ split ! $
                move ! (1 ∷ []) $ heard ! _ (λ shown.
                -- [what follows the places; the value; four tokens; what follows the map; the other token]
                move ! (6 ∷ 0 ∷ []) $
                use2 𝓛 (‵ (follows_so R X γ (ghost_name_of e)
                (λ x n. OnSome e (IsWrittenMap cmp k (Borrowed y) x n)) (λ n. n ≡ Borrowed y)))
                (joined_so 𝓛 R S X (λ xs. Borrowed (at_last y xs)) γ ε (ghost_name_of e)
                (λ x n. OnSome e (IsWrittenPlaces cmp k y.now x n)) (λ n. n ≡ y.now)
                (λ x n. OnSome e (IsWrittenMap cmp k (Borrowed y) x n)) (λ n. n ≡ Borrowed y)
                (λ x n written. places_written cmp k e x y n written)
                (λ n kept. ap (λ (xs : S.Denot). Borrowed (at_last y xs)) kept)) $ move ! (1 ∷ []) $
                is_typed ! (option_row Part) ((option_laws Part (mut_laws 1 κ V V-laws)).lawful 𝓛) e (w ∷ [])
                (λ typed.
                lands_last ! refl typed.0 $
                exec ! 𝓣.C 𝓣.Λ E (after 1 function.body) (at_ret E ((walk_of 𝓛 ended stayed clauses).post
                m)) $ sets ! (of_opd ! (get ! refl)) refl typed.0 $ returns ! (look_at ! 0 refl) $
                free_all ! refl $ gathers ! (2 ∷ 6 ∷ 3 ∷ 4 ∷ 5 ∷ []) $
                suffices ! _ (leaves 𝓛 ended stayed clauses m w e (tt, (tt, tt)) (tt, (tt, tt))) $ frame ! $
                nothing ! $ nothing ! $ fjoin ! $ nothing ! $ fjoin ! $ frame ! $ frame ! $ says ! shown $
                done !))))))),
            ((λ e. absurd (suc-ne-zero 0 (sym e))), tt),
          )))))))
      by_variant (Owned y) =
          let κ = κs.0 in let X = param 1 V in let R = Row κs in let F = Tree K V O in
          let Part = MutRef (named 0) κ X in let cmp = O.o.cmp in let k = key.now in
          let live_K = lft_at 5 3 tt κs ⊑ K.lives in let live_V = lft_at 5 4 tt κs ⊑ V.lives in
          let field = tree_field K V O (ℓ κs) in let p = at.0 in let o = at.1 in
          let place = o + up (align (lone F.mir)) 1 in let m = bound (Owned y) in
          starts 𝓛 ended stayed clauses m (
          use1 𝓛 (raw (fact 𝓤 live_K) ⊛ raw (fact 𝓤 live_V) ⊛ raw (fact 𝓤 (Unit {0}))) (id⊢ 𝓤 _) $ split ! $
          heard ! _ (λ low_K. split ! $ heard ! _ (λ low_V. drop ! $ fsplit ! $ fsplit3 ! $ move ! (3 ∷ []) $
          fsplit ! $ keep ! (3 ∷ 4 ∷ 5 ∷ 6 ∷ 7 ∷ 8 ∷ 9 ∷ 0 ∷ []) $
          enter ! 𝓣.C 𝓣.Λ function (vptr p o ∷ shr_vals key) _ $
          alloc_all ! (λ l. pass_all ! refl ((tt, tt), ((tt, tt), tt)) $ let E = env function.locals l in
          opens_field field 𝓛 p o κ γ y ! tt (λ v. first ! $ by_variants ! 0 (whole !)
          (load ! (through ! refl (vrt ! refl (fld ! refl (stop !)))) (look_tag ! 0 (whole !))) tt (
            (λ e. absurd (suc-ne-zero 0 e)),
            (
              (λ _. sets ! (addr ! (through ! refl (vrt ! refl (fld ! refl (stop !))))) refl (tt, tt) $
                  sets ! (addr ! (through ! refl (stop !))) refl (tt, tt) $
                  lends_field field 𝓛 p o κ γ y ! tt (λ δ.
                  -- [the field; its token; what follows; the other tokens; the key]
                  let lent : MutBor (Tree K V O).Denot =
                  record { ref_ptr = (p, place); ghost_name = δ; now = y } in
                  let z : (asked 𝓛 in_tree in_tree_clauses).Ghost = (
                    (
                      (κ, κs.1.1),
                      (qs.0, qs.1.1),
                      (bounds.1.0, (bounds.1.1.0, (bounds.1.1.1.1.1.0, tt))),
                      (lent, (key, tt)),
                      (vptr p place ∷ [], (shr_vals key, tt)),
                    ),
                    tt,
                  ) in gathers ! (0 ∷ 7 ∷ []) $ gathers ! (1 ∷ 4 ∷ 5 ∷ 6 ∷ []) $ join ! $ nothing ! $
                  beside ! low_V $ beside ! low_K $
                  asks_last ! (framed 𝓤 𝓛.H 𝓜 𝓣) in_tree in_tree_clauses tree_met z (id⊢ 𝓤 _)
                  (and_then ! (get ! refl) (and_then ! (get ! refl) (no_more !))) (λ w e ws.
                  use1 𝓛 (‵ (follows_so F X δ (ghost_name_of e) (WritesThrough cmp (cmp k) y) (λ n. n ≡ y))
                  ⊛ raw (fact 𝓤 (option_copied_mut e ≡ value_at cmp y.entries k))) (id⊢ 𝓤 _) $ split ! $
                  move ! (1 ∷ []) $ heard ! _ (λ shown.
                  -- [what follows the tree; the value; four tokens; what follows the map; the other token]
                  move ! (6 ∷ 0 ∷ []) $
                  use2 𝓛 (‵ (follows_so R X γ (ghost_name_of e) (λ x n. OnSome e (IsWrittenMap cmp k (Owned y)
                  x n)) (λ n. n ≡ Owned y)))
                  (joined_so 𝓛 R F X Owned γ δ (ghost_name_of e) (WritesThrough cmp (cmp k) y) (λ n. n ≡ y)
                  (λ x n. OnSome e (IsWrittenMap cmp k (Owned y) x n)) (λ n. n ≡ Owned y)
                  (λ x n written. tree_written cmp k e x y n written) (λ n kept. ap Owned kept)) $
                  move ! (1 ∷ []) $
                  is_typed ! (option_row Part) ((option_laws Part (mut_laws 1 κ V V-laws)).lawful 𝓛) e
                  (w ∷ []) (λ typed.
                  lands_last ! refl typed.0 $
                  exec ! 𝓣.C 𝓣.Λ E (after 1 function.body) (at_ret E ((walk_of 𝓛 ended stayed clauses).post
                  m)) $ sets ! (of_opd ! (get ! refl)) refl typed.0 $ returns ! (look_at ! 0 refl) $
                  free_all ! refl $ gathers ! (2 ∷ 6 ∷ 3 ∷ 4 ∷ 5 ∷ []) $
                  suffices ! _ (leaves 𝓛 ended stayed clauses m w e (tt, (tt, tt)) (tt, (tt, tt))) $ frame ! $
                  nothing ! $ nothing ! $ fjoin ! $ nothing ! $ fjoin ! $ frame ! $ frame ! $ says ! shown $
                  done !))))),
              tt,
            ),
          ))))))
