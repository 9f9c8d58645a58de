-- The variant's field is lent, and a function lends the items behind it; the list follows both.
use Rattle.managed.proofs.Walks.{ℕ, ◌+◌, after, proved, leaves, ftrue, GName, id⊢, ent, ◌⊑◌, lft_at, Lfts}
use Rattle.managed.proofs.Walks.{Shares, AllOutlive, fact, tables, Running, Array, RefMutOf, no, follows}
use Rattle.managed.proofs.Walks.{follows_then, lone, layouts, param, Laws, RattleType, MutBor, at_last}
use Rattle.managed.proofs.Walks.{mut_vals, mut_Tells, plain, named_lft, MutSlice, mut_slice_Lawful, slice_ty}
use Rattle.managed.proofs.Walks.{slice_val, nothing, heard, renamed, Clauses, framed, Stays, stay_dropped}
use Rattle.managed.proofs.Walks.{says, Goes-spent_ref, walk_of, length, List, [], ◌∷◌, ◌++◌, ◌≡◌, refl, sym}
use Rattle.managed.proofs.Walks.{inst_fn, a_type, named, Ty, erased, mut, ty_ref, ty_param, Fn, Args, vptr}
use Rattle.managed.proofs.Walks.{suc-ne-zero, up, align, Model, Wired, WpFn, Ura, sets_last, alloc_all}
use Rattle.managed.proofs.Walks.{pass_all, free_all, look_at, get, through, sets, lands_last, env, sets_last}
use Rattle.managed.proofs.Walks.{‵, raw, ◌⊛◌, ◌$◌, !, done, move, drop, use1, use2, fjoin, split, join}
use Rattle.managed.proofs.Walks.{suffices, frame, keep, fsplit, fsplit3, at_ret, Logic, vrt, look_tag}
use Rattle.managed.proofs.Walks.{by_variants, agg, whole, sub, look_in, enter, addr, stop, no_more, and_then}
use Rattle.managed.proofs.Walks.{returns, load, of_opd, fld, hop, first, exec}
use Rattle.std.specs.Vec.{with_items}
use Rattle.std.specs.contracts.vec.Vec as vec
use Rattle.std.specs.contracts.alloc.Global as heap
use Rattle.std.specs.contracts.impls.GlobalAllocator.TheImpl as impl
use Rattle.managed.proofs.InnerLoans.{opens_inner, lends_inner}
use Rattle.managed.proofs.VariantLoans.{first_field, second_field, opens_field, lends_field}
use Rattle.managed.proofs.WalkSteps.{asked, gathers, beside, is_typed, asks_last, starts}
use Rattle.managed.specs.declared.slice.ManagedSlice.{ManagedSlice}
use Rattle.managed.specs.declared.slice.ManagedSlice.TheVariants.{Borrowed, Owned}
use Rattle.managed.specs.contracts.slice.ManagedSlice as row
use Rattle.managed.specs.contracts.slice.ManagedSlice.as_mut_slice as f
use Rattle.managed.specs.contracts.slice.items_in as h
use Rattle.managed.proofs.slice.items_in.Met.{met as items_met}
use Rattle.managed.proofs.slice.ManagedSlice.as_mut_slice.Statement.{statement}
use Rattle.managed.proofs.slice.ManagedSlice.as_mut_slice.Code as code

module _ (T : RattleType) where
  abbrev X : RattleType
  X = param 0 T

  abbrev V : RattleType
  V = vec.the_row X heap.the_row impl.ghosts

  abbrev σ : Ty
  σ = slice_ty (ty_ref erased mut (ty_param 0))

  abbrev args : Args
  args = layouts (a_type ∷ []) (T, tt)

  abbrev function : Fn
  function = inst_fn args code.function

  abbrev Row : Lfts 3 → RattleType
  Row κs = row.the_row (named_lft 3 1 tt κs) X

  abbrev stayed : Stays (f.ended T).signature.params (f.ended T).kept
  stayed = (stay_dropped (RefMutOf (0 ∷ []) tt (plain Row) (λ _. tt)) no, tt)

  module _ {M : Type 1} {𝓤 : Ura M} (𝓛 : Logic 𝓤) (𝓜 : Model 𝓤 𝓛.H) (𝓡 : Running 𝓤 𝓛.H 𝓜) (wired : Wired 𝓡.env
      code.code)
      (laws : Laws T) (κs : Lfts 3) (qs : Shares 3) (bounds : AllOutlive 3 (f.ended T).signature.outlives κs)
      (at : ℕ × ℕ) (γ : GName) where
    abbrev self : ManagedSlice T.Denot → MutBor (ManagedSlice T.Denot)
    self m = record { ref_ptr = at; ghost_name = γ; now = m }

    abbrev c : Clauses 𝓤 (f.ended T)
    c = f.clauses T 𝓛 𝓜.mem 𝓡.returns

    abbrev bound : (m : ManagedSlice T.Denot) → (walk_of 𝓛 (f.ended T) stayed c).Ghost
    bound m = ((κs, qs, bounds, (self m, tt), (mut_vals (self m), tt)), tt)

    walks : (m : ManagedSlice T.Denot) → ent 𝓤 ((walk_of 𝓛 (f.ended T) stayed c).pre (bound m))
        (WpFn 𝓤 𝓛.H (tables 𝓤 𝓛.H 𝓜 𝓡 𝓡.env).C (tables 𝓤 𝓛.H 𝓜 𝓡 𝓡.env).Λ function (mut_vals (self m) ++ [])
        ((walk_of 𝓛 (f.ended T) stayed c).post (bound m)))
    walks (Borrowed y) =
        let 𝓣 = tables 𝓤 𝓛.H 𝓜 𝓡 𝓡.env in let κ = κs.0 in let b = at.0 in let o = at.1 in let R = Row κs in
        let F = MutSlice (named 1) κs.1.0 X in let S = Array X 0 in let ω = lone V.mir in
        let ν = (row.the_type (named_lft 3 1 tt κs) X).name in let whole_ref = MutSlice (named 0) κ X in
        let field = first_field R F Borrowed ν σ ω refl refl refl refl (λ x vs. refl) in
        let place = o + up (align σ) 1 in let m = bound (Borrowed y) in starts 𝓛 (f.ended T) stayed c m (
        use1 𝓛 (raw (fact 𝓤 (lft_at 3 2 tt κs ⊑ T.lives)) ⊛ ‵ ftrue) (id⊢ 𝓤 _) $ split ! $
        heard ! _ (λ low. drop ! $ fsplit ! $ fsplit3 ! $ keep ! (1 ∷ 2 ∷ 4 ∷ 5 ∷ 6 ∷ []) $
        enter ! 𝓣.C 𝓣.Λ function (vptr b o ∷ []) _ $ alloc_all ! (λ l. pass_all ! refl ((tt, tt), tt) $
        let E = env function.locals l in opens_field field 𝓛 b o κ γ y ! tt (λ v. first ! $
        by_variants ! 0 (whole !)
        (load ! (through ! refl (vrt ! refl (fld ! refl (stop !)))) (look_tag ! 0 (whole !))) tt (
          (λ _. sets ! (addr ! (through ! refl (vrt ! refl (fld ! refl (stop !))))) refl (tt, tt) $
              lends_field field 𝓛 b o κ γ y ! tt (λ δ.
              -- [the field; its token; what follows; the other tokens]
              let r : MutBor (MutBor (List X.Denot)) =
              record { ref_ptr = (b, place); ghost_name = δ; now = y } in
              opens_inner 𝓛 X σ κ κs.1.0 qs.0 refl r ! tt (λ fits small.
              sets ! (of_opd ! (load ! (through ! refl (fld ! refl (stop !)))
              (look_in ! 2 (sub ! 1 refl (whole !))))) refl
              (tt, record { fits = fits }) $
              sets ! (addr ! (through ! refl (fld ! refl (hop ! (look_in ! 2 (sub ! 0 refl (whole !)))
              (stop !))))) refl (tt, tt) $
              lends_inner 𝓛 X σ κ κs.1.0 qs.0 refl r ! tt bounds.0 fits small (λ ε.
              -- [the items; a token; what follows the field, and the list; the other tokens]
              move ! (3 ∷ 2 ∷ []) $ use2 𝓛 (‵ (follows R S γ ε (λ xs. Borrowed (at_last y xs))))
              (follows_then 𝓛 R F S Borrowed (at_last y) γ δ ε) $
              sets_last ! (agg ! (and_then ! (get ! refl) (and_then ! (get ! refl) (no_more !)))) refl
              (tt, (tt, (record { fits = fits }, tt))) $
              exec ! 𝓣.C 𝓣.Λ E (after 1 function.body) (at_ret E ((walk_of 𝓛 (f.ended T) stayed c).post m)) $
              sets ! (of_opd ! (get ! refl)) refl (tt, (tt, (record { fits = fits }, tt))) $
              returns ! (look_at ! 0 refl) $ free_all ! refl $ move ! (1 ∷ []) $ gathers ! (2 ∷ 3 ∷ 4 ∷ []) $
              suffices ! _ (leaves 𝓛 (f.ended T) stayed c m (slice_val y.ref_ptr (length y.now)) (renamed y ε)
              (tt, tt) (tt, tt)) $ frame ! $ nothing ! $ nothing ! $ fjoin ! $ frame ! $ frame ! $
              says ! refl $ done !)))),
          ((λ e. absurd (suc-ne-zero 0 (sym e))), tt),
        )))))
    walks (Owned y) =
        let 𝓣 = tables 𝓤 𝓛.H 𝓜 𝓡 𝓡.env in let κ = κs.0 in let b = at.0 in let o = at.1 in let R = Row κs in
        let F = V in let S = Array X 0 in let ω = lone V.mir in
        let ν = (row.the_type (named_lft 3 1 tt κs) X).name in let whole_ref = MutSlice (named 0) κ X in
        let field = second_field R F Owned ν σ ω refl refl refl refl (λ x vs. refl) in
        let place = o + up (align ω) 1 in let m = bound (Owned y) in starts 𝓛 (f.ended T) stayed c m (
        use1 𝓛 (raw (fact 𝓤 (lft_at 3 2 tt κs ⊑ T.lives)) ⊛ ‵ ftrue) (id⊢ 𝓤 _) $ split ! $
        heard ! _ (λ low. drop ! $ fsplit ! $ fsplit3 ! $ keep ! (1 ∷ 2 ∷ 4 ∷ 5 ∷ 6 ∷ []) $
        enter ! 𝓣.C 𝓣.Λ function (vptr b o ∷ []) _ $ alloc_all ! (λ l. pass_all ! refl ((tt, tt), tt) $
        let E = env function.locals l in opens_field field 𝓛 b o κ γ y ! tt (λ v. first ! $
        by_variants ! 0 (whole !)
        (load ! (through ! refl (vrt ! refl (fld ! refl (stop !)))) (look_tag ! 0 (whole !))) tt (
          (λ e. absurd (suc-ne-zero 0 e)),
          (
            (λ _. sets ! (addr ! (through ! refl (vrt ! refl (fld ! refl (stop !))))) refl (tt, tt) $
                sets ! (addr ! (through ! refl (stop !))) refl (tt, tt) $
                lends_field field 𝓛 b o κ γ y ! tt (λ δ.
                -- [the field; its token; what follows; the other tokens]
                let z : (asked 𝓛 (h.ended T) (h.clauses T 𝓛 𝓜.mem 𝓡.returns)).Ghost = (
                  (
                    (κ, κs.1.1),
                    (qs.0, qs.1.1),
                    (bounds.1.0, tt),
                    (record { ref_ptr = (b, place); ghost_name = δ; now = y }, tt),
                    (vptr b place ∷ [], tt),
                  ),
                  tt,
                ) in gathers ! (0 ∷ []) $ gathers ! (1 ∷ 4 ∷ []) $ join ! $ nothing ! $ beside ! low $
                asks_last ! (framed 𝓤 𝓛.H 𝓜 𝓣) (h.ended T) (h.clauses T 𝓛 𝓜.mem 𝓡.returns)
                (items_met 𝓤 𝓛 𝓜 𝓡 (code.calls-managed::slice::items_in 𝓡.env wired) T laws) z (id⊢ 𝓤 _)
                (and_then ! (get ! refl) (no_more !)) (λ w r ws.
                use1 𝓛 (‵ (follows F S δ r.ghost_name (with_items y)) ⊛ raw (fact 𝓤 (r.now ≡ y.items)))
                (id⊢ 𝓤 _) $ split ! $ move ! (1 ∷ []) $ heard ! _ (λ same.
                -- [what follows; the items; two tokens; what follows; the other token]
                move ! (4 ∷ 0 ∷ []) $ use2 𝓛 (‵ (follows R S γ r.ghost_name (λ xs. Owned (with_items y xs))))
                (follows_then 𝓛 R F S Owned (with_items y) γ δ r.ghost_name) $ move ! (1 ∷ []) $
                is_typed ! whole_ref (mut_slice_Lawful 𝓛 (named 0) κ X) r (w ∷ []) (λ typed. lands_last ! refl
                typed.0 $
                exec ! 𝓣.C 𝓣.Λ E (after 1 function.body) (at_ret E ((walk_of 𝓛 (f.ended T) stayed c).post
                m)) $ sets ! (of_opd ! (get ! refl)) refl typed.0 $ returns ! (look_at ! 0 refl) $
                free_all ! refl $ gathers ! (2 ∷ 4 ∷ 3 ∷ []) $
                suffices ! _ (leaves 𝓛 (f.ended T) stayed c m w r (tt, tt) (tt, tt)) $ frame ! $ nothing ! $
                nothing ! $ fjoin ! $ frame ! $ frame ! $ says ! same $ done !))))),
            tt,
          ),
        )))))

pub as_mut_slice_spec : {M : Type 1} → statement M
as_mut_slice_spec 𝓤 𝓛 𝓜 𝓡 wired T laws =
    proved 𝓛 (f.ended T) (stayed T) (f.clauses T 𝓛 𝓜.mem 𝓡.returns) 𝓜 𝓡 (
      Goes-spent_ref 𝓛 3 (0 ∷ []) tt
          (plain (Row T)),
      tt,
    )
    (f.Key.name (args T)) (function T) (code.unfolded 𝓤 𝓛.H 𝓜 𝓡 wired (T, tt))
    (λ κs. (mut_vals, tt)) (λ κs. (mut_Tells (named 0) κs.0 (Row T κs), tt))
    (λ κs qs bounds a u are. walks T 𝓛 𝓜 𝓡 wired laws κs qs bounds a.0.ref_ptr a.0.ghost_name a.0.now)
