-- The places follow the place that `place_of` lends, and that follows the value in its pair.
use Rattle.managed.proofs.Walks.{◌<◌, proved, leaves, id⊢, ◌⊑◌, lft_at, fact, tables, Array, usize, no, yes}
use Rattle.managed.proofs.Walks.{follows, follows_if, layouts, param, uint_vals, uint_Tells, RattleType}
use Rattle.managed.proofs.Walks.{MutRef, mut_Lawful, plain, mut_slice_of, mut_slice_vals, mut_slice_Tells}
use Rattle.managed.proofs.Walks.{nothing, heard, framed, Stays, stay_dropped, says, Goes-dropped, walk_of}
use Rattle.managed.proofs.Walks.{Goes-spent_slice, [], ◌∷◌, ◌≡◌, refl, ap, ◌∙◌, inst_fn, a_type, named, w64}
use Rattle.managed.proofs.Walks.{alloc_all, pass_all, free_all, look_at, get, sets, lands_as, look_in_at}
use Rattle.managed.proofs.Walks.{get_in, ‵, raw, ◌⊛◌, ◌$◌, !, done, move, use1, use2, fjoin, split, join}
use Rattle.managed.proofs.Walks.{rewrite, suffices, frame, agg, whole, sub, enter, addr, stop, no_more}
use Rattle.managed.proofs.Walks.{and_then, returns, fld, hop, from}
use Rattle.std.specs.Prelude.{None, length, slice_set, slice_index_or}
use Rattle.std.specs.Option.{ghost_name_of, option_copied_mut, option_map}
use Rattle.std.specs.contracts.option.Option.{the_row as option_row}
use Rattle.std.proofs.option.Option.TheLaws.{the_row_laws as option_laws}
use Rattle.managed.proofs.JoinedLoans.{joined_if}
use Rattle.managed.proofs.LoanLaws.{mut_laws}
use Rattle.managed.proofs.MapWalks.{Place}
use Rattle.managed.proofs.PlaceLoans.{same_place}
use Rattle.managed.proofs.WalkSteps.{asked, asks, gathers, states, beside, is_typed, starts}
use Rattle.managed.specs.MapLoans.{with_value, with_value_at}
use Rattle.managed.specs.contracts.map.loan.value_of as f
use Rattle.managed.specs.contracts.map.loan.place_of as g
use Rattle.managed.specs.contracts.map.loan.value_in as h
use Rattle.managed.proofs.map.loan.place_of.Met.{met as place_met}
use Rattle.managed.proofs.map.loan.value_in.Met.{met as value_met}
use Rattle.managed.proofs.map.loan.value_of.Statement.{statement}
use Rattle.managed.proofs.map.loan.value_of.Code as code

abbrev stayed : (K V : RattleType) → Stays (f.ended K V).signature.params (f.ended K V).kept
stayed K V = (
  stay_dropped (mut_slice_of (0 ∷ []) tt (plain (λ _. Place K V))) no,
  (
    stay_dropped (plain (λ _. usize))
        yes,
    tt,
  ),
)

pub value_of_spec : {M : Type 1} → statement M
value_of_spec 𝓤 𝓛 𝓜 𝓡 wired K V K-laws V-laws =
    let P = Place K V in let X = param 1 V in let S = Array P 0 in let c = f.clauses K V 𝓛 𝓜.mem 𝓡.returns in
    let args = layouts (a_type ∷ a_type ∷ []) (K, (V, tt)) in proved 𝓛 (f.ended K V) (stayed K V) c 𝓜 𝓡 (
      Goes-spent_slice 𝓛 3 (0 ∷ []) tt (plain (λ _. P)),
      (
        Goes-dropped 𝓛 3 (plain (λ _. usize)) yes
            (λ κs x w. refl),
        tt,
      ),
    )
    (f.Key.name args) (inst_fn args code.function) (code.unfolded 𝓤 𝓛.H 𝓜 𝓡 wired (K, (V, tt)))
    (λ κs. (mut_slice_vals, (uint_vals w64, tt)))
    (λ κs. (mut_slice_Tells (named 0) κs.0 P, (uint_Tells w64, tt)))
    (λ κs qs bounds a u are.
    let κ = κs.0 in let places = a.0 in let xs = places.now in let i = a.1.0 in let γ = places.ghost_name in
    let Part = MutRef (named 0) κ X in let fm = framed 𝓤 𝓛.H 𝓜 (tables 𝓤 𝓛.H 𝓜 𝓡 𝓡.env) in
    let m : (walk_of 𝓛 (f.ended K V) (stayed K V) c).Ghost =
    ((κs, qs, bounds, a, (mut_slice_vals places, (uint_vals w64 i, tt))), u) in
    starts 𝓛 (f.ended K V) (stayed K V) c m (
    use1 𝓛 (raw (fact 𝓤 (lft_at 3 1 tt κs ⊑ K.lives)) ⊛ raw (fact 𝓤 (lft_at 3 2 tt κs ⊑ V.lives))
    ⊛ raw (fact 𝓤 (i < length xs))) (id⊢ 𝓤 _) $ split ! $ heard ! _ (λ low_K. split ! $
    heard ! _ (λ low_V. heard ! _ (λ within.
    gathers ! (1 ∷ 2 ∷ 3 ∷ []) $ join ! $ enter ! _ _ _ _ _ $ alloc_all ! (λ l.
    pass_all ! refl (
      (tt, (tt, (record { fits = are.0.0.1.0 }, tt))),
      (
        (tt, record { fits = are.1.0.1 }),
        tt,
      ),
    ) $
    sets ! (addr ! (from ! (fld ! refl (hop ! (look_in_at ! 1 (sub ! 0 refl (whole !))) (stop !))))) refl
    (tt, tt) $
    sets ! (agg ! (and_then ! (get ! refl) (and_then ! (get_in ! (fld ! refl (stop !))
    (sub ! 1 refl (whole !))) (no_more !))))
    refl (tt, (tt, (record { fits = are.0.0.1.0 }, tt))) $ states ! within $ beside ! low_V $ beside ! low_K $
    asks ! fm (g.ended K V) (g.clauses K V 𝓛 𝓜.mem 𝓡.returns)
    (place_met 𝓤 𝓛 𝓜 𝓡 (code.calls-managed::map::loan::place_of 𝓡.env wired) K V K-laws V-laws) (m.0, tt)
    (id⊢ 𝓤 _)
    (and_then ! (get ! refl) (and_then ! (get ! refl) (no_more !))) (λ v r ws.
    use1 𝓛 (‵ (follows S P γ r.ghost_name (slice_set xs i)) ⊛ raw (fact 𝓤 (r.now ≡ slice_index_or xs i None)))
    (id⊢ 𝓤 _) $ split ! $ move ! (1 ∷ []) $ heard ! _ (λ same. move ! (1 ∷ []) $
    is_typed ! (MutRef (named 0) κ P) (mut_Lawful 𝓛 (named 0) κ P) r (v ∷ []) (λ typed. lands_as ! refl refl
    typed.0 $
    -- [the place; what follows; the tokens]
    gathers ! (0 ∷ []) $ gathers ! (2 ∷ 3 ∷ 4 ∷ []) $ join ! $ nothing ! $ beside ! low_V $ beside ! low_K $
    let z : (asked 𝓛 (h.ended K V) (h.clauses K V 𝓛 𝓜.mem 𝓡.returns)).Ghost =
    ((κs, qs, bounds, (r, tt), (v ∷ [], tt)), tt) in asks ! fm (h.ended K V) (h.clauses K V 𝓛 𝓜.mem 𝓡.returns)
    (value_met 𝓤 𝓛 𝓜 𝓡 (code.calls-managed::map::loan::value_in 𝓡.env wired) K V K-laws V-laws) z (id⊢ 𝓤 _)
    (and_then ! (get ! refl) (no_more !)) (λ w e ws'.
    use1 𝓛 (‵ (follows_if P X r.ghost_name (ghost_name_of e) (with_value r.now) r.now)
    ⊛ raw (fact 𝓤 (option_copied_mut e ≡ option_map (λ x. x.1) r.now))) (id⊢ 𝓤 _) $ split ! $
    move ! (1 ∷ []) $ heard ! _ (λ shown.
    -- [what follows the place; the value; the tokens; what follows the places]
    move ! (5 ∷ 0 ∷ []) $
    use2 𝓛 (‵ (follows_if S X γ (ghost_name_of e) (λ y. slice_set xs i (with_value r.now y))
    (slice_set xs i r.now)))
    (joined_if 𝓛 S P X (slice_set xs i) γ r.ghost_name (ghost_name_of e) (with_value r.now) r.now) $
    rewrite ! 0 (λ (p : P.Denot). ‵ (follows_if S X γ (ghost_name_of e) (λ y. slice_set xs i (with_value p y))
    (slice_set xs i p)))
    same refl $
    rewrite ! 0 (λ (ys : S.Denot). ‵ (follows_if S X γ (ghost_name_of e) (with_value_at xs i) ys))
    (same_place xs i) refl $ move ! (1 ∷ []) $
    is_typed ! (option_row Part) ((option_laws Part (mut_laws 1 κ V V-laws)).lawful 𝓛) e (w ∷ []) (λ typed'.
    lands_as ! refl refl typed'.0 $ returns ! (look_at ! 0 refl) $ free_all ! refl $
    gathers ! (2 ∷ 3 ∷ 4 ∷ []) $
    suffices ! _ (leaves 𝓛 (f.ended K V) (stayed K V) c m w e (tt, (tt, tt)) (tt, (tt, tt))) $ frame ! $
    nothing ! $ nothing ! $ fjoin ! $ nothing ! $ fjoin ! $ frame ! $ frame ! $
    says ! (shown ∙ ap (option_map (λ x. x.1)) same) $ done !))))))))))))
