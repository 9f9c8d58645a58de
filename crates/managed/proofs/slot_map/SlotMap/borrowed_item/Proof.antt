-- The struct follows the list that `borrowed_items` hands on, and that follows the element.
use Rattle.managed.proofs.Walks.{◌<◌, proved, leaves, id⊢, ◌⊑◌, lft_at, Lfts, fact, tables, Array, usize}
use Rattle.managed.proofs.Walks.{RefMutOf, no, yes, follows, follows_then, layouts, param, uint_vals}
use Rattle.managed.proofs.Walks.{uint_Tells, uint_Makes, RattleType, MutRef, at_last, mut_vals, mut_Tells}
use Rattle.managed.proofs.Walks.{mut_Lawful, plain, named_lft, MutSlice, mut_slice_Lawful, nothing, heard}
use Rattle.managed.proofs.Walks.{owned, framed, Stays, stay_dropped, says, Goes-dropped, Goes-spent_ref}
use Rattle.managed.proofs.Walks.{walk_of, List, [], ◌∷◌, ◌≡◌, refl, sym, subst, ap, ◌∙◌, inst_fn, a_type}
use Rattle.managed.proofs.Walks.{named, w64, alloc_all, pass_all, free_all, look_at, get, through, sets}
use Rattle.managed.proofs.Walks.{lands_as, ‵, raw, ◌⊛◌, ◌$◌, !, done, move, drop, use1, use2, fjoin, split}
use Rattle.managed.proofs.Walks.{join, rewrite, suffices, frame, fsplit, enter, addr, stop, no_more, and_then}
use Rattle.managed.proofs.Walks.{returns}
use Rattle.std.specs.Prelude.{slice_set, slice_get, Some, length}
use Rattle.managed.proofs.WalkSteps.{asked, asks, gathers, states, beside, is_typed, starts}
use Rattle.managed.specs.declared.slot_map.SlotMap.{SlotMap}
use Rattle.managed.specs.contracts.slot_map.SlotMap.{the_row}
use Rattle.managed.specs.contracts.slot_map.SlotMap.borrowed_item as f
use Rattle.managed.specs.contracts.slot_map.SlotMap.borrowed_items as g
use Rattle.managed.specs.contracts.slot_map.item_of as h
use Rattle.managed.proofs.slot_map.SlotMap.borrowed_items.Met.{met as items_met}
use Rattle.managed.proofs.slot_map.item_of.Met.{met as item_met}
use Rattle.managed.proofs.slot_map.SlotMap.borrowed_item.Statement.{statement}
use Rattle.managed.proofs.slot_map.SlotMap.borrowed_item.Code as code

abbrev Row : RattleType → Lfts 3 → RattleType
Row T κs = the_row (named_lft 3 1 tt κs) (param 0 T)

abbrev stayed : (T : RattleType) → Stays (f.ended T).signature.params (f.ended T).kept
stayed T = (
  stay_dropped (RefMutOf (0 ∷ []) tt (plain (Row T)) (λ _. tt))
      no,
  (stay_dropped (plain (λ _. usize)) yes, tt),
)

-- a list in the struct, and an element of it
abbrev with_list : {T : Type 0} → SlotMap T → List T → SlotMap T
with_list m xs = record m { borrowed = at_last m.borrowed xs }

pub borrowed_item_spec : {M : Type 1} → statement M
borrowed_item_spec 𝓤 𝓛 𝓜 𝓡 wired T laws =
    let X = param 0 T in let S = Array X 0 in let R = the_row (record { mir = named 1; lft = [] }) X in
    let c = f.clauses T 𝓛 𝓜.mem 𝓡.returns in let args = layouts (a_type ∷ []) (T, tt) in
    proved 𝓛 (f.ended T) (stayed T) c 𝓜 𝓡 (
      Goes-spent_ref 𝓛 3 (0 ∷ []) tt (plain (Row T)),
      (
        Goes-dropped 𝓛 3 (plain (λ _. usize)) yes
            (λ κs x w. refl),
        tt,
      ),
    )
    (f.Key.name args) (inst_fn args code.function) (code.unfolded 𝓤 𝓛.H 𝓜 𝓡 wired (T, tt))
    (λ κs. (mut_vals, (uint_vals w64, tt)))
    (λ κs. (mut_Tells (named 0) κs.0 (Row T κs), (uint_Tells w64, tt)))
    (λ κs qs bounds a u are.
    let κ = κs.0 in let self = a.0 in let i = a.1.0 in let xs = self.now.borrowed.now in
    let γ = self.ghost_name in let fm = framed 𝓤 𝓛.H 𝓜 (tables 𝓤 𝓛.H 𝓜 𝓡 𝓡.env) in
    let m : (walk_of 𝓛 (f.ended T) (stayed T) c).Ghost =
    ((κs, qs, bounds, a, (mut_vals self, (uint_vals w64 i, tt))), u) in starts 𝓛 (f.ended T) (stayed T) c m (
    use1 𝓛 (raw (fact 𝓤 (lft_at 3 2 tt κs ⊑ T.lives)) ⊛ raw (fact 𝓤 (i < length xs))) (id⊢ 𝓤 _) $ split ! $
    heard ! _ (λ low. heard ! _ (λ within. fsplit ! $ move ! (1 ∷ []) $ drop ! $ enter ! _ _ _ _ _ $
    alloc_all ! (λ l. pass_all ! refl ((tt, tt), ((tt, record { fits = are.1.0.1 }), tt)) $
    sets ! (addr ! (through ! refl (stop !))) refl (tt, tt) $
    -- [self; the tokens]
    let z : (asked 𝓛 (g.ended T) (g.clauses T 𝓛 𝓜.mem 𝓡.returns)).Ghost =
    ((κs, qs, bounds, (self, tt), (mut_vals self, tt)), tt) in gathers ! (0 ∷ []) $
    gathers ! (1 ∷ 2 ∷ 3 ∷ []) $ join ! $ nothing ! $ beside ! low $
    asks ! fm (g.ended T) (g.clauses T 𝓛 𝓜.mem 𝓡.returns)
    (items_met 𝓤 𝓛 𝓜 𝓡 (code.calls-managed::slot_map::SlotMap::borrowed_items 𝓡.env wired) T laws) z (id⊢ 𝓤 _)
    (and_then ! (get ! refl) (no_more !)) (λ v r ws.
    use1 𝓛 (‵ (follows R S γ r.ghost_name (with_list self.now)) ⊛ raw (fact 𝓤 (r.now ≡ xs))) (id⊢ 𝓤 _) $
    split ! $ move ! (1 ∷ []) $ heard ! _ (λ same. move ! (1 ∷ []) $
    is_typed ! (MutSlice (named 0) κ X) (mut_slice_Lawful 𝓛 (named 0) κ X) r (v ∷ [])
    (λ typed. lands_as ! refl refl typed.0 $
    -- [the list; what follows; the tokens]
    owned ! usize _ (uint_Makes 𝓛 w64) i (uint_vals w64 i) (refl, are.1.0.1) $ gathers ! (1 ∷ 0 ∷ []) $
    gathers ! (2 ∷ 4 ∷ []) $ join ! $
    states ! (subst (λ (ys : List X.Denot). i < length ys) (sym same) within) $ beside ! low $
    let z' : (asked 𝓛 (h.ended T) (h.clauses T 𝓛 𝓜.mem 𝓡.returns)).Ghost =
    (((κ, κs.1.1), (qs.0, qs.1.1), (bounds.1.0, tt), (r, (i, tt)), (v ∷ [], (uint_vals w64 i, tt))), tt) in
    asks ! fm (h.ended T) (h.clauses T 𝓛 𝓜.mem 𝓡.returns)
    (item_met 𝓤 𝓛 𝓜 𝓡 (code.calls-managed::slot_map::item_of 𝓡.env wired) T laws) z' (id⊢ 𝓤 _)
    (and_then ! (get ! refl) (and_then ! (get ! refl) (no_more !))) (λ w x ws'.
    use1 𝓛 (‵ (follows S X r.ghost_name x.ghost_name (slice_set r.now i))
    ⊛ raw (fact 𝓤 (Some x.now ≡ slice_get r.now i))) (id⊢ 𝓤 _) $ split ! $ move ! (1 ∷ []) $
    heard ! _ (λ is_item.
    -- [what follows; the element; two tokens; what follows; the other token]
    move ! (4 ∷ 0 ∷ []) $ use2 𝓛
    (‵ (follows R X γ x.ghost_name (λ e. with_list self.now (slice_set r.now i e))))
    (follows_then 𝓛 R S X (with_list self.now) (slice_set r.now i) γ r.ghost_name x.ghost_name) $
    rewrite ! 0 (λ (ys : List X.Denot). ‵ (follows R X γ x.ghost_name (λ e. with_list self.now
    (slice_set ys i e)))) same refl $ move ! (1 ∷ []) $
    is_typed ! (MutRef (named 0) κ X) (mut_Lawful 𝓛 (named 0) κ X) x (w ∷ []) (λ typed'.
    lands_as ! refl refl typed'.0 $ returns ! (look_at ! 0 refl) $ free_all ! refl $
    gathers ! (2 ∷ 4 ∷ 3 ∷ []) $
    suffices ! _ (leaves 𝓛 (f.ended T) (stayed T) c m w x (tt, (tt, tt)) (tt, (tt, tt))) $ frame ! $
    nothing ! $ nothing ! $ fjoin ! $ nothing ! $ fjoin ! $ frame ! $ frame ! $
    says ! (is_item ∙ ap (λ (ys : List X.Denot). slice_get ys i) same) $ done !)))))))))))
