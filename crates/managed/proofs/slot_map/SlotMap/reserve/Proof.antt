-- The table is lent again to read the next key, and then handed on; the result follows what `lend_next` lends.
use Rattle.managed.proofs.Walks.{ℕ, proved, leaves, ftrue, flft, GName, fdead, fres, full_share, id⊢}
use Rattle.managed.proofs.Walks.{wand, apply∗, ◌⊑◌, ⊑_trans, meet_⊑_left, meet_⊑_right, lft_at, Lfts, fact}
use Rattle.managed.proofs.Walks.{tables, RefMutOf, no, follows_if, LentAgain, lends_again, comes_back}
use Rattle.managed.proofs.Walks.{layouts, param, RattleType, MutRef, MutBor, mut_vals, mut_Tells, plain}
use Rattle.managed.proofs.Walks.{named_lft, nothing, heard, Tuple, tuple_laws, calls_at, Lasts, lasts}
use Rattle.managed.proofs.Walks.{triple_of, framed, Stays, stay_dropped, Goes-spent_ref, walk_of, List, []}
use Rattle.managed.proofs.Walks.{◌∷◌, ◌≡◌, refl, sym, inst_fn, a_type, named, alloc_all, pass_all, free_all}
use Rattle.managed.proofs.Walks.{look_at, get, through, sets, lands_as, ‵, raw, ◌⊛◌, some, later, ◌$◌, ! }
use Rattle.managed.proofs.Walks.{done, move, drop, use1, use2, fjoin, split, join, pick, await, rewrite}
use Rattle.managed.proofs.Walks.{suffices, frame, use3, fsplit, enter, addr, stop, no_more, and_then}
use Rattle.managed.proofs.Walks.{returns, lft_new, lft_end}
use mathlib.Core.Option as name
use base.Share
use Rattle.std.specs.Prelude.{◌↔◌, IsNone, IfSome, Some, slice_get}
use Rattle.std.specs.Option.{ghost_name_of}
use Rattle.std.specs.contracts.option.Option.{the_row as option_row}
use Rattle.std.proofs.option.Option.TheLaws.{the_row_laws as option_laws}
use Rattle.managed.proofs.slot_key.SlotKey.TheLaws.{the_row_laws as key_laws}
use Rattle.managed.proofs.LoanLemmas.{reserved_key, reserved_value}
use Rattle.managed.proofs.LoanLaws.{mut_laws}
use Rattle.managed.proofs.WalkSteps.{asked, asks, gathers, states, beside as with_fact, is_typed, starts}
use Rattle.managed.specs.SlotTable.{key_handed_out, place_handed_out, IsFullTable}
use Rattle.managed.specs.SlotMap.{elements_of, places_of, IsWhole}
use Rattle.managed.specs.SlotLoans.{entry_name, with_element, with_handed_out}
use Rattle.managed.specs.declared.slot_key.SlotKey.{SlotKey}
use Rattle.managed.specs.contracts.slot_map.SlotMap.{the_row}
use Rattle.managed.specs.contracts.slot_key.SlotKey.{the_row as key_row}
use Rattle.managed.specs.contracts.slot_map.SlotMap.reserve as f
use Rattle.managed.specs.contracts.slot_map.SlotMap.next_key as g
use Rattle.managed.specs.contracts.slot_map.SlotMap.lend_next as h
use Rattle.managed.specs.contracts.slot_map.beside as p
use Rattle.managed.proofs.slot_map.SlotMap.next_key.Met.{met as key_met}
use Rattle.managed.proofs.slot_map.SlotMap.lend_next.Met.{met as lend_met}
use Rattle.managed.proofs.slot_map.beside.Met.{met as beside_met}
use Rattle.managed.proofs.slot_map.SlotMap.reserve.Statement.{statement}
use Rattle.managed.proofs.slot_map.SlotMap.reserve.Code as code

abbrev Row : RattleType → Lfts 3 → RattleType
Row T κs = the_row (named_lft 3 1 tt κs) (param 0 T)

abbrev stayed : (T : RattleType) → Stays (f.ended T).signature.params (f.ended T).kept
stayed T = (stay_dropped (RefMutOf (0 ∷ []) tt (plain (Row T)) (λ _. tt)) no, tt)

pub reserve_spec : {M : Type 1} → statement M
reserve_spec 𝓤 𝓛 𝓜 𝓡 wired T laws =
    let X = param 0 T in let c = f.clauses T 𝓛 𝓜.mem 𝓡.returns in let args = layouts (a_type ∷ []) (T, tt) in
    let A = 𝓛.A in proved 𝓛 (f.ended T) (stayed T) c 𝓜 𝓡 (Goes-spent_ref 𝓛 3 (0 ∷ []) tt (plain (Row T)), tt)
    (f.Key.name args) (inst_fn args code.function) (code.unfolded 𝓤 𝓛.H 𝓜 𝓡 wired (T, tt))
    (λ κs. (mut_vals, tt)) (λ κs. (mut_Tells (named 0) κs.0 (Row T κs), tt)) (λ κs qs bounds a u are.
    let κ = κs.0 in let ρ = κs.1.0 in let τ = κs.1.1.0 in let R = Row T κs in let self = a.0 in
    let m = self.now in let γ = self.ghost_name in let b = self.ref_ptr.0 in let o = self.ref_ptr.1 in
    let l₁ = Share.left qs.1.0 in let r₁ = Share.right qs.1.0 in let Part = MutRef (named 0) κ X in
    let Pair = key_row ∷ Part ∷ [] in let part_laws = mut_laws 0 κ T laws in
    let R₀ = the_row (record { mir = named 1; lft = [] }) X in
    let F = with_element (with_handed_out m) (place_handed_out m.links) in
    let Ref = λ (κ' : List ℕ) (x : MutBor R.Denot). (MutRef (named 0) κ' R).own_val x (mut_vals self) in
    let fm = framed 𝓤 𝓛.H 𝓜 (tables 𝓤 𝓛.H 𝓜 𝓡 𝓡.env) in
    let y : (walk_of 𝓛 (f.ended T) (stayed T) c).Ghost = ((κs, qs, bounds, a, (mut_vals self, tt)), u) in
    starts 𝓛 (f.ended T) (stayed T) c y (
    use1 𝓛 (raw (fact 𝓤 (lft_at 3 2 tt κs ⊑ T.lives)) ⊛ ‵ ftrue) (id⊢ 𝓤 _) $ split ! $
    heard ! _ (λ low. drop ! $ use1 𝓛 (‵ (Ref κ self) ⊛ ‵ ftrue) (id⊢ 𝓤 _) $ split ! $ move ! (1 ∷ []) $
    drop ! $
    -- [self; the tokens]
    enter ! _ _ _ _ _ $ alloc_all ! (λ l. pass_all ! refl ((tt, tt), tt) $
    sets ! (addr ! (through ! refl (stop !))) refl (tt, tt) $ lft_new ! tt (λ α. let ζ = α ∷ ρ in
    move ! (1 ∷ 2 ∷ []) $ use2 𝓛 (later (some (λ (δ : GName).
    ‵ (Ref ζ (record self { ghost_name = δ })) ⊛ ‵ (LentAgain R κ ζ qs.0 γ b o δ m))))
    (lends_again 𝓛 R (named 0) κ ζ qs.0 γ b o (named 0) m) $ await ! tt $ pick ! (λ δ. split ! $
    -- [the loan; what is kept of it; the token of α; the other tokens]
    move ! (2 ∷ []) $ use1 𝓛 (‵ (flft (α ∷ []) l₁)
    ⊛ raw (wand 𝓤 (A.lft (α ∷ []) l₁) (A.lft (α ∷ []) full_share)))
    (𝓛.lfts.lft_carve α l₁) $ split ! $ move ! (4 ∷ []) $
    use1 𝓛 (‵ (flft ρ l₁) ⊛ ‵ (flft ρ r₁)) (𝓛.lfts.lft_split ρ qs.1.0) $ split ! $ move ! (2 ∷ 0 ∷ []) $
    use2 𝓛 (‵ (flft ζ l₁)) (𝓛.lfts.lft_meet (α ∷ []) ρ l₁) $
    -- [the token of ζ; half of ρ's; the way back to α's; the loan; what is kept; the token of τ]
    let G = triple_of 𝓛 (g.signature T) (g.spec T 𝓛 𝓜.mem 𝓡.returns) in let z : G.Ghost = (
      (
        (ζ, (ρ, (τ, tt))),
        (l₁, (r₁, (qs.1.1.0, tt))),
        (meet_⊑_right (α ∷ []) ρ, (⊑_trans ζ ρ τ (meet_⊑_right (α ∷ []) ρ) bounds.1.1.0, (bounds.1.1.0, tt))),
        (record self { ghost_name = δ }, tt),
        (mut_vals self, tt),
      ),
      tt,
    ) in gathers ! (3 ∷ []) $ gathers ! (1 ∷ 2 ∷ 5 ∷ []) $ join ! $ nothing ! $ with_fact ! low $
    move ! (1 ∷ 0 ∷ []) $ use2 𝓛 (raw (G.pre z)) (id⊢ 𝓤 _) $
    calls_at ! fm G (key_met 𝓤 𝓛 𝓜 𝓡 (code.calls-managed::slot_map::SlotMap::next_key 𝓡.env wired) T laws) z
    (and_then ! (get ! refl) (no_more !)) (λ v.
    use1 𝓛 (later (some (λ (k : SlotKey).
    ((‵ (flft ζ l₁) ⊛ ‵ (flft ρ r₁) ⊛ ‵ (flft τ qs.1.1.0) ⊛ ‵ ftrue) ⊛ ‵ (key_row.own_val k (v ∷ []))) ⊛
    some (λ (ws : Lasts (g.ended T) z.0.0 z.0.3). ‵ (lasts (g.ended T) z.0.0 z.0.3 ws)
    ⊛ raw (fact 𝓤 (k ≡ key_handed_out (places_of m))) ⊛ raw (fact 𝓤 (ws.0 ≡ m)))))) (id⊢ 𝓤 _) $ await ! tt $
    pick ! (λ k. split ! $ split ! $ split ! $ move ! (3 ∷ []) $ pick ! (λ ws. split ! $ move ! (1 ∷ []) $
    split ! $ heard ! _ (λ is_next. heard ! _ (λ same. fsplit ! $ fsplit ! $
    rewrite ! 0 (λ (n : R.Denot). ‵ (fres δ (R.coded.code n))) same refl $
    -- [the loan's last value; its borrow; nothing; the token of ζ; the others; the key; the way back; what is kept]
    move ! (3 ∷ []) $ use1 𝓛 (‵ (flft (α ∷ []) l₁) ⊛ ‵ (flft ρ l₁)) (𝓛.lfts.lft_unmeet (α ∷ []) ρ l₁) $
    split ! $ move ! (0 ∷ 7 ∷ []) $
    use2 𝓛 (‵ (flft (α ∷ []) full_share)) (apply∗ 𝓤 (A.lft (α ∷ []) l₁) (A.lft (α ∷ []) full_share)) $
    lft_end ! tt $ use1 𝓛 (‵ (fdead ζ)) (𝓛.lfts.dead-incl ζ (α ∷ []) (meet_⊑_left (α ∷ []) ρ)) $
    move ! (0 ∷ 7 ∷ 2 ∷ []) $ use3 𝓛 (later (‵ (Ref κ self) ⊛ ‵ (flft κ qs.0)))
    (comes_back 𝓛 R (named 0) κ ζ qs.0 γ b o δ m m) $ await ! tt $ split ! $
    -- [self; its token; half of ρ's; a borrow; nothing; the others; the key]
    move ! (5 ∷ []) $ split ! $ move ! (4 ∷ 0 ∷ []) $ use2 𝓛 (‵ (flft ρ qs.1.0)) (𝓛.lfts.lft_join ρ qs.1.0) $
    move ! (4 ∷ []) $ drop ! $ move ! (4 ∷ []) $ drop ! $ move ! (4 ∷ []) $
    is_typed ! key_row (key_laws.lawful 𝓛) k (v ∷ []) (λ typed. lands_as ! refl refl typed.0 $
    sets ! (addr ! (through ! refl (stop !))) refl (tt, tt) $
    -- [the key; the tokens of ρ and τ; self; its token]
    move ! (2 ∷ []) $ split ! $ move ! (1 ∷ []) $ drop ! $
    let z' : (asked 𝓛 (h.ended T) (h.clauses T 𝓛 𝓜.mem 𝓡.returns)).Ghost =
    ((κs, qs, bounds, (self, tt), (mut_vals self, tt)), tt) in gathers ! (3 ∷ []) $
    gathers ! (4 ∷ 3 ∷ 1 ∷ []) $ join ! $ nothing ! $ with_fact ! low $
    asks ! fm (h.ended T) (h.clauses T 𝓛 𝓜.mem 𝓡.returns)
    (lend_met 𝓤 𝓛 𝓜 𝓡 (code.calls-managed::slot_map::SlotMap::lend_next 𝓡.env wired) T laws) z' (id⊢ 𝓤 _)
    (and_then ! (get ! refl) (no_more !)) (λ w e ws'.
    use1 𝓛 (‵ (follows_if R₀ X γ (ghost_name_of e) F m)
    ⊛ raw (fact 𝓤 (IsWhole m → (IsNone e ↔ IsFullTable (places_of m))))
    ⊛ raw (fact 𝓤 (IfSome e (λ x. Some x.now ≡ slice_get (elements_of m) (place_handed_out (places_of m))))))
    (id⊢ 𝓤 _) $ split ! $ move ! (1 ∷ []) $ split ! $
    heard ! _ (λ refuses. heard ! _ (λ shown. move ! (1 ∷ []) $
    is_typed ! (option_row Part) ((option_laws Part part_laws).lawful 𝓛) e (w ∷ []) (λ typed'. lands_as ! refl
    refl typed'.0 $
    -- [the element; what follows; the tokens; the key]
    let z″ : (asked 𝓛 (p.ended T) (p.clauses T 𝓛 𝓜.mem 𝓡.returns)).Ghost =
    (((κ, (τ, tt)), (qs.0, (qs.1.1.0, tt)), (bounds.1.0, tt), (k, (e, tt)), (v ∷ [], (w ∷ [], tt))), tt) in
    gathers ! (5 ∷ 0 ∷ []) $ gathers ! (2 ∷ 4 ∷ []) $ join ! $ nothing ! $ with_fact ! low $
    asks ! fm (p.ended T) (p.clauses T 𝓛 𝓜.mem 𝓡.returns)
    (beside_met 𝓤 𝓛 𝓜 𝓡 (code.calls-managed::slot_map::beside 𝓡.env wired) T laws) z″ (id⊢ 𝓤 _)
    (and_then ! (get ! refl) (and_then ! (get ! refl) (no_more !))) (λ x r ws″.
    use1 𝓛 (raw (fact 𝓤 (entry_name r ≡ ghost_name_of e)) ⊛ raw (fact 𝓤 (IsNone r ↔ IsNone e))
    ⊛ raw (fact 𝓤 (IfSome r (λ entry. entry.0 ≡ k))) ⊛ raw (fact 𝓤 (IfSome r (λ entry. Some entry.1 ≡ e))))
    (id⊢ 𝓤 _) $ split ! $ heard ! _ (λ names. split ! $ heard ! _ (λ found. split ! $
    heard ! _ (λ keyed. heard ! _ (λ paired.
    -- [the result; two tokens; what follows; the other token]
    rewrite ! 3 (λ (n : name.Option GName). ‵ (follows_if R₀ X γ n F m)) (sym names) refl $
    is_typed ! (option_row (Tuple Pair))
    ((option_laws (Tuple Pair) (tuple_laws Pair (key_laws, (part_laws, tt)))).lawful 𝓛)
    r (x ∷ []) (λ typed″. lands_as ! refl refl typed″.0 $ returns ! (look_at ! 0 refl) $ free_all ! refl $
    gathers ! (1 ∷ 4 ∷ 2 ∷ []) $ suffices ! _ (leaves 𝓛 (f.ended T) (stayed T) c y x r (tt, tt) (tt, tt)) $
    frame ! $ nothing ! $ nothing ! $ fjoin ! $ frame ! $ frame ! $ frame ! $
    states ! {φ = IsWhole m → (IsNone r ↔ IsFullTable (places_of m))}
    (λ whole. (λ none. (refuses whole).0 (found.0 none), λ full. found.1 ((refuses whole).1 full))) $
    frame ! $ states ! (reserved_key r e k _ keyed is_next) $ frame ! $
    states ! (reserved_value r e k _ keyed is_next (elements_of m) paired shown) $
    done !))))))))))))))))))))))
