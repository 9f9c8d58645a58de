-- What lies behind a reference to a list that is itself behind one is opened, and lent for as long as the outer one.
use Rattle.managed.proofs.Walks.{ℕ, ◌<◌, ◌*◌, ◌^◌, fbor, flft, GName, fat, Lft, Share, fobor, fobs, fauth}
use Rattle.managed.proofs.Walks.{full_share, ◌⊑◌, Array, follows, mem, part_at, lone, RattleType, MutRef}
use Rattle.managed.proofs.Walks.{MutBor, at_last, mut_vals, MutSlice, slice_val, mut_slice_vals, only, length}
use Rattle.managed.proofs.Walks.{List, [], ◌∷◌, ◌++◌, ◌≡◌, refl, ap, named, Ty, Val, Ura, Item, Goal, Soaks}
use Rattle.managed.proofs.Walks.{‵, ◌⊛◌, some, later, ◌$◌, !, move, drop, use1, use2, split, pick, await}
use Rattle.managed.proofs.Walks.{rewrite, use3, fjoin3, fsplit3, split3, feq_i, feq_l, flt_i, flt_l, Logic}
use Rattle.managed.proofs.Walks.{open_ref, close_ref, Body}
use borrow.Table.OneValue.{part_out_at, part_in_at}
use types.Kit.{Go, Sq}
use denote.Slice.{coded_holeys, heres}
use denote.Through.{renamed, lends_inner_slice}
use mir.Raw.{raw as bare}
use types.Hole.{Holey}
use types.SemTy.{Arr}

module _ {M : Type 1} {𝓤 : Ura M} (𝓛 : Logic 𝓤) (X : RattleType) (τ : Ty) (κ ρ : Lft) (q : Share)
    (is_τ : bare τ ≡ bare (lone (MutSlice (named 1) ρ X).mir)) (self : MutBor (MutBor (List X.Denot))) where
  open 𝓛 use {H}

  abbrev Sl : RattleType
  Sl = MutSlice (named 1) ρ X

  abbrev y : MutBor (List X.Denot)
  y = self.now

  abbrev b : ℕ
  b = self.ref_ptr.0

  abbrev o : ℕ
  o = self.ref_ptr.1

  abbrev n : ℕ
  n = length y.now

  -- what the inner reference owns, its cell, and the open borrow
  abbrev Open : List (Item 𝓤)
  Open =
      ‵ (fobs y.ghost_name ((coded_holeys X).code (heres X y.now)))
      ∷ ‵ (fbor ρ (Body (Arr (Holey (mem X)) n) y.ref_ptr.0 y.ref_ptr.1 y.ghost_name)) ∷ ‵ (fat full_share τ b
      o (slice_val y.ref_ptr n))
      ∷ ‵ (fobor κ q (Body (mem Sl) b o self.ghost_name)) ∷ ‵ (fobs self.ghost_name (Sl.coded.code y))
      ∷ ‵ (fauth self.ghost_name (Sl.coded.code y)) ∷ []

  module _ {Γ : List (Item 𝓤)} {G : Goal 𝓤 H} where
    pub opens_inner : Go {0} → Soaks G → (n < 2 ^ 64 → n * (mem X).size < 2 ^ 63 → Sq 𝓛 (Open ++ Γ) G)
        → Sq 𝓛 (‵ ((MutRef (named 0) κ Sl).own_val self (mut_vals self)) ∷ ‵ (flft κ q) ∷ Γ) G
    opens_inner _ z k =
        fsplit3 ! $ drop ! $ open_ref ! z (mem Sl) {b = b} {o = o} $
        use1 𝓛 (some (λ (v : Val). ‵ (fat full_share τ b o v) ⊛ ‵ (Sl.own_val y (v ∷ []))))
        (part_out_at 𝓛 Sl refl full_share y b o τ is_τ) $ pick ! (λ v. split ! $ move ! (1 ∷ []) $ fsplit3 ! $
        fsplit3 ! $ feq_l ! (λ is. flt_l ! (λ fits. flt_l ! (λ small.
        rewrite ! 2 (λ (w : Val). ‵ (fat full_share τ b o w)) (ap only is) refl $ k fits small))))

    pub lends_inner : Go {0} → Soaks G → κ ⊑ ρ → n < 2 ^ 64 → n * (mem X).size < 2 ^ 63
        → ((ε : GName) → Sq 𝓛 (‵ ((MutSlice (named 0) κ X).own_val (renamed y ε) (mut_slice_vals y))
        ∷ ‵ (flft κ q)
        ∷ ‵ (follows Sl (Array X 0) self.ghost_name ε (at_last y)) ∷ Γ) G) → Sq 𝓛 (Open ++ Γ) G
    lends_inner _ z below fits small k =
        flt_i ! (n * (mem X).size) (2 ^ 63) small $ flt_i ! n (2 ^ 64) fits $
        feq_i ! (List Val) (mut_slice_vals y) (mut_slice_vals y) refl $ fjoin3 ! $ fjoin3 ! $
        move ! (1 ∷ 0 ∷ []) $
        use2 𝓛 (‵ (part_at Sl full_share y b o)) (part_in_at 𝓛 Sl refl full_share y b o τ is_τ
        (slice_val y.ref_ptr n)) $ close_ref ! z (mem Sl) y {b = b} {o = o} $
        use3 𝓛 (later (some (λ (ε : GName). ‵ ((MutSlice (named 0) κ X).own_val (renamed y ε)
        (mut_slice_vals y)) ⊛ ‵ (flft κ q)
        ⊛ ‵ (follows Sl (Array X 0) self.ghost_name ε (at_last y)))))
        (lends_inner_slice 𝓛 X (named 0) (named 1) κ ρ self below (fits, small) q) $ await ! z $
        pick ! (λ ε. split3 ! $ k ε)
