-- A variant of an enum that has one field is opened behind a `&mut`, and the field is lent.
use Rattle.managed.proofs.Walks.{ℕ, ◌+◌, fbor, flft, GName, fat, Lft, Share, Fml, fsep, fex, feq, fobor, fobs}
use Rattle.managed.proofs.Walks.{fauth, full_share, wand, apply∗, ent, sep, SProp, ex, all, all_e, Gv}
use Rattle.managed.proofs.Walks.{part_out_at, part_in_at, in_a_row, follows, Part, lends_Part, mem, part_at}
use Rattle.managed.proofs.Walks.{lone, RattleType, Valss, owns, MutRef, nothing, only, T, List, [], ◌∷◌, ◌++◌}
use Rattle.managed.proofs.Walks.{◌≡◌, refl, sym, subst, ap, ◌∙◌, and_yes, named, Ty, ty_enum, Tyss, Sym}
use Rattle.managed.proofs.Walks.{tcons, tnil, ttcons, ttnil, Val, vptr, vcons, vnil, of_list, has_ty, WT, up}
use Rattle.managed.proofs.Walks.{align, variant_at, Ura, Item, Goal, Soaks, Seq, ‵, raw, ◌⊛◌, some, later}
use Rattle.managed.proofs.Walks.{◌$◌, ◌∵◌, !, qed, done, move, use1, use2, fjoin, split, pick, await, rewrite}
use Rattle.managed.proofs.Walks.{keep, fsplit, split3, feq_i, feq_l, group, given, by, learn, show, fpick}
use Rattle.managed.proofs.Walks.{fpack, Logic, sem, live, open_ref, Body}
use mathlib.Core.Option as choice
use mir.Raw.{raw as bare}

-- what a value of variant k owns, at the field's row F
abbrev pub tagged : (k : ℕ) (F : RattleType) → F.Denot → List Val → List Val → Fml
tagged k F y vs us = fsep (feq (List Val) vs (live k (of_list us) ∷ [])) (fex (Valss (F ∷ []))
    (in_a_row (F ∷ []) (owns (F ∷ []) (y, tt)) us))

-- the enum as the code has it, where the first variant's field has the type σ and the second's τ
abbrev pub variants : Ty → Ty → Tyss
variants σ τ = ttcons (tcons σ tnil) (ttcons (tcons τ tnil) ttnil)

-- a value of either variant has one field
module _ (ν : Sym) (σ τ : Ty) where
  pub first_one : (us : List Val) → T (has_ty (ty_enum ν (variants σ τ)) (live 0 (of_list (us ++ []))))
      → (v : Val) × (us ≡ v ∷ [])
  first_one [] t = absurd t
  first_one (v ∷ []) t = (v, refl)
  first_one (v ∷ u ∷ us) t = absurd (and_yes (has_ty σ v) _ t).1

  pub second_one : (us : List Val) → T (has_ty (ty_enum ν (variants σ τ)) (live 1 (of_list (us ++ []))))
      → (v : Val) × (us ≡ v ∷ [])
  second_one [] t = absurd t
  second_one (v ∷ []) t = (v, refl)
  second_one (v ∷ u ∷ us) t = absurd (and_yes (has_ty τ v) _ t).1

-- variant k of an enum with the variants τss: it has one field, of the row F and the type τ
pub record Field : Type 1 where
  pub R : RattleType
  pub F : RattleType
  pub make : F.Denot → R.Denot
  pub ν : Sym
  pub τss : Tyss
  pub k : ℕ
  pub τ : Ty
  pub is_k : variant_at τss k ≡ choice.some (tcons τ tnil)
  pub one : (us : List Val) → T (has_ty (ty_enum ν τss) (live k (of_list (us ++ [])))) → (v : Val)
      × (us ≡ v ∷ [])
  pub one_R : R.mir ≡ lone R.mir ∷ []
  pub one_F : F.mir ≡ lone F.mir ∷ []
  pub is_R : bare (ty_enum ν τss) ≡ bare (lone R.mir)
  pub is_F : bare τ ≡ bare (lone F.mir)
  pub owns_is : (y : F.Denot) (vs : List Val) → R.own_val (make y) vs ≡ fex (List Val) (tagged k F y vs)

module _ (field : Field) {M : Type 1} {𝓤 : Ura M} (𝓛 : Logic 𝓤) (b o : ℕ) where
  open field use {R, F, make, ν, τss, k, τ, is_k, one, one_R, one_F, is_R, is_F, owns_is}
  open 𝓛 use {H, A}

  abbrev ω : Ty
  ω = ty_enum ν τss

  abbrev at : ℕ
  at = o + up (align τ) 1

  abbrev cell : Val → Fml
  cell v = fat full_share ω b o (live k (vcons v vnil))

  abbrev Opened : F.Denot → Val → SProp 𝓤
  Opened y v = sep 𝓤 (sem 𝓛 (cell v)) (sem 𝓛 (F.own_val y (v ∷ [])))

  one_value : (y : F.Denot) (ws : List Val) → T (has_ty ω (live k (of_list (ws ++ []))))
      → ent 𝓤 (sep 𝓤 (H.at full_share ω b o (live k (of_list (ws ++ [])))) (sem 𝓛 (F.own_val y ws)))
      (ex 𝓤 (Opened y))
  one_value y ws t =
      let o₁ = one ws t in
      subst (λ (us : List Val). ent 𝓤 (sep 𝓤 (H.at full_share ω b o (live k (of_list (us ++ []))))
      (sem 𝓛 (F.own_val y us))) (ex 𝓤 (Opened y))) (sym o₁.1)
      (qed 𝓛 (‵ (cell o₁.0) ∷ ‵ (F.own_val y (o₁.0 ∷ [])) ∷ []) ∵ show ! (Opened y) o₁.0 $ done !)

  pub opened : (y : F.Denot) → ent 𝓤 (sem 𝓛 (part_at R full_share (make y) b o)) (ex 𝓤 (Opened y))
  opened y =
      qed 𝓛 (‵ (part_at R full_share (make y) b o) ∷ []) ∵
      use1 𝓛 (some (λ (w : Val). ‵ (fat full_share ω b o w) ⊛ ‵ (R.own_val (make y) (w ∷ []))))
      (part_out_at 𝓛 R one_R full_share (make y) b o ω is_R) $ pick ! (λ w. split ! $
      rewrite ! 1 (λ (G : Fml). ‵ G) (owns_is y (w ∷ [])) refl $ move ! (1 ∷ []) $ fpick ! (λ us. fsplit ! $
      feq_l ! (λ e. fpick ! (λ vss. fsplit ! $ feq_l ! (λ f. fsplit ! $
      let u : Val = live k (of_list (vss.0 ++ [])) in
      rewrite ! 2 (λ (v : Val). ‵ (fat full_share ω b o v)) (ap only e ∙ ap (λ (vs : List Val). live k
      (of_list vs)) f) refl $ keep ! (2 ∷ 0 ∷ []) $
      use1 𝓛 (given (T (has_ty ω u) × WT u) (‵ (fat full_share ω b o u))) (𝓛.laws.at_wt full_share ω b o u) $
      learn ! (λ g. by ! (one_value y vss.0 g.0)))))))

  abbrev Back : Val → SProp 𝓤
  Back u = wand 𝓤 (H.at full_share τ b at u) (sem 𝓛 (cell u))

  pub back : (w : F.Denot) → ent 𝓤 (sep 𝓤 (sem 𝓛 ((mem F).own_at w b at)) (all 𝓤 Back))
      (sem 𝓛 ((mem R).own_at (make w) b o))
  back w =
      qed 𝓛 (‵ (part_at F full_share w b at) ∷ raw (all 𝓤 Back) ∷ []) ∵
      use1 𝓛 (some (λ (v : Val). ‵ (fat full_share τ b at v) ⊛ ‵ (F.own_val w (v ∷ []))))
      (part_out_at 𝓛 F one_F full_share w b at τ is_F) $ pick ! (λ v. split ! $
      let u : Val = live k (vcons v vnil) in move ! (2 ∷ []) $ use1 𝓛 (raw (Back v)) (all_e 𝓤 Back v) $
      move ! (1 ∷ 0 ∷ []) $ use2 𝓛 (‵ (cell v)) (apply∗ 𝓤 (H.at full_share τ b at v) (sem 𝓛 (cell v))) $
      nothing ! $ move ! (2 ∷ 0 ∷ []) $ fjoin ! $ feq_i ! (List Val) (v ∷ []) (v ∷ []) refl $ fjoin ! $
      fpack ! (Valss (F ∷ [])) (in_a_row (F ∷ []) (owns (F ∷ []) (w, tt)) (v ∷ [])) (v ∷ [], tt) $
      feq_i ! (List Val) (u ∷ []) (u ∷ []) refl $ fjoin ! $
      fpack ! (List Val) (tagged k F w (u ∷ [])) (v ∷ []) $
      rewrite ! 0 (λ (G : Fml). ‵ G) (sym (owns_is w (u ∷ []))) refl $ move ! (1 ∷ 0 ∷ []) $
      by ! (part_in_at 𝓛 R one_R full_share (make w) b o ω is_R u))

  module _ (κ : Lft) (q : Share) (γ : GName) where
    abbrev pub Lent : F.Denot → GName → SProp 𝓤
    Lent = Part 𝓛 R F make (named 0) κ q b o b at γ (all 𝓤 Back) back

    pub lends : (y : F.Denot) (v : Val) (g : Gv)
        → ent 𝓤 (sep 𝓤 (sem 𝓛 (cell v)) (sep 𝓤 (sem 𝓛 (F.own_val y (v ∷ [])))
        (sep 𝓤 (A.obor κ q (Body (mem R) b o γ)) (sep 𝓤 (A.obs γ g) (A.auth γ g))))) (H.⇛ (ex 𝓤 (Lent y)))
    lends y v g =
        qed 𝓛 (‵ (cell v) ∷ ‵ (F.own_val y (v ∷ [])) ∷ ‵ (fobor κ q (Body (mem R) b o γ)) ∷ ‵ (fobs γ g)
        ∷ ‵ (fauth γ g) ∷ []) ∵
        use1 𝓛 (‵ (fat full_share τ b at v) ⊛ raw (all 𝓤 Back)) (𝓛.laws.at_variant full_share ν τss k
        (tcons τ tnil) is_k 0 τ (up (align τ) 1) refl b o (vcons v vnil)) $ split ! $ move ! (0 ∷ 2 ∷ []) $
        use2 𝓛 (‵ (part_at F full_share y b at)) (part_in_at 𝓛 F one_F full_share y b at τ is_F v) $
        move ! (2 ∷ 3 ∷ 4 ∷ 0 ∷ 1 ∷ []) $ group ! 5 $
        by ! (lends_Part 𝓛 R F make (named 0) κ q b o b at γ (all 𝓤 Back) back g g y)

  -- the field is opened behind a reference, and then lent
  module _ (κ : Lft) (γ : GName) (y : F.Denot) where
    abbrev x : Gv
    x = R.coded.code (make y)

    abbrev Refers : GName → Fml
    Refers δ = (MutRef (named 0) κ F).own_val (record { ref_ptr = (b, at); ghost_name = δ; now = y })
        (vptr b at ∷ [])

    abbrev Open : Share → Val → List (Item 𝓤)
    Open q v = ‵ (cell v) ∷ ‵ (F.own_val y (v ∷ [])) ∷ ‵ (fobor κ q (Body (mem R) b o γ)) ∷ ‵ (fobs γ x)
        ∷ ‵ (fauth γ x) ∷ []

    pub opens_field : {K : Type 0} {Γ : List (Item 𝓤)} {G : Goal 𝓤 H} {q : Share} → K → Soaks G
        → ((v : Val) → Seq K 𝓛 (Open q v ++ Γ) G) → Seq K 𝓛 (‵ (fobs γ x) ∷ ‵ (fbor κ (Body (mem R) b o γ))
        ∷ ‵ (flft κ q) ∷ Γ) G
    opens_field t z k =
        open_ref t z (mem R) $ use1 𝓛 (some (λ (v : Val). ‵ (cell v) ⊛ ‵ (F.own_val y (v ∷ [])))) (opened y) $
        pick t (λ v. split t $ k v)

    pub lends_field : {K : Type 0} {Γ : List (Item 𝓤)} {G : Goal 𝓤 H} {q : Share} {v : Val} → K → Soaks G
        → ((δ : GName) → Seq K 𝓛 (‵ (Refers δ) ∷ ‵ (flft κ q) ∷ ‵ (follows R F γ δ make) ∷ Γ) G)
        → Seq K 𝓛 (Open q v ++ Γ) G
    lends_field {q = q} {v = v} t z k =
        group t 5 $
        use1 𝓛 (later (some (λ (δ : GName). ‵ (Refers δ) ⊛ ‵ (flft κ q) ⊛ ‵ (follows R F γ δ make))))
        (lends κ q γ y v x) $ await t z $ pick t (λ δ. split3 t $ k δ)

-- the enum's first variant, and its second
module _ (R F : RattleType) (make : F.Denot → R.Denot) (ν : Sym) (σ τ : Ty)
    (one_R : R.mir ≡ lone R.mir ∷ []) (one_F : F.mir ≡ lone F.mir ∷ [])
    (is_R : bare (ty_enum ν (variants σ τ)) ≡ bare (lone R.mir)) where
  abbrev pub first_field : bare σ ≡ bare (lone F.mir)
      → ((y : F.Denot) (vs : List Val) → R.own_val (make y) vs ≡ fex (List Val) (tagged 0 F y vs)) → Field
  first_field is_F owns_is = record {
    R = R;
    F = F;
    make = make;
    ν = ν;
    τss = variants σ τ;
    k = 0;
    τ = σ;
    is_k = refl;
    one = first_one ν σ τ;
    one_R = one_R;
    one_F = one_F;
    is_R = is_R;
    is_F = is_F;
    owns_is = owns_is;
  }

  abbrev pub second_field : bare τ ≡ bare (lone F.mir)
      → ((y : F.Denot) (vs : List Val) → R.own_val (make y) vs ≡ fex (List Val) (tagged 1 F y vs)) → Field
  second_field is_F owns_is = record {
    R = R;
    F = F;
    make = make;
    ν = ν;
    τss = variants σ τ;
    k = 1;
    τ = τ;
    is_k = refl;
    one = second_one ν σ τ;
    one_R = one_R;
    one_F = one_F;
    is_R = is_R;
    is_F = is_F;
    owns_is = owns_is;
  }
