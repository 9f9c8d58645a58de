-- What follows a value that itself follows what was lent.
use mathlib.Core.Option.{Option, none, some}
use mathlib.Core.List.{[], ◌∷◌}
use seplogic.Ra.Ura.{Ura}
use base.Logic.{ent, sep}
use base.Fml.{GName}
use types.Logic.{Logic, sem}
use types.Kit.{‵, ◌$◌, ◌∵◌, !, qed, done, move, use2, fpick, fpack}
use denote.Follow.{follows, follows_if, follows_so, follows_by, such_by, followed, follows_then}
use denote.RattleType.{RattleType}

module _ {M : Type 1} {𝓤 : Ura M} (𝓛 : Logic 𝓤) (R T U : RattleType) (F : T.Denot → R.Denot) (γ δ : GName)
    (m : Option GName) where
  pub joined_if : (G : U.Denot → T.Denot) (v : T.Denot) → ent 𝓤 (sep 𝓤 (sem 𝓛 (follows R T γ δ F))
      (sem 𝓛 (follows_if T U δ m G v))) (sem 𝓛 (follows_if R U γ m (λ w. F (G w)) (F v)))
  unfolding follows_by
  joined_if G v = by_name m
    where
      by_name : (m : Option GName) → ent 𝓤 (sep 𝓤 (sem 𝓛 (follows R T γ δ F))
          (sem 𝓛 (follows_if T U δ m G v))) (sem 𝓛 (follows_if R U γ m (λ w. F (G w)) (F v)))
      by_name none = followed 𝓛 R T F γ δ v
      by_name (some ε) = follows_then 𝓛 R T U F G γ δ ε

  module _ (P : U.Denot → T.Denot → Type 0) (P₀ : T.Denot → Type 0) where
    pub joined_so : (Q : U.Denot → R.Denot → Type 0) (Q₀ : R.Denot → Type 0) → ((w : U.Denot) (n : T.Denot)
        → P w n → Q w (F n)) → ((n : T.Denot) → P₀ n → Q₀ (F n))
        → ent 𝓤 (sep 𝓤 (sem 𝓛 (follows R T γ δ F)) (sem 𝓛 (follows_so T U δ m P P₀)))
        (sem 𝓛 (follows_so R U γ m Q Q₀))
    unfolding such_by
    joined_so Q Q₀ on off =
        qed 𝓛 (‵ (follows R T γ δ F) ∷ ‵ (follows_so T U δ m P P₀) ∷ []) ∵ move ! (1 ∷ []) $
        fpick ! (λ s. move ! (1 ∷ 0 ∷ []) $
        use2 𝓛 (‵ (follows_if R U γ m (λ w. F (s.0.0 w)) (F s.0.1))) (joined_if s.0.0 s.0.1) $
        fpack ! ((s : (U.Denot → R.Denot) × R.Denot) × ((w : U.Denot) → Q w (s.0 w)) × Q₀ s.1)
        (λ s. follows_if R U γ m s.0.0 s.0.1)
        (((λ w. F (s.0.0 w)), F s.0.1), (λ w. on w (s.0.0 w) (s.1 w)), off s.0.1 s.2) $ done !)
