-- Steps that walks by hand share: entries are gathered, facts stated, a contract is called, and what is owned is typed.
use Prim.Native.Nat.{ℕ, zero, suc}
use mathlib.Core.Bool.{Bool, true, false}
use mathlib.Core.List.{List, [], ◌∷◌, ◌++◌}
use seplogic.Ra.Ura.{Ura}
use lib.Dec.{ltb}
use mir.Syntax.{Callee, Place, Opd as Operand, Body, seq, call}
use mir.Val.{Val}
use base.Logic.{SProp, ent, sep, emp, via, id⊢, emp∗, assoc', mono_r}
use base.Fml.{ftrue, flft}
use contract.Lifetimes.{Lfts, Shares, toks}
use contract.Monad.{fact, fact_i}
use prog.Wp.{Env, Calls, Loops}
use sound.WpLaws.{FmC}
use types.Logic.{Logic, sem}
use types.Kit.{Item, ‵, raw, ◌⊛◌, some, later, mean, ⋆, nth, del, pull, push, Post, Goal, Soaks, Seq, Step}
use types.Kit.{runs, lands, settles}
use types.Kit.{Sq, prop, qed, step, by, ◌$◌, ◌∵◌, !, move, drop, join, split, use0, use1, use2, pick, await, cut}
use types.Run.{Opds}
use denote.Laws.{Is, Lawful, Typed, shows}
use denote.RattleType.{RattleType, owns}
use denote.Signature.{type_at, types_at}
use denote.Steps.{peeks}
use denote.Triple.Call.{calls_at, calls_at_last}
use denote.Triple.Clauses.{Clauses, Ended, Lasts, at_exit, lasts, closing}
use denote.Triple.Entry.{Res, alive}
use denote.Triple.Spec.{triple_of}
use denote.Triple.Statement.{Contract, Triple}
use denote.Triple.Walked.{Stays, walk_of}

-- a position once the entries at others are gone
abbrev less_if : Bool → ℕ → ℕ
less_if true zero = zero
less_if true (suc n) = n
less_if false n = n

abbrev lowered : List ℕ → ℕ → ℕ → ℕ
lowered [] i n = n
lowered (s ∷ ss) i n = lowered ss i (less_if (ltb s i) n)

module _ {M : Type 1} {𝓤 : Ura M} (𝓛 : Logic 𝓤) where
  -- the entries at positions as one that ends in nothing, and the other entries
  abbrev starred : List ℕ → List ℕ → List (Item 𝓤) → Item 𝓤
  starred seen [] Γ = ‵ ftrue
  starred seen (i ∷ π) Γ = nth 𝓛 (lowered seen i i) Γ ⊛ starred (i ∷ seen) π (del 𝓛 (lowered seen i i) Γ)

  abbrev others : List ℕ → List ℕ → List (Item 𝓤) → List (Item 𝓤)
  others seen [] Γ = Γ
  others seen (i ∷ π) Γ = others (i ∷ seen) π (del 𝓛 (lowered seen i i) Γ)

  starred⊢ : (seen π : List ℕ) (Γ : List (Item 𝓤))
      → ent 𝓤 (⋆ 𝓛 Γ) (sep 𝓤 (mean 𝓛 (starred seen π Γ)) (⋆ 𝓛 (others seen π Γ)))
  starred⊢ seen [] Γ = emp∗ 𝓤 (⋆ 𝓛 Γ)
  starred⊢ seen (i ∷ π) Γ =
      let n = lowered seen i i in let Δ = del 𝓛 n Γ in let P = mean 𝓛 (nth 𝓛 n Γ) in
      let Q = mean 𝓛 (starred (i ∷ seen) π Δ) in let Ω = ⋆ 𝓛 (others (i ∷ seen) π Δ) in
      via 𝓤 (sep 𝓤 P (⋆ 𝓛 Δ)) (pull 𝓛 n Γ) (via 𝓤 (sep 𝓤 P (sep 𝓤 Q Ω)) (mono_r 𝓤 P (starred⊢ (i ∷ seen) π Δ))
      (assoc' 𝓤 P Q Ω))

  -- the tokens of a signature, an entry each
  abbrev tokens : (n : ℕ) → Lfts n → Shares n → List (Item 𝓤)
  tokens zero κs qs = []
  tokens (suc n) κs qs = ‵ (flft κs.0 qs.0) ∷ tokens n κs.1 qs.1

  tokens⊢ : (n : ℕ) (κs : Lfts n) (qs : Shares n) → ent 𝓤 (toks 𝓛 n κs qs) (⋆ 𝓛 (tokens n κs qs))
  tokens⊢ zero κs qs = id⊢ 𝓤 (emp 𝓤)
  tokens⊢ (suc n) κs qs =
      via 𝓤 (sep 𝓤 (sem 𝓛 (flft κs.0 qs.0)) (⋆ 𝓛 (tokens n κs.1 qs.1)))
      (mono_r 𝓤 (sem 𝓛 (flft κs.0 qs.0)) (tokens⊢ n κs.1 qs.1)) (push 𝓛 (‵ (flft κs.0 qs.0))
      (tokens n κs.1 qs.1))

  -- a contract, and what it says, the result and the tokens of a call
  module _ (T : Ended) (c : Clauses 𝓤 T) where
    abbrev pub asked : Contract 𝓤
    asked = triple_of 𝓛 T.signature (closing 𝓛 T c)

    abbrev pub gives : (x : asked.Ghost) → Val → Res T.signature x.0.0 → Lasts T x.0.0 x.0.3 → List (Item 𝓤)
    gives x v r ws =
        raw ((c x.0.0 x.0.3).ensures x.1 r (at_exit T x.0.0 x.0.3 ws))
        ∷ ‵ ((type_at T.signature.result x.0.0).own_val r (v ∷ [])) ∷ tokens T.signature.lifetimes x.0.0 x.0.1

module _ {M : Type 1} {𝓤 : Ura M} {𝓛 : Logic 𝓤} {K : Type 0} {Γ : List (Item 𝓤)} where
  open 𝓛 use {H}

  module _ {G : Goal 𝓤 H} where
    pub gathers : K → (π : List ℕ) → Step K 𝓛 (starred 𝓛 [] π Γ ∷ others 𝓛 [] π Γ) G Γ G
    gathers t π = step (λ s. by t (via 𝓤 (sep 𝓤 (mean 𝓛 (starred 𝓛 [] π Γ)) (⋆ 𝓛 (others 𝓛 [] π Γ)))
        (starred⊢ 𝓛 [] π Γ)
        (via 𝓤 (⋆ 𝓛 (starred 𝓛 [] π Γ ∷ others 𝓛 [] π Γ)) (push 𝓛 (starred 𝓛 [] π Γ) (others 𝓛 [] π Γ))
        s.prf)))

    -- a fact, and a fact beside the head
    pub states : K → {φ : Type 0} → φ → Step K 𝓛 (raw (fact 𝓤 φ) ∷ Γ) G Γ G
    states t {φ} x = use0 𝓛 (raw (fact 𝓤 φ)) (fact_i 𝓤 φ (emp 𝓤) x)

    pub beside : K → {φ : Type 0} {i : Item 𝓤} → φ → Step K 𝓛 ((raw (fact 𝓤 φ) ⊛ i) ∷ Γ) G (i ∷ Γ) G
    beside t {φ} x = step (λ s. use0 𝓛 (raw (fact 𝓤 φ)) (fact_i 𝓤 φ (emp 𝓤) x) $ join t $ s)

    -- what is owned has its type
    pub is_typed : K → (R : RattleType) → Lawful 𝓛 R → (x : R.Denot) (vs : List Val)
        → (Typed R.mir vs → Seq K 𝓛 (‵ (R.own_val x vs) ∷ Γ) G) → Seq K 𝓛 (‵ (R.own_val x vs) ∷ Γ) G
    is_typed t R L x vs k = peeks t R (Is R) (shows 𝓛 R) x vs (λ is. k (L.typed x vs is))

  given_back : K → (T : Ended) (c : Clauses 𝓤 T) (x : (asked 𝓛 T c).Ghost) (v : Val) {G : Goal 𝓤 H} → Soaks G
      → ((r : Res T.signature x.0.0) (ws : Lasts T x.0.0 x.0.3) → Seq K 𝓛 (gives 𝓛 T c x v r ws ++ Γ) G)
      → Seq K 𝓛 (raw ((asked 𝓛 T c).post x v) ∷ Γ) G
  given_back t T c x v z k =
      let κs = x.0.0 in let a = x.0.3 in let Alive = alive 𝓛 T.signature κs x.0.1 in
      let held = tokens 𝓛 T.signature.lifetimes κs x.0.1 in
      let Own = λ (r : Res T.signature κs). ‵ ((type_at T.signature.result κs).own_val r (v ∷ [])) in
      let Says = λ (r : Res T.signature κs) (ws : Lasts T κs a). raw ((c κs a).ensures x.1 r
      (at_exit T κs a ws)) in use1 𝓛 (later (some (λ (r : Res T.signature κs).
      (raw Alive ⊛ Own r) ⊛ some (λ (ws : Lasts T κs a). ‵ (lasts T κs a ws) ⊛ Says r ws)))) (id⊢ 𝓤 _) $
      await t z $ pick t (λ r. split t $ split t $ move t (2 ∷ []) $ pick t (λ ws. split t $ drop t $
      move t (0 ∷ 2 ∷ 1 ∷ []) $
      cut (Says r ws ∷ Own r ∷ raw Alive ∷ []) (Says r ws ∷ Own r ∷ held) Γ (mono_r 𝓤 (mean 𝓛 (Says r ws))
      (via 𝓤 (sep 𝓤 (mean 𝓛 (Own r)) (⋆ 𝓛 held)) (mono_r 𝓤 (mean 𝓛 (Own r)) (tokens⊢ 𝓛 T.signature.lifetimes
      κs x.0.1))
      (push 𝓛 (Own r) held))) $ k r ws))

  -- a call of a contract
  module _ {E : Env 𝓤 H} {C : Calls 𝓤 H} {f : Callee} {xs : List Operand} {Λ : Loops 𝓤 H} {q : Post 𝓤 H}
      {d : Place}
      (t : K) (fm : FmC 𝓤 H 𝓛.laws C) (T : Ended) (c : Clauses 𝓤 T) (met : Triple 𝓤 (C f) (asked 𝓛 T c))
      (x : (asked 𝓛 T c).Ghost) where
    -- the head is what it requires, and the next entry the tokens and the arguments
    pub asks : {rest : Body} {i j : Item 𝓤} → ent 𝓤 (sep 𝓤 (mean 𝓛 j) (mean 𝓛 i)) ((asked 𝓛 T c).pre x)
        → Opds K 𝓛 (raw ((asked 𝓛 T c).pre x) ∷ Γ) E xs ((asked 𝓛 T c).args x)
        → ((v : Val) (r : Res T.signature x.0.0) (ws : Lasts T x.0.0 x.0.3)
        → Seq K 𝓛 (gives 𝓛 T c x v r ws ++ Γ) (lands C Λ E d v rest q))
        → Seq K 𝓛 (i ∷ j ∷ Γ) (runs C Λ E (seq (call f xs d) rest) q)
    asks h os k =
        move t (1 ∷ 0 ∷ []) $ use2 𝓛 (raw ((asked 𝓛 T c).pre x)) h $
        calls_at t fm (asked 𝓛 T c) met x os (λ v. given_back t T c x v tt (k v))

    pub asks_last : {i j : Item 𝓤} → ent 𝓤 (sep 𝓤 (mean 𝓛 j) (mean 𝓛 i)) ((asked 𝓛 T c).pre x)
        → Opds K 𝓛 (raw ((asked 𝓛 T c).pre x) ∷ Γ) E xs ((asked 𝓛 T c).args x)
        → ((v : Val) (r : Res T.signature x.0.0) (ws : Lasts T x.0.0 x.0.3)
        → Seq K 𝓛 (gives 𝓛 T c x v r ws ++ Γ) (settles E d v q))
        → Seq K 𝓛 (i ∷ j ∷ Γ) (runs C Λ E (call f xs d) q)
    asks_last h os k =
        move t (1 ∷ 0 ∷ []) $ use2 𝓛 (raw ((asked 𝓛 T c).pre x)) h $
        calls_at_last t fm (asked 𝓛 T c) met x os (λ v. given_back t T c x v tt (k v))

-- a walk begins with what is required, the arguments and the tokens
pub starts : {M : Type 1} {𝓤 : Ura M} (𝓛 : Logic 𝓤) (T : Ended) (hs : Stays T.signature.params T.kept)
    (c : Clauses 𝓤 T)
    (y : (walk_of 𝓛 T hs c).Ghost) {P : SProp 𝓤} → Sq 𝓛 (raw ((c y.0.0 y.0.3).requires y.1)
    ∷ ‵ (owns (types_at T.signature.params y.0.0) y.0.3 y.0.4) ∷ tokens 𝓛 T.signature.lifetimes y.0.0 y.0.1)
    (prop P)
    → ent 𝓤 ((walk_of 𝓛 T hs c).pre y) P
starts {𝓤 = 𝓤} 𝓛 T hs c y s =
    let Alive = alive 𝓛 T.signature y.0.0 y.0.1 in let held = tokens 𝓛 T.signature.lifetimes y.0.0 y.0.1 in
    let Own = ‵ (owns (types_at T.signature.params y.0.0) y.0.3 y.0.4) in
    let Asks = raw ((c y.0.0 y.0.3).requires y.1) in qed 𝓛 ((raw Alive ⊛ Own) ∷ Asks ∷ []) ∵ split ! $
    move ! (2 ∷ 1 ∷ 0 ∷ []) $
    by ! (via 𝓤 (⋆ 𝓛 (Asks ∷ Own ∷ held)) (mono_r 𝓤 (mean 𝓛 Asks) (via 𝓤 (sep 𝓤 (mean 𝓛 Own) (⋆ 𝓛 held))
    (mono_r 𝓤 (mean 𝓛 Own) (tokens⊢ 𝓛 T.signature.lifetimes y.0.0 y.0.1)) (push 𝓛 Own held))) s.prf)
