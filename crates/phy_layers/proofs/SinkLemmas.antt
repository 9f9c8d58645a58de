-- How the effects of calls of a sink join.
use Rattle.std.proofs.Common.{◌≡◌, ℕ, ◌+◌, ◌<◌, Bool, List, [], ◌∷◌, ◌++◌, length, take, drop, get_or, Option, Some, None, Result, Ok, Err, ◌∙◌, ap, subst, append_assoc, append-nil, sym, arith}
use Rattle.std.specs.List.{flat_map}
use Rattle.std.specs.Io.KnownBytes.{Appends}
use Rattle.std.proofs.lemmas.Grind.{flat_map-append}
use Rattle.std.proofs.lemmas.List.{take_more, take-append-drop}
use Rattle.std.proofs.lemmas.Result.{on_ok_weaker}
use Rattle.wire_base.specs.Causes.{IsRisen, AppendsFront}
use Rattle.phy_layers.specs.declared.byte_sink.SinkError.{SinkError}
use Rattle.phy_layers.specs.Sink.{Took}

pub Appends-then : (a b c : Option (List ℕ)) (xs ys : List ℕ) → Appends a b xs → Appends b c ys
    → Appends a c (xs ++ ys)
Appends-then None b c xs ys p q = tt
Appends-then (Some a) None c xs ys p q = absurd p
Appends-then (Some a) (Some b) None xs ys p q = absurd q
Appends-then (Some a) (Some b) (Some c) xs ys p q = rw (q, p, append_assoc a xs ys)

pub AppendsFront-then : (a b c : Option (List ℕ)) (xs ys : List ℕ) → Appends a b xs → AppendsFront b c ys
    → AppendsFront a c (xs ++ ys)
AppendsFront-then None b c xs ys p q = tt
AppendsFront-then (Some a) None c xs ys p q = absurd p
AppendsFront-then (Some a) (Some b) None xs ys p q = absurd q
AppendsFront-then (Some a) (Some b) (Some c) xs ys p q =
    (xs ++ q.0, q.1, rw (q.2, append_assoc xs q.0 q.1), rw (q.3, p, append_assoc a xs q.0))

pub AppendsFront-longer : (a b : Option (List ℕ)) (xs ys : List ℕ) → AppendsFront a b xs
    → AppendsFront a b (xs ++ ys)
AppendsFront-longer None b xs ys p = tt
AppendsFront-longer (Some a) None xs ys p = absurd p
AppendsFront-longer (Some a) (Some b) xs ys p = (p.0, p.1 ++ ys, rw (p.2, append_assoc p.0 p.1 ys), p.3)

-- a call after others that took all their bytes
pub took_then : {S : Type 0} {bytes : S → Option (List ℕ)} {faults : S → ℕ} {grows : Bool}
    {result : Result (Unit {0}) SinkError}
    {xs ys : List ℕ} {start middle now : S} → Took bytes faults grows (Ok tt) xs start middle
    → Took bytes faults grows result ys middle now → Took bytes faults grows result (xs ++ ys) start now
took_then {S} {bytes} {faults} {grows} {result} {xs} {ys} {start} {middle} {now} first second = record {
  whole = on_ok_weaker result (Appends-then (bytes start) (bytes middle) (bytes now) xs ys first.whole)
      second.whole;
  front = AppendsFront-then (bytes start) (bytes middle) (bytes now) xs ys first.whole second.front;
  later = omega (arith, first.later, second.later);
  quiet = on_ok_weaker result (λ same. same ∙ first.quiet) second.quiet;
  fault = λ is. subst (λ count. IsRisen count (faults now)) first.quiet (second.fault is);
  memory = λ is. ((second.memory is).0 ∙ first.quiet, (second.memory is).1);
}

-- a refusal has taken a front of any longer list
pub stops : {S : Type 0} {bytes : S → Option (List ℕ)} {faults : S → ℕ} {grows : Bool} {e : SinkError}
    {xs : List ℕ} {start now : S}
    → (ys : List ℕ) → Took bytes faults grows (Err e) xs start now
    → Took bytes faults grows (Err e) (xs ++ ys) start now
stops {S} {bytes} {faults} {grows} {e} {xs} {start} {now} ys taken = record {
  whole = tt;
  front = AppendsFront-longer (bytes start) (bytes now) xs ys taken.front;
  later = taken.later;
  quiet = tt;
  fault = taken.fault;
  memory = taken.memory;
}

-- parts of a list up to a place and the one there, and the parts behind them
pub flat_map-take_more : {X A : Type 0} (f : X → List A) (xs : List X) (i : ℕ) (d : X) → i < length xs
    → flat_map f (take (i + 1) xs) ≡ flat_map f (take i xs) ++ f (get_or xs i d)
flat_map-take_more f xs i d within =
    ap (flat_map f) (take_more xs i d within) ∙ flat_map-append f (take i xs) (get_or xs i d ∷ [])
    ∙ ap (λ part. flat_map f (take i xs) ++ part) (append-nil (f (get_or xs i d)))

pub flat_map-take-drop : {X A : Type 0} (f : X → List A) (xs : List X) (i : ℕ)
    → flat_map f (take i xs) ++ flat_map f (drop i xs) ≡ flat_map f xs
flat_map-take-drop f xs i = sym (flat_map-append f (take i xs) (drop i xs))
    ∙ ap (flat_map f) (take-append-drop i xs)
