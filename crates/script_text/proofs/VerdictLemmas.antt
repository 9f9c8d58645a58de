-- A verdict is one of three.
use Rattle.std.proofs.Common.{◌≡◌, ℕ, ◌⊎◌, inl, inr, List, sym, ◌∙◌, refl}
use Rattle.host_model.specs.Script.{Event}
use Rattle.script_text.specs.Meaning.{Verdict, Right, Long, Wrong, verdict}
use Rattle.script_text.specs.TextLaws.{IsOneOfThree}

some_case : (answer : Verdict) → ((events : List Event) × (answer ≡ Right events))
    ⊎ ((answer ≡ Long) ⊎ ((line : ℕ) × ((word : ℕ) × (answer ≡ Wrong line word))))
some_case (Right events) = inl (events, refl)
some_case Long = inr (inl refl)
some_case (Wrong line word) = inr (inr (line, (word, refl)))

not_long : (answer : Verdict) (events : List Event) → answer ≡ Right events → answer ≡ Long → ⊥
not_long answer events is also = let clash : Right events ≡ Long = sym is ∙ also in cc

not_wrong : (answer : Verdict) (events : List Event) (line word : ℕ) → answer ≡ Right events → answer ≡ Wrong line word → ⊥
not_wrong answer events line word is also = let clash : Right events ≡ Wrong line word = sym is ∙ also in cc

long_or_wrong : (answer : Verdict) (line word : ℕ) → answer ≡ Long → answer ≡ Wrong line word → ⊥
long_or_wrong answer line word is also = let clash : Long ≡ Wrong line word = sym is ∙ also in cc

pub one_of_three : IsOneOfThree
one_of_three = record {
  some = λ max text. some_case (verdict max text);
  not_long = λ max text events is also. not_long (verdict max text) events is also;
  not_wrong = λ max text events line word is also. not_wrong (verdict max text) events line word is also;
  long_or_wrong = λ max text line word is also. long_or_wrong (verdict max text) line word is also;
}
