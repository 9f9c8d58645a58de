use Rattle.std.proofs.Common.{[], ◌∷◌, inl, inr, refl}
use Rattle.run_examples.proofs.runs.scripts_by_example.Goals as goal

pub returns : goal.returns
returns c = record {
  frame = record { kind = 1; rest = 0 ∷ 3 ∷ 9 ∷ 8 ∷ 7 ∷ []; brings = (refl, refl); whole = refl };
  tick = record { kind = 2; rest = []; brings = (refl, refl); whole = refl };
  query = record { kind = 3; rest = 3 ∷ 97 ∷ 46 ∷ 98 ∷ []; brings = inl (refl, refl, refl); whole = refl };
  reset = record { kind = 4; rest = []; brings = (refl, refl); whole = refl };
  typed = record { kind = 5; rest = 0 ∷ 28 ∷ 1 ∷ 97 ∷ []; brings = inr (refl, refl); whole = refl };
  of_ipv4 = record { kind = 5; rest = 0 ∷ 1 ∷ 1 ∷ 97 ∷ []; brings = inr (refl, refl); whole = refl };
}
