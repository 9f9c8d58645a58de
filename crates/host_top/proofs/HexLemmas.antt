-- The digits of numbers below 16.
use Rattle.std.proofs.Common.{◌≡◌, ℕ, zero, suc, ◌+◌, ◌-◌, ◌<◌, false, take, drop, codes, ap, ◌∙◌, refl, arith}
use Rattle.std.specs.Fmt.{digits}

digit_at : (number : ℕ) → number < 16 → take 1 (drop number (codes "0123456789abcdef")) ≡ digits 16 false number
unfolding digits
digit_at zero within = refl
digit_at (suc zero) within = refl
digit_at (suc (suc zero)) within = refl
digit_at (suc (suc (suc zero))) within = refl
digit_at (suc (suc (suc (suc zero)))) within = refl
digit_at (suc (suc (suc (suc (suc zero))))) within = refl
digit_at (suc (suc (suc (suc (suc (suc zero)))))) within = refl
digit_at (suc (suc (suc (suc (suc (suc (suc zero))))))) within = refl
digit_at (suc (suc (suc (suc (suc (suc (suc (suc zero)))))))) within = refl
digit_at (suc (suc (suc (suc (suc (suc (suc (suc (suc zero))))))))) within = refl
digit_at (suc (suc (suc (suc (suc (suc (suc (suc (suc (suc zero)))))))))) within = refl
digit_at (suc (suc (suc (suc (suc (suc (suc (suc (suc (suc (suc zero))))))))))) within = refl
digit_at (suc (suc (suc (suc (suc (suc (suc (suc (suc (suc (suc (suc zero)))))))))))) within = refl
digit_at (suc (suc (suc (suc (suc (suc (suc (suc (suc (suc (suc (suc (suc zero))))))))))))) within = refl
digit_at (suc (suc (suc (suc (suc (suc (suc (suc (suc (suc (suc (suc (suc (suc zero)))))))))))))) within = refl
digit_at (suc (suc (suc (suc (suc (suc (suc (suc (suc (suc (suc (suc (suc (suc (suc zero))))))))))))))) within = refl
digit_at (suc (suc (suc (suc (suc (suc (suc (suc (suc (suc (suc (suc (suc (suc (suc (suc number)))))))))))))))) within = absurd (omega (arith, within))

-- the piece of the digits that begins at a number
pub digit_from : (at number : ℕ) → at ≡ number → number < 16
    → take (at + 1 - at) (drop at (codes "0123456789abcdef")) ≡ digits 16 false number
digit_from at number same within =
    let one : at + 1 - at ≡ 1 = omega arith in
    ap (λ n. take n (drop at (codes "0123456789abcdef"))) one
    ∙ ap (λ n. take 1 (drop n (codes "0123456789abcdef"))) same ∙ digit_at number within
