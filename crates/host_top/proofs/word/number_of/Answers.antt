use Rattle.std.proofs.Common.{◌<◌, arith, refl}
use Rattle.std.proofs.lemmas.Int.Digits.{digits_more, digits_value_more}
use Rattle.host_top.proofs.DigitLemmas.{front_small, next_fits, digit_at}
use Rattle.host_top.proofs.word.number_of.Goals as goal

pub returns-in_err-digit-clause-refuses : goal.returns-in_err-digit-clause-refuses
returns-in_err-digit-clause-refuses c = rw c.from_residual.ensures
    (λ number word. c.in_err-digit.ensures.value (rw c.from.ensures
    (digit_at c.args.radix c.args.word.now c.loop-byte.byte-index word.digits.1 (omega arith))))

pub overflow_mul-number : goal.overflow_mul-number
overflow_mul-number c = rw c.from-in-loop-byte.ensures
    (omega (
      arith,
      next_fits c.loop-byte.number c.args.radix 0
          (front_small c.args.radix c.args.word.now c.loop-byte.byte-index c.loop-byte.number c.requires.radix c.loop-byte.invariant.digits
          c.loop-byte.invariant.value (omega arith)) c.requires.radix (omega arith),
    ))

pub overflow_add-number : goal.overflow_add-number
overflow_add-number c =
    let digit : c.in_ok-digit.digit < c.args.radix = rw c.in_ok-digit.ensures.value.1 c.in_ok-digit.ensures.value.0 in
    rw (c.from-in-loop-byte.ensures, c.from-in-loop-byte-2.ensures)
    (omega (
      arith,
      next_fits c.loop-byte.number c.args.radix c.in_ok-digit.digit
          (front_small c.args.radix c.args.word.now c.loop-byte.byte-index c.loop-byte.number c.requires.radix c.loop-byte.invariant.digits
          c.loop-byte.invariant.value (omega arith)) c.requires.radix digit,
    ))

pub loop-byte-preserved : goal.loop-byte-preserved
loop-byte-preserved c = record {
  digits = digits_more c.args.radix c.args.word.now c.loop-byte.byte-index (omega arith) c.loop-byte.invariant.digits
      (rw (← c.from.ensures) c.in_ok-digit.ensures.value.0);
  value = rw (
    digits_value_more c.args.radix c.args.word.now c.loop-byte.byte-index (omega arith),
    c.from-in-loop-byte.ensures,
    c.from-in-loop-byte-2.ensures,
    c.in_ok-digit.ensures.value.1,
    c.from.ensures,
    c.loop-byte.invariant.value,
  ) refl;
}
