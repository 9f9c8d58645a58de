-- Spans of some length, and the moments after them.
use Rattle.std.proofs.Common.{mul-le-mul, ◌≡◌, ℕ, ◌+◌, ◌-◌, ◌*◌, ◌/◌, ◌^◌, ◌≤◌, ◌<◌, ℤ, ◌<ℤ◌, ◌≤ℤ◌, ◌&&◌, nat_lt, Bool, true, false, cond, refl, tests, arith, min}
use Rattle.std.specs.Prelude.{Option, Some, None}
use Rattle.std.specs.Int.{int_min}
use Rattle.std.proofs.lemmas.Int.{ints, clamps}
use Rattle.std.proofs.lemmas.Nat.{pow_pos}
use Rattle.net_wire.specs.Time.{instant_after, micros_between}
use Rattle.dhcp_client.specs.Ending.{last_instant}
use Rattle.dhcp_client.specs.Times.{AreOrdered, Spans, spans, default_spans, spans_with, request_span, renew_span, rebind_span}

pub later : (now : ℤ) (span : ℕ) → now <ℤ last_instant → 0 < span → now <ℤ instant_after now span
later now span room some = omega (arith, ints, clamps)

pub not_before : (now : ℤ) (span : ℕ) → now ≤ℤ last_instant → now ≤ℤ instant_after now span
not_before now span room = omega (arith, ints, clamps)

pub some_left : (at now : ℤ) → now <ℤ at → 0 < micros_between at now
some_left at now early = omega (arith, ints)

pub within : (at now : ℤ) (span : ℕ) → now <ℤ at → span ≤ micros_between at now → instant_after now span ≤ℤ at
within at now span early short = omega (arith, ints, clamps)

pub grows : (now : ℤ) (a b : ℕ) → a ≤ b → instant_after now a ≤ℤ instant_after now b
grows now a b le = omega (arith, ints, clamps)

-- below all dues of a lease
pub below_all : (rebinding : Bool) (now renew_at rebind_at expires_at : ℤ) → now <ℤ renew_at → now <ℤ rebind_at → now <ℤ expires_at
    → now <ℤ int_min (cond rebinding rebind_at (int_min renew_at rebind_at)) expires_at
below_all true now renew_at rebind_at expires_at renews rebinds ends = omega (arith, ints, clamps)
below_all false now renew_at rebind_at expires_at renews rebinds ends = omega (arith, ints, clamps)

pub renew_some : (least greatest left : ℕ) → 0 < least → 0 < greatest → 0 < left → 0 < renew_span least greatest left
renew_some least greatest left a b c = omega arith

pub renew_short : (least greatest left : ℕ) → renew_span least greatest left ≤ left
renew_short least greatest left = omega arith

pub rebind_some : (least greatest left : ℕ) → 0 < least → 0 < greatest → 0 < rebind_span least greatest left
rebind_some least greatest left a b = omega arith

pub request_some : (initial retry : ℕ) → 0 < initial → 0 < request_span initial retry
request_some initial retry some =
    let one : 1 ≤ initial = omega arith in
    let power : 1 ≤ 2 ^ (retry / 2) = omega (arith, pow_pos (retry / 2)) in
    omega (arith, mul-le-mul one power)

-- the times of a lease are in order, in all four cases
ordered : (renew rebind end : ℕ) → renew ≤ rebind → rebind ≤ end → AreOrdered (spans_with renew rebind end)
ordered renew rebind end renewal rebinding = record { renewal = renewal; rebinding = rebinding }

default_ordered : (lease : ℕ) → AreOrdered (default_spans lease)
default_ordered lease = ordered (lease / 2) (lease * 7 / 8) lease (omega arith) (omega arith)

either : (test : Bool) (times : Spans) (lease : ℕ) → (test ≡ true → AreOrdered times) → AreOrdered (cond test times (default_spans lease))
either true times lease good = good refl
either false times lease good = default_ordered lease

pub spans_ordered : (lease : ℕ) (renew rebind : Option ℕ) → AreOrdered (spans lease renew rebind)
spans_ordered lease (Some renew) (Some rebind) =
    either (nat_lt (renew * 1000000) (rebind * 1000000) && nat_lt (rebind * 1000000) lease)
    (spans_with (renew * 1000000) (rebind * 1000000) lease) lease
    (λ both. ordered (renew * 1000000) (rebind * 1000000) lease (grind (arith, tests)) (grind (arith, tests)))
spans_ordered lease (Some renew) None =
    either (nat_lt (renew * 1000000) lease)
    (spans_with (renew * 1000000) (renew * 1000000 + (lease - renew * 1000000) * 3 / 4) lease) lease
    (λ test. ordered (renew * 1000000) (renew * 1000000 + (lease - renew * 1000000) * 3 / 4) lease (omega arith) (grind (arith, tests)))
spans_ordered lease None (Some rebind) =
    either (nat_lt (rebind * 1000000) lease) (spans_with (min (lease / 2) (rebind * 1000000)) (rebind * 1000000) lease) lease
    (λ test. ordered (min (lease / 2) (rebind * 1000000)) (rebind * 1000000) lease (omega arith) (grind (arith, tests)))
spans_ordered lease None None = default_ordered lease
