-- Instants as numbers of microseconds, and the spans of the client.
use Rattle.std.proofs.Common.{mul-le-mul, ◌≡◌, ℕ, ◌+◌, ◌-◌, ◌*◌, ◌/◌, ◌^◌, ◌<◌, ◌≤◌, pos, arith}
use Rattle.std.proofs.Math.Pow.{pow_mono}
use Rattle.std.proofs.lemmas.Int.{ints, clamps}
use Rattle.net_wire.specs.Time.{instant_after, micros_between}
use Rattle.dhcp_client.specs.Times.{request_span, renew_span, rebind_span}

-- a span after an instant is not cut short
pub after_is : (at span : ℕ) → at + span < 2 ^ 63 → instant_after (pos at) span ≡ pos (at + span)
after_is at span short = omega (arith, ints, clamps)

pub between_is : (one other : ℕ) → other ≤ one → micros_between (pos one) (pos other) ≡ one - other
between_is one other later = omega (arith, ints)

-- how long the spans are at most
pub request_short : (initial retry : ℕ) → initial ≤ 86400000000 → retry < 32
    → request_span initial retry ≤ 86400000000 * 2 ^ 15
request_short initial retry short few =
    let half : retry / 2 ≤ 15 = omega arith in
    let power : 2 ^ (retry / 2) ≤ 2 ^ 15 = pow_mono half in
    let product : initial * 2 ^ (retry / 2) ≤ 86400000000 * 2 ^ 15 = mul-le-mul short power in
    omega arith

pub renew_short : (least greatest left : ℕ) → renew_span least greatest left ≤ left
renew_short least greatest left = omega arith

pub rebind_short : (least greatest left : ℕ) → rebind_span least greatest left ≤ least + left
rebind_short least greatest left = omega arith
