-- A span that is not 0 passes the longest one when it is doubled 64 times or more.
use Rattle.std.proofs.Common.{ℕ, ◌*◌, ◌^◌, ◌<◌, ◌≤◌, arith}
use Rattle.std.proofs.Math.Pow.{pow_mono}
use Rattle.net_wire.proofs.time.DurationShlU32.shl.Goals as goal
use Rattle.net_wire.proofs.time.DurationShlU32.shl.Goals.{then-self-eq0, else-self-eq0}

far : (span doubled : ℕ) → 0 < span → 2 ^ 64 ≤ doubled → 2 ^ 64 ≤ span * doubled
far span doubled some long = grind arith

pub returns-after-self-eq0 : goal.returns-after-self-eq0
returns-after-self-eq0 c =
    let long : 2 ^ 64 ≤ 2 ^ c.args.rhs = pow_mono c.if-rhs-lt-BITS.false in
    elim c.if-self-eq0.branch [ then-self-eq0 w ↦ grind arith | else-self-eq0 w ↦ grind (arith, far) ]
