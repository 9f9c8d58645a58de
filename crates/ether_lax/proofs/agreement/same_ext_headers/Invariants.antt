use Rattle.std.proofs.Common.{◌≡◌, ◌-◌, ◌≤◌, length, take}
use Rattle.ether_lax.proofs.agreement.same_ext_headers.Given as goal

abbrev pub invariant-loop-at : goal.invariant-loop-at
invariant-loop-at l = (l.at ≤ length l.some) × (length l.some ≡ length l.others) × (take l.at l.some ≡ take l.at l.others)

abbrev pub decreases-loop-at : goal.decreases-loop-at
decreases-loop-at l = length l.some - l.at
