-- The count of faults after one more.
use Rattle.std.proofs.Common.{ℕ, ◌≤◌, arith}
use Rattle.std.proofs.lemmas.Bool.Decides.{nat_tests}
use Rattle.wire_base.specs.Causes.{IsRisen}
use Rattle.phy_layers.specs.Calls.{counted}

pub counted_later : (count : ℕ) → count ≤ counted count
counted_later count = grind (arith, nat_tests)

pub counted_risen : (count : ℕ) → IsRisen count (counted count)
counted_risen count = grind (arith, nat_tests)
