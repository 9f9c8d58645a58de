-- Comparisons of instants.
use Rattle.std.proofs.Common.{◌≡◌, ℕ, ◌<◌, ◌≤◌, ℤ, pos, negsuc, refl, true, false, ◌≤ℤ◌, ◌<ℤ◌, Option, Some, None, arith, rules}
use Rattle.std.specs.Ordering.{is_le, int_cmp}
use Rattle.std.proofs.lemmas.Int.{ints}
use Rattle.dhcp_client.specs.Ending.{last_instant}
use Rattle.host_model.specs.Script.{time_limit}
use Rattle.phy_layers.specs.PcapBytes.{IsCapturable, epoch_micros}
use Rattle.net_host.specs.Moments.{IsFrom}

pub le_of_test : (a b : ℤ) → true ≡ is_le (int_cmp a b) → a ≤ℤ b
le_of_test a b h = search rules

pub lt_of_test : (a b : ℤ) → false ≡ is_le (int_cmp a b) → b <ℤ a
lt_of_test a b h = search rules

pub pos_le : (a b : ℕ) → pos a ≤ℤ pos b → a ≤ b
pos_le a b h = omega (arith, ints)

pub pos_lt : (a b : ℕ) → pos a <ℤ pos b → a < b
pos_lt a b h = omega (arith, ints)

-- a moment that a capture can hold is a time of a script
pub instant_is : (at : ℤ) → IsCapturable at → at ≡ pos (epoch_micros at)
instant_is (pos micros) within = refl
instant_is (negsuc micros) within = absurd (omega (arith, ints, within.0))

pub in_range : (at : ℤ) → IsCapturable at → epoch_micros at < time_limit
in_range (pos micros) within = omega (arith, ints, within.1)
in_range (negsuc micros) within = omega arith

pub before_last : (at : ℤ) → IsCapturable at → at <ℤ last_instant
before_last at within = omega (arith, ints, within.1)

-- an instant that is no earlier is not before the last one either
pub from_later : (last : Option ℤ) (at later : ℤ) → IsFrom last at → epoch_micros at ≤ epoch_micros later → IsFrom last later
from_later None at later from on = tt
from_later (Some last) at later from on = omega (arith, from, on)
