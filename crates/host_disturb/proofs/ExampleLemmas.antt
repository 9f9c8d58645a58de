-- The closed examples, by computing.
use Rattle.std.proofs.Common.{refl}
use Rattle.wire_base.specs.Xorshift.{next_word}
use Rattle.phy_layers.specs.FaultRule.{fault_outcome, received_outcome, drawn_in, rated_in, taken_in, refilled, corrupted, flipped}
use Rattle.host_disturb.specs.Examples.{DropsByExample, FlipsByExample, LimitsByExample, RatesByExample, DrawsByExample}

pub drops : DropsByExample
unfolding fault_outcome received_outcome drawn_in rated_in taken_in refilled corrupted flipped next_word
drops = record { every = refl; some = refl }

pub flips : FlipsByExample
unfolding fault_outcome received_outcome drawn_in rated_in taken_in refilled corrupted flipped next_word
flips = record { reply = refl; two = refl }

pub limits : LimitsByExample
unfolding fault_outcome received_outcome drawn_in rated_in taken_in refilled corrupted flipped next_word
limits = record { limit = refl; none = refl }

pub rates : RatesByExample
unfolding fault_outcome received_outcome drawn_in rated_in taken_in refilled corrupted flipped next_word
rates = record { two = refl }

pub draws : DrawsByExample
unfolding fault_outcome received_outcome drawn_in rated_in taken_in refilled corrupted flipped next_word
draws = record { others = refl; long = refl; empty = refl }
