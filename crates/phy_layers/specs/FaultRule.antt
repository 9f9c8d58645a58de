-- The fault rule: what a layer that disturbs a link makes of a frame. Each step takes the state that the step
-- before left.
use Rattle.std.specs.Prelude.{ℕ, ◌-◌, ◌^◌, ◌%◌, ◌==◌, ◌&&◌, ◌||◌, nat_lt, ◌<◌, ⊤, Bool, List, Option, Some, None, ℤ, bit_xor, slice_index, slice_set, if◌then◌else◌}
use Rattle.wire_base.specs.Xorshift.{next_word}
use Rattle.net_wire.specs.Time.{micros_between}
use Rattle.phy_layers.specs.declared.capabilities.TracerDirection.{TracerDirection}
use Rattle.phy_layers.specs.declared.capabilities.TracerDirection.TheVariants.{RX, TX}
use Rattle.phy_layers.specs.declared.fault_rule.Fate.{Fate}
use Rattle.phy_layers.specs.declared.fault_rule.Fate.TheVariants.{Dropped, Whole, Flipped}
use Rattle.phy_layers.specs.declared.fault_rule.FaultOutcome.{FaultOutcome}
use Rattle.phy_layers.specs.declared.fault_rule.FaultSettings.{FaultSettings}
use Rattle.phy_layers.specs.declared.fault_rule.FaultState.{FaultState}

abbrev pub outcome : Fate → FaultState → FaultOutcome
outcome fate state = record { fate = fate; state = state }

-- the state after a draw, which is the next word
abbrev pub with_word : FaultState → ℕ → FaultState
with_word state word = record state { word = word }

-- whether a draw hits a chance of so many percent
abbrev pub hits : ℕ → ℕ → Bool
hits word chance = nat_lt (word % 100) chance

-- a frame is over a limit, where the limit is above 0
abbrev pub is_over : ℕ → ℕ → Bool
is_over limit len = nat_lt 0 limit && nat_lt limit len

-- A frame that is corrupted has one bit flipped: its place is drawn, and then its bit. An empty one stays as
-- it is, and nothing more is drawn.
unfoldable pub flipped : ℕ → FaultState → FaultOutcome
flipped len state =
    if len == 0 then outcome Whole state
    else let place = next_word state.word in let bit = next_word place in
    outcome (Flipped (place % len) (bit % 8)) (with_word state bit)

-- the last step: a draw, whether or not there is a chance, decides whether the frame is corrupted
unfoldable pub corrupted : FaultSettings → ℕ → FaultState → FaultOutcome
corrupted settings len state =
    let word = next_word state.word in
    if hits word settings.corrupt_chance then flipped len (with_word state word)
    else outcome Whole (with_word state word)

-- Both buckets are filled up to their rates where now is further from the last time than the interval.
unfoldable pub refilled : FaultSettings → ℤ → FaultState → FaultState
refilled settings now state =
    if nat_lt settings.bucket_interval (micros_between now state.refilled_at)
    then record {
      word = state.word;
      refilled_at = now;
      tx_bucket = settings.max_tx_rate;
      rx_bucket = settings.max_rx_rate;
    }
    else state

-- The step before the last one, one for each way: a rate of 0 passes all frames and touches no bucket. With
-- another one the buckets are refilled if it is time, and then a frame that passes takes one from its bucket,
-- and an empty bucket drops it.
unfoldable pub taken_in : FaultSettings → ℕ → FaultState → FaultOutcome
taken_in settings len state =
    if state.rx_bucket == 0 then outcome Dropped state
    else corrupted settings len (record state { rx_bucket = state.rx_bucket - 1 })

unfoldable pub rated_in : FaultSettings → ℤ → ℕ → FaultState → FaultOutcome
rated_in settings now len state =
    if settings.max_rx_rate == 0 then corrupted settings len state
    else taken_in settings len (refilled settings now state)

unfoldable pub taken_out : FaultSettings → ℕ → FaultState → FaultOutcome
taken_out settings len state =
    if state.tx_bucket == 0 then outcome Dropped state
    else corrupted settings len (record state { tx_bucket = state.tx_bucket - 1 })

unfoldable pub rated_out : FaultSettings → ℤ → ℕ → FaultState → FaultOutcome
rated_out settings now len state =
    if settings.max_tx_rate == 0 then corrupted settings len state
    else taken_out settings len (refilled settings now state)

-- A received frame: one that is too long is dropped without a draw; then a draw may drop it, then the rate.
unfoldable pub drawn_in : FaultSettings → ℤ → ℕ → FaultState → FaultOutcome
drawn_in settings now len state =
    if hits state.word settings.drop_chance then outcome Dropped state else rated_in settings now len state

unfoldable pub received_outcome : FaultSettings → FaultState → ℤ → ℕ → FaultOutcome
received_outcome settings state now len =
    if nat_lt 1536 len || is_over settings.max_packet_size len then outcome Dropped state
    else drawn_in settings now len (with_word state (next_word state.word))

-- A sent frame: a draw may drop it, then its length, then the rate.
unfoldable pub drawn_out : FaultSettings → ℤ → ℕ → FaultState → FaultOutcome
drawn_out settings now len state =
    if hits state.word settings.drop_chance || is_over settings.max_packet_size len then outcome Dropped state
    else rated_out settings now len state

unfoldable pub sent_outcome : FaultSettings → FaultState → ℤ → ℕ → FaultOutcome
sent_outcome settings state now len = drawn_out settings now len (with_word state (next_word state.word))

-- the rule: what becomes of a frame of so many bytes, and of the state
unfoldable pub fault_outcome : FaultSettings → FaultState → TracerDirection → ℤ → ℕ → FaultOutcome
fault_outcome settings state RX now len = received_outcome settings state now len
fault_outcome settings state TX now len = sent_outcome settings state now len

-- a frame with one bit flipped, the lowest bit of a byte being bit 0
abbrev pub flip : List ℕ → ℕ → ℕ → List ℕ
flip frame at bit = slice_set frame at (bit_xor (slice_index frame at) (2 ^ bit))

-- a fate that a frame of so many bytes can have
abbrev pub IsFateOf : ℕ → Fate → Type 0
IsFateOf len Dropped = ⊤
IsFateOf len Whole = ⊤
IsFateOf len (Flipped at bit) = (at < len) × (bit < 8)

-- the frame that passes
abbrev pub frame_after : Fate → List ℕ → Option (List ℕ)
frame_after Dropped frame = None
frame_after Whole frame = Some frame
frame_after (Flipped at bit) frame = Some (flip frame at bit)
