-- What the fault rule can do to a frame, and closed examples of the rule.
use Rattle.std.specs.Prelude.{◌≡◌, ◌≢◌, ℕ, ◌+◌, ◌<◌, ◌⊎◌, List, length, Some, ℤ, pos, slice_index}
use Rattle.std.specs.Int.{bit_at}
use Rattle.phy_layers.specs.declared.capabilities.TracerDirection.{TracerDirection}
use Rattle.phy_layers.specs.declared.capabilities.TracerDirection.TheVariants.{RX, TX}
use Rattle.phy_layers.specs.declared.fault_rule.Fate.TheVariants.{Dropped, Whole, Flipped}
use Rattle.phy_layers.specs.declared.fault_rule.FaultSettings.{FaultSettings}
use Rattle.phy_layers.specs.declared.fault_rule.FaultState.{FaultState}
use Rattle.phy_layers.specs.FaultRule.{fault_outcome, frame_after, outcome}

-- lists of bytes of one length that are the same but for one bit
pub record DifferInOneBit (old new : List ℕ) : Type 0 where
  pub at : ℕ
  pub bit : ℕ
  pub within : at < length old
  pub in_byte : bit < 8
  pub len : length new ≡ length old
  pub bytes : (i : ℕ) → i ≢ at → slice_index new i ≡ slice_index old i
  pub bits : (k : ℕ) → k ≢ bit → bit_at (slice_index new at) k ≡ bit_at (slice_index old at) k
  pub turned : bit_at (slice_index new at) bit + bit_at (slice_index old at) bit ≡ 1

-- a frame that passes is the given one, or has one other bit
abbrev pub IsWholeOrOneBit : Type 0
IsWholeOrOneBit = (settings : FaultSettings) (state : FaultState) (direction : TracerDirection) (now : ℤ)
    (frame passed : List ℕ)
    → frame_after (fault_outcome settings state direction now (length frame)).fate frame ≡ Some passed
    → (passed ≡ frame) ⊎ DifferInOneBit frame passed

-- the rule before any frame, by the seed 1, whose words are 00042021, 04080601, 9dcca8c5, 1255994f
abbrev pub first_state : FaultState
first_state = record { word = 1; refilled_at = pos 0; tx_bucket = 0; rx_bucket = 0 }

abbrev pub after_words : ℕ → FaultState
after_words word = record first_state { word = word }

abbrev pub settings_of : ℕ → ℕ → ℕ → ℕ → FaultSettings
settings_of drop corrupt limit rate = record {
  corrupt_chance = corrupt;
  drop_chance = drop;
  max_packet_size = limit;
  max_tx_rate = rate;
  max_rx_rate = rate;
  bucket_interval = 1000000;
}

-- A received frame over the size limit draws nothing, a sent one once. With a chance of 0 two draws are made,
-- and none hits.
abbrev pub AreSizesDrawn : Type 0
AreSizesDrawn =
    (fault_outcome (settings_of 0 0 41 0) first_state RX (pos 0) 42 ≡ outcome Dropped first_state)
    × (fault_outcome (settings_of 0 0 41 0) first_state TX (pos 0) 42
    ≡ outcome Dropped (after_words 0x00042021))
    × (fault_outcome (settings_of 0 0 0 0) first_state RX (pos 0) 1537 ≡ outcome Dropped first_state)
    × (fault_outcome (settings_of 0 0 42 0) first_state RX (pos 0) 42
    ≡ outcome Whole (after_words 0x04080601))

-- With a chance of 100 percent four draws are made: the third is the place, the fourth the bit. An empty
-- frame takes two.
abbrev pub AreFlipsDrawn : Type 0
AreFlipsDrawn =
    (fault_outcome (settings_of 0 100 0 0) first_state TX (pos 0) 42 ≡ outcome (Flipped 27 7)
    (after_words 0x1255994f))
    × (fault_outcome (settings_of 0 100 0 0) first_state TX (pos 0) 0
    ≡ outcome Whole (after_words 0x04080601))
    × (fault_outcome (settings_of 100 100 0 0) first_state TX (pos 0) 42
    ≡ outcome Dropped (after_words 0x00042021))

-- With a rate of 3 a frame is dropped up to the interval, one draw after the last word; behind it the buckets
-- are filled and the frame takes one.
abbrev pub AreRatesKept : Type 0
AreRatesKept =
    (fault_outcome (settings_of 0 0 0 3) first_state RX (pos 1000000) 42
    ≡ outcome Dropped (after_words 0x00042021))
    × (fault_outcome (settings_of 0 0 0 3) first_state RX (pos 1000001) 42
    ≡ outcome Whole (record { word = 0x04080601; refilled_at = pos 1000001; tx_bucket = 3; rx_bucket = 2 }))
    × (fault_outcome (settings_of 0 0 0 3) first_state TX (pos 1000001) 42
    ≡ outcome Whole (record { word = 0x04080601; refilled_at = pos 1000001; tx_bucket = 2; rx_bucket = 3 }))
