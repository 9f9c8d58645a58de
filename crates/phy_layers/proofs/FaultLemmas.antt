-- What the fault rule does to a frame, and its closed examples by computing.
use Rattle.std.proofs.Common.{◌≡◌, ℕ, zero, suc, ◌+◌, ◌-◌, ◌%◌, ◌^◌, ◌<◌, ◌==◌, ◌||◌, nat_lt, ℤ, Bool, true, false, cond, ◌⊎◌, inl, inr, List, length, Some, refl, subst, arith, slice_index, bit_xor}
use Rattle.std.specs.Int.{bit_at}
use Rattle.std.proofs.lemmas.List.{get_or-set_same, get_or-set_other, length-set}
use Rattle.std.proofs.lemmas.Nat.Bits.{bit_at_xor, bit_at-lt, bit_at-pow_same, bit_at-pow_other}
use Rattle.wire_base.specs.Xorshift.{next_word}
use Rattle.phy_layers.specs.declared.capabilities.TracerDirection.{TracerDirection}
use Rattle.phy_layers.specs.declared.capabilities.TracerDirection.TheVariants.{RX, TX}
use Rattle.phy_layers.specs.declared.fault_rule.Fate.{Fate}
use Rattle.phy_layers.specs.declared.fault_rule.Fate.TheVariants.{Dropped, Whole, Flipped}
use Rattle.phy_layers.specs.declared.fault_rule.FaultOutcome.{FaultOutcome}
use Rattle.phy_layers.specs.declared.fault_rule.FaultSettings.{FaultSettings}
use Rattle.phy_layers.specs.declared.fault_rule.FaultState.{FaultState}
use Rattle.phy_layers.specs.FaultRule.{outcome, with_word, hits, is_over, flipped, corrupted, refilled, taken_in, rated_in, taken_out, rated_out, drawn_in, received_outcome, drawn_out, sent_outcome, fault_outcome, IsFateOf, flip, frame_after}
use Rattle.phy_layers.specs.FaultLaw.{DifferInOneBit, IsWholeOrOneBit, AreSizesDrawn, AreFlipsDrawn, AreRatesKept}

-- a fate that a frame of so many bytes can have
abbrev IsWithin : ℕ → FaultOutcome → Type 0
IsWithin len o = IsFateOf len o.fate

either : (len : ℕ) (b : Bool) (x y : FaultOutcome) → IsWithin len x → IsWithin len y
    → IsWithin len (cond b x y)
either len true x y p q = p
either len false x y p q = q

either_by : (len : ℕ) (b : Bool) (x y : FaultOutcome) → IsWithin len x → (b ≡ false → IsWithin len y)
    → IsWithin len (cond b x y)
either_by len true x y p q = p
either_by len false x y p q = q refl

positive : (len : ℕ) → (len == 0) ≡ false → 0 < len
positive zero differs = cc
positive (suc n) differs = omega arith

place_within : (place bit len : ℕ) → 0 < len → (place % len < len) × (bit % 8 < 8)
place_within place bit len some = (omega arith, omega arith)

flipped_within : (len : ℕ) (state : FaultState) → IsWithin len (flipped len state)
unfolding flipped
flipped_within len state =
    let place = next_word state.word in
    let bit = next_word place in
    either_by len (len == 0) (outcome Whole state)
    (outcome (Flipped (place % len) (bit % 8)) (with_word state bit)) tt
    (λ differs. place_within place bit len (positive len differs))

corrupted_within : (settings : FaultSettings) (len : ℕ) (state : FaultState)
    → IsWithin len (corrupted settings len state)
unfolding corrupted
corrupted_within settings len state =
    let drawn = with_word state (next_word state.word) in
    either len (hits (next_word state.word) settings.corrupt_chance) (flipped len drawn) (outcome Whole drawn)
    (flipped_within len drawn) tt

taken_in_within : (settings : FaultSettings) (len : ℕ) (state : FaultState)
    → IsWithin len (taken_in settings len state)
unfolding taken_in
taken_in_within settings len state =
    let taken = record state { rx_bucket = state.rx_bucket - 1 } in
    either len (state.rx_bucket == 0) (outcome Dropped state) (corrupted settings len taken) tt
    (corrupted_within settings len taken)

taken_out_within : (settings : FaultSettings) (len : ℕ) (state : FaultState)
    → IsWithin len (taken_out settings len state)
unfolding taken_out
taken_out_within settings len state =
    let taken = record state { tx_bucket = state.tx_bucket - 1 } in
    either len (state.tx_bucket == 0) (outcome Dropped state) (corrupted settings len taken) tt
    (corrupted_within settings len taken)

rated_in_within : (settings : FaultSettings) (now : ℤ) (len : ℕ) (state : FaultState)
    → IsWithin len (rated_in settings now len state)
unfolding rated_in
rated_in_within settings now len state =
    let filled = refilled settings now state in
    either len (settings.max_rx_rate == 0) (corrupted settings len state) (taken_in settings len filled)
    (corrupted_within settings len state) (taken_in_within settings len filled)

rated_out_within : (settings : FaultSettings) (now : ℤ) (len : ℕ) (state : FaultState)
    → IsWithin len (rated_out settings now len state)
unfolding rated_out
rated_out_within settings now len state =
    let filled = refilled settings now state in
    either len (settings.max_tx_rate == 0) (corrupted settings len state) (taken_out settings len filled)
    (corrupted_within settings len state) (taken_out_within settings len filled)

drawn_in_within : (settings : FaultSettings) (now : ℤ) (len : ℕ) (state : FaultState)
    → IsWithin len (drawn_in settings now len state)
unfolding drawn_in
drawn_in_within settings now len state =
    either len (hits state.word settings.drop_chance) (outcome Dropped state)
    (rated_in settings now len state) tt (rated_in_within settings now len state)

drawn_out_within : (settings : FaultSettings) (now : ℤ) (len : ℕ) (state : FaultState)
    → IsWithin len (drawn_out settings now len state)
unfolding drawn_out
drawn_out_within settings now len state =
    either len (hits state.word settings.drop_chance || is_over settings.max_packet_size len)
    (outcome Dropped state)
    (rated_out settings now len state) tt (rated_out_within settings now len state)

outcome_within : (settings : FaultSettings) (state : FaultState) (direction : TracerDirection) (now : ℤ)
    (len : ℕ)
    → IsWithin len (fault_outcome settings state direction now len)
unfolding fault_outcome received_outcome sent_outcome
outcome_within settings state RX now len =
    let drawn = with_word state (next_word state.word) in
    either len (nat_lt 1536 len || is_over settings.max_packet_size len) (outcome Dropped state)
    (drawn_in settings now len drawn) tt (drawn_in_within settings now len drawn)
outcome_within settings state TX now len =
    drawn_out_within settings now len (with_word state (next_word state.word))

other_bit : (n k : ℕ) → (bit_at n k + 0) % 2 ≡ bit_at n k
other_bit n k = omega (arith, bit_at-lt n k)

turned_bit : (n k : ℕ) → (bit_at n k + 1) % 2 + bit_at n k ≡ 1
turned_bit n k = omega (arith, bit_at-lt n k)

one_bit : (frame : List ℕ) (at bit : ℕ) → at < length frame → bit < 8
    → DifferInOneBit frame (flip frame at bit)
one_bit frame at bit within in_byte =
    let old = slice_index frame at in
    let here : slice_index (flip frame at bit) at ≡ bit_xor old (2 ^ bit) =
    get_or-set_same frame at (bit_xor old (2 ^ bit)) 0 within in
    record {
      at = at;
      bit = bit;
      within = within;
      in_byte = in_byte;
      len = length-set frame at (bit_xor old (2 ^ bit));
      bytes = λ i other. get_or-set_other frame at i (bit_xor old (2 ^ bit)) 0 other;
      bits = λ k other. rw (here, bit_at_xor old (2 ^ bit) k, bit_at-pow_other bit k other) (other_bit old k);
      turned = rw (here, bit_at_xor old (2 ^ bit) bit, bit_at-pow_same bit) (turned_bit old bit);
    }

passes : (fate : Fate) (frame passed : List ℕ) → IsFateOf (length frame) fate
    → frame_after fate frame ≡ Some passed
    → (passed ≡ frame) ⊎ DifferInOneBit frame passed
passes Dropped frame passed fits is = cc
passes Whole frame passed fits is = let same : passed ≡ frame = cc in inl same
passes (Flipped at bit) frame passed fits is =
    let same : flip frame at bit ≡ passed = cc in
    inr (subst (λ list. DifferInOneBit frame list) same (one_bit frame at bit fits.0 fits.1))

pub whole_or_one_bit : IsWholeOrOneBit
whole_or_one_bit settings state direction now frame passed is =
    passes (fault_outcome settings state direction now (length frame)).fate frame passed
    (outcome_within settings state direction now (length frame)) is

pub sizes : AreSizesDrawn
unfolding fault_outcome received_outcome sent_outcome drawn_in drawn_out rated_in rated_out taken_in taken_out
    refilled corrupted flipped next_word
sizes = (refl, refl, refl, refl)

pub flips : AreFlipsDrawn
unfolding fault_outcome received_outcome sent_outcome drawn_in drawn_out rated_in rated_out taken_in taken_out
    refilled corrupted flipped next_word
flips = (refl, refl, refl)

pub rates : AreRatesKept
unfolding fault_outcome received_outcome sent_outcome drawn_in drawn_out rated_in rated_out taken_in taken_out
    refilled corrupted flipped next_word
rates = (refl, refl, refl)
