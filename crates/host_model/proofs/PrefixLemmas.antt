-- The first bits of an address, as a number and one by one.
use Rattle.std.proofs.Common.{◌≡◌, ℕ, zero, suc, ◌+◌, ◌-◌, ◌*◌, ◌/◌, ◌%◌, ◌^◌, ◌<◌, ◌≤◌, IsTrue, slice_index, refl, sym, ap, ◌∙◌, arith}
use Rattle.std.specs.Int.{from_be_bytes, w32}
use Rattle.std.proofs.lemmas.Nat.{shr-shr}
use Rattle.std.proofs.lemmas.Bool.{eq-eqb, eqb-true}
use Rattle.net_wire.specs.declared.address.Ipv4Address.{Ipv4Address}
use Rattle.host_model.specs.declared.held.Held.{Held}
use Rattle.host_model.specs.Neighbor.{is_on_network}
use Rattle.host_model.specs.Hops.{IsOfBytes, HasPrefix}

-- the low byte has the low bits
low_bits : (high low place : ℕ) → place < 8 → (high * 256 + low) / 2 ^ place % 2 ≡ low / 2 ^ place % 2
low_bits high low zero lt = omega arith
low_bits high low (suc zero) lt = omega arith
low_bits high low (suc (suc zero)) lt = omega arith
low_bits high low (suc (suc (suc zero))) lt = omega arith
low_bits high low (suc (suc (suc (suc zero)))) lt = omega arith
low_bits high low (suc (suc (suc (suc (suc zero))))) lt = omega arith
low_bits high low (suc (suc (suc (suc (suc (suc zero)))))) lt = omega arith
low_bits high low (suc (suc (suc (suc (suc (suc (suc zero))))))) lt = omega arith
low_bits high low (suc (suc (suc (suc (suc (suc (suc (suc place)))))))) lt = absurd (omega arith)

-- the number of four bytes
abbrev number : ℕ → ℕ → ℕ → ℕ → ℕ
number a b c d = a * 256 ^ 3 + b * 256 ^ 2 + c * 256 ^ 1 + d

module _ (a b c d : ℕ) (b_is : b < 256) (c_is : c < 256) (d_is : d < 256) where
  first : (place : ℕ) → number a b c d / 2 ^ (24 + place) ≡ a / 2 ^ place
  first place = sym (shr-shr _ 24 place) ∙ ap (λ top. top / 2 ^ place) (omega (arith, b_is, c_is, d_is))

  second : (place : ℕ) → place < 8 → number a b c d / 2 ^ (16 + place) % 2 ≡ b / 2 ^ place % 2
  second place lt = ap (λ bit. bit % 2)
      (sym (shr-shr _ 16 place) ∙ ap (λ top. top / 2 ^ place) (omega (arith, c_is, d_is)))
      ∙ low_bits a b place lt

  third : (place : ℕ) → place < 8 → number a b c d / 2 ^ (8 + place) % 2 ≡ c / 2 ^ place % 2
  third place lt = ap (λ bit. bit % 2)
      (sym (shr-shr _ 8 place) ∙ ap (λ top. top / 2 ^ place) (omega (arith, d_is)))
      ∙ low_bits (a * 256 + b) c place lt

  fourth : (place : ℕ) → place < 8 → number a b c d / 2 ^ place % 2 ≡ d / 2 ^ place % 2
  fourth place lt = ap (λ whole. whole / 2 ^ place % 2) (omega arith)
      ∙ low_bits ((a * 256 + b) * 256 + c) d place lt

-- a bit of the number of an address is that bit of the address
bit_in : (address : Ipv4Address) → IsOfBytes address → (place byte : ℕ) → place < 32 → place / 8 ≡ byte
    → from_be_bytes w32 address.0 / 2 ^ (31 - place) % 2
    ≡ slice_index address.0 byte / 2 ^ (7 - place % 8) % 2
bit_in address bytes place zero lt is =
    let at : 31 - place ≡ 24 + (7 - place % 8) = omega (arith, is, lt) in
    rw at (ap (λ bit. bit % 2) (first _ _ _ _ (bytes 1) (bytes 2) (bytes 3) (7 - place % 8)))
bit_in address bytes place (suc zero) lt is =
    let at : 31 - place ≡ 16 + (7 - place % 8) = omega (arith, is, lt) in
    rw at (second _ _ _ _ (bytes 1) (bytes 2) (bytes 3) (7 - place % 8) (omega arith))
bit_in address bytes place (suc (suc zero)) lt is =
    let at : 31 - place ≡ 8 + (7 - place % 8) = omega (arith, is, lt) in
    rw at (third _ _ _ _ (bytes 1) (bytes 2) (bytes 3) (7 - place % 8) (omega arith))
bit_in address bytes place (suc (suc (suc zero))) lt is =
    let at : 31 - place ≡ 7 - place % 8 = omega (arith, is, lt) in
    rw at (fourth _ _ _ _ (bytes 1) (bytes 2) (bytes 3) (7 - place % 8) (omega arith))
bit_in address bytes place (suc (suc (suc (suc byte)))) lt is = absurd (omega (arith, is, lt))

below : (address : Ipv4Address) → IsOfBytes address → from_be_bytes w32 address.0 < 2 ^ 32
below address bytes = omega (arith, bytes 0, bytes 1, bytes 2, bytes 3)

-- one bit less
halved : (number bits : ℕ) → bits < 32 → number / 2 ^ (31 - bits) / 2 ≡ number / 2 ^ (32 - bits)
halved number bits lt = shr-shr number (31 - bits) 1 ∙ ap (λ power. number / 2 ^ power) (omega arith)

same_bits : (one other bits : ℕ) → bits ≤ 32 → one / 2 ^ (32 - bits) ≡ other / 2 ^ (32 - bits)
    → (place : ℕ) → place < bits → one / 2 ^ (31 - place) % 2 ≡ other / 2 ^ (31 - place) % 2
same_bits one other bits within same place lt =
    let at : 31 - place ≡ 32 - bits + (bits - 1 - place) = omega arith in
    rw at (ap (λ bit. bit % 2) (sym (shr-shr one (32 - bits) (bits - 1 - place))
    ∙ ap (λ front. front / 2 ^ (bits - 1 - place)) same ∙ shr-shr other (32 - bits) (bits - 1 - place)))

same_front : (one other : ℕ) → one < 2 ^ 32 → other < 2 ^ 32 → (bits : ℕ) → bits ≤ 32
    → ((place : ℕ) → place < bits → one / 2 ^ (31 - place) % 2 ≡ other / 2 ^ (31 - place) % 2)
    → one / 2 ^ (32 - bits) ≡ other / 2 ^ (32 - bits)
same_front one other one_below other_below zero within same = omega (arith, one_below, other_below)
same_front one other one_below other_below (suc bits) within same =
    let at : 32 - suc bits ≡ 31 - bits = omega arith in
    let lt : bits < 32 = omega arith in
    let before = same_front one other one_below other_below bits (omega arith)
    (λ place lower. same place (omega arith)) in
    rw at (omega (arith, halved one bits lt, halved other bits lt, before, same bits (omega arith)))

-- the destination is on the network just where it begins with the prefix
pub on_network : (held : Held) (destination : Ipv4Address) → held.address.prefix_len ≤ 32
    → IsOfBytes held.address.address → IsOfBytes destination → IsTrue (is_on_network held destination)
    → HasPrefix held destination
on_network held destination within bytes bytes_too on place lt =
    sym (bit_in destination bytes_too place (place / 8) (omega arith) refl)
    ∙ same_bits _ _ held.address.prefix_len within (eqb-true _ _ on) place lt
    ∙ bit_in held.address.address bytes place (place / 8) (omega arith) refl

pub with_prefix : (held : Held) (destination : Ipv4Address) → held.address.prefix_len ≤ 32
    → IsOfBytes held.address.address → IsOfBytes destination → HasPrefix held destination
    → IsTrue (is_on_network held destination)
with_prefix held destination within bytes bytes_too has =
    eq-eqb _ _ (same_front _ _ (below destination bytes_too) (below held.address.address bytes)
    held.address.prefix_len within
    (λ place lt. bit_in destination bytes_too place (place / 8) (omega arith) refl ∙ has place lt
    ∙ sym (bit_in held.address.address bytes place (place / 8) (omega arith) refl)))
