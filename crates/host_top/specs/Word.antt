-- What one word writes. A word is seen as its bytes.
use Rattle.std.specs.Prelude.{◌≡◌, ℕ, ◌^◌, ◌<◌, ◌≤◌, false, List, [], length, drop, slice_index_or}
use Rattle.std.specs.Int.{to_be_bytes, w64}
use Rattle.std.specs.Str.Parse.{IsNumeral, digits_value}
use Rattle.net_wire.specs.Arrival.{is_group}
use Rattle.net_wire.specs.declared.address.EthernetAddress.{EthernetAddress}

-- the word at a place, from 0
abbrev pub argument_at : List (List ℕ) → ℕ → List ℕ
argument_at words place = slice_index_or words place []

-- the word is one to `most_digits` digits and nothing else, which write the number
pub record IsNumberWord (radix most_digits : ℕ) (word : List ℕ) (number : ℕ) : Type 0 where
  pub digits : IsNumeral radix word
  pub short : length word ≤ most_digits
  pub value : number ≡ digits_value radix word

-- one to ten decimal digits, below 2^32
pub record IsU32Word (word : List ℕ) (number : ℕ) : Type 0 where
  pub writes : IsNumberWord 10 10 word number
  pub fits : number < 2 ^ 32

-- twelve hexadecimal digits, which write the six bytes of the address of one station, the first byte first
pub record IsAddressWord (word : List ℕ) (address : EthernetAddress) : Type 0 where
  pub digits : IsNumeral 16 word
  pub long : length word ≡ 12
  pub bytes : address.0 ≡ drop 2 (to_be_bytes w64 (digits_value 16 word))
  pub individual : is_group address.0 ≡ false
