-- What one word writes. A word is bytes.
use Rattle.std.specs.Prelude.{ℕ, ◌+◌, ◌-◌, ◌*◌, ◌^◌, ◌==◌, ◌&&◌, ◌||◌, not, nat_lt, nat_le, if◌then◌else◌, Bool, List, [], ◌∷◌, length, drop, Option, Some, None, slice_index, option_map, option_and_then, codes}
use Rattle.std.specs.Char.{digit_value}
use Rattle.std.specs.List.{list_all, slice_split}
use Rattle.std.specs.Str.{bytes_eq, is_utf8}
use Rattle.std.specs.Str.Parse.{digits_value}
use Rattle.host_model.specs.Script.{time_limit}

-- what a word writes, if it passes a test
abbrev pub where_true : {X : Type 0} → Bool → X → Option X
where_true test value = if test then Some value else None

-- one to `most` digits and nothing else
abbrev pub is_numeral : ℕ → ℕ → List ℕ → Bool
is_numeral radix most word = nat_le 1 (length word) && nat_le (length word) most
    && list_all (λ digit. nat_lt (digit_value digit) radix) word

-- the number that one to `most` decimal digits write
abbrev pub number_of : ℕ → List ℕ → Option ℕ
number_of most word = where_true (is_numeral 10 most word) (digits_value 10 word)

-- the microseconds of one to six digits behind a point
abbrev pub fraction_of : List ℕ → Option ℕ
fraction_of word = option_map (λ number. number * 10 ^ (6 - length word)) (number_of 6 word)

-- the microseconds of seconds in one to ten digits, and of a fraction behind a point, where there is one
abbrev pub parts_micros : List (List ℕ) → Option ℕ
parts_micros [] = None
parts_micros (whole ∷ []) = option_map (λ secs. secs * 1000000) (number_of 10 whole)
parts_micros (whole ∷ part ∷ []) = option_and_then (λ secs.
    option_map (λ micros. secs * 1000000 + micros) (fraction_of part)) (number_of 10 whole)
parts_micros (whole ∷ part ∷ more ∷ parts) = None

abbrev pub micros_of : List ℕ → Option ℕ
micros_of word = parts_micros (slice_split (λ byte. byte == 0x2e) word)

-- a time that may follow the time `last`
abbrev pub next_time : ℕ → ℕ → Option ℕ
next_time last at = where_true (nat_le last at && nat_lt at time_limit) at

-- the time that a word writes behind an event at the time `last`: with a + in front it counts from there
abbrev pub time_of : ℕ → List ℕ → Option ℕ
time_of last word =
    if slice_index word 0 == 0x2b
    then option_and_then (λ later. next_time last (last + later)) (micros_of (drop 1 word))
    else option_and_then (next_time last) (micros_of word)

abbrev pub is_hex : ℕ → Bool
is_hex byte = nat_lt (digit_value byte) 16

-- the byte of two hexadecimal digits
abbrev pub pair_value : ℕ → ℕ → ℕ
pair_value high low = digit_value high * 16 + digit_value low

-- in front of the bytes that follow, where there are any
abbrev pub in_front : ℕ → Option (List ℕ) → Option (List ℕ)
in_front byte rest = option_map (λ bytes. byte ∷ bytes) rest

-- the bytes of an even number of hexadecimal digits
abbrev pub hex_bytes : List ℕ → Option (List ℕ)
hex_bytes [] = Some []
hex_bytes (high ∷ []) = None
hex_bytes (high ∷ low ∷ word) =
    if is_hex high && is_hex low then in_front (pair_value high low) (hex_bytes word) else None

-- a byte that is itself in a name: not below 21, not 7f, and neither # nor \
abbrev pub is_itself : ℕ → Bool
is_itself byte = nat_le 0x21 byte && not (byte == 0x7f) && not (byte == 0x23) && not (byte == 0x5c)

-- the bytes of a word in which \ and two hexadecimal digits are one byte
abbrev pub unescaped : List ℕ → Option (List ℕ)
unescaped [] = Some []
unescaped (byte ∷ []) = if is_itself byte then Some (byte ∷ []) else None
unescaped (byte ∷ next ∷ []) = if is_itself byte then in_front byte (unescaped (next ∷ [])) else None
unescaped (byte ∷ high ∷ low ∷ word) =
    if is_itself byte then in_front byte (unescaped (high ∷ low ∷ word))
    else if (byte == 0x5c) && is_hex high && is_hex low then in_front (pair_value high low) (unescaped word)
    else None

-- at most 255 bytes of UTF-8
abbrev pub as_name : List ℕ → Option (List ℕ)
as_name bytes = where_true (nat_le (length bytes) 255 && is_utf8 bytes) bytes

-- the name that a word writes; a hyphen alone is the empty one
abbrev pub name_of : List ℕ → Option (List ℕ)
name_of word = if bytes_eq word (codes "-") then Some [] else option_and_then as_name (unescaped word)

-- four decimal numbers of one to three digits, each at most 255, with points between them
abbrev pub is_octet : List ℕ → Bool
is_octet word = is_numeral 10 3 word && nat_le (digits_value 10 word) 255

abbrev pub is_address : List ℕ → Bool
is_address word = (length (slice_split (λ byte. byte == 0x2e) word) == 4)
    && list_all is_octet (slice_split (λ byte. byte == 0x2e) word)

-- one to three addresses with commas between them
abbrev pub are_addresses : List ℕ → Bool
are_addresses word = nat_le (length (slice_split (λ byte. byte == 0x2c) word)) 3
    && list_all is_address (slice_split (λ byte. byte == 0x2c) word)

-- twelve hexadecimal digits, or six pairs of them with colons between them
abbrev pub is_pair : List ℕ → Bool
is_pair word = (length word == 2) && list_all is_hex word

abbrev pub is_station : List ℕ → Bool
is_station word = ((length word == 12) && list_all is_hex word)
    || ((length (slice_split (λ byte. byte == 0x3a) word) == 6)
    && list_all is_pair (slice_split (λ byte. byte == 0x3a) word))

abbrev pub is_none_word : List ℕ → Bool
is_none_word word = bytes_eq word (codes "none")

-- one or two digits, to 32
abbrev pub is_prefix_len : List ℕ → Bool
is_prefix_len word = is_numeral 10 2 word && nat_le (digits_value 10 word) 32

-- one to ten digits, below 2^32
abbrev pub is_seconds : List ℕ → Bool
is_seconds word = is_numeral 10 10 word && nat_lt (digits_value 10 word) (2 ^ 32)
