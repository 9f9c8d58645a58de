-- What is written of an event is read again, word by word.
use Rattle.std.proofs.Common.{lit<, ◌≡◌, ℕ, zero, suc, ◌+◌, ◌-◌, ◌*◌, ◌/◌, ◌%◌, ◌^◌, ◌<◌, ◌≤◌, ◌==◌, ◌&&◌, not, cond, Bool, true, false, List, [], ◌∷◌, ◌++◌, length, replicate, Option, Some, None, ap, ap₂, ◌∙◌, refl, arith, append_assoc, length-append}
use Rattle.std.specs.Char.{digit_value}
use Rattle.std.specs.Fmt.{decimal}
use Rattle.std.specs.List.{All, flat_map, list_all, slice_split, onto_first}
use Rattle.std.specs.Prelude.{codes, nat_le, nat_lt, option_map, option_and_then, slice_index, drop}
use Rattle.std.specs.Str.{bytes_eq, is_utf8}
use Rattle.std.specs.Str.Parse.{AllDigits, digits_value}
use Rattle.std.proofs.lemmas.Bool.{le-leb, ne_eqb, leb-true}
use Rattle.std.proofs.lemmas.Fmt.{decimal_is_IsNumeral, length-decimal-le}
use Rattle.std.proofs.lemmas.List.Splits.{slice_split-cons_yes, slice_split-cons_no}
use Rattle.std.proofs.lemmas.Str.{digit_value-digit_char, is_utf8-from_IsUtf8}
use Rattle.std.proofs.lemmas.Str.Parse.{digit_from_value}
use Rattle.host_model.specs.Script.{time_limit, IsName}
use Rattle.capture_explain.specs.Text.{six_digits, hexadecimal_digit}
use Rattle.script_text.specs.EventText.{time_text, hex_byte, is_plain, escaped, name_byte, name_text}
use Rattle.script_text.specs.TextLaws.{ReadsWords}
use Rattle.script_text.specs.Words.{where_true, is_numeral, number_of, fraction_of, parts_micros, micros_of, next_time, time_of, is_hex, pair_value, in_front, hex_bytes, is_itself, unescaped, as_name, name_of}

-- tests in a row
pub and_true : (a b : Bool) → a ≡ true → b ≡ true → (a && b) ≡ true
and_true true true is also = refl
and_true true false is also = also
and_true false b is also = is

pub both_true : (a b : Bool) → (a && b) ≡ true → (a ≡ true) × (b ≡ true)
both_true true true both = (refl, refl)
both_true true false both = cc
both_true false b both = cc

pub not_true : (a : Bool) → not a ≡ true → a ≡ false
not_true true is = cc
not_true false is = refl

pub where_is : {X : Type 0} (test : Bool) (value : X) → test ≡ true → where_true test value ≡ Some value
where_is {X} test value is = let P : Bool → Option X = λ t. cond t (Some value) None in ap P is

-- a part without the byte at which is split
pub split_none : (p : ℕ → Bool) (xs : List ℕ) → list_all (λ x. not (p x)) xs ≡ true → slice_split p xs ≡ xs ∷ []
split_none p [] none = refl
split_none p (x ∷ xs) none =
    let parts = both_true (not (p x)) (list_all (λ y. not (p y)) xs) none in
    slice_split-cons_no p x xs (not_true (p x) parts.0) ∙ ap (onto_first x) (split_none p xs parts.1)

pub split_at : (p : ℕ → Bool) (xs : List ℕ) (y : ℕ) (ys : List ℕ) → list_all (λ x. not (p x)) xs ≡ true → p y ≡ true
    → slice_split p (xs ++ y ∷ ys) ≡ xs ∷ slice_split p ys
split_at p [] y ys none is = slice_split-cons_yes p y ys is
split_at p (x ∷ xs) y ys none is =
    let parts = both_true (not (p x)) (list_all (λ y. not (p y)) xs) none in
    slice_split-cons_no p x (xs ++ y ∷ ys) (not_true (p x) parts.0) ∙ ap (onto_first x) (split_at p xs y ys parts.1 is)

-- digits pass every test that each digit passes
pub digits_pass : (test : ℕ → Bool) (ds : List ℕ) → ((c : ℕ) → digit_value c < 10 → test c ≡ true) → AllDigits 10 ds → list_all test ds ≡ true
digits_pass test [] each digits = refl
digits_pass test (c ∷ cs) each digits = and_true (test c) (list_all test cs) (each c digits.0) (digits_pass test cs each digits.1)

is_digit : (c : ℕ) → digit_value c < 10 → nat_lt (digit_value c) 10 ≡ true
is_digit c is = le-leb (suc (digit_value c)) 10 (omega (arith, is))

-- a number and its digits
pub number_is : (most : ℕ) (word : List ℕ) → 0 < length word → length word ≤ most → AllDigits 10 word
    → number_of most word ≡ Some (digits_value 10 word)
number_is most word some short digits =
    where_is (is_numeral 10 most word) (digits_value 10 word)
    (and_true (nat_le 1 (length word) && nat_le (length word) most) (list_all (λ c. nat_lt (digit_value c) 10) word)
    (and_true (nat_le 1 (length word)) (nat_le (length word) most) (le-leb 1 (length word) (omega (arith, some))) (le-leb (length word) most short))
    (digits_pass (λ c. nat_lt (digit_value c) 10) word is_digit digits))

-- leading zeros
zeros_digits : (k : ℕ) (ds : List ℕ) → AllDigits 10 ds → AllDigits 10 (replicate k 48 ++ ds)
zeros_digits zero ds digits = digits
zeros_digits (suc k) ds digits = (lit< tt, zeros_digits k ds digits)

zeros_value : (k : ℕ) (ds : List ℕ) → digits_value 10 (replicate k 48 ++ ds) ≡ digits_value 10 ds
zeros_value zero ds = refl
zeros_value (suc k) ds = zeros_value k ds

zeros_length : (k : ℕ) → length {A = ℕ} (replicate k 48) ≡ k
zeros_length zero = refl
zeros_length (suc k) = ap suc (zeros_length k)

-- six digits
pub six_length : (n : ℕ) → n < 1000000 → length (six_digits n) ≡ 6
six_length n small =
    let short : length (decimal n) ≤ 6 = length-decimal-le 6 n (omega arith) (omega (arith, small)) (omega (arith, small)) in
    let k = 6 - length (decimal n) in
    omega (arith, length-append (replicate k 48) (decimal n), zeros_length k, short)

pub six_all : (n : ℕ) → n < 1000000 → AllDigits 10 (six_digits n)
six_all n small = zeros_digits (6 - length (decimal n)) (decimal n) (decimal_is_IsNumeral n (omega (arith, small))).0.1

six_value : (n : ℕ) → n < 1000000 → digits_value 10 (six_digits n) ≡ n
six_value n small = zeros_value (6 - length (decimal n)) (decimal n) ∙ (decimal_is_IsNumeral n (omega (arith, small))).1

fraction_is : (n : ℕ) → n < 1000000 → fraction_of (six_digits n) ≡ Some n
fraction_is n small =
    let word = six_digits n in
    let long = six_length n small in
    let read = number_is 6 word (omega (arith, long)) (omega (arith, long)) (six_all n small) in
    let whole : digits_value 10 word * 10 ^ (6 - length word) ≡ n =
    ap₂ (λ value count. value * 10 ^ (6 - count)) (six_value n small) long ∙ omega arith in
    ap (λ (found : Option ℕ). option_map (λ number. number * 10 ^ (6 - length word)) found) read ∙ ap Some whole

-- no digit is a point, a blank, a plus or the begin of a comment
no_point : (c : ℕ) → digit_value c < 10 → not (c == 0x2e) ≡ true
no_point c is = let range = digit_from_value c is in ap not (ne_eqb c 0x2e (λ same. omega (arith, same, range.0)))

micros_split : (secs micros : ℕ) → secs < 2 ^ 32 → micros < 1000000
    → slice_split (λ b. b == 0x2e) (decimal secs ++ 0x2e ∷ six_digits micros) ≡ decimal secs ∷ six_digits micros ∷ []
micros_split secs micros few small =
    let p : ℕ → Bool = λ b. b == 0x2e in
    split_at p (decimal secs) 0x2e (six_digits micros)
    (digits_pass (λ c. not (p c)) (decimal secs) no_point (decimal_is_IsNumeral secs (omega (arith, few))).0.1) refl
    ∙ ap (λ l. decimal secs ∷ l) (split_none p (six_digits micros) (digits_pass (λ c. not (p c)) (six_digits micros) no_point (six_all micros small)))

secs_is : (secs : ℕ) → secs < 2 ^ 32 → number_of 10 (decimal secs) ≡ Some secs
secs_is secs few =
    let numeral = decimal_is_IsNumeral secs (omega (arith, few)) in
    number_is 10 (decimal secs) numeral.0.0 (length-decimal-le 10 secs (omega arith) (omega (arith, few)) (omega (arith, few))) numeral.0.1
    ∙ ap Some numeral.1

-- seconds and six digits
pub micros_is : (secs micros : ℕ) → secs < 2 ^ 32 → micros < 1000000
    → micros_of (decimal secs ++ 0x2e ∷ six_digits micros) ≡ Some (secs * 1000000 + micros)
micros_is secs micros few small =
    ap parts_micros (micros_split secs micros few small)
    ∙ ap (λ (found : Option ℕ). option_and_then (λ s. option_map (λ m. s * 1000000 + m) (fraction_of (six_digits micros))) found) (secs_is secs few)
    ∙ ap (λ (found : Option ℕ). option_map (λ m. secs * 1000000 + m) found) (fraction_is micros small)

-- a time as it is written
pub time_micros : (at : ℕ) → at < time_limit → micros_of (time_text at) ≡ Some at
time_micros at within =
    let secs = at / 1000000 in
    let micros = at % 1000000 in
    let few : secs < 2 ^ 32 = omega (arith, within) in
    let small : micros < 1000000 = omega arith in
    ap micros_of (append_assoc (decimal secs) (0x2e ∷ []) (six_digits micros))
    ∙ micros_is secs micros few small
    ∙ ap Some (omega arith)

no_plus : (word more : List ℕ) → 0 < length word → AllDigits 10 word → (slice_index (word ++ more) 0 == 0x2b) ≡ false
no_plus [] more some digits = absurd (omega (arith, some))
no_plus (c ∷ word) more some digits = let range = digit_from_value c digits.0 in ne_eqb c 0x2b (λ same. omega (arith, same, range.0))

next_is : (last at : ℕ) → last ≤ at → at < time_limit → next_time last at ≡ Some at
next_is last at later within =
    where_is (nat_le last at && nat_lt at time_limit) at
    (and_true (nat_le last at) (nat_lt at time_limit) (le-leb last at later) (le-leb (suc at) time_limit (omega (arith, within))))

pub time_is : (last at : ℕ) → last ≤ at → at < time_limit → time_of last (time_text at) ≡ Some at
time_is last at later within =
    let word = time_text at in
    let secs = at / 1000000 in
    let numeral = decimal_is_IsNumeral secs (omega (arith, within)) in
    let plain : (slice_index word 0 == 0x2b) ≡ false =
    ap (λ l. slice_index l 0 == 0x2b) (append_assoc (decimal secs) (0x2e ∷ []) (six_digits (at % 1000000)))
    ∙ no_plus (decimal secs) (0x2e ∷ [] ++ six_digits (at % 1000000)) numeral.0.0 numeral.0.1 in
    let P : Bool → Option ℕ = λ t. cond t (option_and_then (λ more. next_time last (last + more)) (micros_of (drop 1 word)))
    (option_and_then (next_time last) (micros_of word)) in
    ap P plain ∙ ap (λ (found : Option ℕ). option_and_then (next_time last) found) (time_micros at within) ∙ next_is last at later within

-- two digits of a byte
nibble : (n : ℕ) → digit_value (hexadecimal_digit n) ≡ n % 16
nibble n = digit_value-digit_char (n % 16) (omega arith)

nibble_hex : (n : ℕ) → is_hex (hexadecimal_digit n) ≡ true
nibble_hex n = le-leb (suc (digit_value (hexadecimal_digit n))) 16 (omega (arith, nibble n))

pub pair_is : (byte : ℕ) → byte < 256 → pair_value (hexadecimal_digit (byte / 16)) (hexadecimal_digit byte) ≡ byte
pair_is byte small = ap₂ (λ high low. high * 16 + low) (nibble (byte / 16)) (nibble byte) ∙ omega arith

pub pair_hex : (byte : ℕ) → (is_hex (hexadecimal_digit (byte / 16)) && is_hex (hexadecimal_digit byte)) ≡ true
pair_hex byte = and_true (is_hex (hexadecimal_digit (byte / 16))) (is_hex (hexadecimal_digit byte)) (nibble_hex (byte / 16)) (nibble_hex byte)

-- bytes, one by one
first_of : (byte : ℕ) (bytes : List ℕ) → All (λ b. b < 256) (byte ∷ bytes) → byte < 256
first_of byte bytes small = small 0 byte (omega arith)

rest_of : (byte : ℕ) (bytes : List ℕ) → All (λ b. b < 256) (byte ∷ bytes) → All (λ b. b < 256) bytes
rest_of byte bytes small = λ k d within. small (suc k) d (omega (arith, within))

pub hex_is : (bytes : List ℕ) → All (λ b. b < 256) bytes → hex_bytes (flat_map hex_byte bytes) ≡ Some bytes
hex_is [] small = refl
hex_is (byte ∷ bytes) small =
    let high = hexadecimal_digit (byte / 16) in
    let low = hexadecimal_digit byte in
    let rest = hex_bytes (flat_map hex_byte bytes) in
    let P : Bool → Option (List ℕ) = λ t. cond t (in_front (pair_value high low) rest) None in
    ap P (pair_hex byte)
    ∙ ap₂ (λ (b : ℕ) (found : Option (List ℕ)). in_front b found) (pair_is byte (first_of byte bytes small)) (hex_is bytes (rest_of byte bytes small))

-- a byte that is itself, and an escaped one
itself : (byte : ℕ) (rest : List ℕ) → is_itself byte ≡ true → unescaped (byte ∷ rest) ≡ in_front byte (unescaped rest)
itself byte [] is = let P : Bool → Option (List ℕ) = λ t. cond t (Some (byte ∷ [])) None in ap P is
itself byte (next ∷ []) is =
    let P : Bool → Option (List ℕ) = λ t. cond t (in_front byte (unescaped (next ∷ []))) None in ap P is
itself byte (high ∷ low ∷ word) is =
    let P : Bool → Option (List ℕ) = λ t. cond t (in_front byte (unescaped (high ∷ low ∷ word)))
    (cond ((byte == 0x5c) && is_hex high && is_hex low) (in_front (pair_value high low) (unescaped word)) None) in
    ap P is

escape_step : (byte : ℕ) (rest : List ℕ) → byte < 256 → unescaped (escaped byte ++ rest) ≡ in_front byte (unescaped rest)
escape_step byte rest small =
    let high = hexadecimal_digit (byte / 16) in
    let low = hexadecimal_digit byte in
    let P : Bool → Option (List ℕ) = λ t. cond t (in_front (pair_value high low) (unescaped rest)) None in
    ap P (pair_hex byte) ∙ ap (λ (b : ℕ). in_front b (unescaped rest)) (pair_is byte small)

plain_itself : (byte : ℕ) → is_plain byte ≡ true → is_itself byte ≡ true
plain_itself byte is =
    let one = both_true (nat_le 0x21 byte && nat_le byte 0x7e && not (byte == 0x23)) (not (byte == 0x5c)) is in
    let two = both_true (nat_le 0x21 byte && nat_le byte 0x7e) (not (byte == 0x23)) one.0 in
    let three = both_true (nat_le 0x21 byte) (nat_le byte 0x7e) two.0 in
    let below : byte ≤ 0x7e = leb-true byte 0x7e three.1 in
    and_true (nat_le 0x21 byte && not (byte == 0x7f) && not (byte == 0x23)) (not (byte == 0x5c))
    (and_true (nat_le 0x21 byte && not (byte == 0x7f)) (not (byte == 0x23))
    (and_true (nat_le 0x21 byte) (not (byte == 0x7f)) three.0 (ap not (ne_eqb byte 0x7f (λ same. omega (arith, same, below))))) two.1) one.1

by_plain : (byte : ℕ) (rest : List ℕ) (plain : Bool) → is_plain byte ≡ plain → byte < 256
    → unescaped (cond plain (byte ∷ []) (escaped byte) ++ rest) ≡ in_front byte (unescaped rest)
by_plain byte rest true is small = itself byte rest (plain_itself byte is)
by_plain byte rest false is small = escape_step byte rest small

byte_step : (byte : ℕ) (rest : List ℕ) → byte < 256 → unescaped (name_byte byte ++ rest) ≡ in_front byte (unescaped rest)
byte_step byte rest small = by_plain byte rest (is_plain byte) refl small

first_step : (byte : ℕ) (rest : List ℕ) (test : Bool) → byte < 256
    → unescaped (cond test (escaped byte) (name_byte byte) ++ rest) ≡ in_front byte (unescaped rest)
first_step byte rest true small = escape_step byte rest small
first_step byte rest false small = byte_step byte rest small

bytes_read : (bytes : List ℕ) → All (λ b. b < 256) bytes → unescaped (flat_map name_byte bytes) ≡ Some bytes
bytes_read [] small = refl
bytes_read (byte ∷ bytes) small =
    byte_step byte (flat_map name_byte bytes) (first_of byte bytes small) ∙ ap (in_front byte) (bytes_read bytes (rest_of byte bytes small))

-- no name but the empty one is a hyphen alone
and_false : (a : Bool) → (a && false) ≡ false
and_false true = refl
and_false false = refl

goes_on : (plain : Bool) (byte : ℕ) (more : List ℕ) → bytes_eq (cond plain (byte ∷ []) (escaped byte) ++ more) [] ≡ false
goes_on true byte more = refl
goes_on false byte more = refl

alone_plain : (plain : Bool) (byte : ℕ) → (byte == 0x2d) ≡ false → bytes_eq (cond plain (byte ∷ []) (escaped byte) ++ []) (codes "-") ≡ false
alone_plain true byte other = let P : Bool → Bool = λ t. t && bytes_eq [] [] in ap P other
alone_plain false byte other = refl

alone : (byte : ℕ) (test : Bool) → (byte == 0x2d) ≡ test → bytes_eq (cond test (escaped byte) (name_byte byte) ++ []) (codes "-") ≡ false
alone byte true is = refl
alone byte false is = alone_plain (is_plain byte) byte is

longer_plain : (plain : Bool) (byte next : ℕ) (more : List ℕ)
    → bytes_eq (cond plain (byte ∷ []) (escaped byte) ++ (name_byte next ++ more)) (codes "-") ≡ false
longer_plain true byte next more =
    let P : Bool → Bool = λ t. (byte == 0x2d) && t in ap P (goes_on (is_plain next) next more) ∙ and_false (byte == 0x2d)
longer_plain false byte next more = refl

longer : (test : Bool) (byte next : ℕ) (more : List ℕ)
    → bytes_eq (cond test (escaped byte) (name_byte byte) ++ (name_byte next ++ more)) (codes "-") ≡ false
longer true byte next more = refl
longer false byte next more = longer_plain (is_plain byte) byte next more

not_hyphen : (byte : ℕ) (name : List ℕ) → bytes_eq (name_text (byte ∷ name)) (codes "-") ≡ false
not_hyphen byte [] = alone byte (byte == 0x2d) refl
not_hyphen byte (next ∷ name) = longer ((length (next ∷ name) == 0) && (byte == 0x2d)) byte next (flat_map name_byte name)

pub name_is : (name : List ℕ) → All (λ b. b < 256) name → IsName name → name_of (name_text name) ≡ Some name
name_is [] small is = refl
name_is (byte ∷ name) small is =
    let word = name_text (byte ∷ name) in
    let read : unescaped word ≡ Some (byte ∷ name) =
    first_step byte (flat_map name_byte name) ((length name == 0) && (byte == 0x2d)) (first_of byte name small)
    ∙ ap (in_front byte) (bytes_read name (rest_of byte name small)) in
    let P : Bool → Option (List ℕ) = λ t. cond t (Some []) (option_and_then as_name (unescaped word)) in
    ap P (not_hyphen byte name) ∙ ap (option_and_then as_name) read
    ∙ where_is (nat_le (length (byte ∷ name)) 255 && is_utf8 (byte ∷ name)) (byte ∷ name)
    (and_true (nat_le (length (byte ∷ name)) 255) (is_utf8 (byte ∷ name))
    (le-leb (length (byte ∷ name)) 255 (omega (arith, is.0))) (is_utf8-from_IsUtf8 (byte ∷ name) is.1))

pub reads_words : ReadsWords
reads_words = record { time = time_is; bytes = hex_is; name = name_is }
