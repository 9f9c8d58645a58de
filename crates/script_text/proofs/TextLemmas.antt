-- What is written of events is read again, line by line.
use Rattle.std.proofs.Common.{◌≡◌, ◌≢◌, ℕ, suc, ◌+◌, ◌/◌, ◌%◌, ◌^◌, ◌<◌, ◌≤◌, ◌==◌, ◌&&◌, ◌||◌, inl, inr, not, cond, Bool, true, false, List, [], ◌∷◌, ◌++◌, length, Option, Some, Result, Ok, ap, sym, subst, ◌∙◌, refl, arith, append_assoc, append-nil, length-append}
use Rattle.std.specs.Char.{digit_value}
use Rattle.std.specs.Fmt.{decimal}
use Rattle.std.specs.List.{All, flat_map, list_all, slice_split, prefix_len}
use Rattle.std.specs.Prelude.{codes, filter, nat_le, nat_lt, option_map, option_and_then}
use Rattle.std.specs.Str.{bytes_eq}
use Rattle.std.specs.Str.Parse.{AllDigits}
use Rattle.std.proofs.lemmas.Bool.{le-leb, lt-leb, leb-true, ne_eqb}
use Rattle.std.proofs.lemmas.Fmt.{decimal_is_IsNumeral}
use Rattle.std.proofs.lemmas.List.{take_all}
use Rattle.std.proofs.lemmas.Str.Parse.{digit_from_value}
use Rattle.net_wire.specs.declared.dns.dns_type.DnsType.{DnsType}
use Rattle.net_wire.specs.declared.dns.dns_type.DnsType.TheVariants.{A, Aaaa}
use Rattle.host_model.specs.Script.{Arrival, Tick, Reset, Frame, Query, Event, IsNext, IsArrival, IsName, IsAskedType, AreInOrder, time_limit}
use Rattle.capture_explain.specs.Text.{six_digits, hexadecimal_digit}
use Rattle.script_text.specs.Commands.{Value, TypeValue, BytesValue, query_of}
use Rattle.script_text.specs.EventText.{time_text, hex_byte, is_plain, escaped, name_byte, first_byte, name_text, type_word, arrival_text, event_line, events_text}
use Rattle.script_text.specs.Lines.{lines_of, uncommented, is_blank, is_word, words_of}
use Rattle.script_text.specs.Meaning.{or_wrong, and_then, read_tail, bytes_within, read_command, read_event, read_set, Meaning, OneEvent, OneTooMany, of_set, of_event, meaning_of, Verdict, Right, with_event, by_line, verdict_from}
use Rattle.script_text.specs.TextLaws.{IsOfBytes, AreOfBytes, ReadsTexts, ReadsCommented}
use Rattle.script_text.specs.Words.{where_true}
use Rattle.script_text.proofs.ReadBackLemmas.{and_true, both_true, where_is, split_none, split_at, digits_pass, six_all, time_is, hex_is, name_is}

-- a byte that can stand in a word
abbrev is_clean : ℕ → Bool
is_clean byte = nat_le 0x21 byte && not (byte == 0x23)

clean_is : (byte : ℕ) → 0x21 ≤ byte → (byte ≡ 0x23 → ⊥) → is_clean byte ≡ true
clean_is byte above other = and_true (nat_le 0x21 byte) (not (byte == 0x23)) (le-leb 0x21 byte above) (ap not (ne_eqb byte 0x23 other))

above_is : (byte : ℕ) → is_clean byte ≡ true → 0x21 ≤ byte
above_is byte clean = leb-true 0x21 byte (both_true (nat_le 0x21 byte) (not (byte == 0x23)) clean).0

no_hash : (byte : ℕ) → is_clean byte ≡ true → not (byte == 0x23) ≡ true
no_hash byte clean = (both_true (nat_le 0x21 byte) (not (byte == 0x23)) clean).1

no_feed : (byte : ℕ) → is_clean byte ≡ true → not (byte == 0x0a) ≡ true
no_feed byte clean = let above = above_is byte clean in ap not (ne_eqb byte 0x0a (λ same. omega (arith, same, above)))

neither : (a b c : Bool) → a ≡ false → b ≡ false → c ≡ false → not (a || b || c) ≡ true
neither false false false x y z = refl
neither true b c x y z = cc
neither false true c x y z = cc
neither false false true x y z = cc

no_blank : (byte : ℕ) → is_clean byte ≡ true → not (is_blank byte) ≡ true
no_blank byte clean =
    let above = above_is byte clean in
    neither (byte == 0x20) (byte == 0x09) (byte == 0x0d) (ne_eqb byte 0x20 (λ same. omega (arith, same, above)))
    (ne_eqb byte 0x09 (λ same. omega (arith, same, above))) (ne_eqb byte 0x0d (λ same. omega (arith, same, above)))

-- tests of all bytes
all_append : (test : ℕ → Bool) (xs ys : List ℕ) → list_all test xs ≡ true → list_all test ys ≡ true → list_all test (xs ++ ys) ≡ true
all_append test [] ys first second = second
all_append test (x ∷ xs) ys first second =
    let parts = both_true (test x) (list_all test xs) first in
    and_true (test x) (list_all test (xs ++ ys)) parts.0 (all_append test xs ys parts.1 second)

all_weaker : (test other : ℕ → Bool) (xs : List ℕ) → ((x : ℕ) → test x ≡ true → other x ≡ true) → list_all test xs ≡ true → list_all other xs ≡ true
all_weaker test other [] weaker all = refl
all_weaker test other (x ∷ xs) weaker all =
    let parts = both_true (test x) (list_all test xs) all in
    and_true (other x) (list_all other xs) (weaker x parts.0) (all_weaker test other xs weaker parts.1)

all_flat : (test : ℕ → Bool) (f : ℕ → List ℕ) (xs : List ℕ) → ((x : ℕ) → list_all test (f x) ≡ true) → list_all test (flat_map f xs) ≡ true
all_flat test f [] each = refl
all_flat test f (x ∷ xs) each = all_append test (f x) (flat_map f xs) (each x) (all_flat test f xs each)

-- words that have bytes, each of which can stand in a word
abbrev AreClean : List (List ℕ) → Type 0
AreClean [] = Unit {0}
AreClean (word ∷ words) = (0 < length word) × (list_all is_clean word ≡ true) × AreClean words

-- a word with a blank in front
abbrev behind_blank : List ℕ → List ℕ
behind_blank word = 0x20 ∷ word

more_pass : (test : ℕ → Bool) (words : List (List ℕ)) → test 0x20 ≡ true → ((x : ℕ) → is_clean x ≡ true → test x ≡ true) → AreClean words
    → list_all test (flat_map behind_blank words) ≡ true
more_pass test [] blank weaker clean = refl
more_pass test (word ∷ words) blank weaker clean =
    and_true (test 0x20) (list_all test (word ++ flat_map behind_blank words)) blank
    (all_append test word (flat_map behind_blank words) (all_weaker is_clean test word weaker clean.1) (more_pass test words blank weaker clean.2))

line_pass : (test : ℕ → Bool) (word : List ℕ) (words : List (List ℕ)) → test 0x20 ≡ true → ((x : ℕ) → is_clean x ≡ true → test x ≡ true)
    → AreClean (word ∷ words) → list_all test (word ++ flat_map behind_blank words) ≡ true
line_pass test word words blank weaker clean =
    all_append test word (flat_map behind_blank words) (all_weaker is_clean test word weaker clean.1) (more_pass test words blank weaker clean.2)

split_words : (word : List ℕ) (words : List (List ℕ)) → AreClean (word ∷ words)
    → slice_split is_blank (word ++ flat_map behind_blank words) ≡ word ∷ words
split_words word [] clean =
    ap (slice_split is_blank) (append-nil word)
    ∙ split_none is_blank word (all_weaker is_clean (λ b. not (is_blank b)) word no_blank clean.1)
split_words word (next ∷ words) clean =
    split_at is_blank word 0x20 (next ++ flat_map behind_blank words) (all_weaker is_clean (λ b. not (is_blank b)) word no_blank clean.1) refl
    ∙ ap (λ (l : List (List ℕ)). word ∷ l) (split_words next words clean.2)

keeps_words : (words : List (List ℕ)) → AreClean words → filter is_word words ≡ words
keeps_words [] clean = refl
keeps_words (word ∷ words) clean =
    let some : not (length word == 0) ≡ true = ap not (ne_eqb (length word) 0 (λ same. omega (arith, same, clean.0))) in
    let P : Bool → List (List ℕ) = λ t. cond t (word ∷ filter is_word words) (filter is_word words) in
    ap P some ∙ ap (λ (l : List (List ℕ)). word ∷ l) (keeps_words words clean.2)

all_in_front : (test : ℕ → Bool) (xs : List ℕ) → list_all test xs ≡ true → prefix_len test xs ≡ length xs
all_in_front test [] all = refl
all_in_front test (x ∷ xs) all =
    let parts = both_true (test x) (list_all test xs) all in
    let P : Bool → ℕ = λ t. cond t (1 + prefix_len test xs) 0 in
    ap P parts.0 ∙ omega (arith, all_in_front test xs parts.1)

no_comment : (line : List ℕ) → list_all (λ b. not (b == 0x23)) line ≡ true → uncommented line ≡ line
no_comment line none = take_all (prefix_len (λ b. not (b == 0x23)) line) line (omega (arith, all_in_front (λ b. not (b == 0x23)) line none))

-- the words of a line of clean words
words_are : (word : List ℕ) (words : List (List ℕ)) → AreClean (word ∷ words) → words_of (word ++ flat_map behind_blank words) ≡ word ∷ words
words_are word words clean =
    ap (λ l. filter is_word (slice_split is_blank l))
    (no_comment (word ++ flat_map behind_blank words) (line_pass (λ b. not (b == 0x23)) word words refl no_hash clean))
    ∙ ap (filter is_word) (split_words word words clean) ∙ keeps_words (word ∷ words) clean

-- the words behind a time
abbrev arrival_words : Arrival → List (List ℕ)
arrival_words Tick = codes "tick" ∷ []
arrival_words Reset = codes "reset" ∷ []
arrival_words (Frame []) = codes "frame" ∷ []
arrival_words (Frame (byte ∷ bytes)) = codes "frame" ∷ flat_map hex_byte (byte ∷ bytes) ∷ []
arrival_words (Query type_ name) = codes "query" ∷ type_word type_ ∷ name_text name ∷ []

query_words : (type_ : DnsType) (name : List ℕ) → IsAskedType type_
    → 0x20 ∷ arrival_text (Query type_ name) ≡ flat_map behind_blank (arrival_words (Query type_ name))
query_words type_ name (inl is) =
    subst (λ (t : DnsType). 0x20 ∷ arrival_text (Query t name) ≡ flat_map behind_blank (arrival_words (Query t name))) (sym is)
    (ap (λ l. 0x20 ∷ codes "query A " ++ l) (sym (append-nil (name_text name))))
query_words type_ name (inr is) =
    subst (λ (t : DnsType). 0x20 ∷ arrival_text (Query t name) ≡ flat_map behind_blank (arrival_words (Query t name))) (sym is)
    (ap (λ l. 0x20 ∷ codes "query AAAA " ++ l) (sym (append-nil (name_text name))))

arrival_is : (arrival : Arrival) → IsArrival arrival → 0x20 ∷ arrival_text arrival ≡ flat_map behind_blank (arrival_words arrival)
arrival_is Tick is = refl
arrival_is Reset is = refl
arrival_is (Frame []) is = refl
arrival_is (Frame (byte ∷ bytes)) is =
    ap (λ l. 0x20 ∷ codes "frame " ++ hex_byte byte ++ l) (sym (append-nil (flat_map hex_byte bytes)))
arrival_is (Query type_ name) is = query_words type_ name is.0

-- they are clean
digit_clean : (c : ℕ) → digit_value c < 10 → is_clean c ≡ true
digit_clean c is = let range = digit_from_value c is in clean_is c (omega (arith, range.0)) (λ same. omega (arith, same, range.0))

time_clean : (at : ℕ) → at < time_limit → list_all is_clean (time_text at) ≡ true
time_clean at within =
    let secs = at / 1000000 in
    let numeral = decimal_is_IsNumeral secs (omega (arith, within)) in
    all_append is_clean (decimal secs ++ 0x2e ∷ []) (six_digits (at % 1000000))
    (all_append is_clean (decimal secs) (0x2e ∷ []) (digits_pass is_clean (decimal secs) digit_clean numeral.0.1) refl)
    (digits_pass is_clean (six_digits (at % 1000000)) digit_clean (six_all (at % 1000000) (omega arith)))

time_some : (at : ℕ) → at < time_limit → 0 < length (time_text at)
time_some at within =
    let secs = at / 1000000 in
    let numeral = decimal_is_IsNumeral secs (omega (arith, within)) in
    omega (arith, length-append (decimal secs ++ 0x2e ∷ []) (six_digits (at % 1000000)), length-append (decimal secs) (0x2e ∷ []), numeral.0.0)

hex_above : (d : ℕ) (small : Bool) → 48 ≤ cond small (48 + d) (87 + d)
hex_above d true = omega arith
hex_above d false = omega arith

hex_clean : (n : ℕ) → is_clean (hexadecimal_digit n) ≡ true
hex_clean n =
    let above = hex_above (n % 16) (nat_lt (n % 16) 10) in
    clean_is (hexadecimal_digit n) (omega (arith, above)) (λ same. omega (arith, same, above))

byte_clean : (byte : ℕ) → list_all is_clean (hex_byte byte) ≡ true
byte_clean byte =
    and_true (is_clean (hexadecimal_digit (byte / 16))) (is_clean (hexadecimal_digit byte) && true) (hex_clean (byte / 16))
    (and_true (is_clean (hexadecimal_digit byte)) true (hex_clean byte) refl)

escape_clean : (byte : ℕ) → list_all is_clean (escaped byte) ≡ true
escape_clean byte = byte_clean byte

plain_clean : (byte : ℕ) (plain : Bool) → is_plain byte ≡ plain → list_all is_clean (cond plain (byte ∷ []) (escaped byte)) ≡ true
plain_clean byte true is =
    let one = both_true (nat_le 0x21 byte && nat_le byte 0x7e && not (byte == 0x23)) (not (byte == 0x5c)) is in
    let two = both_true (nat_le 0x21 byte && nat_le byte 0x7e) (not (byte == 0x23)) one.0 in
    let three = both_true (nat_le 0x21 byte) (nat_le byte 0x7e) two.0 in
    and_true (is_clean byte) true (and_true (nat_le 0x21 byte) (not (byte == 0x23)) three.0 two.1) refl
plain_clean byte false is = escape_clean byte

piece_clean : (byte : ℕ) → list_all is_clean (name_byte byte) ≡ true
piece_clean byte = plain_clean byte (is_plain byte) refl

first_clean : (byte : ℕ) (test : Bool) → list_all is_clean (cond test (escaped byte) (name_byte byte)) ≡ true
first_clean byte true = escape_clean byte
first_clean byte false = piece_clean byte

name_clean : (name : List ℕ) → list_all is_clean (name_text name) ≡ true
name_clean [] = refl
name_clean (byte ∷ name) =
    all_append is_clean (first_byte byte (length name == 0)) (flat_map name_byte name)
    (first_clean byte ((length name == 0) && (byte == 0x2d))) (all_flat is_clean name_byte name piece_clean)

plain_some : (byte : ℕ) (plain : Bool) → 0 < length (cond plain (byte ∷ []) (escaped byte))
plain_some byte true = omega arith
plain_some byte false = omega arith

first_some : (byte : ℕ) (test : Bool) → 0 < length (cond test (escaped byte) (name_byte byte))
first_some byte true = omega arith
first_some byte false = plain_some byte (is_plain byte)

name_some : (name : List ℕ) → 0 < length (name_text name)
name_some [] = omega arith
name_some (byte ∷ name) =
    let test = (length name == 0) && (byte == 0x2d) in
    omega (arith, length-append (cond test (escaped byte) (name_byte byte)) (flat_map name_byte name), first_some byte test)

query_clean : (type_ : DnsType) (name : List ℕ) → IsAskedType type_ → AreClean (arrival_words (Query type_ name))
query_clean type_ name (inl is) =
    subst (λ (t : DnsType). AreClean (arrival_words (Query t name))) (sym is)
    (omega arith, refl, (omega arith, refl, (name_some name, name_clean name, tt)))
query_clean type_ name (inr is) =
    subst (λ (t : DnsType). AreClean (arrival_words (Query t name))) (sym is)
    (omega arith, refl, (omega arith, refl, (name_some name, name_clean name, tt)))

arrival_clean : (arrival : Arrival) → IsArrival arrival → AreClean (arrival_words arrival)
arrival_clean Tick is = (omega arith, refl, tt)
arrival_clean Reset is = (omega arith, refl, tt)
arrival_clean (Frame []) is = (omega arith, refl, tt)
arrival_clean (Frame (byte ∷ bytes)) is =
    (omega arith, refl, (omega arith, all_flat is_clean hex_byte (byte ∷ bytes) byte_clean, tt))
arrival_clean (Query type_ name) is = query_clean type_ name is.0

-- the words of a command
frame_read : (byte : ℕ) (bytes : List ℕ) → length (byte ∷ bytes) < 2 ^ 16 → All (λ b. b < 256) (byte ∷ bytes)
    → read_command (arrival_words (Frame (byte ∷ bytes))) ≡ Ok (Frame (byte ∷ bytes))
frame_read byte bytes short small =
    let word = flat_map hex_byte (byte ∷ bytes) in
    let within : bytes_within 65535 word ≡ Some (byte ∷ bytes) =
    ap (λ (found : Option (List ℕ)). option_and_then (λ l. where_true (nat_le (length l) 65535) l) found) (hex_is (byte ∷ bytes) small)
    ∙ where_is (nat_le (length (byte ∷ bytes)) 65535) (byte ∷ bytes) (le-leb (length (byte ∷ bytes)) 65535 (omega (arith, short))) in
    let F : Option (List ℕ) → Result Arrival ℕ = λ found.
    and_then (or_wrong 3 found (λ l. and_then {X = List ℕ} (Ok []) (λ rest. Ok (l ++ rest)))) (λ l. or_wrong 2 (Some (Frame l)) (λ arrival. Ok arrival)) in
    ap F within ∙ ap (λ (l : List ℕ). Ok (Frame l)) (append-nil (byte ∷ bytes))

-- what words write, and the words behind them
abbrev Read : Type 0
Read = List Value × List (List ℕ)

query_read : (type_ : DnsType) (name : List ℕ) → IsAskedType type_ → IsName name → All (λ b. b < 256) name
    → read_command (arrival_words (Query type_ name)) ≡ Ok (Query type_ name)
query_read type_ name (inl is) is_name small =
    let F : Option (List ℕ) → Result Arrival ℕ = λ found.
    and_then {X = Read} (and_then {X = Read} {Y = Read}
    (or_wrong {X = Value} {Y = Read} 4 (option_map BytesValue found) (λ value. and_then {X = Read} {Y = Read} (Ok ([], []))
    (λ read. Ok (value ∷ read.0, read.1)))) (λ read. Ok (TypeValue A ∷ read.0, read.1)))
    (λ read. and_then (read_tail 5 false read.1) (λ bytes. or_wrong 2 (query_of read.0 bytes) (λ arrival. Ok arrival))) in
    subst (λ (t : DnsType). read_command (arrival_words (Query t name)) ≡ Ok (Query t name)) (sym is) (ap F (name_is name small is_name))
query_read type_ name (inr is) is_name small =
    let F : Option (List ℕ) → Result Arrival ℕ = λ found.
    and_then {X = Read} (and_then {X = Read} {Y = Read}
    (or_wrong {X = Value} {Y = Read} 4 (option_map BytesValue found) (λ value. and_then {X = Read} {Y = Read} (Ok ([], []))
    (λ read. Ok (value ∷ read.0, read.1)))) (λ read. Ok (TypeValue Aaaa ∷ read.0, read.1)))
    (λ read. and_then (read_tail 5 false read.1) (λ bytes. or_wrong 2 (query_of read.0 bytes) (λ arrival. Ok arrival))) in
    subst (λ (t : DnsType). read_command (arrival_words (Query t name)) ≡ Ok (Query t name)) (sym is) (ap F (name_is name small is_name))

arrival_read : (arrival : Arrival) → IsArrival arrival → IsOfBytes arrival → read_command (arrival_words arrival) ≡ Ok arrival
arrival_read Tick is small = refl
arrival_read Reset is small = refl
arrival_read (Frame []) is small = refl
arrival_read (Frame (byte ∷ bytes)) is small = frame_read byte bytes is small
arrival_read (Query type_ name) is small = query_read type_ name is.0 is.1 small

-- a time is no setting
no_set : (word more : List ℕ) → 0 < length word → AllDigits 10 word → bytes_eq (word ++ more) (codes "set") ≡ false
no_set [] more some digits = absurd (omega (arith, some))
no_set (c ∷ word) more some digits =
    let range = digit_from_value c digits.0 in
    let P : Bool → Bool = λ t. t && bytes_eq (word ++ more) (codes "et") in
    ap P (ne_eqb c 0x73 (λ same. omega (arith, same, range.1)))

time_no_set : (at : ℕ) → at < time_limit → bytes_eq (time_text at) (codes "set") ≡ false
time_no_set at within =
    let secs = at / 1000000 in
    let numeral = decimal_is_IsNumeral secs (omega (arith, within)) in
    ap (λ l. bytes_eq l (codes "set")) (append_assoc (decimal secs) (0x2e ∷ []) (six_digits (at % 1000000)))
    ∙ no_set (decimal secs) (0x2e ∷ [] ++ six_digits (at % 1000000)) numeral.0.0 numeral.0.1

-- a line but for its line feed
abbrev body : Event → List ℕ
body event = time_text event.at ++ flat_map behind_blank (arrival_words event.arrival)

line_is : (event : Event) (more : List ℕ) → IsArrival event.arrival → event_line event ++ more ≡ body event ++ 0x0a ∷ more
line_is event more is =
    let time = time_text event.at in
    let text = arrival_text event.arrival in
    append_assoc ((time ++ 0x20 ∷ []) ++ text) (0x0a ∷ []) more
    ∙ ap (λ l. l ++ 0x0a ∷ more) (append_assoc time (0x20 ∷ []) text ∙ ap (λ l. time ++ l) (arrival_is event.arrival is))

event_clean : (event : Event) → event.at < time_limit → IsArrival event.arrival → AreClean (time_text event.at ∷ arrival_words event.arrival)
event_clean event within is = (time_some event.at within, time_clean event.at within, arrival_clean event.arrival is)

event_read : (last : ℕ) (event : Event) → IsNext last event → IsOfBytes event.arrival
    → read_event last (time_text event.at) (arrival_words event.arrival) ≡ Ok event
event_read last event next small =
    let words = arrival_words event.arrival in
    let F : Option ℕ → Result Event ℕ = λ found.
    or_wrong 1 found (λ at. and_then (read_command words) (λ arrival. Ok (record { at = at; arrival = arrival }))) in
    ap F (time_is last event.at next.not_before next.in_range)
    ∙ ap (λ (found : Result Arrival ℕ). and_then found (λ arrival. Ok (record { at = event.at; arrival = arrival })))
    (arrival_read event.arrival next.arrival small)

meaning_is : (max count last : ℕ) (event : Event) → count < max → IsNext last event → IsOfBytes event.arrival
    → meaning_of max count last (words_of (body event)) ≡ OneEvent event
meaning_is max count last event few next small =
    let time = time_text event.at in
    let words = arrival_words event.arrival in
    let P : Bool → Meaning = λ t. cond t (of_set (read_set words)) (cond (nat_le max count) OneTooMany (of_event (read_event last time words))) in
    let Q : Bool → Meaning = λ t. cond t OneTooMany (of_event (read_event last time words)) in
    ap (meaning_of max count last) (words_are time words (event_clean event next.in_range next.arrival))
    ∙ ap P (time_no_set event.at next.in_range) ∙ ap Q (lt-leb max count few) ∙ ap of_event (event_read last event next small)

-- what stands behind the events may bring no more of them
reads_from : (max line count last : ℕ) (events : List Event) (more : List ℕ)
    → ((line count last : ℕ) → verdict_from max line count last (lines_of more) ≡ Right [])
    → AreInOrder last events → count + length events ≤ max → AreOfBytes events
    → verdict_from max line count last (lines_of (events_text events ++ more)) ≡ Right events
reads_from max line count last [] more none in_order few small = none line count last
reads_from max line count last (event ∷ events) more none in_order few small =
    let next = in_order.0 in
    let p : ℕ → Bool = λ b. b == 0x0a in
    let rest = events_text events ++ more in
    let clean = event_clean event next.in_range next.arrival in
    let lines : lines_of (events_text (event ∷ events) ++ more) ≡ body event ∷ lines_of rest =
    ap (slice_split p) (append_assoc (event_line event) (events_text events) more ∙ line_is event rest next.arrival)
    ∙ split_at p (body event) 0x0a rest (line_pass (λ b. not (p b)) (time_text event.at) (arrival_words event.arrival) refl no_feed clean) refl in
    let F : Meaning → Verdict = λ m. by_line m line count last (λ more later. verdict_from max (line + 1) more later (lines_of rest)) in
    ap (verdict_from max line count last) lines
    ∙ ap F (meaning_is max count last event (omega (arith, few)) next small.0)
    ∙ ap (with_event event) (reads_from max (line + 1) (count + 1) event.at events more none in_order.1 (omega (arith, few)) small.1)

pub reads_texts : ReadsTexts
reads_texts = λ max events in_order few small.
    subst (λ text. verdict_from max 1 0 0 (lines_of text) ≡ Right events) (append-nil (events_text events))
    (reads_from max 1 0 0 events [] (λ line count last. refl) in_order (omega (arith, few)) small)

-- a comment is one line
no_feeds : (comment : List ℕ) → All (λ byte. byte ≢ 0x0a) comment → list_all (λ b. not (b == 0x0a)) comment ≡ true
no_feeds [] all = refl
no_feeds (byte ∷ comment) all =
    and_true (not (byte == 0x0a)) (list_all (λ b. not (b == 0x0a)) comment) (ap not (ne_eqb byte 0x0a (all 0 byte (omega arith))))
    (no_feeds comment (λ k d within. all (suc k) d (omega (arith, within))))

comment_read : (max line count last : ℕ) (comment : List ℕ) → All (λ byte. byte ≢ 0x0a) comment
    → verdict_from max line count last (lines_of (0x23 ∷ (comment ++ (0x0a ∷ [])))) ≡ Right []
comment_read max line count last comment all =
    ap (verdict_from max line count last) (split_at (λ b. b == 0x0a) (0x23 ∷ comment) 0x0a [] (no_feeds comment all) refl)

pub reads_commented : ReadsCommented
reads_commented = λ max events comment in_order few small all.
    reads_from max 1 0 0 events (0x23 ∷ (comment ++ (0x0a ∷ []))) (λ line count last. comment_read max line count last comment all)
    in_order (omega (arith, few)) small
