-- The events of a right text are those of a script.
use Rattle.std.proofs.Common.{◌≡◌, ℕ, suc, ◌+◌, ◌-◌, ◌^◌, ◌<◌, ◌≤◌, ◌&&◌, inl, inr, cond, Bool, true, false, List, [], ◌∷◌, ◌++◌, length, Option, Some, None, Result, Ok, Err, ap, sym, subst, refl, arith, length-append}
use Rattle.std.specs.Prelude.{codes, nat_le, nat_lt, option_map, option_and_then, slice_index, ◌==◌, drop}
use Rattle.std.specs.Str.{bytes_eq, is_utf8}
use Rattle.std.proofs.lemmas.Bool.{leb-true, leb-false}
use Rattle.std.proofs.lemmas.Str.{IsUtf8-from_is_utf8, IsUtf8-nil}
use Rattle.net_wire.specs.declared.dns.dns_type.DnsType.{DnsType}
use Rattle.net_wire.specs.declared.dns.dns_type.DnsType.TheVariants.{A, Aaaa}
use Rattle.host_model.specs.Script.{Arrival, Tick, Reset, Frame, Query, Event, IsNext, IsArrival, IsName, IsAskedType, AreInOrder, time_limit}
use Rattle.script_text.specs.Commands.{Value, TypeValue, BytesValue, Command, type_form, name_form, query_of}
use Rattle.script_text.specs.Lines.{lines_of, words_of}
use Rattle.script_text.specs.Meaning.{or_wrong, and_then, read_forms, read_tail, read_bytes, bytes_within, read_arrival, read_command, read_event, read_set, Meaning, NoEvent, OneEvent, OneTooMany, WrongWord, of_set, of_event, meaning_of, Verdict, Right, Long, Wrong, with_event, by_line, verdict_from}
use Rattle.script_text.specs.TextLaws.{HasScript}
use Rattle.script_text.specs.Words.{where_true, hex_bytes, name_of, as_name, unescaped, micros_of, next_time, time_of}
use Rattle.script_text.proofs.ReadBackLemmas.{both_true}

-- what a test lets through
through : {X : Type 0} (test : Bool) (value found : X) → where_true test value ≡ Some found → (test ≡ true) × (value ≡ found)
through {X} true value found is = (refl, cc)
through {X} false value found is = cc

-- the time
next_fits : (last x at : ℕ) → next_time last x ≡ Some at → (last ≤ at) × (at < time_limit)
next_fits last x at is =
    let passed = through (nat_le last x && nat_lt x time_limit) x at is in
    let parts = both_true (nat_le last x) (nat_lt x time_limit) passed.0 in
    let later : last ≤ x = leb-true last x parts.0 in
    let within : x < time_limit = leb-true (suc x) time_limit parts.1 in
    (omega (arith, later, passed.1), omega (arith, within, passed.1))

plus_fits : (last at : ℕ) (found : Option ℕ) → option_and_then (λ later. next_time last (last + later)) found ≡ Some at
    → (last ≤ at) × (at < time_limit)
plus_fits last at None is = cc
plus_fits last at (Some later) is = next_fits last (last + later) at is

plain_fits : (last at : ℕ) (found : Option ℕ) → option_and_then (next_time last) found ≡ Some at → (last ≤ at) × (at < time_limit)
plain_fits last at None is = cc
plain_fits last at (Some x) is = next_fits last x at is

either_fits : (last at : ℕ) (plus : Bool) (found other : Option ℕ)
    → cond plus (option_and_then (λ later. next_time last (last + later)) found) (option_and_then (next_time last) other) ≡ Some at
    → (last ≤ at) × (at < time_limit)
either_fits last at true found other is = plus_fits last at found is
either_fits last at false found other is = plain_fits last at other is

time_fits : (last at : ℕ) (word : List ℕ) → time_of last word ≡ Some at → (last ≤ at) × (at < time_limit)
time_fits last at word is = either_fits last at (slice_index word 0 == 0x2b) (micros_of (drop 1 word)) (micros_of word) is

-- the name
as_name_fits : (bytes name : List ℕ) → as_name bytes ≡ Some name → IsName name
as_name_fits bytes name is =
    let passed = through (nat_le (length bytes) 255 && is_utf8 bytes) bytes name is in
    let parts = both_true (nat_le (length bytes) 255) (is_utf8 bytes) passed.0 in
    let short : length bytes ≤ 255 = leb-true (length bytes) 255 parts.0 in
    subst IsName passed.1 (omega (arith, short), IsUtf8-from_is_utf8 bytes parts.1)

some_name : (name : List ℕ) (found : Option (List ℕ)) → option_and_then as_name found ≡ Some name → IsName name
some_name name None is = cc
some_name name (Some bytes) is = as_name_fits bytes name is

either_name : (name : List ℕ) (hyphen : Bool) (found : Option (List ℕ)) → cond hyphen (Some []) (option_and_then as_name found) ≡ Some name
    → IsName name
either_name name true found is = let none : name ≡ [] = cc in subst IsName (sym none) (omega arith, IsUtf8-nil)
either_name name false found is = some_name name found is

name_fits : (word name : List ℕ) → name_of word ≡ Some name → IsName name
name_fits word name is = either_name name (bytes_eq word (codes "-")) (unescaped word) is

-- the bytes of a frame
rest_fits : (room : ℕ) (front bytes : List ℕ) (rest : Result (List ℕ) ℕ) → length front ≤ room
    → ((more : List ℕ) → rest ≡ Ok more → length more ≤ room - length front) → and_then rest (λ more. Ok (front ++ more)) ≡ Ok bytes
    → length bytes ≤ room
rest_fits room front bytes (Ok more) short fits is =
    let all : front ++ more ≡ bytes = cc in
    let counted : length (front ++ more) ≡ length bytes = ap length all in
    omega (arith, counted, length-append front more, fits more refl, short)
rest_fits room front bytes (Err place) short fits is = cc

within_fits : (room : ℕ) (front : List ℕ) (found : Option (List ℕ))
    → option_and_then (λ bytes. where_true (nat_le (length bytes) room) bytes) found ≡ Some front → length front ≤ room
within_fits room front None is = cc
within_fits room front (Some bytes) is =
    let passed = through (nat_le (length bytes) room) bytes front is in
    subst (λ (l : List ℕ). length l ≤ room) passed.1 (leb-true (length bytes) room passed.0)

word_fits : (place room : ℕ) (words : List (List ℕ)) (bytes : List ℕ) (found : Option (List ℕ))
    → ((front : List ℕ) → found ≡ Some front → length front ≤ room)
    → ((front more : List ℕ) → read_bytes (place + 1) (room - length front) words ≡ Ok more → length more ≤ room - length front)
    → or_wrong place found (λ front. and_then (read_bytes (place + 1) (room - length front) words) (λ rest. Ok (front ++ rest))) ≡ Ok bytes
    → length bytes ≤ room
word_fits place room words bytes None short fits is = cc
word_fits place room words bytes (Some front) short fits is =
    rest_fits room front bytes (read_bytes (place + 1) (room - length front) words) (short front refl) (fits front) is

bytes_fit : (place room : ℕ) (words : List (List ℕ)) (bytes : List ℕ) → read_bytes place room words ≡ Ok bytes → length bytes ≤ room
bytes_fit place room [] bytes is = let none : bytes ≡ [] = cc in subst (λ (l : List ℕ). length l ≤ room) (sym none) (omega arith)
bytes_fit place room (word ∷ words) bytes is =
    word_fits place room words bytes (bytes_within room word) (λ front found. within_fits room front (hex_bytes word) found)
    (λ front more read. bytes_fit (place + 1) (room - length front) words more read) is

-- what a command brings
plain_by : (arrival found : Arrival) (rest : Result (List ℕ) ℕ) → IsArrival arrival
    → and_then rest (λ bytes. or_wrong 2 (Some arrival) (λ a. Ok a)) ≡ Ok found → IsArrival found
plain_by arrival found (Ok bytes) fits is = let same : arrival ≡ found = cc in subst IsArrival same fits
plain_by arrival found (Err place) fits is = cc

frame_by : (found : Arrival) (rest : Result (List ℕ) ℕ) → ((bytes : List ℕ) → rest ≡ Ok bytes → length bytes ≤ 65535)
    → and_then rest (λ bytes. or_wrong 2 (Some (Frame bytes)) (λ a. Ok a)) ≡ Ok found → IsArrival found
frame_by found (Ok bytes) fits is =
    let short : length bytes < 2 ^ 16 = omega (arith, fits bytes refl) in
    let same : found ≡ Frame bytes = cc in
    subst IsArrival (sym same) short
frame_by found (Err place) fits is = cc

asked_by : (type_ : DnsType) (name : List ℕ) (found : Arrival) (rest : Result (List ℕ) ℕ) → IsAskedType type_ → IsName name
    → and_then rest (λ bytes. or_wrong 2 (query_of (TypeValue type_ ∷ BytesValue name ∷ []) bytes) (λ a. Ok a)) ≡ Ok found → IsArrival found
asked_by type_ name found (Ok bytes) asked is_name is =
    let same : found ≡ Query type_ name = cc in
    let fits : IsArrival (Query type_ name) = (asked, is_name) in
    subst IsArrival (sym same) fits
asked_by type_ name found (Err place) asked is_name is = cc

-- what words write, and the words behind them
abbrev Read : Type 0
Read = List Value × List (List ℕ)

-- what becomes of the words of a query behind its type
abbrev behind_type : DnsType → List (List ℕ) → Option (List ℕ) → Result Arrival ℕ
behind_type type_ words name =
    and_then {X = Read} (and_then {X = Read} {Y = Read}
    (or_wrong {X = Value} {Y = Read} 4 (option_map BytesValue name) (λ value. and_then {X = Read} {Y = Read} (Ok ([], words))
    (λ read. Ok (value ∷ read.0, read.1)))) (λ read. Ok (TypeValue type_ ∷ read.0, read.1)))
    (λ read. and_then (read_tail 5 false read.1) (λ bytes. or_wrong 2 (query_of read.0 bytes) (λ arrival. Ok arrival)))

typed_by : (type_ : DnsType) (words : List (List ℕ)) (name : Option (List ℕ)) (found : Arrival) → IsAskedType type_
    → ((bytes : List ℕ) → name ≡ Some bytes → IsName bytes) → behind_type type_ words name ≡ Ok found → IsArrival found
typed_by type_ words None found asked fits is = cc
typed_by type_ words (Some name) found asked fits is = asked_by type_ name found (read_tail 5 false words) asked (fits name refl) is

-- a query, by its type
abbrev of_type : Bool → Bool → List (List ℕ) → Result Arrival ℕ
of_type is_a is_aaaa words = and_then {X = Read} (or_wrong {X = Value} {Y = Read} 3
    (cond is_a (Some (TypeValue A)) (cond is_aaaa (Some (TypeValue Aaaa)) None))
    (λ value. and_then {X = Read} {Y = Read} (read_forms 4 (name_form ∷ []) words) (λ read. Ok (value ∷ read.0, read.1))))
    (λ read. and_then (read_tail 5 false read.1) (λ bytes. or_wrong 2 (query_of read.0 bytes) (λ arrival. Ok arrival)))

query_by : (is_a is_aaaa : Bool) (words : List (List ℕ)) (found : Arrival) → of_type is_a is_aaaa words ≡ Ok found → IsArrival found
query_by true is_aaaa [] found is = cc
query_by true is_aaaa (word ∷ words) found is =
    typed_by A words (name_of word) found (inl refl) (λ bytes named. name_fits word bytes named) is
query_by false true [] found is = cc
query_by false true (word ∷ words) found is =
    typed_by Aaaa words (name_of word) found (inr refl) (λ bytes named. name_fits word bytes named) is
query_by false false words found is = cc

query_fits : (words : List (List ℕ)) (found : Arrival)
    → read_arrival (record { word = codes "query"; forms = type_form ∷ name_form ∷ []; has_bytes = false; brings = query_of }) words ≡ Ok found
    → IsArrival found
query_fits [] found is = cc
query_fits (word ∷ words) found is = query_by (bytes_eq word (codes "A")) (bytes_eq word (codes "AAAA")) words found is

-- the command of a word, by the tests of the table
abbrev named_by : Bool → Bool → Bool → Bool → Option Command
named_by tick reset query frame =
    cond tick (Some (record { word = codes "tick"; forms = []; has_bytes = false; brings = λ _ _. Some Tick }))
    (cond reset (Some (record { word = codes "reset"; forms = []; has_bytes = false; brings = λ _ _. Some Reset }))
    (cond query (Some (record { word = codes "query"; forms = type_form ∷ name_form ∷ []; has_bytes = false; brings = query_of }))
    (cond frame (Some (record { word = codes "frame"; forms = []; has_bytes = true; brings = λ _ bytes. Some (Frame bytes) })) None)))

command_fits : (tick reset query frame : Bool) (words : List (List ℕ)) (found : Arrival)
    → or_wrong 2 (named_by tick reset query frame) (λ command. read_arrival command words) ≡ Ok found → IsArrival found
command_fits true reset query frame words found is = plain_by Tick found (read_tail 3 false words) tt is
command_fits false true query frame words found is = plain_by Reset found (read_tail 3 false words) tt is
command_fits false false true frame words found is = query_fits words found is
command_fits false false false true words found is =
    frame_by found (read_bytes 3 65535 words) (λ bytes read. bytes_fit 3 65535 words bytes read) is
command_fits false false false false words found is = cc

arrival_fits : (words : List (List ℕ)) (found : Arrival) → read_command words ≡ Ok found → IsArrival found
arrival_fits [] found is = cc
arrival_fits (word ∷ words) found is =
    command_fits (bytes_eq (codes "tick") word) (bytes_eq (codes "reset") word) (bytes_eq (codes "query") word) (bytes_eq (codes "frame") word)
    words found is

-- an event that a line brings may come next
made_by : (last at : ℕ) (event : Event) (arrival : Result Arrival ℕ) → (last ≤ at) × (at < time_limit)
    → ((found : Arrival) → arrival ≡ Ok found → IsArrival found)
    → and_then arrival (λ a. Ok (record { at = at; arrival = a })) ≡ Ok event → IsNext last event
made_by last at event (Ok arrival) time fits is =
    let same : event ≡ record { at = at; arrival = arrival } = cc in
    subst (IsNext last) (sym same) (record { not_before = time.0; in_range = time.1; arrival = fits arrival refl })
made_by last at event (Err place) time fits is = cc

timed_by : (last : ℕ) (event : Event) (time : Option ℕ) (arrival : Result Arrival ℕ)
    → ((at : ℕ) → time ≡ Some at → (last ≤ at) × (at < time_limit)) → ((found : Arrival) → arrival ≡ Ok found → IsArrival found)
    → or_wrong 1 time (λ at. and_then arrival (λ a. Ok (record { at = at; arrival = a }))) ≡ Ok event → IsNext last event
timed_by last event None arrival times fits is = cc
timed_by last event (Some at) arrival times fits is = made_by last at event arrival (times at refl) fits is

event_fits : (last : ℕ) (event : Event) (word : List ℕ) (words : List (List ℕ)) → read_event last word words ≡ Ok event → IsNext last event
event_fits last event word words is =
    timed_by last event (time_of last word) (read_command words) (λ at found. time_fits last at word found) (λ found read. arrival_fits words found read) is

of_set_none : (answer : Result (Unit {0}) ℕ) (event : Event) → of_set answer ≡ OneEvent event → ⊥
of_set_none (Ok done) event is = cc
of_set_none (Err place) event is = cc

of_event_is : (answer : Result Event ℕ) (event : Event) → of_event answer ≡ OneEvent event → answer ≡ Ok event
of_event_is (Ok made) event is = let same : made ≡ event = cc in ap (λ (e : Event). Ok e) same
of_event_is (Err place) event is = cc

brought_by : (max count last : ℕ) (event : Event) (word : List ℕ) (words : List (List ℕ)) (set full : Bool) → nat_le max count ≡ full
    → cond set (of_set (read_set words)) (cond full OneTooMany (of_event (read_event last word words))) ≡ OneEvent event
    → (count < max) × IsNext last event
brought_by max count last event word words true full room is = absurd (of_set_none (read_set words) event is)
brought_by max count last event word words false true room is = cc
brought_by max count last event word words false false room is =
    (leb-false max count room, event_fits last event word words (of_event_is (read_event last word words) event is))

brought : (max count last : ℕ) (event : Event) (words : List (List ℕ)) → meaning_of max count last words ≡ OneEvent event
    → (count < max) × IsNext last event
brought max count last event [] is = cc
brought max count last event (word ∷ words) is =
    brought_by max count last event word words (bytes_eq word (codes "set")) (nat_le max count) refl is

-- the events of some lines
abbrev AreNext : ℕ → ℕ → ℕ → List Event → Type 0
AreNext max count last events = AreInOrder last events × (count + length events ≤ max)

with_fits : (max count last : ℕ) (event : Event) (events : List Event) (rest : Verdict) → (count < max) × IsNext last event
    → ((later : List Event) → rest ≡ Right later → AreNext max (count + 1) event.at later) → with_event event rest ≡ Right events
    → AreNext max count last events
with_fits max count last event events (Right later) next fits is =
    let same : event ∷ later ≡ events = cc in
    let rest = fits later refl in
    let counted : 1 + length later ≡ length events = omega (arith, ap length same) in
    (subst (AreInOrder last) same (next.1, rest.0), omega (arith, rest.1, counted))
with_fits max count last event events Long next fits is = cc
with_fits max count last event events (Wrong line word) next fits is = cc

line_fits : (max line count last : ℕ) (events : List Event) (meaning : Meaning) (rest : ℕ → ℕ → Verdict)
    → ((event : Event) → meaning ≡ OneEvent event → (count < max) × IsNext last event)
    → ((more later : ℕ) (found : List Event) → more ≤ max → rest more later ≡ Right found → AreNext max more later found) → count ≤ max
    → by_line meaning line count last rest ≡ Right events → AreNext max count last events
line_fits max line count last events NoEvent rest brings fits within is = fits count last events within is
line_fits max line count last events (OneEvent event) rest brings fits within is =
    let next = brings event refl in
    with_fits max count last event events (rest (count + 1) event.at) next
    (λ later found. fits (count + 1) event.at later (omega (arith, next.0)) found) is
line_fits max line count last events OneTooMany rest brings fits within is = cc
line_fits max line count last events (WrongWord word) rest brings fits within is = cc

lines_fit : (max line count last : ℕ) (lines : List (List ℕ)) (events : List Event) → count ≤ max
    → verdict_from max line count last lines ≡ Right events → AreNext max count last events
lines_fit max line count last [] events within is =
    let none : events ≡ [] = cc in
    subst (AreNext max count last) (sym none) (tt, omega (arith, within))
lines_fit max line count last (first ∷ lines) events within is =
    line_fits max line count last events (meaning_of max count last (words_of first)) (λ more later. verdict_from max (line + 1) more later lines)
    (λ event means. brought max count last event (words_of first) means)
    (λ more later found room right. lines_fit max (line + 1) more later lines found room right) within is

pub has_script : HasScript
has_script = λ max text events is.
    let found = lines_fit max 1 0 0 (lines_of text) events (omega arith) is in
    (found.0, omega (arith, found.1))
