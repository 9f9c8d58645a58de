-- What the lines of a text mean, each by those before it. Lines and words are counted from 1.
use Rattle.std.specs.Prelude.{◌≡◌, ℕ, ◌+◌, ◌-◌, ◌&&◌, not, nat_le, if◌then◌else◌, Bool, true, false, List, [], ◌∷◌, ◌++◌, length, Option, Some, None, Result, Ok, Err, codes, option_and_then}
use Rattle.std.specs.List.{list_any}
use Rattle.std.specs.Str.{bytes_eq}
use Rattle.host_model.specs.Script.{Arrival, Event}
use Rattle.script_text.specs.Commands.{Value, Form, Command, command_named, key_word, is_setting}
use Rattle.script_text.specs.Lines.{lines_of, words_of}
use Rattle.script_text.specs.Words.{hex_bytes, time_of, where_true}

-- what is there is read on; a word that writes nothing is wrong at its place
abbrev pub or_wrong : {X Y : Type 0} → ℕ → Option X → (X → Result Y ℕ) → Result Y ℕ
or_wrong place None next = Err place
or_wrong place (Some value) next = next value

abbrev pub and_then : {X Y : Type 0} → Result X ℕ → (X → Result Y ℕ) → Result Y ℕ
and_then (Ok value) next = next value
and_then (Err place) next = Err place

-- the values of as many words as there are forms, and the words behind them
abbrev pub read_forms : ℕ → List Form → List (List ℕ) → Result (List Value × List (List ℕ)) ℕ
read_forms place [] words = Ok ([], words)
read_forms place (form ∷ forms) [] = Err place
read_forms place (form ∷ forms) (word ∷ words) = or_wrong place (form word)
    (λ value. and_then (read_forms (place + 1) forms words) (λ read. Ok (value ∷ read.0, read.1)))

-- the bytes of words, at most `room`
abbrev pub bytes_within : ℕ → List ℕ → Option (List ℕ)
bytes_within room word =
    option_and_then (λ bytes. where_true (nat_le (length bytes) room) bytes) (hex_bytes word)

abbrev pub read_bytes : ℕ → ℕ → List (List ℕ) → Result (List ℕ) ℕ
read_bytes place room [] = Ok []
read_bytes place room (word ∷ words) = or_wrong place (bytes_within room word)
    (λ bytes. and_then (read_bytes (place + 1) (room - length bytes) words) (λ rest. Ok (bytes ++ rest)))

-- the bytes of a frame, or no word more
abbrev pub read_tail : ℕ → Bool → List (List ℕ) → Result (List ℕ) ℕ
read_tail place true words = read_bytes place 65535 words
read_tail place false [] = Ok []
read_tail place false (word ∷ words) = Err place

-- what the words behind a command's word bring
abbrev pub read_arrival : Command → List (List ℕ) → Result Arrival ℕ
read_arrival command words = and_then (read_forms 3 command.forms words)
    (λ read. and_then (read_tail (3 + length command.forms) command.has_bytes read.1)
    (λ bytes. or_wrong 2 (command.brings read.0 bytes) (λ arrival. Ok arrival)))

-- what the words behind a time bring
abbrev pub read_command : List (List ℕ) → Result Arrival ℕ
read_command [] = Err 2
read_command (word ∷ words) = or_wrong 2 (command_named word) (λ command. read_arrival command words)

-- the event of a line, behind one at the time `last`
abbrev pub read_event : ℕ → List ℕ → List (List ℕ) → Result Event ℕ
read_event last time words = or_wrong 1 (time_of last time)
    (λ at. and_then (read_command words) (λ arrival. Ok (record { at = at; arrival = arrival })))

-- settings, each with a key that none before it has
abbrev pub read_settings : ℕ → List (List ℕ) → List (List ℕ) → Result (Unit {0}) ℕ
read_settings place seen [] = Ok tt
read_settings place seen (word ∷ words) =
    if is_setting word && not (list_any (bytes_eq (key_word word)) seen)
    then read_settings (place + 1) (key_word word ∷ seen) words else Err place

-- behind `set` stands one at least
abbrev pub read_set : List (List ℕ) → Result (Unit {0}) ℕ
read_set [] = Err 2
read_set (word ∷ words) = read_settings 2 [] (word ∷ words)

-- what a line means: nothing for the events, an event, one event too many, or a wrong word at a place
pub data Meaning : Type 0 where
  NoEvent : Meaning
  OneEvent : Event → Meaning
  OneTooMany : Meaning
  WrongWord : ℕ → Meaning

abbrev pub of_set : Result (Unit {0}) ℕ → Meaning
of_set (Ok done) = NoEvent
of_set (Err place) = WrongWord place

abbrev pub of_event : Result Event ℕ → Meaning
of_event (Ok event) = OneEvent event
of_event (Err place) = WrongWord place

-- the words of a line behind `count` events, the last of them at the time `last`
abbrev pub meaning_of : ℕ → ℕ → ℕ → List (List ℕ) → Meaning
meaning_of max count last [] = NoEvent
meaning_of max count last (word ∷ words) =
    if bytes_eq word (codes "set") then of_set (read_set words)
    else if nat_le max count then OneTooMany else of_event (read_event last word words)

-- A text is right and has these events, or too long, or wrong at a word of a line.
pub data Verdict : Type 0 where
  Right : List Event → Verdict
  Long : Verdict
  Wrong : ℕ → ℕ → Verdict

abbrev pub with_event : Event → Verdict → Verdict
with_event event (Right events) = Right (event ∷ events)
with_event event Long = Long
with_event event (Wrong line word) = Wrong line word

-- by what a line means, and what the lines behind it mean
abbrev pub by_line : Meaning → ℕ → ℕ → ℕ → (ℕ → ℕ → Verdict) → Verdict
by_line NoEvent line count last next = next count last
by_line (OneEvent event) line count last next = with_event event (next (count + 1) event.at)
by_line OneTooMany line count last next = Long
by_line (WrongWord word) line count last next = Wrong line word

abbrev pub verdict_from : ℕ → ℕ → ℕ → ℕ → List (List ℕ) → Verdict
verdict_from max line count last [] = Right []
verdict_from max line count last (first ∷ lines) =
    by_line (meaning_of max count last (words_of first)) line count last
    (λ more later. verdict_from max (line + 1) more later lines)

-- the verdict on a text that may have `max` events
abbrev pub verdict : ℕ → List ℕ → Verdict
verdict max text = verdict_from max 1 0 0 (lines_of text)

abbrev pub IsRight : ℕ → List ℕ → List Event → Type 0
IsRight max text events = verdict max text ≡ Right events

abbrev pub IsLong : ℕ → List ℕ → Type 0
IsLong max text = verdict max text ≡ Long

abbrev pub IsWrongAt : ℕ → List ℕ → ℕ → ℕ → Type 0
IsWrongAt max text line word = verdict max text ≡ Wrong line word
