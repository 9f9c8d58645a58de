-- Events as text, a line an event.
use Rattle.std.specs.Prelude.{ℕ, ◌/◌, ◌%◌, ◌==◌, ◌&&◌, not, nat_le, if◌then◌else◌, Bool, List, [], ◌∷◌, ◌++◌, length, codes}
use Rattle.std.specs.Fmt.{decimal}
use Rattle.std.specs.List.{flat_map}
use Rattle.net_wire.specs.declared.dns.dns_type.DnsType.{DnsType}
use Rattle.net_wire.specs.declared.dns.dns_type.DnsType.TheVariants.{Aaaa}
use Rattle.host_model.specs.Script.{Arrival, Tick, Reset, Frame, Query, Event}
use Rattle.script_reader.specs.Reading.{arrival_of}
use Rattle.script_reader.specs.declared.script.ScriptEvent.{ScriptEvent}
use Rattle.capture_explain.specs.Text.{six_digits, hexadecimal_digit}

-- seconds, with six digits behind the point
abbrev pub time_text : ℕ → List ℕ
time_text micros = decimal (micros / 1000000) ++ codes "." ++ six_digits (micros % 1000000)

-- two hexadecimal digits, in lower case
abbrev pub hex_byte : ℕ → List ℕ
hex_byte byte = hexadecimal_digit (byte / 16) ∷ hexadecimal_digit byte ∷ []

-- a byte that is itself in a name: from 21 to 7e, but for # and \
abbrev pub is_plain : ℕ → Bool
is_plain byte = nat_le 0x21 byte && nat_le byte 0x7e && not (byte == 0x23) && not (byte == 0x5c)

-- any byte behind a \
abbrev pub escaped : ℕ → List ℕ
escaped byte = 0x5c ∷ [] ++ hex_byte byte

abbrev pub name_byte : ℕ → List ℕ
name_byte byte = if is_plain byte then byte ∷ [] else escaped byte

-- a hyphen that is all of a name
abbrev pub first_byte : ℕ → Bool → List ℕ
first_byte byte is_all = if is_all && (byte == 0x2d) then escaped byte else name_byte byte

-- a name as one word; a hyphen alone stands for the empty one
abbrev pub name_text : List ℕ → List ℕ
name_text [] = codes "-"
name_text (byte ∷ name) = first_byte byte (length name == 0) ++ flat_map name_byte name

-- the types of addresses
abbrev pub type_word : DnsType → List ℕ
type_word Aaaa = codes "AAAA"
type_word type_ = codes "A"

-- the bytes of a frame as one word, and no word of none
abbrev pub hex_word : List ℕ → List ℕ
hex_word [] = []
hex_word (byte ∷ bytes) = codes " " ++ hex_byte byte ++ flat_map hex_byte bytes

-- what an event brings
abbrev pub arrival_text : Arrival → List ℕ
arrival_text Tick = codes "tick"
arrival_text Reset = codes "reset"
arrival_text (Frame bytes) = codes "frame" ++ hex_word bytes
arrival_text (Query type_ name) = codes "query " ++ type_word type_ ++ codes " " ++ name_text name

-- the line of an event
abbrev pub event_line : Event → List ℕ
event_line event = time_text event.at ++ codes " " ++ arrival_text event.arrival ++ codes "\n"

-- the text of events
abbrev pub events_text : List Event → List ℕ
events_text events = flat_map event_line events

-- what a reader gives, at so many microseconds
abbrev pub event_of : ℕ → ScriptEvent → Event
event_of micros event = record { at = micros; arrival = arrival_of event }
