-- The commands of a text and the keys of its settings, as tables: a further command, or a further key, is a
-- line.
use Rattle.std.specs.Prelude.{ℕ, ◌==◌, ◌||◌, ◌&&◌, if◌then◌else◌, Bool, true, false, List, [], ◌∷◌, find, Option, Some, None, codes, option_map}
use Rattle.std.specs.List.{list_any, before_first, after_first}
use Rattle.std.specs.Str.{bytes_eq}
use Rattle.net_wire.specs.declared.dns.dns_type.DnsType.{DnsType}
use Rattle.net_wire.specs.declared.dns.dns_type.DnsType.TheVariants.{A, Aaaa}
use Rattle.host_model.specs.Script.{Arrival, Tick, Reset, Frame, Query}
use Rattle.script_text.specs.Words.{name_of, is_address, are_addresses, is_station, is_none_word, is_prefix_len, is_seconds}

-- what the words of a command write
pub data Value : Type 0 where
  TypeValue : DnsType → Value
  BytesValue : List ℕ → Value

-- what a word reads as under a form
abbrev pub Form : Type 0
Form = List ℕ → Option Value

abbrev pub type_form : Form
type_form word =
    if bytes_eq word (codes "A") then Some (TypeValue A)
    else if bytes_eq word (codes "AAAA") then Some (TypeValue Aaaa) else None

abbrev pub name_form : Form
name_form word = option_map BytesValue (name_of word)

-- A command: its word, the forms of the words behind it, whether bytes in hexadecimal digits follow, and what
-- it brings, by what its words write.
pub record Command : Type 0 where
  pub word : List ℕ
  pub forms : List Form
  pub has_bytes : Bool
  pub brings : List Value → List ℕ → Option Arrival

abbrev pub query_of : List Value → List ℕ → Option Arrival
query_of (TypeValue type_ ∷ BytesValue name ∷ []) bytes = Some (Query type_ name)
query_of values bytes = None

abbrev pub commands : List Command
commands =
    record { word = codes "tick"; forms = []; has_bytes = false; brings = λ _ _. Some Tick }
    ∷ record { word = codes "reset"; forms = []; has_bytes = false; brings = λ _ _. Some Reset }
    ∷ record {
      word = codes "query";
      forms = type_form ∷ name_form ∷ [];
      has_bytes = false;
      brings = query_of;
    }
    ∷ record { word = codes "frame"; forms = []; has_bytes = true; brings = λ _ bytes. Some (Frame bytes) }
    ∷ []

abbrev pub command_named : List ℕ → Option Command
command_named word = find (λ command. bytes_eq command.word word) commands

-- a key of a setting, and the values that it has
pub record Key : Type 0 where
  pub word : List ℕ
  pub is_value : List ℕ → Bool

abbrev pub keys : List Key
keys =
    record { word = codes "server"; is_value = is_address }
    ∷ record { word = codes "client"; is_value = is_station }
    ∷ record { word = codes "prefix"; is_value = λ word. is_none_word word || is_prefix_len word }
    ∷ record { word = codes "router"; is_value = λ word. is_none_word word || is_address word }
    ∷ record { word = codes "dns"; is_value = λ word. is_none_word word || are_addresses word }
    ∷ record { word = codes "lease"; is_value = λ word. is_none_word word || is_seconds word }
    ∷ record { word = codes "t1"; is_value = λ word. is_none_word word || is_seconds word }
    ∷ record { word = codes "t2"; is_value = λ word. is_none_word word || is_seconds word }
    ∷ []

-- the key in front of the first = of a word
abbrev pub key_word : List ℕ → List ℕ
key_word word = before_first (λ byte. byte == 0x3d) word

-- a key, = and a value of it
abbrev pub is_setting : List ℕ → Bool
is_setting word = list_any (λ key. bytes_eq key.word (key_word word)
    && key.is_value (after_first (λ byte. byte == 0x3d) word)) keys
