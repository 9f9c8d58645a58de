-- What is sent in each event of a script: found from the entries before it and from the event.
use Rattle.std.specs.Prelude.{◌≡◌, ℕ, ◌+◌, ◌*◌, List, [], ◌∷◌, ◌++◌, Option, Some, None, length, slice_index}
use Rattle.std.specs.Option.{option_map}
use Rattle.net_wire.specs.declared.address.EthernetAddress.{EthernetAddress}
use Rattle.net_wire.specs.declared.address.Ipv4Address.{Ipv4Address}
use Rattle.host_model.specs.declared.words.EventWords.{EventWords}
use Rattle.host_model.specs.Script.{Event}
use Rattle.host_model.specs.Settings.{Settings}
use Rattle.host_model.specs.History.{Entry, SentMessage, Transmission}
use Rattle.host_model.specs.Named.{named_message}
use Rattle.host_model.specs.Neighbor.{known_hop}

-- the words of the event at a place: three for each
abbrev pub words_at : List ℕ → ℕ → EventWords
words_at words place = record {
  first = slice_index words (3 * place);
  second = slice_index words (3 * place + 1);
  third = slice_index words (3 * place + 2);
}

-- a message is sent where its hop is known; else it waits
abbrev pub sent_by : (Ipv4Address → Option EthernetAddress) → Option Transmission → Option SentMessage
sent_by hop None = None
sent_by hop (Some transmission) = option_map (λ to. record { transmission = transmission; hop = to }) (hop transmission.destination)

-- the entry of an event, by the entries before it and its words
abbrev pub entry_of : Settings → List Entry → Event → EventWords → Entry
entry_of settings before event words = record {
  event = event;
  words = words;
  sent = sent_by (known_hop settings before event) (named_message settings before event words);
}

-- the entry of the next event of a run with these words
abbrev pub entry_at : Settings → List ℕ → List Entry → Event → Entry
entry_at settings words before event = entry_of settings before event (words_at words (length before))

-- the entries after more events, newest first
abbrev pub history_from : Settings → List ℕ → List Entry → List Event → List Entry
history_from settings words before [] = before
history_from settings words before (event ∷ events) =
    history_from settings words (entry_at settings words before event ∷ before) events

-- the entries of a script's events
abbrev pub history : Settings → List ℕ → List Event → List Entry
history settings words events = history_from settings words [] events

-- one event more is one entry more, found from the entries so far
abbrev pub GrowsByEntry : Type 0
GrowsByEntry = (settings : Settings) (words : List ℕ) (events : List Event) (event : Event)
    → history settings words (events ++ event ∷ [])
    ≡ entry_at settings words (history settings words events) event ∷ history settings words events
