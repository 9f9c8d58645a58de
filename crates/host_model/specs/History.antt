-- The events before an event, with the DHCP message that was sent in each: newest first, so that what was
-- sent last stands first. Events are counted from 0, and the place of an event is the number of those before
-- it.
use Rattle.std.specs.Prelude.{ℕ, ◌-◌, List, [], ◌∷◌, Option, Some, None, length, take}
use Rattle.net_wire.specs.declared.address.EthernetAddress.{EthernetAddress}
use Rattle.net_wire.specs.declared.address.Ipv4Address.{Ipv4Address}
use Rattle.net_wire.specs.DhcpMessage.{Message}
use Rattle.host_model.specs.declared.words.EventWords.{EventWords}
use Rattle.host_model.specs.Script.{Event}

-- a DHCP message and the addresses that it goes between
pub record Transmission : Type 0 where
  pub message : Message
  pub source : Ipv4Address
  pub destination : Ipv4Address

-- what was sent, and the hardware address of the hop that it was sent to
pub record SentMessage : Type 0 where
  pub transmission : Transmission
  pub hop : EthernetAddress

-- an event, its words, and what was sent in it
pub record Entry : Type 0 where
  pub event : Event
  pub words : EventWords
  pub sent : Option SentMessage

-- the id of a message that was sent, and `otherwise` where none was
abbrev pub id_of : Option SentMessage → ℕ → ℕ
id_of None otherwise = otherwise
id_of (Some sent) otherwise = sent.transmission.message.transaction_id

-- the id of the last message; 1 if there is none
abbrev pub last_id : List Entry → ℕ
last_id [] = 1
last_id (entry ∷ before) = id_of entry.sent (last_id before)

-- the times of the messages, newest first
abbrev pub with_time : Option SentMessage → ℕ → List ℕ → List ℕ
with_time None at times = times
with_time (Some sent) at times = at ∷ times

abbrev pub sent_times : List Entry → List ℕ
sent_times [] = []
sent_times (entry ∷ before) = with_time entry.sent entry.event.at (sent_times before)

-- the entries of the events from a place on
abbrev pub entries_from : ℕ → List Entry → List Entry
entries_from place before = take (length before - place) before

-- the times of the messages since a place, newest first
abbrev pub times_since : ℕ → List Entry → List ℕ
times_since place before = sent_times (entries_from place before)
