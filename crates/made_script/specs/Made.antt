-- A script that is made by the words of a run: each second an event, each hundred events one round, in which a
-- host is reset, is leased an address, is told where its server is, and asks for a name.
use Rattle.std.specs.Prelude.{◌≡◌, ℕ, ◌+◌, ◌*◌, ◌/◌, ◌%◌, ◌≤◌, ◌^◌, ◌==◌, ◌&&◌, List, [], ◌∷◌, length, ⊤, if◌then◌else◌}
use Rattle.net_wire.specs.declared.dhcp.DhcpMessageType.TheVariants as dhcp
use Rattle.net_wire.specs.declared.dns.dns_type.DnsType.TheVariants.{A}
use Rattle.net_wire.specs.Datagram.{Datagram}
use Rattle.host_model.specs.declared.words.EventWords.{EventWords}
use Rattle.host_model.specs.Chronicle.{words_at}
use Rattle.host_model.specs.Classes.{IsScript}
use Rattle.host_model.specs.Script.{Arrival, Tick, Reset, Frame, Query, Event}
use Rattle.made_script.specs.Server.{IsFromServer, grant_datagram, told_frame, asked_name, request_by, response_datagram}

-- what an event is for
pub data Turn : Type 0 where
  Starts : Turn
  Offers : Turn
  Grants : Turn
  Tells : Turn
  Asks : Turn
  Answers : Turn
  Waits : Turn

-- by the number of its round and its place there, both from 0 on: every other round has no answer
abbrev pub turn_in : ℕ → ℕ → Turn
turn_in round place =
    if place == 0 then Starts
    else if place == 1 then Offers
    else if place == 2 then Grants
    else if place == 3 then Tells
    else if place == 4 then Asks
    else if (place == 5) && (round % 2 == 1) then Answers
    else Waits

-- The words of the event that begins a round, the first of which is the id of its discover, and of the one that
-- asks.
abbrev pub words_of_start : List ℕ → ℕ → EventWords
words_of_start words round = words_at words (round * 100)

abbrev pub words_of_asking : List ℕ → ℕ → EventWords
words_of_asking words round = words_at words (round * 100 + 4)

-- a frame of the server with the datagram arrives
pub record BringsDatagram (datagram : Datagram) (arrival : Arrival) : Type 0 where
  pub frame : List ℕ
  pub is : arrival ≡ Frame frame
  pub sent : IsFromServer datagram frame

-- what an event of a round brings
abbrev pub Brings : List ℕ → ℕ → Turn → Arrival → Type 0
Brings words round Starts arrival = arrival ≡ Reset
Brings words round Offers arrival = BringsDatagram (grant_datagram dhcp.Offer (words_of_start words round).first) arrival
Brings words round Grants arrival = BringsDatagram (grant_datagram dhcp.Ack (words_of_start words round).first) arrival
Brings words round Tells arrival = arrival ≡ Frame told_frame
Brings words round Asks arrival = arrival ≡ Query A asked_name
Brings words round Answers arrival = BringsDatagram (response_datagram (request_by (words_of_asking words round))) arrival
Brings words round Waits arrival = arrival ≡ Tick

-- the event at a place, counted from 0: so many seconds after the start
pub record IsMadeAt (words : List ℕ) (place : ℕ) (event : Event) : Type 0 where
  pub at : event.at ≡ place * 1000000
  pub brings : Brings words (place / 100) (turn_in (place / 100) (place % 100)) event.arrival

-- the events from a place on
abbrev pub AreMadeFrom : List ℕ → ℕ → List Event → Type 0
AreMadeFrom words place [] = ⊤
AreMadeFrom words place (event ∷ events) = IsMadeAt words place event × AreMadeFrom words (place + 1) events

-- so many events, made by the words
pub record AreMade (words : List ℕ) (count : ℕ) (events : List Event) : Type 0 where
  pub many : length events ≡ count
  pub each : AreMadeFrom words 0 events

-- the bytes are the script of so many events that are made by the words
pub record IsMadeScript (words : List ℕ) (count : ℕ) (bytes : List ℕ) : Type 0 where
  pub events : List Event
  pub made : AreMade words count events
  pub script : IsScript count bytes events

-- the words make one list of so many events
abbrev pub MakesOne : Type 0
MakesOne = (words : List ℕ) (count : ℕ) (one other : List Event)
    → AreMade words count one → AreMade words count other → one ≡ other

-- the words make a script of so many events, whose times are in range
abbrev pub MakesSome : Type 0
MakesSome = (words : List ℕ) (count : ℕ) → count ≤ 2 ^ 32 → (bytes : List ℕ) × IsMadeScript words count bytes
