-- The messages of queries over all events: how many go to one place, and where the last one went.
use Rattle.std.specs.Prelude.{◌≡◌, ℕ, ◌≤◌, ◌==◌, ◌&&◌, Bool, false, List, [], ◌∷◌, ◌++◌, Option, Some, None, All, count_by, ⊤, if◌then◌else◌}
use Rattle.net_wire.specs.declared.address.Ipv4Address.{Ipv4Address}
use Rattle.host_model.specs.Chronicle.{history}
use Rattle.host_model.specs.Frames.{Listed, ArpReply, ArpRequest, Dhcp, Dns, frames_of}
use Rattle.host_model.specs.History.{Entry}
use Rattle.host_model.specs.Queries.{looks_at, slots_before}
use Rattle.host_model.specs.QueryLooks.{SentAsk}
use Rattle.host_model.specs.QuerySlots.{Slot, Free, Live, Over}
use Rattle.host_model.specs.QueryTurns.{asked_after, asked_of}
use Rattle.host_model.specs.Script.{AreInOrder, Event}
use Rattle.host_model.specs.Settings.{Settings}

-- the messages that were sent in the events, in the order that they were sent
abbrev pub all_asks : Settings → List Entry → List SentAsk
all_asks settings [] = []
all_asks settings (entry ∷ before) =
    all_asks settings before ++ (looks_at settings before entry.event entry.words).asks

-- one of the query with a number, to a place
abbrev pub is_to_place : ℕ → ℕ → SentAsk → Bool
is_to_place number place sent = (sent.ask.query == number) && (sent.ask.place == place)

-- when the newest event was
abbrev pub newest_time : List Entry → ℕ
newest_time [] = 0
newest_time (entry ∷ before) = entry.event.at

-- the times never fall
abbrev pub AreRising : List Entry → Type 0
AreRising [] = ⊤
AreRising (entry ∷ before) = (newest_time before ≤ entry.event.at) × AreRising before

-- the entries of a script's events rise
abbrev pub ScriptsRise : Type 0
ScriptsRise = (settings : Settings) (words : List ℕ) (last : ℕ) (events : List Event) → AreInOrder last events
    → AreRising (history settings words events)

-- Whatever hops were known and whatever servers were held, a query sends at most four messages to one place
-- of its list: they are at least 1, 2 and 4 seconds apart, and a fifth would come 8 seconds after the fourth,
-- when the ten seconds of the turn are over.
abbrev pub FourMessagesToAPlace : Type 0
FourMessagesToAPlace = (settings : Settings) (entries : List Entry) → AreRising entries
    → (number place : ℕ) → count_by (is_to_place number place) (all_asks settings entries) ≤ 4

-- a frame of such a message
abbrev pub is_frame_to : ℕ → ℕ → Listed → Bool
is_frame_to number place (ArpReply to arp) = false
is_frame_to number place (ArpRequest to arp) = false
is_frame_to number place (Dhcp sent) = false
is_frame_to number place (Dns sent) = is_to_place number place sent

-- the frames that the events list, in their order
abbrev pub all_frames : Settings → List Entry → List Listed
all_frames settings [] = []
all_frames settings (entry ∷ before) =
    all_frames settings before ++ frames_of settings before entry.event entry.words

-- so at most four of the listed frames are of one query and one place
abbrev pub FourFramesToAPlace : Type 0
FourFramesToAPlace = (settings : Settings) (entries : List Entry) → AreRising entries
    → (number place : ℕ) → count_by (is_frame_to number place) (all_frames settings entries) ≤ 4

-- where the last one of the query with a number went, if there was one
abbrev pub last_asked : ℕ → List SentAsk → Option Ipv4Address
last_asked number [] = None
last_asked number (sent ∷ later) =
    asked_after (last_asked number later) (if sent.ask.query == number then Some sent.ask.to else None)

abbrev pub IsAskedLast : List SentAsk → Slot → Type 0
IsAskedLast asks Free = ⊤
IsAskedLast asks (Live query) = asked_of query.looks ≡ last_asked query.number asks
IsAskedLast asks (Over number addresses) = ⊤

-- What the looks at a query say that it asked last is where its last message among those of all events went.
abbrev pub AskedLast : Type 0
AskedLast = (settings : Settings) (entries : List Entry)
    → All (IsAskedLast (all_asks settings entries)) (slots_before settings entries)
