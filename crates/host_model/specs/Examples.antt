-- Closed examples of a life without a lease: at which events a discover is sent, with which ids.
use Rattle.std.specs.Prelude.{◌≡◌, ℕ, List, [], ◌∷◌, ◌++◌, Option, Some, None, map, replicate}
use Rattle.std.specs.Option.{option_map}
use Rattle.dhcp_client.specs.Config.{default_settings}
use Rattle.host_model.specs.Script.{Tick, Reset, Event}
use Rattle.host_model.specs.Settings.{Settings}
use Rattle.host_model.specs.History.{Entry, last_id, times_since}
use Rattle.host_model.specs.Anchor.{Loss, anchor_before}
use Rattle.host_model.specs.Chronicle.{history}

abbrev pub tick : ℕ → Event
tick at = record { at = at; arrival = Tick }

abbrev pub reset : ℕ → Event
reset at = record { at = at; arrival = Reset }

-- a host to which nothing but its hardware address was told
abbrev pub example_settings : Settings
example_settings = record {
  hardware = record { 0 = replicate 6 2 };
  ip_mtu = 1500;
  client = default_settings;
}

-- the first words of five events are 10, 20, 30, 40, 50
abbrev pub example_words : List ℕ
example_words = 10 ∷ 0 ∷ 0 ∷ 20 ∷ 0 ∷ 0 ∷ 30 ∷ 0 ∷ 0 ∷ 40 ∷ 0 ∷ 0 ∷ 50 ∷ 0 ∷ 0 ∷ []

abbrev pub example_history : List Event → List Entry
example_history events = history example_settings example_words events

-- the id of the message that was sent in each event, newest first
abbrev pub sent_ids : List Entry → List (Option ℕ)
sent_ids entries =
    map (λ entry. option_map (λ sent. sent.transmission.message.transaction_id) entry.sent) entries

abbrev pub reset_at_one : List Event
reset_at_one = tick 0 ∷ reset 1000000 ∷ tick 10000000 ∷ []

-- A reset's own event sends, although the timeout of 10 s after the message before is not over; the next
-- timeout begins at that message.
pub record SendsAtReset : Type 0 where
  pub sent : sent_ids (example_history (reset_at_one ++ tick 10999999 ∷ tick 11000000 ∷ []))
      ≡ Some 50 ∷ None ∷ None ∷ Some 20 ∷ Some 10 ∷ []
  pub anchor : anchor_before example_settings (example_history reset_at_one) ≡ Loss 1
  pub since : times_since 1 (example_history reset_at_one) ≡ 1000000 ∷ []

-- A reset before any other event sends once, two resets at one moment send twice, and the last id is that of
-- the last message.
pub record SendsAtEachReset : Type 0 where
  pub first : sent_ids (example_history (reset 5000000 ∷ tick 5000000 ∷ [])) ≡ None ∷ Some 10 ∷ []
  pub twice : sent_ids (example_history (reset 0 ∷ reset 0 ∷ [])) ≡ Some 20 ∷ Some 10 ∷ []
  pub last : last_id (example_history (tick 0 ∷ reset 0 ∷ tick 0 ∷ [])) ≡ 20

-- without resets a message goes out every 10 s
abbrev pub SendsEveryTimeout : Type 0
SendsEveryTimeout =
    sent_ids (example_history (tick 0 ∷ tick 9999999 ∷ tick 10000000 ∷ tick 19999999 ∷ []))
    ≡ None ∷ Some 30 ∷ None ∷ Some 10 ∷ []
