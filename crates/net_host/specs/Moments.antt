-- When time alone brings something about in a host: the moments behind that of its last event. What was due by then, and did not
-- find its hop, waits for any event.
use Rattle.std.specs.Prelude.{ℕ, ◌≤◌, ℤ, pos, nat_lt, List, [], ◌∷◌, Option, Some, None, ⊤, if◌then◌else◌}
use Rattle.phy_layers.specs.PcapBytes.{epoch_micros}
use Rattle.dhcp_client.specs.declared.retry.RetryConfig.{RetryConfig}
use Rattle.dhcp_client.specs.Times.{Spans}
use Rattle.dns_client.specs.Slots.{behind, earlier}
use Rattle.host_model.specs.Anchor.{Anchor, Loss, Offer, Ack, anchor_before, lease_times, place_of}
use Rattle.host_model.specs.Due.{loss_due, offer_due, lease_due}
use Rattle.host_model.specs.History.{Entry, times_since}
use Rattle.host_model.specs.Queries.{slots_before}
use Rattle.host_model.specs.QuerySlots.{Slot, Free, Live, Over}
use Rattle.host_model.specs.QueryTurns.{due_of, turn_of}
use Rattle.host_model.specs.Settings.{Settings}

-- that of the last event, if there was one
abbrev pub last_moment : List Entry → Option ℤ
last_moment [] = None
last_moment (entry ∷ before) = Some (pos entry.event.at)

-- an instant is not before the last one, where there was one
abbrev pub IsFrom : Option ℤ → ℤ → Type 0
IsFrom None at = ⊤
IsFrom (Some last) at = epoch_micros last ≤ epoch_micros at

abbrev pub moment : Option ℤ → ℕ → Option ℤ
moment last at = behind last (Some (pos at))

-- T2 (RFC 2131, section 4.4.5), from which a renewal that waits for its hop goes to all servers, until one did
abbrev pub rebind_moment : Option ℤ → Spans → List ℕ → Option ℤ
rebind_moment last times [] = moment last times.rebind
rebind_moment last times (newest ∷ older) = if nat_lt newest times.rebind then moment last times.rebind else None

-- when the DHCP client sends next, T2, and when its lease ends, by the times of the messages since its anchor, newest first
abbrev pub lease_moment : RetryConfig → Option ℤ → List ℕ → Anchor → Option ℤ
lease_moment retry last sent (Loss place) = moment last (loss_due retry sent)
lease_moment retry last sent (Offer place since server address) = moment last (offer_due retry since sent)
lease_moment retry last sent (Ack place since granted server) =
    earlier (moment last (lease_due retry (lease_times since granted) sent))
    (earlier (rebind_moment last (lease_times since granted) sent) (moment last (lease_times since granted).end))

-- when a query sends next
abbrev pub query_moment : Option ℤ → Slot → Option ℤ
query_moment last Free = None
query_moment last (Live query) = moment last (due_of (turn_of query.looks))
query_moment last (Over number addresses) = None

abbrev pub first_query_moment : Option ℤ → List Slot → Option ℤ
first_query_moment last [] = None
first_query_moment last (slot ∷ slots) = earlier (query_moment last slot) (first_query_moment last slots)

-- the earliest of all these, if there is one
abbrev pub next_moment : Settings → List Entry → Option ℤ
next_moment settings before =
    earlier
    (lease_moment settings.client.retry (last_moment before) (times_since (place_of (anchor_before settings before)) before)
    (anchor_before settings before))
    (first_query_moment (last_moment before) (slots_before settings before))
