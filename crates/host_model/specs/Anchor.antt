-- The anchor: the event that the DHCP client goes by (RFC 2131, section 4.4 and figure 5).
use Rattle.std.specs.Prelude.{ℕ, ◌+◌, ◌&&◌, Bool, false, nat_le, List, [], ◌∷◌, length, if◌then◌else◌}
use Rattle.net_wire.specs.declared.address.Ipv4Address.{Ipv4Address}
use Rattle.dhcp_client.specs.declared.retry.RetryConfig.{RetryConfig}
use Rattle.dhcp_client.specs.declared.state.ServerInfo.{ServerInfo}
use Rattle.dhcp_client.specs.Heard.{Granted, Heard, AnOffer, AnAck, ARefusal}
use Rattle.dhcp_client.specs.Times.{Spans, spans_with}
use Rattle.host_model.specs.Script.{Arrival, Tick, Reset, Frame, Query, Event}
use Rattle.host_model.specs.Settings.{Settings}
use Rattle.host_model.specs.History.{Entry, times_since}
use Rattle.host_model.specs.Hearing.{heard_at}
use Rattle.host_model.specs.Due.{loss_due, offer_due, lease_due}

-- Each has the place of its event, and what that brought. Without a lease: the start of the script counts as
-- place 0. With an offer of an address by a server, which came at a time. With a lease, granted at a time,
-- and the server of the offer before it.
pub data Anchor : Type 0 where
  Loss : ℕ → Anchor
  Offer : ℕ → ℕ → ServerInfo → Ipv4Address → Anchor
  Ack : ℕ → ℕ → Granted → ServerInfo → Anchor

abbrev pub place_of : Anchor → ℕ
place_of (Loss place) = place
place_of (Offer place since server address) = place
place_of (Ack place since granted server) = place

-- the times of what was granted, as moments: T1, T2 and the end
abbrev pub lease_times : ℕ → Granted → Spans
lease_times since granted =
    spans_with (since + granted.times.renew) (since + granted.times.rebind) (since + granted.times.end)

-- when the client sends next under an anchor, in microseconds, by the times of the messages since it, newest
-- first
abbrev pub due_under : RetryConfig → List ℕ → Anchor → ℕ
due_under retry sent (Loss place) = loss_due retry sent
due_under retry sent (Offer place since server address) = offer_due retry since sent
due_under retry sent (Ack place since granted server) = lease_due retry (lease_times since granted) sent

-- Time ends what the client goes by, and it begins anew: an offer when the last request that there may be was
-- not answered, a lease at its end. Without a lease nothing is there to end.
abbrev pub is_over : RetryConfig → List ℕ → ℕ → Anchor → Bool
is_over retry sent at (Loss place) = false
is_over retry sent at (Offer place since server address) =
    nat_le retry.request_retries (length sent) && nat_le (offer_due retry since sent) at
is_over retry sent at (Ack place since granted server) = nat_le (lease_times since granted).end at

-- What is heard at a place and a time makes of the anchor: an offer counts without a lease, an
-- acknowledgement and a refusal count with an offer or a lease. The server stays that of the offer.
abbrev pub anchor_after_heard : ℕ → ℕ → Heard → Anchor → Anchor
anchor_after_heard here at (AnOffer server address) (Loss place) = Offer here at server address
anchor_after_heard here at (AnAck granted) (Offer place since server address) = Ack here at granted server
anchor_after_heard here at (AnAck granted) (Ack place since old server) = Ack here at granted server
anchor_after_heard here at ARefusal (Offer place since server address) = Loss here
anchor_after_heard here at ARefusal (Ack place since granted server) = Loss here
anchor_after_heard here at heard anchor = anchor

-- what an event's arrival makes of it: from a reset on the client has no lease
abbrev pub anchor_after_arrival : Settings → List Entry → ℕ → Arrival → Anchor → Anchor
anchor_after_arrival settings before at Tick anchor = anchor
anchor_after_arrival settings before at Reset anchor = Loss (length before)
anchor_after_arrival settings before at (Frame bytes) anchor =
    anchor_after_heard (length before) at (heard_at settings before bytes) anchor
anchor_after_arrival settings before at (Query type_ name) anchor = anchor

-- what the time of an event makes of the anchor
abbrev pub anchor_after_time : Settings → List Entry → ℕ → Anchor → Anchor
anchor_after_time settings before at anchor =
    if is_over settings.client.retry (times_since (place_of anchor) before) at anchor
    then Loss (length before)
    else anchor

abbrev pub anchor_after : Settings → List Entry → Event → Anchor → Anchor
anchor_after settings before event anchor =
    anchor_after_time settings before event.at
    (anchor_after_arrival settings before event.at event.arrival anchor)

-- the anchor after the events so far
abbrev pub anchor_before : Settings → List Entry → Anchor
anchor_before settings [] = Loss 0
anchor_before settings (entry ∷ before) =
    anchor_after settings before entry.event (anchor_before settings before)

-- the anchor that an event sends by
abbrev pub anchor_at : Settings → List Entry → Event → Anchor
anchor_at settings before event = anchor_after settings before event (anchor_before settings before)
