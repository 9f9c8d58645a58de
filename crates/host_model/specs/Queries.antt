-- The queries of a host over a history: what each event does to them, found from the entries before it.
use Rattle.std.specs.Prelude.{ℕ, suc, List, [], ◌∷◌, ◌++◌, Option, Some, None, false, map, take, if◌then◌else◌}
use Rattle.std.specs.Option.{option_map}
use Rattle.net_wire.specs.declared.address.IpAddress.{IpAddress}
use Rattle.net_wire.specs.declared.address.IpAddress.TheVariants as ip
use Rattle.net_wire.specs.declared.address.Ipv4Address.{Ipv4Address}
use Rattle.net_wire.specs.Arrival.{arriving_datagram}
use Rattle.net_wire.specs.Datagram.{Datagram}
use Rattle.host_model.specs.declared.held.Held.{Held}
use Rattle.host_model.specs.declared.query_line.QueryLine.{QueryLine}
use Rattle.host_model.specs.declared.words.EventWords.{EventWords}
use Rattle.host_model.specs.Anchor.{Anchor, Loss, Offer, Ack, anchor_before}
use Rattle.host_model.specs.Hearing.{is_for_client}
use Rattle.host_model.specs.History.{Entry}
use Rattle.host_model.specs.Lease.{held_before}
use Rattle.host_model.specs.Neighbor.{known_hop}
use Rattle.host_model.specs.QueryAnswers.{after_datagram}
use Rattle.host_model.specs.QueryLines.{lines_of, refused_lines}
use Rattle.host_model.specs.QueryLooks.{Around, Looks, looks_from}
use Rattle.host_model.specs.QuerySlots.{Slot, no_queries, freed}
use Rattle.host_model.specs.QueryStart.{Begun, started}
use Rattle.host_model.specs.Script.{Arrival, Tick, Reset, Frame, Query, Event}
use Rattle.host_model.specs.Settings.{Settings}

-- the first three of the name servers of a lease
abbrev pub first_servers : List Ipv4Address → List IpAddress
first_servers addresses = map ip.Ipv4 (take 3 addresses)

abbrev pub servers_under : Anchor → List IpAddress
servers_under (Loss place) = []
servers_under (Offer place since server address) = []
servers_under (Ack place since granted server) = first_servers granted.dns_servers

-- those that are held when an event comes
abbrev pub servers_before : Settings → List Entry → List IpAddress
servers_before settings before = servers_under (anchor_before settings before)

abbrev pub address_in : Option Held → Option Ipv4Address
address_in held = option_map (λ held. held.address.address) held

-- what the looks of an event go by
abbrev pub around_at : Settings → List Entry → Event → Around
around_at settings before event = record {
  servers = servers_before settings before;
  from = address_in (held_before settings before);
  hop = known_hop settings before event;
}

-- a datagram that is not for the DHCP client may be a response
abbrev pub hears_datagram : Settings → List IpAddress → Option Datagram → List Slot → List Slot
hears_datagram settings servers None slots = slots
hears_datagram settings servers (Some datagram) slots =
    if is_for_client settings.client datagram then slots else after_datagram servers datagram slots

-- the number of query events, with one that brings this
abbrev pub counted : Arrival → ℕ → ℕ
counted Tick count = count
counted Reset count = count
counted (Frame bytes) count = count
counted (Query type_ name) count = suc count

-- The number of a query is that of the query events before it.
abbrev pub query_count : List Entry → ℕ
query_count [] = 0
query_count (entry ∷ before) = counted entry.event.arrival (query_count before)

-- the slots once an event has arrived
abbrev pub arrived_with : Settings → List IpAddress → ℕ → Arrival → EventWords → List Slot → Begun
arrived_with settings servers number Tick words slots = record { slots = slots; refused = None }
arrived_with settings servers number Reset words slots = record { slots = slots; refused = None }
arrived_with settings servers number (Frame bytes) words slots = record {
  slots = hears_datagram settings servers (arriving_datagram settings.hardware bytes) slots;
  refused = None;
}
arrived_with settings servers number (Query type_ name) words slots = started number type_ name words slots

abbrev pub arrived_over : Settings → List Entry → Event → EventWords → List Slot → Begun
arrived_over settings before event words slots =
    arrived_with settings (servers_before settings before) (query_count before) event.arrival words slots

-- the looks of an event
abbrev pub looks_over : Settings → List Entry → Event → EventWords → List Slot → Looks
looks_over settings before event words slots =
    looks_from (around_at settings before event) event.at false (arrived_over settings before event words slots).slots

-- the queries when an event comes
abbrev pub slots_before : Settings → List Entry → List Slot
slots_before settings [] = no_queries
slots_before settings (entry ∷ before) =
    map freed (looks_over settings before entry.event entry.words (slots_before settings before)).slots

-- the looks of an event, and what is said of the queries that it refuses, answers or ends
abbrev pub looks_at : Settings → List Entry → Event → EventWords → Looks
looks_at settings before event words = looks_over settings before event words (slots_before settings before)

abbrev pub lines_at : Settings → List Entry → Event → EventWords → List QueryLine
lines_at settings before event words =
    refused_lines (query_count before)
    (arrived_over settings before event words (slots_before settings before)).refused
    ++ lines_of (looks_at settings before event words).slots
