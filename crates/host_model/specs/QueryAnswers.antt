-- What a response does to the queries of a host (RFC 1035, section 7.3; RFC 5452, section 9.1).
use Rattle.std.specs.Prelude.{ℕ, ◌==◌, ◌&&◌, nat_le, Bool, false, List, [], ◌∷◌, Option, Some, None, length, map, if◌then◌else◌}
use Rattle.std.specs.Option.{option_map}
use Rattle.net_wire.specs.declared.address.IpAddress.{IpAddress}
use Rattle.net_wire.specs.declared.address.IpAddress.TheVariants as ip
use Rattle.net_wire.specs.Datagram.{Datagram}
use Rattle.net_wire.specs.DnsMessage.{message_id, rcode_of}
use Rattle.dns_client.specs.declared.query.MulticastDns.{MulticastDns}
use Rattle.dns_client.specs.Response.{is_accepted, is_response, arrived_by, has_right_source, answer_for}
use Rattle.host_model.specs.QuerySlots.{Query, Slot, Free, Live, Over}
use Rattle.host_model.specs.QueryTurns.{asked_of}

-- the source of a datagram is one that the client listens to
abbrev pub is_from_dns : List IpAddress → Datagram → Bool
is_from_dns servers datagram = is_accepted servers (ip.Ipv4 datagram.source) datagram.source_port

-- and the one that a query asked last
abbrev pub is_from_asked : Datagram → MulticastDns → Option IpAddress → Bool
is_from_asked datagram mdns asked =
    has_right_source
    (arrived_by (ip.Ipv4 datagram.source) datagram.source_port datagram.destination_port datagram.payload)
    mdns asked

-- A response reaches a query by its port, its id, and its source.
abbrev pub reaches_query : Datagram → Query → Bool
reaches_query datagram query =
    (datagram.destination_port == query.request.port) && (message_id datagram.payload == query.request.id)
    && is_from_asked datagram query.request.mdns (option_map ip.Ipv4 (asked_of query.looks))

abbrev pub reaches_slot : Datagram → Slot → Bool
reaches_slot datagram Free = false
reaches_slot datagram (Live query) = reaches_query datagram query
reaches_slot datagram (Over number addresses) = false

-- the end of the query in a slot, if there is one
abbrev pub ended_with : List IpAddress → Slot → Slot
ended_with addresses Free = Free
ended_with addresses (Live query) = Over query.number addresses
ended_with addresses (Over number before) = Over number before

-- a name that does not exist ends each query that the response reaches
abbrev pub ended_if : Datagram → Slot → Slot
ended_if datagram slot = if reaches_slot datagram slot then ended_with [] slot else slot

abbrev pub answered_by : Option (List IpAddress) → Slot → Slot
answered_by None slot = slot
answered_by (Some addresses) slot = ended_with addresses slot

-- what a response says to the query in a slot
abbrev pub answer_in : List ℕ → Slot → Option (List IpAddress)
answer_in message Free = None
answer_in message (Live query) = answer_for message query.request
answer_in message (Over number addresses) = None

-- else the first query that the response reaches, in the order of the slots, ends or stays
abbrev pub first_answered : Datagram → List Slot → List Slot
first_answered datagram [] = []
first_answered datagram (slot ∷ slots) =
    if reaches_slot datagram slot then answered_by (answer_in datagram.payload slot) slot ∷ slots
    else slot ∷ first_answered datagram slots

abbrev pub after_answer : Datagram → List Slot → List Slot
after_answer datagram slots =
    if rcode_of datagram.payload == 3 then map (ended_if datagram) slots else first_answered datagram slots

abbrev pub after_response : Datagram → List Slot → List Slot
after_response datagram slots =
    if nat_le 12 (length datagram.payload) && is_response datagram.payload then after_answer datagram slots else slots

abbrev pub after_datagram : List IpAddress → Datagram → List Slot → List Slot
after_datagram servers datagram slots =
    if is_from_dns servers datagram then after_response datagram slots else slots
