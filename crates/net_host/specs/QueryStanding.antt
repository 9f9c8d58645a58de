-- How the queries of a history stand in a DNS client, and their numbers in the emitter.
use Rattle.std.specs.Prelude.{◌≡◌, ℕ, ◌+◌, List, length, map, Option, Some, None, pos, slice_index_or, slice_set}
use Rattle.std.specs.Option.{option_map}
use Rattle.net_wire.specs.declared.address.IpAddress.{IpAddress}
use Rattle.net_wire.specs.declared.address.IpAddress.TheVariants as ip
use Rattle.net_wire.specs.declared.address.Ipv4Address.{Ipv4Address}
use Rattle.dns_client.specs.declared.query.DnsQuery.{DnsQuery}
use Rattle.dns_client.specs.Client.{Client}
use Rattle.dns_client.specs.Query.{first_turn, pending_with}
use Rattle.dns_client.specs.Response.{settled}
use Rattle.dns_client.specs.Turns.{TurnValue}
use Rattle.host_model.specs.History.{Entry}
use Rattle.host_model.specs.Queries.{servers_before, slots_before, query_count}
use Rattle.host_model.specs.declared.query_line.Outcome.{Outcome}
use Rattle.host_model.specs.QueryLines.{outcome_of}
use Rattle.host_model.specs.QuerySlots.{Query, Slot, Free, Live, Over, freed}
use Rattle.host_model.specs.QueryTurns.{Turn, turn_span, turn_of, asked_of, due_in, delay_after}
use Rattle.host_model.specs.Settings.{Settings}

-- the client's turn of a query, by where its last message went and by its turn
abbrev pub turn_with : Option Ipv4Address → Turn → TurnValue
turn_with asked turn = record {
  timeout_at = Some (pos (turn.begin + turn_span));
  retransmit_at = pos (due_in turn.sent);
  delay = delay_after (length turn.sent);
  place = turn.place;
  asked = option_map ip.Ipv4 asked;
}

-- a query that was not looked at yet has the first turn
abbrev pub turn_for : Option Ipv4Address → Option Turn → TurnValue
turn_for asked None = first_turn
turn_for asked (Some turn) = turn_with asked turn

abbrev pub waiting_as : Query → DnsQuery
waiting_as query = pending_with query.request (turn_for (asked_of query.looks) (turn_of query.looks))

-- what stands in a slot of the client
abbrev pub standing_in : Slot → Option DnsQuery
standing_in Free = None
standing_in (Live query) = Some (waiting_as query)
standing_in (Over number addresses) = settled (Some addresses) None

-- and its number; none has 0
abbrev pub number_in : Slot → ℕ
number_in Free = 0
number_in (Live query) = query.number
number_in (Over number addresses) = number

-- The client asks these servers, and has these queries in slots that were lent; the hop limit is 64.
pub record StandAs (servers : List IpAddress) (slots : List Slot) (client : Client) (numbers : List ℕ)
    : Type 0 where
  pub servers_are : client.servers ≡ servers
  pub slots_are : client.slots ≡ map standing_in slots
  pub numbers_are : numbers ≡ map number_in slots
  pub no_hop_limit : client.hop_limit ≡ None

-- The queries are those of the entries so far, and as many query events came as they count.
pub record QueriesAgree (settings : Settings) (before : List Entry) (client : Client) (numbers : List ℕ)
    (count : ℕ) : Type 0 where
  pub stand : StandAs (servers_before settings before) (slots_before settings before) client numbers
  pub count_is : count ≡ query_count before

-- what became of the query in a slot, if it ended
abbrev pub outcome_in : Slot → Option Outcome
outcome_in Free = None
outcome_in (Live query) = None
outcome_in (Over number addresses) = Some (outcome_of addresses)

abbrev pub slot_at : List Slot → ℕ → Slot
slot_at slots at = slice_index_or slots at Free

-- the query in a slot is taken out, if it ended
pub record TakesEnded (slots : List Slot) (at : ℕ) (outcome : Option Outcome) (new : List (Option DnsQuery)) : Type 0 where
  pub outcome_is : outcome ≡ outcome_in (slot_at slots at)
  pub freed_is : new ≡ map standing_in (slice_set slots at (freed (slot_at slots at)))
