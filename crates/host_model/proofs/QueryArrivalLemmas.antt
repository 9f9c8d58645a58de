-- What an arrival does to the slots of queries: it ends some, or it adds one, or it is refused.
use Rattle.std.proofs.Common.{◌≡◌, ℕ, suc, List, [], ◌∷◌, Option, Some, None, refl}
use Rattle.std.specs.Prelude.{◌&&◌, ◌==◌, map, nat_le, length, ⊤}
use Rattle.std.specs.Option.{option_map}
use Rattle.std.proofs.lemmas.Bool.{cond_both}
use Rattle.net_wire.specs.declared.address.IpAddress.{IpAddress}
use Rattle.net_wire.specs.Arrival.{arriving_datagram}
use Rattle.net_wire.specs.Datagram.{Datagram}
use Rattle.net_wire.specs.DnsMessage.{rcode_of}
use Rattle.dns_client.specs.declared.error.StartQueryError.{StartQueryError}
use Rattle.dns_client.specs.Response.{is_response}
use Rattle.dns_client.specs.TextName.{labels_of_text, name_fault}
use Rattle.host_model.specs.declared.words.EventWords.{EventWords}
use Rattle.host_model.specs.Hearing.{is_for_client}
use Rattle.host_model.specs.Queries.{arrived_with, counted, hears_datagram}
use Rattle.host_model.specs.QueryAnswers.{after_answer, after_datagram, after_response, answer_in, answered_by, ended_if, first_answered, is_from_dns, reaches_slot}
use Rattle.host_model.specs.QuerySlots.{Query, Slot, Free, Live, Over}
use Rattle.host_model.specs.QueryStart.{Begun, placed, put_query, query_for, started_by}
use Rattle.host_model.specs.Script.{Arrival, Tick, Reset, Frame}
use Rattle.host_model.specs.Script.{Query as QueryEvent}
use Rattle.host_model.specs.Settings.{Settings}

-- some queries end, with addresses or without
pub data Ended : List Slot → List Slot → Type 0 where
  NoMore : Ended [] []
  Same : (slot : Slot) (old new : List Slot) → Ended old new → Ended (slot ∷ old) (slot ∷ new)
  EndsOne : (query : Query) (addresses : List IpAddress) (old new : List Slot) → Ended old new
      → Ended (Live query ∷ old) (Over query.number addresses ∷ new)

none_ends : (slots : List Slot) → Ended slots slots
none_ends [] = NoMore
none_ends (slot ∷ slots) = Same slot slots slots (none_ends slots)

each_reached : (datagram : Datagram) (slots : List Slot) → Ended slots (map (ended_if datagram) slots)
each_reached datagram [] = NoMore
each_reached datagram (Free ∷ slots) = Same Free slots (map (ended_if datagram) slots) (each_reached datagram slots)
each_reached datagram (Over number addresses ∷ slots) =
    Same (Over number addresses) slots (map (ended_if datagram) slots) (each_reached datagram slots)
each_reached datagram (Live query ∷ slots) =
    let more : Ended slots (map (ended_if datagram) slots) = each_reached datagram slots in
    cond_both (reaches_slot datagram (Live query)) (Over query.number []) (Live query)
    (λ slot. Ended (Live query ∷ slots) (slot ∷ map (ended_if datagram) slots))
    (λ reached. EndsOne query [] slots (map (ended_if datagram) slots) more)
    (λ other. Same (Live query) slots (map (ended_if datagram) slots) more)

by_answer : (query : Query) (slots : List Slot) (answer : Option (List IpAddress))
    → Ended (Live query ∷ slots) (answered_by answer (Live query) ∷ slots)
by_answer query slots None = none_ends (Live query ∷ slots)
by_answer query slots (Some addresses) = EndsOne query addresses slots slots (none_ends slots)

first_reached : (datagram : Datagram) (slots : List Slot) → Ended slots (first_answered datagram slots)
first_reached datagram [] = NoMore
first_reached datagram (Free ∷ slots) =
    Same Free slots (first_answered datagram slots) (first_reached datagram slots)
first_reached datagram (Over number addresses ∷ slots) =
    Same (Over number addresses) slots (first_answered datagram slots) (first_reached datagram slots)
first_reached datagram (Live query ∷ slots) =
    let more : Ended slots (first_answered datagram slots) = first_reached datagram slots in
    cond_both (reaches_slot datagram (Live query))
    (answered_by (answer_in datagram.payload (Live query)) (Live query) ∷ slots)
    (Live query ∷ first_answered datagram slots)
    (Ended (Live query ∷ slots))
    (λ reached. by_answer query slots (answer_in datagram.payload (Live query)))
    (λ other. Same (Live query) slots (first_answered datagram slots) more)

datagram_ends : (servers : List IpAddress) (datagram : Datagram) (slots : List Slot)
    → Ended slots (after_datagram servers datagram slots)
datagram_ends servers datagram slots =
    cond_both (is_from_dns servers datagram) (after_response datagram slots) slots (Ended slots)
    (λ heard. cond_both (nat_le 12 (length datagram.payload) && is_response datagram.payload)
    (after_answer datagram slots) slots (Ended slots)
    (λ read. cond_both (rcode_of datagram.payload == 3) (map (ended_if datagram) slots)
    (first_answered datagram slots) (Ended slots) (λ gone. each_reached datagram slots)
    (λ other. first_reached datagram slots))
    (λ other. none_ends slots))
    (λ other. none_ends slots)

heard_ends : (settings : Settings) (servers : List IpAddress) (datagram : Option Datagram) (slots : List Slot)
    → Ended slots (hears_datagram settings servers datagram slots)
heard_ends settings servers None slots = none_ends slots
heard_ends settings servers (Some datagram) slots =
    cond_both (is_for_client settings.client datagram) slots (after_datagram servers datagram slots) (Ended slots)
    (λ dhcp. none_ends slots) (λ other. datagram_ends servers datagram slots)

-- a query takes a free slot
pub data Put (query : Query) : List Slot → List Slot → Type 0 where
  Here : (slots : List Slot) → Put query (Free ∷ slots) (Live query ∷ slots)
  There : (slot : Slot) (old new : List Slot) → Put query old new → Put query (slot ∷ old) (slot ∷ new)

abbrev IsPut : Query → List Slot → Option (List Slot) → Type 0
IsPut query slots None = ⊤
IsPut query slots (Some new) = Put query slots new

put_behind : (query : Query) (slot : Slot) (slots : List Slot) (rest : Option (List Slot)) → IsPut query slots rest
    → IsPut query (slot ∷ slots) (option_map (λ rest. slot ∷ rest) rest)
put_behind query slot slots None put = tt
put_behind query slot slots (Some rest) put = There slot slots rest put

puts : (query : Query) (slots : List Slot) → IsPut query slots (put_query query slots)
puts query [] = tt
puts query (Free ∷ slots) = Here slots
puts query (Live other ∷ slots) = put_behind query (Live other) slots (put_query query slots) (puts query slots)
puts query (Over number addresses ∷ slots) =
    put_behind query (Over number addresses) slots (put_query query slots) (puts query slots)

-- The slots once an event has arrived, which so many query events came before, by how many there are with it.
pub data Arrived (number : ℕ) (old : List Slot) : ℕ → Begun → Type 0 where
  Heard : (new : List Slot) → Ended old new → Arrived number old number (record { slots = new; refused = None })
  Refuses : (fault : StartQueryError)
      → Arrived number old (suc number) (record { slots = old; refused = Some fault })
  Starts : (query : Query) (new : List Slot) → query.number ≡ number → query.looks ≡ [] → Put query old new
      → Arrived number old (suc number) (record { slots = new; refused = None })

by_place : (number : ℕ) (query : Query) (slots : List Slot) (new : Option (List Slot)) → query.number ≡ number
    → query.looks ≡ [] → IsPut query slots new → Arrived number slots (suc number) (placed slots new)
by_place number query slots None is none put = Refuses _
by_place number query slots (Some new) is none put = Starts query new is none put

by_fault : (number : ℕ) (query : Query) (slots : List Slot) (fault : Option StartQueryError) → query.number ≡ number
    → query.looks ≡ [] → Arrived number slots (suc number) (started_by fault query slots)
by_fault number query slots None is none = by_place number query slots (put_query query slots) is none (puts query slots)
by_fault number query slots (Some fault) is none = Refuses fault

pub arrives : (settings : Settings) (servers : List IpAddress) (number : ℕ) (arrival : Arrival) (words : EventWords)
    (slots : List Slot)
    → Arrived number slots (counted arrival number) (arrived_with settings servers number arrival words slots)
arrives settings servers number Tick words slots = Heard slots (none_ends slots)
arrives settings servers number Reset words slots = Heard slots (none_ends slots)
arrives settings servers number (Frame bytes) words slots =
    Heard (hears_datagram settings servers (arriving_datagram settings.hardware bytes) slots)
    (heard_ends settings servers (arriving_datagram settings.hardware bytes) slots)
arrives settings servers number (QueryEvent type_ name) words slots =
    by_fault number (query_for number type_ name words) slots (name_fault 0 (labels_of_text name)) refl refl
