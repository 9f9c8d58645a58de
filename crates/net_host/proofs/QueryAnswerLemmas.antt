-- A response does to the client's slots what it does to the queries that stand in them.
use Rattle.std.proofs.Common.{◌≡◌, ℕ, ◌&&◌, Bool, true, false, cond, eqb, List, [], ◌∷◌, length, map, Option, Some, None, refl, ◌∙◌, ap, ap₂}
use Rattle.std.specs.Prelude.{nat_le}
use Rattle.std.specs.Option.{option_map}
use Rattle.net_wire.specs.declared.address.IpAddress.{IpAddress}
use Rattle.net_wire.specs.declared.address.IpAddress.TheVariants as ip
use Rattle.net_wire.specs.Datagram.{Datagram}
use Rattle.net_wire.specs.DnsMessage.{message_id, rcode_of}
use Rattle.dns_client.specs.declared.query.DnsQuery.{DnsQuery}
use Rattle.dns_client.specs.Response as client
use Rattle.dns_client.specs.Response.{arrived_by, is_accepted, is_response, answer_for, settled}
use Rattle.host_model.specs.QueryAnswers.{is_from_asked, reaches_slot, ended_with, ended_if, answered_by, answer_in}
use Rattle.host_model.specs.QueryAnswers.{first_answered, after_response}
use Rattle.host_model.specs.QuerySlots.{Query, Slot, Free, Live, Over}
use Rattle.host_model.specs.QueryTurns.{Look, asked_of, turn_of}
use Rattle.net_host.specs.QueryStanding.{standing_in, turn_for}

-- where the last message went is told by the turn
asked_is : (looks : List Look) → (turn_for (asked_of looks) (turn_of looks)).asked ≡ option_map ip.Ipv4 (asked_of looks)
asked_is [] = refl
asked_is (look ∷ before) = refl

module _ (datagram : Datagram) where
  reaches_is : (slot : Slot)
      → client.reaches (arrived_by (ip.Ipv4 datagram.source) datagram.source_port datagram.destination_port datagram.payload) (standing_in slot)
      ≡ reaches_slot datagram slot
  reaches_is Free = refl
  reaches_is (Live query) =
      ap (λ asked. eqb datagram.destination_port query.request.port && eqb (message_id datagram.payload) query.request.id
      && is_from_asked datagram query.request.mdns asked) (asked_is query.looks)
  reaches_is (Over number []) = refl
  reaches_is (Over number (address ∷ more)) = refl

  -- a query that ends stands as what it gave
  over_is : (addresses : List IpAddress) (number : ℕ) (slot : Option DnsQuery)
      → settled (Some addresses) slot ≡ standing_in (Over number addresses)
  over_is [] number slot = refl
  over_is (address ∷ more) number slot = refl

  failed_by : (query : Query) (reached : Bool)
      → cond reached client.failed (standing_in (Live query)) ≡ standing_in (cond reached (ended_with [] (Live query)) (Live query))
  failed_by query true = refl
  failed_by query false = refl

  fails_is : (slot : Slot)
      → client.failed_if (arrived_by (ip.Ipv4 datagram.source) datagram.source_port datagram.destination_port datagram.payload) (standing_in slot)
      ≡ standing_in (ended_if datagram slot)
  fails_is Free = refl
  fails_is (Live query) =
      ap (λ reached. cond reached client.failed (standing_in (Live query))) (reaches_is (Live query))
      ∙ failed_by query (reaches_slot datagram (Live query))
  fails_is (Over number []) = refl
  fails_is (Over number (address ∷ more)) = refl

  all_fail : (slots : List Slot)
      → map (client.failed_if (arrived_by (ip.Ipv4 datagram.source) datagram.source_port datagram.destination_port datagram.payload)) (map standing_in slots)
      ≡ map standing_in (map (ended_if datagram) slots)
  all_fail [] = refl
  all_fail (slot ∷ slots) = ap₂ (λ one more. one ∷ more) (fails_is slot) (all_fail slots)

  answers_with : (query : Query) (answer : Option (List IpAddress))
      → settled answer (standing_in (Live query)) ≡ standing_in (answered_by answer (Live query))
  answers_with query None = refl
  answers_with query (Some addresses) = over_is addresses query.number (standing_in (Live query))

  first_by : (query : Query) (slots : List Slot) (reached : Bool) (rest : List (Option DnsQuery))
      → rest ≡ map standing_in (first_answered datagram slots)
      → cond reached (client.decided datagram.payload (standing_in (Live query)) ∷ map standing_in slots) (standing_in (Live query) ∷ rest)
      ≡ map standing_in (cond reached (answered_by (answer_in datagram.payload (Live query)) (Live query) ∷ slots) (Live query ∷ first_answered datagram slots))
  first_by query slots true rest is =
      ap (λ one. one ∷ map standing_in slots) (answers_with query (answer_for datagram.payload query.request))
  first_by query slots false rest is = ap (λ more. standing_in (Live query) ∷ more) is

  first_is : (slots : List Slot)
      → client.first_decided (arrived_by (ip.Ipv4 datagram.source) datagram.source_port datagram.destination_port datagram.payload) datagram.payload (map standing_in slots)
      ≡ map standing_in (first_answered datagram slots)
  first_is [] = refl
  first_is (Free ∷ slots) = ap (λ more. None ∷ more) (first_is slots)
  first_is (Live query ∷ slots) =
      ap (λ reached. cond reached (client.decided datagram.payload (standing_in (Live query)) ∷ map standing_in slots)
      (standing_in (Live query) ∷ client.first_decided (arrived_by (ip.Ipv4 datagram.source) datagram.source_port datagram.destination_port datagram.payload) datagram.payload (map standing_in slots)))
      (reaches_is (Live query))
      ∙ first_by query slots (reaches_slot datagram (Live query)) _ (first_is slots)
  first_is (Over number [] ∷ slots) = ap (λ more. client.failed ∷ more) (first_is slots)
  first_is (Over number (address ∷ more) ∷ slots) =
      ap (λ rest. standing_in (Over number (address ∷ more)) ∷ rest) (first_is slots)

  heard_by : (gone whole : Bool) (slots : List Slot)
      → cond whole (cond gone (map (client.failed_if (arrived_by (ip.Ipv4 datagram.source) datagram.source_port datagram.destination_port datagram.payload)) (map standing_in slots))
      (client.first_decided (arrived_by (ip.Ipv4 datagram.source) datagram.source_port datagram.destination_port datagram.payload) datagram.payload (map standing_in slots)))
      (map standing_in slots)
      ≡ map standing_in (cond whole (cond gone (map (ended_if datagram) slots) (first_answered datagram slots)) slots)
  heard_by gone false slots = refl
  heard_by true true slots = all_fail slots
  heard_by false true slots = first_is slots

  -- the client's slots after a response
  pub response_is : (slots : List Slot)
      → client.after_response (arrived_by (ip.Ipv4 datagram.source) datagram.source_port datagram.destination_port datagram.payload) datagram.payload (map standing_in slots)
      ≡ map standing_in (after_response datagram slots)
  response_is slots =
      heard_by (eqb (rcode_of datagram.payload) 3) (nat_le 12 (length datagram.payload) && is_response datagram.payload) slots
