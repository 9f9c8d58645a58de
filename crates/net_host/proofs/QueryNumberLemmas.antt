-- A response ends queries, and leaves their numbers.
use Rattle.std.proofs.Common.{◌≡◌, ℕ, ◌&&◌, Bool, true, false, cond, eqb, List, [], ◌∷◌, length, map, Option, Some, None, refl, sym, ◌∙◌, ap, ap₂}
use Rattle.std.specs.Prelude.{nat_le}
use Rattle.net_wire.specs.declared.address.IpAddress.{IpAddress}
use Rattle.net_wire.specs.declared.address.IpAddress.TheVariants as ip
use Rattle.net_wire.specs.Datagram.{Datagram}
use Rattle.net_wire.specs.DnsMessage.{rcode_of}
use Rattle.dns_client.specs.Client.{Client}
use Rattle.dns_client.specs.Response as client
use Rattle.dns_client.specs.Response.{arrived_by, is_accepted, is_response}
use Rattle.host_model.specs.QueryAnswers.{reaches_slot, ended_with, ended_if, answered_by, answer_in}
use Rattle.host_model.specs.QueryAnswers.{first_answered, after_response, after_datagram, is_from_dns}
use Rattle.host_model.specs.QuerySlots.{Slot, Free, Live, Over}
use Rattle.net_host.specs.QueryStanding.{StandAs, standing_in, number_in}
use Rattle.net_host.proofs.QueryAnswerLemmas.{response_is}

ended_number : (addresses : List IpAddress) (slot : Slot) → number_in (ended_with addresses slot) ≡ number_in slot
ended_number addresses Free = refl
ended_number addresses (Live query) = refl
ended_number addresses (Over number before) = refl

answered_number : (answer : Option (List IpAddress)) (slot : Slot) → number_in (answered_by answer slot) ≡ number_in slot
answered_number None slot = refl
answered_number (Some addresses) slot = ended_number addresses slot

if_number : (reached : Bool) (slot : Slot) → number_in (cond reached (ended_with [] slot) slot) ≡ number_in slot
if_number true slot = ended_number [] slot
if_number false slot = refl

module _ (datagram : Datagram) where
  all_numbers : (slots : List Slot) → map number_in (map (ended_if datagram) slots) ≡ map number_in slots
  all_numbers [] = refl
  all_numbers (slot ∷ slots) = ap₂ (λ one more. one ∷ more) (if_number (reaches_slot datagram slot) slot) (all_numbers slots)

  first_by : (reached : Bool) (slot : Slot) (slots : List Slot) → map number_in (first_answered datagram slots) ≡ map number_in slots
      → map number_in (cond reached (answered_by (answer_in datagram.payload slot) slot ∷ slots) (slot ∷ first_answered datagram slots))
      ≡ map number_in (slot ∷ slots)
  first_by true slot slots rest =
      ap (λ one. one ∷ map number_in slots) (answered_number (answer_in datagram.payload slot) slot)
  first_by false slot slots rest = ap (λ more. number_in slot ∷ more) rest

  first_numbers : (slots : List Slot) → map number_in (first_answered datagram slots) ≡ map number_in slots
  first_numbers [] = refl
  first_numbers (slot ∷ slots) = first_by (reaches_slot datagram slot) slot slots (first_numbers slots)

  heard_by : (gone whole : Bool) (slots : List Slot)
      → map number_in (cond whole (cond gone (map (ended_if datagram) slots) (first_answered datagram slots)) slots)
      ≡ map number_in slots
  heard_by gone false slots = refl
  heard_by true true slots = all_numbers slots
  heard_by false true slots = first_numbers slots

  response_numbers : (slots : List Slot) → map number_in (after_response datagram slots) ≡ map number_in slots
  response_numbers slots =
      heard_by (eqb (rcode_of datagram.payload) 3) (nat_le 12 (length datagram.payload) && is_response datagram.payload) slots

  accepted_by : (accepted : Bool) (slots : List Slot) → accepted ≡ true
      → cond accepted (after_response datagram slots) slots ≡ after_response datagram slots
  accepted_by true slots is = refl
  accepted_by false slots is = let no : ⊥ = cc in absurd no

  -- queries that a response was told stand as it leaves them
  pub response_stands : (servers : List IpAddress) (slots : List Slot) (numbers : List ℕ) (old new : Client)
      → StandAs servers slots old numbers
      → is_accepted old.servers (ip.Ipv4 datagram.source) datagram.source_port ≡ true
      → new ≡ record old {
        slots = client.after_response
            (arrived_by (ip.Ipv4 datagram.source) datagram.source_port datagram.destination_port datagram.payload)
            datagram.payload old.slots;
      }
      → StandAs servers (after_datagram servers datagram slots) new numbers
  response_stands servers slots numbers old new stand accepted is =
      let heard = accepted_by (is_from_dns servers datagram) slots
      (sym (ap (λ list. is_accepted list (ip.Ipv4 datagram.source) datagram.source_port) stand.servers_are) ∙ accepted) in
      record {
        servers_are = ap (λ client. client.servers) is ∙ stand.servers_are;
        slots_are = ap (λ client. client.slots) is
            ∙ ap (λ list. client.after_response
            (arrived_by (ip.Ipv4 datagram.source) datagram.source_port datagram.destination_port datagram.payload)
            datagram.payload list) stand.slots_are
            ∙ response_is datagram slots ∙ ap (λ list. map standing_in list) (sym heard);
        numbers_are = stand.numbers_are ∙ sym (response_numbers slots) ∙ ap (λ list. map number_in list) (sym heard);
        no_hop_limit = ap (λ client. client.hop_limit) is ∙ stand.no_hop_limit;
      }
