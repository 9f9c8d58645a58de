-- The queries in the slots of a host ask for what fits a datagram.
use Rattle.std.proofs.Common.{◌≡◌, ℕ, zero, suc, List, [], ◌∷◌, Option, Some, None, length, map, refl}
use Rattle.std.specs.Prelude.{⊤, ◌==◌, ◌&&◌, nat_le, replicate}
use Rattle.std.specs.List.{AllByRecursion}
use Rattle.std.specs.Option.{option_map}
use Rattle.std.proofs.lemmas.Bool.{cond_both}
use Rattle.net_wire.specs.declared.address.IpAddress.{IpAddress}
use Rattle.net_wire.specs.Arrival.{arriving_datagram}
use Rattle.net_wire.specs.Datagram.{Datagram}
use Rattle.net_wire.specs.DnsMessage.{rcode_of}
use Rattle.dns_client.specs.declared.error.StartQueryError.{StartQueryError}
use Rattle.dns_client.specs.Response.{is_response}
use Rattle.dns_client.specs.TextName.{labels_of_text, name_fault}
use Rattle.host_model.specs.declared.words.EventWords.{EventWords}
use Rattle.host_model.specs.Hearing.{is_for_client}
use Rattle.host_model.specs.Queries.{arrived_with, hears_datagram}
use Rattle.host_model.specs.QueryAnswers.{after_answer, after_datagram, after_response, answer_in, answered_by, ended_if, ended_with, first_answered, is_from_dns, reaches_slot}
use Rattle.host_model.specs.QuerySlots.{Query, Slot, Free, Live, Over, freed, no_queries}
use Rattle.host_model.specs.QueryStart.{placed, put_query, query_for, started_by}
use Rattle.host_model.specs.Script as script
use Rattle.host_model.specs.Script.{Arrival, Tick, Reset, Frame}
use Rattle.host_model.specs.Settings.{Settings}
use Rattle.host_model.proofs.RequestSizeLemmas.{FitsRequest, request_fits}

-- the query in a slot, if there is one, asks for what fits
abbrev pub FitsSlot : Slot → Type 0
FitsSlot Free = ⊤
FitsSlot (Live query) = FitsRequest query.request
FitsSlot (Over number addresses) = ⊤

abbrev pub FitSlots : List Slot → Type 0
FitSlots slots = AllByRecursion FitsSlot slots

free_fit : (count : ℕ) → FitSlots (replicate count Free)
free_fit zero = tt
free_fit (suc count) = (tt, free_fit count)

pub none_fit : FitSlots no_queries
none_fit = free_fit 16

slots_mapped : (change : Slot → Slot) → ((slot : Slot) → FitsSlot slot → FitsSlot (change slot))
    → (slots : List Slot) → FitSlots slots → FitSlots (map change slots)
slots_mapped change keeps [] fit = tt
slots_mapped change keeps (slot ∷ slots) fit = (keeps slot fit.0, slots_mapped change keeps slots fit.1)

freed_fits : (slot : Slot) → FitsSlot slot → FitsSlot (freed slot)
freed_fits Free fits = tt
freed_fits (Live query) fits = fits
freed_fits (Over number addresses) fits = tt

pub all_freed_fit : (slots : List Slot) → FitSlots slots → FitSlots (map freed slots)
all_freed_fit slots fit = slots_mapped freed freed_fits slots fit

ended_fits : (addresses : List IpAddress) (slot : Slot) → FitsSlot slot → FitsSlot (ended_with addresses slot)
ended_fits addresses Free fits = tt
ended_fits addresses (Live query) fits = tt
ended_fits addresses (Over number before) fits = tt

ended_if_fits : (datagram : Datagram) (slot : Slot) → FitsSlot slot → FitsSlot (ended_if datagram slot)
ended_if_fits datagram slot fits =
    cond_both (reaches_slot datagram slot) (ended_with [] slot) slot FitsSlot
    (λ reached. ended_fits [] slot fits) (λ other. fits)

answered_fits : (answer : Option (List IpAddress)) (slot : Slot) → FitsSlot slot
    → FitsSlot (answered_by answer slot)
answered_fits None slot fits = fits
answered_fits (Some addresses) slot fits = ended_fits addresses slot fits

first_fits : (datagram : Datagram) (slots : List Slot) → FitSlots slots
    → FitSlots (first_answered datagram slots)
first_fits datagram [] fit = tt
first_fits datagram (slot ∷ slots) fit =
    cond_both (reaches_slot datagram slot) (answered_by (answer_in datagram.payload slot) slot ∷ slots)
    (slot ∷ first_answered datagram slots) FitSlots
    (λ reached. (answered_fits (answer_in datagram.payload slot) slot fit.0, fit.1))
    (λ other. (fit.0, first_fits datagram slots fit.1))

-- a datagram only ends queries
datagram_fits : (servers : List IpAddress) (datagram : Datagram) (slots : List Slot) → FitSlots slots
    → FitSlots (after_datagram servers datagram slots)
datagram_fits servers datagram slots fit =
    cond_both (is_from_dns servers datagram) (after_response datagram slots) slots FitSlots
    (λ from. cond_both (nat_le 12 (length datagram.payload) && is_response datagram.payload)
    (after_answer datagram slots) slots FitSlots
    (λ response. cond_both (rcode_of datagram.payload == 3) (map (ended_if datagram) slots)
    (first_answered datagram slots) FitSlots
    (λ no_name. slots_mapped (ended_if datagram) (ended_if_fits datagram) slots fit)
    (λ answer. first_fits datagram slots fit))
    (λ other. fit))
    (λ other. fit)

heard_fits : (settings : Settings) (servers : List IpAddress) (found : Option Datagram) (slots : List Slot)
    → FitSlots slots → FitSlots (hears_datagram settings servers found slots)
heard_fits settings servers None slots fit = fit
heard_fits settings servers (Some datagram) slots fit =
    cond_both (is_for_client settings.client datagram) slots (after_datagram servers datagram slots) FitSlots
    (λ dhcp. fit) (λ other. datagram_fits servers datagram slots fit)

abbrev FitSlotsIn : Option (List Slot) → Type 0
FitSlotsIn None = ⊤
FitSlotsIn (Some slots) = FitSlots slots

behind_fits : (slot : Slot) (found : Option (List Slot)) → FitsSlot slot → FitSlotsIn found
    → FitSlotsIn (option_map (λ rest. slot ∷ rest) found)
behind_fits slot None fits fit = tt
behind_fits slot (Some slots) fits fit = (fits, fit)

put_fits : (query : Query) (slots : List Slot) → FitsRequest query.request → FitSlots slots
    → FitSlotsIn (put_query query slots)
put_fits query [] fits fit = tt
put_fits query (Free ∷ slots) fits fit = (fits, fit.1)
put_fits query (Live other ∷ slots) fits fit =
    behind_fits (Live other) (put_query query slots) fit.0 (put_fits query slots fits fit.1)
put_fits query (Over number addresses ∷ slots) fits fit =
    behind_fits (Over number addresses) (put_query query slots) tt (put_fits query slots fits fit.1)

placed_fits : (slots : List Slot) (found : Option (List Slot)) → FitSlots slots → FitSlotsIn found
    → FitSlots (placed slots found).slots
placed_fits slots None fit found_fit = fit
placed_fits slots (Some filled) fit found_fit = found_fit

started_fits : (fault : Option StartQueryError) (query : Query) (slots : List Slot)
    → (fault ≡ None → FitsRequest query.request) → FitSlots slots
    → FitSlots (started_by fault query slots).slots
started_fits None query slots fits fit =
    placed_fits slots (put_query query slots) fit (put_fits query slots (fits refl) fit)
started_fits (Some fault) query slots fits fit = fit

-- what arrives leaves queries that fit
pub arrived_fits : (settings : Settings) (servers : List IpAddress) (number : ℕ) (arrival : Arrival)
    (words : EventWords) (slots : List Slot) → FitSlots slots
    → FitSlots (arrived_with settings servers number arrival words slots).slots
arrived_fits settings servers number Tick words slots fit = fit
arrived_fits settings servers number Reset words slots fit = fit
arrived_fits settings servers number (Frame bytes) words slots fit =
    heard_fits settings servers (arriving_datagram settings.hardware bytes) slots fit
arrived_fits settings servers number (script.Query type_ name) words slots fit =
    started_fits (name_fault 0 (labels_of_text name)) (query_for number type_ name words) slots
    (request_fits type_ name words) fit
