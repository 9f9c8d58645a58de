-- A response that leaves no query over leaves every query.
use Rattle.std.proofs.Common.{◌≡◌, ℕ, Bool, true, false, cond, List, [], ◌∷◌, map, length, nat_le, Option, Some, None, refl, ap, ap₂}
use Rattle.std.specs.Prelude.{◌&&◌, ◌==◌}
use Rattle.net_wire.specs.declared.address.IpAddress.{IpAddress}
use Rattle.net_wire.specs.Datagram.{Datagram}
use Rattle.net_wire.specs.DnsMessage.{rcode_of}
use Rattle.dns_client.specs.Response.{is_response}
use Rattle.host_model.specs.QueryAnswers.{after_answer, after_response, answer_in, answered_by, ended_if, first_answered, reaches_query}
use Rattle.host_model.specs.QuerySlots.{Query, Slot, Free, Live, Over}
use Rattle.frame_verdict.specs.declared.verdict.Reason.{Reason}
use Rattle.frame_verdict.specs.declared.verdict.Verdict.TheVariants.{Ignored}
use Rattle.frame_verdict.specs.ResponseVerdict.{lowest_over, verdict_of_decided, verdict_of_response}

-- no query of the slots has ended
abbrev AllGoOn : List Slot → Type 0
AllGoOn slots = lowest_over slots ≡ None

-- a slot in front goes on too, and so do those behind it
behind : (slot : Slot) (slots : List Slot) → AllGoOn (slot ∷ slots) → AllGoOn slots
behind Free slots none = none
behind (Live query) slots none = none
behind (Over number addresses) slots none = (let clash = none in cc)

ended_one : (query : Query) (reached : Bool) (slots : List Slot)
    → AllGoOn (cond reached (Over query.number []) (Live query) ∷ slots)
    → cond reached (Over query.number []) (Live query) ≡ Live query
ended_one query false slots none = refl
ended_one query true slots none = (let clash = none in cc)

ended_slot : (datagram : Datagram) (slot : Slot) (slots : List Slot)
    → AllGoOn (ended_if datagram slot ∷ slots) → ended_if datagram slot ≡ slot
ended_slot datagram Free slots none = refl
ended_slot datagram (Live query) slots none = ended_one query (reaches_query datagram query) slots none
ended_slot datagram (Over number addresses) slots none = refl

none_ended : (datagram : Datagram) (slots : List Slot)
    → AllGoOn (map (ended_if datagram) slots) → map (ended_if datagram) slots ≡ slots
none_ended datagram [] none = refl
none_ended datagram (slot ∷ slots) none =
    ap₂ (λ one more. one ∷ more) (ended_slot datagram slot (map (ended_if datagram) slots) none)
    (none_ended datagram slots (behind (ended_if datagram slot) (map (ended_if datagram) slots) none))

answered_one : (query : Query) (answer : Option (List IpAddress)) (slots : List Slot)
    → AllGoOn (answered_by answer (Live query) ∷ slots) → answered_by answer (Live query) ≡ Live query
answered_one query None slots none = refl
answered_one query (Some addresses) slots none = (let clash = none in cc)

first_of : (datagram : Datagram) (query : Query) (slots : List Slot) (reached : Bool)
    → (AllGoOn (first_answered datagram slots) → first_answered datagram slots ≡ slots)
    → AllGoOn (cond reached (answered_by (answer_in datagram.payload (Live query)) (Live query) ∷ slots)
    (Live query ∷ first_answered datagram slots))
    → cond reached (answered_by (answer_in datagram.payload (Live query)) (Live query) ∷ slots)
    (Live query ∷ first_answered datagram slots) ≡ Live query ∷ slots
first_of datagram query slots true later none =
    ap (λ one. one ∷ slots) (answered_one query (answer_in datagram.payload (Live query)) slots none)
first_of datagram query slots false later none = ap (λ more. Live query ∷ more) (later none)

none_answered : (datagram : Datagram) (slots : List Slot)
    → AllGoOn (first_answered datagram slots) → first_answered datagram slots ≡ slots
none_answered datagram [] none = refl
none_answered datagram (Free ∷ slots) none = ap (λ more. Free ∷ more) (none_answered datagram slots none)
none_answered datagram (Live query ∷ slots) none =
    first_of datagram query slots (reaches_query datagram query) (none_answered datagram slots) none
none_answered datagram (Over number addresses ∷ slots) none = (let clash = none in cc)

answers : (datagram : Datagram) (slots : List Slot) (gone : Bool)
    → AllGoOn (cond gone (map (ended_if datagram) slots) (first_answered datagram slots))
    → cond gone (map (ended_if datagram) slots) (first_answered datagram slots) ≡ slots
answers datagram slots true none = none_ended datagram slots none
answers datagram slots false none = none_answered datagram slots none

responds : (datagram : Datagram) (slots : List Slot) (is_one : Bool)
    → AllGoOn (cond is_one (after_answer datagram slots) slots) → cond is_one (after_answer datagram slots) slots ≡ slots
responds datagram slots true none = answers datagram slots (rcode_of datagram.payload == 3) none
responds datagram slots false none = refl

none_over : (why : Reason) (found : Option ℕ) → verdict_of_decided found ≡ Ignored why → found ≡ None
none_over why None said = refl
none_over why (Some number) said = (let clash = said in cc)

pub decides_nothing : (datagram : Datagram) (slots : List Slot) (why : Reason)
    → verdict_of_response (after_response datagram slots) ≡ Ignored why → after_response datagram slots ≡ slots
decides_nothing datagram slots why said =
    responds datagram slots (nat_le 12 (length datagram.payload) && is_response datagram.payload)
    (none_over why (lowest_over (after_response datagram slots)) said)
