-- How a query event starts a query, or is refused.
use Rattle.std.specs.Prelude.{ℕ, List, [], ◌∷◌, Option, Some, None}
use Rattle.std.specs.Option.{option_map}
use Rattle.net_wire.specs.declared.dns.dns_type.DnsType.{DnsType}
use Rattle.dns_client.specs.declared.error.StartQueryError.{StartQueryError}
use Rattle.dns_client.specs.declared.error.StartQueryError.TheVariants.{NoFreeSlot}
use Rattle.dns_client.specs.Query.{request_with}
use Rattle.dns_client.specs.TextName.{labels_of_text, name_fault, wire_name, mdns_of}
use Rattle.dns_client.specs.Waiting.{RequestValue}
use Rattle.host_model.specs.declared.words.EventWords.{EventWords}
use Rattle.host_model.specs.QuerySlots.{Query, Slot, Free, Live, Over}

-- what a query event asks for: its id and its port come of the second and the third word
abbrev pub request_for : DnsType → List ℕ → EventWords → RequestValue
request_for type_ name words =
    request_with (wire_name name) type_ (mdns_of (labels_of_text name)) words.second words.third

-- a query that was not looked at yet
abbrev pub query_for : ℕ → DnsType → List ℕ → EventWords → Query
query_for number type_ name words =
    record { number = number; request = request_for type_ name words; looks = [] }

-- the slots with a query in the lowest free one, if one is free
abbrev pub put_query : Query → List Slot → Option (List Slot)
put_query query [] = None
put_query query (Free ∷ slots) = Some (Live query ∷ slots)
put_query query (Live other ∷ slots) = option_map (λ rest. Live other ∷ rest) (put_query query slots)
put_query query (Over number addresses ∷ slots) =
    option_map (λ rest. Over number addresses ∷ rest) (put_query query slots)

-- the slots once an event has arrived, and why its query was refused, if it was
pub record Begun : Type 0 where
  pub slots : List Slot
  pub refused : Option StartQueryError

abbrev pub placed : List Slot → Option (List Slot) → Begun
placed slots None = record { slots = slots; refused = Some NoFreeSlot }
placed slots (Some filled) = record { slots = filled; refused = None }

-- the first fault of the name goes before the want of a slot
abbrev pub started_by : Option StartQueryError → Query → List Slot → Begun
started_by None query slots = placed slots (put_query query slots)
started_by (Some fault) query slots = record { slots = slots; refused = Some fault }

abbrev pub started : ℕ → DnsType → List ℕ → EventWords → List Slot → Begun
started number type_ name words slots =
    started_by (name_fault 0 (labels_of_text name)) (query_for number type_ name words) slots
