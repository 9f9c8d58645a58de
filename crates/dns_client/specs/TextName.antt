-- Names as they are written, with a point between labels (RFC 1035, section 2.3.1), and what is wrong with
-- them.
use Rattle.std.specs.Prelude.{ℕ, ◌+◌, ◌-◌, ◌==◌, ◌||◌, nat_lt, nat_eq, List, [], ◌∷◌, length, take, slice_index, Option, Some, None, Result, Ok, Err, codes, if◌then◌else◌}
use Rattle.std.specs.List.{slice_split}
use Rattle.std.specs.Cmp.Lexicographic.{pointwise}
use Rattle.arrayvec.specs.ArrayVec.{ArrayVec}
use Rattle.dns_client.specs.declared.error.StartQueryError.{StartQueryError}
use Rattle.dns_client.specs.declared.error.StartQueryError.TheVariants.{InvalidName, NameTooLong}
use Rattle.dns_client.specs.declared.query.MulticastDns.{MulticastDns}
use Rattle.dns_client.specs.declared.query.MulticastDns.TheVariants.{Disabled, Enabled}
use Rattle.dns_client.specs.PlainName.{wire_bytes}

-- a text without one closing point
abbrev pub without_point : List ℕ → List ℕ
without_point text = if slice_index text (length text - 1) == 46 then take (length text - 1) text else text

-- the parts between points
abbrev pub parts_of : List ℕ → List (List ℕ)
parts_of text = slice_split (λ b. b == 46) text

abbrev pub labels_of_text : List ℕ → List (List ℕ)
labels_of_text text = parts_of (without_point text)

-- A label has 1 to 63 bytes (RFC 1035, section 2.3.4). With its length byte and the bytes before, of which
-- there are so many, it stays within 255.
abbrev pub label_fault : ℕ → List ℕ → Option StartQueryError
label_fault len label =
    if (length label == 0) || nat_lt 63 (length label) then Some InvalidName
    else if nat_lt 255 (len + (1 + length label)) then Some NameTooLong else None

-- the closing zero does too
abbrev pub end_fault : ℕ → Option StartQueryError
end_fault len = if nat_lt 255 (len + 1) then Some NameTooLong else None

abbrev pub first_fault : Option StartQueryError → Option StartQueryError → Option StartQueryError
first_fault None next = next
first_fault (Some fault) next = Some fault

-- the first fault from the front, behind so many bytes
abbrev pub name_fault : ℕ → List (List ℕ) → Option StartQueryError
name_fault len [] = end_fault len
name_fault len (label ∷ labels) =
    first_fault (label_fault len label) (name_fault (len + (1 + length label)) labels)

-- a name whose last label is `local` is asked for by mDNS (RFC 6762, section 3)
abbrev pub mdns_of_label : List ℕ → MulticastDns
mdns_of_label label = if pointwise nat_eq label (codes "local") then Enabled else Disabled

abbrev pub mdns_from : MulticastDns → List (List ℕ) → MulticastDns
mdns_from before [] = before
mdns_from before (label ∷ labels) = mdns_from (mdns_of_label label) labels

abbrev pub mdns_of : List (List ℕ) → MulticastDns
mdns_of labels = mdns_from Disabled labels

-- what a text asks for, or its first fault
abbrev pub bytes_or_fault : Option StartQueryError → List (List ℕ)
    → Result (ArrayVec ℕ × MulticastDns) StartQueryError
bytes_or_fault None labels = Ok (record { items = wire_bytes labels }, mdns_of labels)
bytes_or_fault (Some fault) labels = Err fault

abbrev pub bytes_of_text : List ℕ → Result (ArrayVec ℕ × MulticastDns) StartQueryError
bytes_of_text text = bytes_or_fault (name_fault 0 (labels_of_text text)) (labels_of_text text)

-- the bytes of the name that a text spells
abbrev pub wire_name : List ℕ → List ℕ
wire_name text = wire_bytes (labels_of_text text)

-- the labels still to come, where a point may have been the last byte
abbrev pub parts_behind : Option (List ℕ) → List (List ℕ)
parts_behind None = []
parts_behind (Some text) = parts_of text
