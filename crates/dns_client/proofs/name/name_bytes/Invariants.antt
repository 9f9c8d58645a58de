-- The labels so far have no fault, and their bytes are written.
use Rattle.std.proofs.Common.{◌≡◌, ℕ, suc, ◌++◌, length, List, Option, Some, None}
use Rattle.std.specs.Option.{option_copied}
use Rattle.dns_client.specs.PlainName.{wire_bytes}
use Rattle.dns_client.specs.TextName.{parts_behind, labels_of_text, name_fault, mdns_from, mdns_of}
use Rattle.dns_client.proofs.name.name_bytes.Given as goal

abbrev left : Option (List ℕ) → ℕ
left None = 0
left (Some text) = suc (length text)

abbrev pub invariant-loop-rest : goal.invariant-loop-rest
invariant-loop-rest l =
    let rest = parts_behind (option_copied l.rest) in
    let all = labels_of_text l.name in
    record {
      scanned : name_fault (length l.bytes.items) rest ≡ name_fault 0 all;
      written : l.bytes.items ++ wire_bytes rest ≡ wire_bytes all;
      named : mdns_from l.mdns rest ≡ mdns_of all;
    }

abbrev pub decreases-loop-rest : goal.decreases-loop-rest
decreases-loop-rest l = left (option_copied l.rest)
