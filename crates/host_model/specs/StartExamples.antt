-- Closed examples of how queries begin and what is said of those that end.
use Rattle.std.specs.Prelude.{◌≡◌, ℕ, List, [], ◌∷◌, ◌++◌, Some, None, codes, replicate}
use Rattle.net_wire.specs.declared.dns.dns_type.DnsType.TheVariants as dns
use Rattle.dns_client.specs.declared.error.StartQueryError.TheVariants.{InvalidName, NoFreeSlot}
use Rattle.dns_client.specs.declared.query.MulticastDns.TheVariants.{Disabled, Enabled}
use Rattle.dns_client.specs.Examples.{ipv4, label}
use Rattle.host_model.specs.declared.query_line.Outcome.TheVariants.{Answered, Failed}
use Rattle.host_model.specs.declared.words.EventWords.{EventWords}
use Rattle.host_model.specs.LookExamples.{new}
use Rattle.host_model.specs.QueryLines.{line_of, lines_of}
use Rattle.host_model.specs.QuerySlots.{Slot, Free, Over}
use Rattle.host_model.specs.QueryStart.{Begun, request_for, started}

abbrev pub words_with : ℕ → ℕ → EventWords
words_with second third = record { first = 0; second = second; third = third }

-- a query event with the number 20
abbrev pub begun : List ℕ → List Slot → Begun
begun name slots = started 20 dns.A name (words_with 7 0) slots

abbrev pub full : List Slot
full = replicate 16 (new 0)

-- The lowest free slot is taken; of 16 the seventeenth finds none. What is wrong with the name is said first.
pub record StartsByExample : Type 0 where
  pub lowest : begun (codes "a") (new 0 ∷ Free ∷ new 1 ∷ Free ∷ [])
      ≡ record { slots = new 0 ∷ new 20 ∷ new 1 ∷ Free ∷ []; refused = None }
  pub last : begun (codes "a") (replicate 15 (new 0) ++ Free ∷ [])
      ≡ record { slots = replicate 15 (new 0) ++ new 20 ∷ []; refused = None }
  pub no_slot : begun (codes "a") full ≡ record { slots = full; refused = Some NoFreeSlot }
  pub wrong_name : begun (codes "a..b") (Free ∷ [])
      ≡ record { slots = Free ∷ []; refused = Some InvalidName }
  pub name_first : begun (codes "a..b") full ≡ record { slots = full; refused = Some InvalidName }
  pub long_first : begun (label 64) full ≡ record { slots = full; refused = Some InvalidName }

-- the id is a word modulo 65536, the port 1025 and a word modulo 64511
pub record RequestsByExample : Type 0 where
  pub greatest : request_for dns.Aaaa (codes "a.b") (words_with 65535 64510) ≡ record {
    name = 1 ∷ 97 ∷ 1 ∷ 98 ∷ 0 ∷ [];
    type_ = dns.Aaaa;
    mdns = Disabled;
    id = 65535;
    port = 65535;
  }
  pub around : request_for dns.A (codes "local") (words_with 65536 64511)
      ≡ record { name = 5 ∷ codes "local" ++ 0 ∷ []; type_ = dns.A; mdns = Enabled; id = 0; port = 1025 }

-- the lines of queries that ended stand by their numbers
pub record LinesByExample : Type 0 where
  pub by_number : lines_of (Over 2 [] ∷ Free ∷ new 4 ∷ Over 3 (ipv4 9 ∷ []) ∷ Over 1 [] ∷ [])
      ≡ line_of 1 Failed ∷ line_of 2 Failed ∷ line_of 3 (Answered (record { items = ipv4 9 ∷ [] })) ∷ []
  pub none : lines_of (Free ∷ new 4 ∷ []) ≡ []
