-- The answer of a response: which records are on the chain of aliases from a name on (RFC 1034, section
-- 3.6.2).
use Rattle.std.specs.Prelude.{ℕ, zero, suc, ◌==◌, nat_lt, nat_eq, Bool, List, [], ◌∷◌, ◌++◌, take, reverse, Option, Some, None, option_map, if◌then◌else◌}
use Rattle.std.specs.Cmp.Lexicographic.{pointwise}
use Rattle.net_wire.specs.declared.address.IpAddress.{IpAddress}
use Rattle.net_wire.specs.declared.address.IpAddress.TheVariants as ip
use Rattle.net_wire.specs.DnsName.{name_at, wire_len}
use Rattle.net_wire.specs.DnsMessage.{BodyValue, IsA, IsAaaa, IsCname, IsOther, RecordValue, record_at}

-- a name by its labels
abbrev pub Name : Type 0
Name = List (List ℕ)

abbrev pub is_same_name : Name → Name → Bool
is_same_name = pointwise (pointwise nat_eq)

-- what an answer record says: an address by a record of a type, the name that its owner is an alias of, or
-- neither
pub data Content : Type 0 where
  HasAddress : ℕ → IpAddress → Content
  HasAlias : Name → Content
  HasNeither : Content

pub record AnswerValue : Type 0 where
  pub owner : Name
  pub content : Content

-- an alias has a name of at most 255 bytes, its closing zero included
abbrev pub alias_to : Option Name → Option Content
alias_to None = None
alias_to (Some name) = if nat_lt 255 (wire_len name) then None else Some (HasAlias name)

abbrev pub content_of : List ℕ → BodyValue → Option Content
content_of message (IsA address) = Some (HasAddress 1 (ip.Ipv4 address))
content_of message (IsAaaa address) = Some (HasAddress 28 (ip.Ipv6 address))
content_of message (IsCname bytes) = alias_to (name_at message bytes)
content_of message (IsOther type_ bytes) = Some HasNeither

-- a record as an answer, if its owner's name and its alias read whole
abbrev pub answer_by : Option Name → Option Content → Option AnswerValue
answer_by None content = None
answer_by (Some owner) None = None
answer_by (Some owner) (Some content) = Some (record { owner = owner; content = content })

abbrev pub answer_of : List ℕ → RecordValue → Option AnswerValue
answer_of message found = answer_by (name_at message found.name) (content_of message found.body)

-- the answer that stands first in the bytes, and the bytes after it
abbrev pub answer_from : List ℕ → Option (RecordValue × List ℕ) → Option (AnswerValue × List ℕ)
answer_from message None = None
answer_from message (Some found) = option_map (λ answer. (answer, found.1)) (answer_of message found.0)

abbrev pub answer_at : List ℕ → List ℕ → Option (AnswerValue × List ℕ)
answer_at message bytes = answer_from message (record_at bytes)

-- so many answers from the front, if each reads whole
abbrev pub answers_then : (List ℕ → Option (List AnswerValue)) → Option (AnswerValue × List ℕ)
    → Option (List AnswerValue)
answers_then next None = None
answers_then next (Some found) = option_map (λ more. found.0 ∷ more) (next found.1)

unfoldable pub answers_at : List ℕ → ℕ → List ℕ → Option (List AnswerValue)
answers_at message zero bytes = Some []
answers_at message (suc n) bytes = answers_then (answers_at message n) (answer_at message bytes)

-- what an answer makes of the name that is wanted: on the chain, an alias goes on at its target
abbrev pub target_or : Name → Content → Name
target_or name (HasAddress number address) = name
target_or name (HasAlias target) = target
target_or name HasNeither = name

abbrev pub next_name : Name → AnswerValue → Name
next_name name answer = if is_same_name answer.owner name then target_or name answer.content else name

-- the addresses that an answer gives: one on the chain, by a record of the asked type
abbrev pub address_in : ℕ → Content → List IpAddress
address_in number (HasAddress other address) = if other == number then address ∷ [] else []
address_in number (HasAlias target) = []
address_in number HasNeither = []

abbrev pub addresses_for : ℕ → Name → AnswerValue → List IpAddress
addresses_for number name answer =
    if is_same_name answer.owner name then address_in number answer.content else []

-- The wanted name behind some answers, the newest first: the target of the last alias on the chain, or the
-- asked name where there is none.
abbrev pub wanted : Name → List AnswerValue → Name
wanted asked [] = asked
wanted asked (answer ∷ before) = next_name (wanted asked before) answer

-- the addresses on the chain, the newest answer first
abbrev pub addresses : ℕ → Name → List AnswerValue → List IpAddress
addresses number asked [] = []
addresses number asked (answer ∷ before) =
    addresses number asked before ++ addresses_for number (wanted asked before) answer

-- the answer: the first four
abbrev pub chain_answer : ℕ → Name → List AnswerValue → List IpAddress
chain_answer number asked answers = take 4 (addresses number asked (reverse answers))
