-- Names and chains by example, one for each rule that a slip would change.
use Rattle.std.specs.Prelude.{◌≡◌, ℕ, List, [], ◌∷◌, ◌++◌, replicate, Some, None, codes}
use Rattle.net_wire.specs.declared.address.IpAddress.{IpAddress}
use Rattle.net_wire.specs.declared.address.IpAddress.TheVariants as ip
use Rattle.dns_client.specs.declared.error.StartQueryError.TheVariants.{InvalidName, NameTooLong}
use Rattle.dns_client.specs.declared.query.MulticastDns.TheVariants.{Disabled, Enabled}
use Rattle.dns_client.specs.AnswerChain.{Name, HasAddress, HasAlias, HasNeither, AnswerValue, chain_answer}
use Rattle.dns_client.specs.TextName.{labels_of_text, name_fault, mdns_of}

abbrev pub label : ℕ → List ℕ
label len = replicate len 97

-- names of 63, 63, 63 and this many bytes, which have 194 and this many with their lengths and the closing
-- zero
abbrev pub long_name : ℕ → List (List ℕ)
long_name len = label 63 ∷ label 63 ∷ label 63 ∷ label len ∷ []

pub record FaultsByExample : Type 0 where
  pub none : name_fault 0 (labels_of_text (codes "a.b.")) ≡ None
  pub empty : name_fault 0 (labels_of_text []) ≡ Some InvalidName
  pub one_point : name_fault 0 (labels_of_text (codes ".")) ≡ Some InvalidName
  pub two_points : name_fault 0 (labels_of_text (codes "a..")) ≡ Some InvalidName
  pub between : name_fault 0 (labels_of_text (codes "a..b")) ≡ Some InvalidName
  pub longest_label : name_fault 0 (label 63 ∷ []) ≡ None
  pub long_label : name_fault 0 (label 64 ∷ []) ≡ Some InvalidName
  pub longest : name_fault 0 (long_name 61) ≡ None
  pub too_long : name_fault 0 (long_name 62) ≡ Some NameTooLong
  -- the first fault from the front; in one label its own length goes before that of the name
  pub too_long_first : name_fault 0 (long_name 63 ++ [] ∷ []) ≡ Some NameTooLong
  pub label_first : name_fault 0 (long_name 64) ≡ Some InvalidName
  pub local : mdns_of (labels_of_text (codes "printer.local.")) ≡ Enabled
  pub not_last : mdns_of (labels_of_text (codes "local.org")) ≡ Disabled
  pub other_case : mdns_of (labels_of_text (codes "Local")) ≡ Disabled

abbrev pub ipv4 : ℕ → IpAddress
ipv4 last = ip.Ipv4 (record { 0 = 192 ∷ 0 ∷ 2 ∷ last ∷ [] })

abbrev pub ipv6 : IpAddress
ipv6 = ip.Ipv6 (record { 0 = 0x20 ∷ 1 ∷ 0x0D ∷ 0xB8 ∷ replicate 11 0 ++ 9 ∷ [] })

abbrev pub a : Name
a = codes "a" ∷ []

abbrev pub b : Name
b = codes "b" ∷ []

abbrev pub c : Name
c = codes "c" ∷ []

abbrev pub alias : Name → Name → AnswerValue
alias owner target = record { owner = owner; content = HasAlias target }

abbrev pub address : Name → ℕ → AnswerValue
address owner last = record { owner = owner; content = HasAddress 1 (ipv4 last) }

abbrev pub address6 : Name → AnswerValue
address6 owner = record { owner = owner; content = HasAddress 28 ipv6 }

pub record ChainsByExample : Type 0 where
  pub direct : chain_answer 1 a (address a 9 ∷ address a 10 ∷ []) ≡ ipv4 9 ∷ ipv4 10 ∷ []
  pub other_owner : chain_answer 1 a (address b 9 ∷ []) ≡ []
  pub aliases : chain_answer 1 a (alias a b ∷ address a 8 ∷ alias b c ∷ address c 9 ∷ []) ≡ ipv4 9 ∷ []
  -- an alias goes on from its place on
  pub before_alias : chain_answer 1 a (address b 9 ∷ alias a b ∷ []) ≡ []
  pub behind_alias : chain_answer 1 a (address a 8 ∷ alias a b ∷ address b 9 ∷ []) ≡ ipv4 8 ∷ ipv4 9 ∷ []
  pub off_alias : chain_answer 1 a (alias c b ∷ address b 9 ∷ []) ≡ []
  pub back : chain_answer 1 a (alias a b ∷ alias b a ∷ address a 9 ∷ []) ≡ ipv4 9 ∷ []
  pub passed : chain_answer 1 a (record { owner = a; content = HasNeither } ∷ address a 9 ∷ []) ≡ ipv4 9 ∷ []
  pub asked_type : chain_answer 1 a (address6 a ∷ address a 9 ∷ []) ≡ ipv4 9 ∷ []
  pub asked_type6 : chain_answer 28 a (address6 a ∷ address a 9 ∷ []) ≡ ipv6 ∷ []
  pub other_type : chain_answer 2 a (address6 a ∷ address a 9 ∷ []) ≡ []
  pub first_four : chain_answer 1 a (address a 1 ∷ address a 2 ∷ address a 3 ∷ address a 4 ∷ address a 5 ∷ [])
      ≡ ipv4 1 ∷ ipv4 2 ∷ ipv4 3 ∷ ipv4 4 ∷ []
  pub other_case : chain_answer 1 (codes "A" ∷ []) (address a 9 ∷ []) ≡ []
