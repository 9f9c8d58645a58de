-- What a query asks for fits a datagram.
use Rattle.std.proofs.Common.{◌≡◌, ℕ, ◌+◌, ◌<◌, ◌≤◌, Bool, true, false, cond, ltb, List, [], ◌∷◌, Option, Some, None, length, refl, arith, length-append}
use Rattle.std.proofs.lemmas.Bool.{ltb-false}
use Rattle.net_wire.specs.declared.dns.dns_type.DnsType.{DnsType}
use Rattle.net_wire.specs.DnsMessage.{QuestionValue, query_bytes}
use Rattle.dns_client.specs.declared.error.StartQueryError.{StartQueryError}
use Rattle.dns_client.specs.declared.error.StartQueryError.TheVariants.{NameTooLong}
use Rattle.dns_client.specs.PlainName.{wire_bytes}
use Rattle.dns_client.specs.TextName.{first_fault, label_fault, labels_of_text, name_fault}
use Rattle.dns_client.specs.Waiting.{RequestValue}
use Rattle.host_model.specs.declared.words.EventWords.{EventWords}
use Rattle.host_model.specs.QueryStart.{request_for}

end_by_test : (long : Bool) (len : ℕ) → ltb 255 (len + 1) ≡ long → cond long (Some NameTooLong) None ≡ None
    → len + 1 ≤ 255
end_by_test true len is none = let no : ⊥ = cc in absurd no
end_by_test false len is none = let short = ltb-false 255 (len + 1) is in omega arith

rest_right : (one other : Option StartQueryError) → first_fault one other ≡ None → other ≡ None
rest_right None other none = none
rest_right (Some fault) other none = let no : ⊥ = cc in absurd no

-- the bytes of a name without a fault, behind so many others
name_within : (len : ℕ) (labels : List (List ℕ)) → name_fault len labels ≡ None
    → len + length (wire_bytes labels) ≤ 255
name_within len [] none = end_by_test (ltb 255 (len + 1)) len refl none
name_within len (label ∷ labels) none =
    let rest = name_within (len + (1 + length label)) labels
    (rest_right (label_fault len label) (name_fault (len + (1 + length label)) labels) none) in
    omega (arith, rest, length-append label (wire_bytes labels))

pub record FitsRequest (request : RequestValue) : Type 0 where
  pub name : length request.name ≤ 255
  pub port : request.port < 65536

pub request_fits : (type_ : DnsType) (name : List ℕ) (words : EventWords)
    → name_fault 0 (labels_of_text name) ≡ None → FitsRequest (request_for type_ name words)
request_fits type_ name words none =
    record { name = omega (arith, name_within 0 (labels_of_text name) none); port = omega arith }

pub question_len : (id : ℕ) (question : QuestionValue)
    → length (query_bytes id question) ≡ 16 + length question.name
unfolding query_bytes
question_len id question = simp length-append (omega arith)
