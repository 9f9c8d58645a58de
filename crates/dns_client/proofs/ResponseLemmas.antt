-- What a response decides.
use Rattle.std.proofs.Common.{◌≡◌, ◌↔◌, ℕ, suc, ◌<◌, Bool, true, false, cond, eqb, ◌&&◌, List, [], ◌∷◌, ◌++◌, length, take, drop, get_or, set, Option, Some, None, IsTrue, is_some, option_map, refl, sym, ◌∙◌, ap, add-one}
use Rattle.std.specs.Prelude.{option_and_then}
use Rattle.std.proofs.lemmas.Bool.{cond-true, eq-eqb}
use Rattle.std.proofs.lemmas.List.{drop_more, set_split}
use Rattle.net_wire.specs.declared.address.IpAddress.{IpAddress}
use Rattle.net_wire.specs.DnsName.{LabelList, labels_at, name_of, name_at, name_len}
use Rattle.net_wire.specs.DnsMessage.{QuestionValue, type_number, question_at, answer_count}
use Rattle.dns_client.specs.declared.query.DnsQuery.{DnsQuery}
use Rattle.dns_client.specs.declared.response.Arrived.{Arrived}
use Rattle.dns_client.specs.AnswerChain.{Name, chain_answer, answers_at}
use Rattle.dns_client.specs.PlainName.{plain_name}
use Rattle.dns_client.specs.Response.{is_named, asks_for, chain_from, answer_to, answer_for, reaches, decided, settled, first_decided}
use Rattle.dns_client.specs.Slots.{Slots}
use Rattle.dns_client.specs.Waiting.{RequestValue}
use Rattle.dns_client.proofs.ChainLemmas.{same_names}

-- a plain name is the name that its bytes have
record IsPlain (bytes : List ℕ) : Type 0 where
  name : Name
  plain : plain_name bytes ≡ Some name
  read : name_of (labels_at [] bytes) ≡ Some name

plain_by_len : (bytes : List ℕ) (len : Option ℕ) (whole : Bool) (o : Option Name) → plain_name bytes ≡ cond whole o None
    → o ≡ name_of (labels_at [] bytes) → is_some (plain_name bytes) ≡ true → IsPlain bytes
plain_by_len bytes len false o is at some = let no : ⊥ = (let wrong : false ≡ true = sym (ap is_some is) ∙ some in cc) in absurd no
plain_by_len bytes len true None is at some = let no : ⊥ = (let wrong : false ≡ true = sym (ap is_some is) ∙ some in cc) in absurd no
plain_by_len bytes len true (Some name) is at some = record { name = name; plain = is; read = sym at }

plain_by : (bytes : List ℕ) (len : Option ℕ) → name_len bytes ≡ len → is_some (plain_name bytes) ≡ true → IsPlain bytes
plain_by bytes None is some =
    let none : plain_name bytes ≡ None = ap (option_and_then (λ n. cond (eqb n (length bytes)) (name_at [] bytes) None)) is in
    let no : ⊥ = (let wrong : false ≡ true = sym (ap is_some none) ∙ some in cc) in absurd no
plain_by bytes (Some n) is some =
    plain_by_len bytes (Some n) (eqb n (length bytes)) (name_at [] bytes)
    (ap (option_and_then (λ n. cond (eqb n (length bytes)) (name_at [] bytes) None)) is) refl some

named_by : (labels asked : LabelList) (o : Option Name) (name : Name) (r : Bool) → name_of labels ≡ o → name_of asked ≡ Some name
    → (IsTrue r ↔ (labels ≡ asked)) → is_named o (Some name) ≡ r
named_by labels asked None name true is read same =
    let no : ⊥ = (let wrong : None ≡ Some name = sym is ∙ ap name_of (same.0 refl) ∙ read in cc) in absurd no
named_by labels asked None name false is read same = refl
named_by labels asked (Some other) name r is read same = same_names labels asked other name r is read same

module _ (message payload : List ℕ) (request : RequestValue) (question : QuestionValue) (records : List ℕ)
    (behind_header : payload ≡ drop 12 message) (found : question_at payload ≡ Some (question, records))
    (plain : is_some (plain_name request.name) ≡ true) (typed : type_number question.type_ ≡ type_number request.type_)
    (labels asked : LabelList) (labels_are : labels ≡ labels_at message question.name) (asked_are : asked ≡ labels_at [] request.name)
    (r : Bool) (same : IsTrue r ↔ (labels ≡ asked)) where
  asks_is : asks_for message request question ≡ r
  asks_is =
      let is = plain_by request.name (name_len request.name) refl plain in
      ap (λ b. b && is_named (name_at message question.name) (plain_name request.name)) (eq-eqb _ _ typed)
      ∙ ap (is_named (name_at message question.name)) is.plain
      ∙ named_by labels asked (name_at message question.name) is.name r (ap name_of labels_are) (ap name_of asked_are ∙ is.read) same

  answer_is : (b : Bool) → r ≡ b → answer_for message request ≡ cond b (chain_from message request records (plain_name request.name)) None
  answer_is b is =
      ap (answer_to message request) (sym (ap question_at behind_header) ∙ found)
      ∙ ap (λ t. cond t (chain_from message request records (plain_name request.name)) None) (asks_is ∙ is)

  pub answer_to_another : r ≡ false → None ≡ answer_for message request
  answer_to_another is = sym (answer_is false is)

  pub answer_to_own : (number count : ℕ) (result : Option (List IpAddress)) → number ≡ type_number request.type_ → count ≡ answer_count message
      → ((name : Name) → name_of asked ≡ Some name → result ≡ option_map (chain_answer number name) (answers_at message count records))
      → r ≡ true → result ≡ answer_for message request
  answer_to_own number count result number_is count_is followed is =
      let name_is = plain_by request.name (name_len request.name) refl plain in
      followed name_is.name (ap name_of asked_are ∙ name_is.read)
      ∙ ap (λ n. option_map (chain_answer n name_is.name) (answers_at message count records)) number_is
      ∙ ap (λ n. option_map (chain_answer (type_number request.type_) name_is.name) (answers_at message n records)) count_is
      ∙ sym (ap (chain_from message request records) name_is.plain) ∙ sym (answer_is true is)

-- the first slot that a response reaches
pub decided_here : (arrived : Arrived) (message : List ℕ) (slots all : Slots) (at : ℕ) (x y z new : Option DnsQuery) (answer : Option (List IpAddress))
    → at < length slots → x ≡ get_or slots at None → y ≡ get_or slots at None → z ≡ get_or slots at None → reaches arrived x ≡ true
    → decided message y ≡ settled answer y → new ≡ settled answer z → slots ≡ all
    → take at slots ++ first_decided arrived message (drop at slots) ≡ first_decided arrived message slots
    → set slots at new ≡ first_decided arrived message all
decided_here arrived message slots all at x y z new answer inside x_is y_is z_is reached decides written same passed =
    let second : y ≡ x = y_is ∙ sym x_is in
    let third : z ≡ y = z_is ∙ sym y_is in
    let new_is : new ≡ decided message x = written ∙ ap (settled answer) third ∙ sym decides ∙ ap (decided message) second in
    let split : drop at slots ≡ get_or slots at None ∷ drop (suc at) slots = rw add-one at (drop_more slots at None inside) in
    let here : drop at slots ≡ x ∷ drop (suc at) slots = split ∙ ap (λ slot. slot ∷ drop (suc at) slots) (sym x_is) in
    let rest : first_decided arrived message (drop at slots) ≡ decided message x ∷ drop (suc at) slots =
    ap (first_decided arrived message) here ∙ cond-true (reaches arrived x) _ _ reached in
    set_split slots at new inside ∙ ap (λ slot. take at slots ++ slot ∷ drop (suc at) slots) new_is
    ∙ sym (ap (λ more. take at slots ++ more) rest) ∙ passed ∙ ap (first_decided arrived message) same
