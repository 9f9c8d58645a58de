-- One answer: its names, and what it adds to the first four addresses.
use Rattle.std.proofs.Common.{◌≡◌, ◌↔◌, ℕ, ◌+◌, ◌-◌, ◌<◌, ◌≤◌, ltb, List, [], ◌∷◌, ◌++◌, length, take, Option, Some, None, IsSome, Ok, option_map, refl, sym, ◌∙◌, ap, arith}
use Rattle.std.proofs.lemmas.Bool.{lt-ltb, le-ltb, cond-true, cond-false}
use Rattle.std.proofs.lemmas.List.{length-take, length-append, take_all, take-append-le}
use Rattle.net_wire.specs.declared.address.IpAddress.{IpAddress}
use Rattle.net_wire.specs.DnsName.{LabelList, name_of, wire_len}
use Rattle.dns_client.specs.AnswerChain.{Name, Content, HasAlias, AnswerValue, alias_to, answer_by, addresses}
use Rattle.dns_client.specs.AnswerRead.{IfName}

some_wire_len : (name : Name) → 0 < wire_len name
some_wire_len [] = omega arith
some_wire_len (label ∷ name) = omega arith

-- a label moves from the name to what was counted
pub label_counted : (labels more : LabelList) (label : List ℕ) (len : ℕ) → labels ≡ Ok label ∷ more
    → IfName (name_of labels) (λ name. wire_len name + len ≤ 256) ↔ IfName (name_of more) (λ name. wire_len name + (len + (1 + length label)) ≤ 256)
label_counted labels more label len is =
    let P : LabelList → Type 0 = λ l. IfName (name_of l) (λ name. wire_len name + len ≤ 256) ↔ IfName (name_of more) (λ name. wire_len name + (len + (1 + length label)) ≤ 256) in
    let by_name : (o : Option Name) → IfName (option_map (λ n. label ∷ n) o) (λ name. wire_len name + len ≤ 256)
    ↔ IfName o (λ name. wire_len name + (len + (1 + length label)) ≤ 256) =
    λ o. elim o as (λ o. IfName (option_map (λ n. label ∷ n) o) (λ name. wire_len name + len ≤ 256)
    ↔ IfName o (λ name. wire_len name + (len + (1 + length label)) ≤ 256)) [
      | None ↦ ((λ no. no), (λ no. no))
      | Some name ↦ ((λ few. omega (arith, few)), (λ few. omega (arith, few)))
    ] in
    rw is (by_name (name_of more))

-- no name has room behind a label that has none
pub label_has_no_room : (labels more : LabelList) (label : List ℕ) (len : ℕ) → labels ≡ Ok label ∷ more → 254 < len + length label
    → IfName (name_of labels) (λ name. wire_len name + len ≤ 256) → ⊥
label_has_no_room labels more label len is far =
    let by_name : (o : Option Name) → IfName (option_map (λ n. label ∷ n) o) (λ name. wire_len name + len ≤ 256) → ⊥ =
    λ o. elim o as (λ o. IfName (option_map (λ n. label ∷ n) o) (λ name. wire_len name + len ≤ 256) → ⊥) [
      | None ↦ (λ no. no)
      | Some name ↦ (λ few. absurd (let some = some_wire_len name in omega (arith, few)))
    ] in
    rw is (by_name (name_of more))

pub alias_whole : (o : Option Name) → IfName o (λ name. wire_len name ≤ 255) → alias_to o ≡ option_map HasAlias o
alias_whole None none = absurd none
alias_whole (Some name) short = cond-false (ltb 255 (wire_len name)) None (Some (HasAlias name)) (le-ltb 255 (wire_len name) short)

pub alias_some : (o : Option Name) → IfName o (λ name. wire_len name ≤ 255) → IsSome (option_map HasAlias o)
alias_some None none = absurd none
alias_some (Some name) short = refl

pub alias_refused : (o : Option Name) → (IfName o (λ name. wire_len name ≤ 255) → ⊥) → alias_to o ≡ None
alias_refused None long = refl
alias_refused (Some name) long =
    cond-true (ltb 255 (wire_len name)) None (Some (HasAlias name)) (lt-ltb 255 (wire_len name) (let far : 255 < wire_len name = omega (arith, long) in far))

pub first_four_full : (all found : List IpAddress) (address : IpAddress) → found ≡ take 4 all → 4 ≤ length found
    → found ≡ take 4 (all ++ address ∷ [])
first_four_full all found address is full =
    let many : 4 ≤ length all = omega (arith, full, ap length is, length-take 4 all) in
    is ∙ sym (take-append-le 4 all (address ∷ []) many)

pub first_four_room : (all found : List IpAddress) (address : IpAddress) → found ≡ take 4 all → length found < 4
    → found ++ address ∷ [] ≡ take 4 (all ++ address ∷ [])
first_four_room all found address is room =
    let few : length all ≤ 3 = omega (arith, room, ap length is, length-take 4 all) in
    ap (λ front. front ++ address ∷ []) (is ∙ take_all 4 all (omega arith))
    ∙ sym (take_all 4 (all ++ address ∷ []) (omega (arith, length-append all (address ∷ []))))

-- an answer by its parts
pub answer_parts : (o : Option Name) (c : Option Content) (value : AnswerValue) → answer_by o c ≡ Some value
    → (o ≡ Some value.owner) × (c ≡ Some value.content)
answer_parts None c value e = let no : ⊥ = cc in absurd no
answer_parts (Some owner) None value e = let no : ⊥ = cc in absurd no
answer_parts (Some owner) (Some content) value e =
    let same : record { owner = owner; content = content } ≡ value = cc in
    (ap (λ (v : AnswerValue). Some v.owner) same, ap (λ (v : AnswerValue). Some v.content) same)
