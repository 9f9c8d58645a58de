-- Which message bytes are, by what was found among their options.
use Rattle.std.proofs.Common.{◌≡◌, ℕ, List, eqb, true, false, Option, Some, None, get_or, drop, refl, subst, rules, tests}
use Rattle.net_wire.specs.DhcpBytes.{op_of}
use Rattle.net_wire.specs.DhcpOptions.{items_of, last_of}
use Rattle.net_wire.specs.DhcpRead.{byte_in, is_header, message_at, message_with}

pub no_type : (bytes options : List ℕ) (found : Option (List ℕ)) → is_header bytes ≡ true → options ≡ drop 240 bytes
    → found ≡ last_of 53 (items_of options) → byte_in found ≡ None → message_at bytes ≡ None
no_type bytes options found header are_options is_found none = rw (header, ← are_options, ← is_found, none) refl

pub other_op : (bytes options : List ℕ) (found : Option (List ℕ)) (number op : ℕ) → is_header bytes ≡ true → options ≡ drop 240 bytes
    → found ≡ last_of 53 (items_of options) → byte_in found ≡ Some number → op ≡ op_of number → (get_or bytes 0 0 ≡ op → ⊥)
    → message_at bytes ≡ None
other_op bytes options found number op header are_options is_found is_number is_op differs =
    let P : ℕ → Type 0 = λ n. eqb (get_or bytes 0 0) n ≡ false in
    let test : eqb (get_or bytes 0 0) op ≡ false = search (rules, tests) in
    let other : eqb (get_or bytes 0 0) (op_of number) ≡ false = subst P is_op test in
    rw (header, ← are_options, ← is_found, is_number, other) refl

pub is_message : (bytes options : List ℕ) (found : Option (List ℕ)) (number op : ℕ) → is_header bytes ≡ true → options ≡ drop 240 bytes
    → found ≡ last_of 53 (items_of options) → byte_in found ≡ Some number → op ≡ op_of number → get_or bytes 0 0 ≡ op
    → message_at bytes ≡ Some (message_with bytes (items_of options) number)
is_message bytes options found number op header are_options is_found is_number is_op equal =
    let P : ℕ → Type 0 = λ n. eqb (get_or bytes 0 0) n ≡ true in
    let test : eqb (get_or bytes 0 0) op ≡ true = search (rules, tests) in
    let same : eqb (get_or bytes 0 0) (op_of number) ≡ true = subst P is_op test in
    rw (header, ← are_options, ← is_found, is_number, same) refl
