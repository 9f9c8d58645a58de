-- Names as texts and as bytes.
use Rattle.std.proofs.Common.{◌≡◌, ℕ, zero, suc, ◌+◌, ◌<◌, ◌≤◌, Bool, true, false, cond, eqb, ltb, leb, ◌||◌, List, [], ◌∷◌, ◌++◌, length, take, drop, get_or, Option, Some, None, option_map, is_some, refl, sym, ◌∙◌, ap, arith, length-append}
use Rattle.std.specs.Prelude.{option_and_then}
use Rattle.std.specs.List.{onto_first}
use Rattle.std.proofs.lemmas.Bool.{cond-true, cond-false, eq-eqb, ne_eqb, lt-ltb, le-leb, ltb-false, eqb-false}
use Rattle.std.proofs.lemmas.List.{take_at, drop_at}
use Rattle.net_wire.specs.DnsName.{AtLabel, piece_at, labels_after, labels_at, name_of, name_at, name_len_after, name_len}
use Rattle.net_wire.proofs.DnsNameLemmas.{labels_at_piece, name_len_piece}
use Rattle.dns_client.specs.declared.error.StartQueryError.{StartQueryError}
use Rattle.dns_client.specs.declared.error.StartQueryError.TheVariants.{InvalidName, NameTooLong}
use Rattle.dns_client.specs.PlainName.{wire_bytes, plain_name}
use Rattle.dns_client.specs.TextName.{parts_of, label_fault, end_fault, first_fault, name_fault}

-- the first part ends at the first point
pub parts_of-at_point : (i : ℕ) (text : List ℕ) → i < length text → ((k : ℕ) → k < i → get_or text k 0 ≡ 46 → ⊥)
    → get_or text i 0 ≡ 46 → parts_of text ≡ take i text ∷ parts_of (drop (suc i) text)
parts_of-at_point i [] inside none here = absurd (omega arith)
parts_of-at_point zero (b ∷ text) inside none here =
    cond-true (eqb b 46) ([] ∷ parts_of text) (onto_first b (parts_of text)) (eq-eqb b 46 here)
parts_of-at_point (suc i) (b ∷ text) inside none here =
    cond-false (eqb b 46) ([] ∷ parts_of text) (onto_first b (parts_of text)) (ne_eqb b 46 (none 0 (omega arith)))
    ∙ ap (onto_first b) (parts_of-at_point i text (omega arith) (λ k less is. none (suc k) (omega arith) is) here)

-- a text without a point is one part
pub parts_of-none : (text : List ℕ) → ((k : ℕ) → k < length text → get_or text k 0 ≡ 46 → ⊥) → parts_of text ≡ text ∷ []
parts_of-none [] none = refl
parts_of-none (b ∷ text) none =
    cond-false (eqb b 46) ([] ∷ parts_of text) (onto_first b (parts_of text)) (ne_eqb b 46 (none 0 (omega arith)))
    ∙ ap (onto_first b) (parts_of-none text (λ k less is. none (suc k) (omega arith) is))

pub is_some-option_map : {X Y : Type 0} (f : X → Y) (o : Option X) → is_some (option_map f o) ≡ is_some o
is_some-option_map f None = refl
is_some-option_map f (Some x) = refl

-- a label that has no fault has 1 to 63 bytes
record IsLabel (label : List ℕ) : Type 0 where
  some : 0 < length label
  few : length label < 64

label_by_tests : (empty long far : Bool) (label : List ℕ) → eqb (length label) 0 ≡ empty → ltb 63 (length label) ≡ long
    → cond (empty || long) (Some InvalidName) (cond far (Some NameTooLong) None) ≡ None → IsLabel label
label_by_tests true long far label e l none = let no : ⊥ = cc in absurd no
label_by_tests false true far label e l none = let no : ⊥ = cc in absurd no
label_by_tests false false far label e l none =
    record { some = (let apart : length label ≡ 0 → ⊥ = eqb-false _ _ e in omega arith); few = (let below = ltb-false _ _ l in omega arith) }

label_from_fault : (len : ℕ) (label : List ℕ) → label_fault len label ≡ None → IsLabel label
label_from_fault len label none = label_by_tests _ _ (ltb 255 (len + (1 + length label))) label refl refl none

both_faults : (one other : Option StartQueryError) → first_fault one other ≡ None → (one ≡ None) × (other ≡ None)
both_faults None other none = (refl, none)
both_faults (Some fault) other none = let no : ⊥ = cc in absurd no

piece_of_label : (label rest : List ℕ) → IsLabel label → piece_at (length label ∷ label ++ rest) ≡ AtLabel label rest
piece_of_label label rest is =
    let apart : length label ≡ 0 → ⊥ = λ e. absurd (omega (arith, is.some)) in
    let room : length label ≤ length (label ++ rest) = omega (arith, length-append label rest) in
    cond-false (eqb (length label) 0) _ _ (ne_eqb (length label) 0 apart)
    ∙ cond-true (ltb (length label) 64) _ _ (lt-ltb (length label) 64 is.few)
    ∙ cond-true (leb (length label) (length (label ++ rest))) _ _ (le-leb _ _ room)
    ∙ rw (take_at label rest (length label) refl, drop_at label rest (length label) refl) refl

-- labels without a fault are read again
record IsRead (labels : List (List ℕ)) : Type 0 where
  read : name_at [] (wire_bytes labels) ≡ Some labels
  whole : name_len (wire_bytes labels) ≡ Some (length (wire_bytes labels))

read-label : (label : List ℕ) (labels : List (List ℕ)) → IsLabel label → IsRead labels → IsRead (label ∷ labels)
read-label label labels is more = record {
  read = ap name_of (labels_at_piece [] (wire_bytes (label ∷ labels)) ∙ ap (labels_after labels_at []) (piece_of_label label (wire_bytes labels) is))
      ∙ ap (option_map (λ name. label ∷ name)) more.read;
  whole = name_len_piece (wire_bytes (label ∷ labels)) ∙ ap (name_len_after name_len) (piece_of_label label (wire_bytes labels) is)
      ∙ ap (option_map (λ n. 1 + length label + n)) more.whole
      ∙ ap Some (let sum = length-append label (wire_bytes labels) in omega arith);
}

read-labels : (len : ℕ) (labels : List (List ℕ)) → name_fault len labels ≡ None → IsRead labels
read-labels len [] none = record { read = ap name_of (labels_at_piece [] (0 ∷ [])); whole = name_len_piece (0 ∷ []) }
read-labels len (label ∷ labels) none =
    let parts = both_faults (label_fault len label) (name_fault (len + (1 + length label)) labels) none in
    read-label label labels (label_from_fault len label parts.0) (read-labels (len + (1 + length label)) labels parts.1)

pub plain_name-wire_bytes : (len : ℕ) (labels : List (List ℕ)) → name_fault len labels ≡ None → plain_name (wire_bytes labels) ≡ Some labels
plain_name-wire_bytes len labels none =
    let is = read-labels len labels none in
    ap (option_and_then (λ n. cond (eqb n (length (wire_bytes labels))) (name_at [] (wire_bytes labels)) None)) is.whole
    ∙ cond-true (eqb (length (wire_bytes labels)) (length (wire_bytes labels))) _ _ (eq-eqb _ _ refl) ∙ is.read

-- what is written once the closing zero is
pub plain_name-closed : (bytes new : List ℕ) (rest all : List (List ℕ)) → rest ≡ [] → name_fault (length bytes) rest ≡ name_fault 0 all
    → bytes ++ wire_bytes rest ≡ wire_bytes all → end_fault (length bytes) ≡ None → new ≡ bytes ++ 0 ∷ [] → plain_name new ≡ Some all
plain_name-closed bytes new rest all ended scanned written closes is =
    let none : name_fault 0 all ≡ None = sym scanned ∙ ap (name_fault (length bytes)) ended ∙ closes in
    let same : new ≡ wire_bytes all = is ∙ sym (ap (λ r. bytes ++ wire_bytes r) ended) ∙ written in
    ap plain_name same ∙ plain_name-wire_bytes 0 all none
