-- Options that were written one behind another, as fields of a kind and a value, and what counts of each kind.
use Rattle.std.proofs.Common.{◌≡◌, ℕ, ◌<◌, List, [], ◌∷◌, ◌++◌, length, map, ap, sym, ◌∙◌, refl, arith, append_assoc, length-append, Option, Some, None, Bool, true, false, eqb, cond, subst}
use Rattle.std.specs.List.{AllByRecursion}
use Rattle.std.specs.Prelude.{IfSome}
use Rattle.std.proofs.Math.Seq.{take-append_seam, drop-append_seam}
use Rattle.std.proofs.lemmas.Bool.{eqb-true}
use Rattle.net_wire.specs.DhcpBytes.{option_bytes, bytes_option, additional_bytes}
use Rattle.net_wire.specs.DhcpMessage.{OptionValue}
use Rattle.net_wire.specs.DhcpOptions.{Item, item_with, items_of, is_right, newest_of, last_from}
use Rattle.net_wire.specs.DhcpReadBack.{is_known, IsPassedOver}
use Rattle.net_wire.proofs.DhcpReadLemmas.{item_in, end_here}

pub record Field : Type 0 where
  pub kind : ℕ
  pub value : Option (List ℕ)

abbrev pub field : ℕ → Option (List ℕ) → Field
field kind value = record { kind = kind; value = value }

-- neither padding nor the end, and of a right length
abbrev pub IsRightField : Field → Type 0
IsRightField f = (0 < f.kind) × (f.kind < 255) × IfSome f.value (λ bytes. is_right f.kind bytes ≡ true)

abbrev pub fields_bytes : List Field → List ℕ → List ℕ
fields_bytes [] behind = behind
fields_bytes (f ∷ fields) behind = bytes_option f.kind f.value ++ fields_bytes fields behind

abbrev pub with_item : ℕ → Option (List ℕ) → List Item → List Item
with_item kind None items = items
with_item kind (Some bytes) items = item_with kind bytes ∷ items

abbrev pub with_items : List Field → List Item → List Item
with_items [] items = items
with_items (f ∷ fields) items = with_item f.kind f.value (with_items fields items)

item_read : (kind : ℕ) (bytes rest : List ℕ) → 0 < kind → kind < 255
    → items_of (option_bytes kind bytes ++ rest) ≡ item_with kind bytes ∷ items_of rest
item_read kind bytes rest some below =
    (item_in kind (length bytes) (length bytes ∷ (bytes ++ rest)) (bytes ++ rest) bytes rest some (λ is. omega (arith, is)) refl
    (omega (arith, length-append bytes rest)) (sym (take-append_seam bytes rest)) (sym (drop-append_seam bytes rest))).0

field_read : (kind : ℕ) (value : Option (List ℕ)) (rest : List ℕ) (items : List Item) → 0 < kind → kind < 255 → items_of rest ≡ items
    → items_of (bytes_option kind value ++ rest) ≡ with_item kind value items
field_read kind None rest items some below is = is
field_read kind (Some bytes) rest items some below is = item_read kind bytes rest some below ∙ ap (λ more. item_with kind bytes ∷ more) is

pub fields_read : (fields : List Field) (behind : List ℕ) (items : List Item) → AllByRecursion IsRightField fields → items_of behind ≡ items
    → items_of (fields_bytes fields behind) ≡ with_items fields items
fields_read [] behind items right is = is
fields_read (f ∷ fields) behind items right is =
    field_read f.kind f.value (fields_bytes fields behind) (with_items fields items) right.0.0 right.0.1 (fields_read fields behind items right.1 is)

-- the value of a field where it is of the kind, and else what was before
abbrev pub or_before : Option (List ℕ) → Option (List ℕ) → Option (List ℕ)
or_before None before = before
or_before (Some bytes) before = Some bytes

abbrev pub counting : ℕ → Option (List ℕ) → List Field → Option (List ℕ)
counting wanted before [] = before
counting wanted before (f ∷ fields) = counting wanted (cond (eqb f.kind wanted) (or_before f.value before) before) fields

newest_right : (wanted kind : ℕ) (bytes : List ℕ) (before : Option (List ℕ)) (same : Bool) → eqb kind wanted ≡ same → is_right kind bytes ≡ true
    → newest_of wanted (item_with kind bytes) before ≡ cond (eqb kind wanted) (Some bytes) before
newest_right wanted kind bytes before true is right =
    let P : ℕ → Type 0 = λ k. is_right k bytes ≡ true in
    let also : is_right wanted bytes ≡ true = subst P (eqb-true kind wanted is) right in
    rw (is, also) refl
newest_right wanted kind bytes before false is right = rw is refl

same_either : (same : Bool) (before : Option (List ℕ)) → before ≡ cond same before before
same_either true before = refl
same_either false before = refl

counts_field : (wanted kind : ℕ) (value before : Option (List ℕ)) (items : List Item) → IfSome value (λ bytes. is_right kind bytes ≡ true)
    → last_from wanted before (with_item kind value items) ≡ last_from wanted (cond (eqb kind wanted) (or_before value before) before) items
counts_field wanted kind None before items right = ap (λ b. last_from wanted b items) (same_either (eqb kind wanted) before)
counts_field wanted kind (Some bytes) before items right =
    ap (λ b. last_from wanted b items) (newest_right wanted kind bytes before (eqb kind wanted) refl right)

pub counts_fields : (wanted : ℕ) (before : Option (List ℕ)) (fields : List Field) (items : List Item) → AllByRecursion IsRightField fields
    → last_from wanted before (with_items fields items) ≡ last_from wanted (counting wanted before fields) items
counts_fields wanted before [] items right = refl
counts_fields wanted before (f ∷ fields) items right =
    counts_field wanted f.kind f.value before (with_items fields items) right.0.2
    ∙ counts_fields wanted (cond (eqb f.kind wanted) (or_before f.value before) before) fields items right.1

-- the caller's options
abbrev pub option_item : OptionValue → Item
option_item option = item_with option.kind option.bytes

pub options_read : (options : List OptionValue) → AllByRecursion IsPassedOver options
    → items_of (additional_bytes options ++ 255 ∷ []) ≡ map option_item options
options_read [] passed = end_here 255 [] refl
options_read (option ∷ options) passed =
    ap items_of (append_assoc (option_bytes option.kind option.bytes) (additional_bytes options) (255 ∷ []))
    ∙ item_read option.kind option.bytes (additional_bytes options ++ 255 ∷ []) passed.0.0.0 passed.0.0.1
    ∙ ap (λ more. option_item option ∷ more) (options_read options passed.1)

other_kind : (wanted kind : ℕ) (same : Bool) → eqb kind wanted ≡ same → is_known wanted ≡ true → is_known kind ≡ false → same ≡ false
other_kind wanted kind true is known unknown =
    let P : ℕ → Type 0 = λ k. is_known k ≡ false in
    sym known ∙ subst P (eqb-true kind wanted is) unknown
other_kind wanted kind false is known unknown = refl

newest_other : (wanted kind : ℕ) (bytes : List ℕ) (before : Option (List ℕ)) → eqb kind wanted ≡ false
    → newest_of wanted (item_with kind bytes) before ≡ before
newest_other wanted kind bytes before is = rw is refl

pub options_passed : (wanted : ℕ) (before : Option (List ℕ)) (options : List OptionValue) → is_known wanted ≡ true
    → AllByRecursion IsPassedOver options → last_from wanted before (map option_item options) ≡ before
options_passed wanted before [] known passed = refl
options_passed wanted before (option ∷ options) known passed =
    let other : eqb option.kind wanted ≡ false = other_kind wanted option.kind (eqb option.kind wanted) refl known passed.0.1 in
    ap (λ b. last_from wanted b (map option_item options)) (newest_other wanted option.kind option.bytes before other)
    ∙ options_passed wanted before options known passed.1
