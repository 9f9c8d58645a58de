-- Options are read one by one.
use Rattle.std.proofs.Common.{◌≡◌, ℕ, suc, zero, ◌<◌, ◌≤◌, List, [], ◌∷◌, length, take, drop, ap, ◌∙◌, refl, arith, length-drop, true, false, eqb, leb, cond, rules, tests}
use Rattle.net_wire.specs.DhcpOptions.{Item, OptionPiece, AtPad, AtItem, AtEnd, option_piece, sized_piece, items_after, items_within, items_of, item_with}

-- what is behind a piece is shorter than the bytes
abbrev pub IsBehind : List ℕ → OptionPiece → Type 0
IsBehind bytes (AtPad after) = length after < length bytes
IsBehind bytes (AtItem item after) = length after < length bytes
IsBehind bytes AtEnd = Unit {0}

sized_behind : (kind len : ℕ) (after : List ℕ) → IsBehind (kind ∷ len ∷ after) (sized_piece kind len after)
sized_behind kind len after =
    elim (leb len (length after)) as (λ b. IsBehind (kind ∷ len ∷ after) (cond b (AtItem (item_with kind (take len after)) (drop len after)) AtEnd))
    [ true ↦ omega (arith, length-drop len after) | false ↦ tt ]

behind : (bytes : List ℕ) → IsBehind bytes (option_piece bytes)
behind [] = tt
behind (kind ∷ []) = elim (eqb kind 0) as (λ b. IsBehind (kind ∷ []) (cond b (AtPad []) AtEnd)) [ true ↦ omega arith | false ↦ tt ]
behind (kind ∷ len ∷ after) =
    elim (eqb kind 0) as (λ b. IsBehind (kind ∷ len ∷ after) (cond b (AtPad (len ∷ after)) (cond (eqb kind 255) AtEnd (sized_piece kind len after)))) [
      | true ↦ omega arith
      | false ↦ elim (eqb kind 255) as (λ b. IsBehind (kind ∷ len ∷ after) (cond b AtEnd (sized_piece kind len after)))
          [ true ↦ tt | false ↦ sized_behind kind len after ]
    ]

-- two readings that agree on all that is shorter agree
after_same : (next other : List ℕ → List Item) (bytes : List ℕ) (piece : OptionPiece) → IsBehind bytes piece
    → ((shorter : List ℕ) → length shorter < length bytes → next shorter ≡ other shorter) → items_after next piece ≡ items_after other piece
after_same next other bytes (AtPad after) is_behind same = same after is_behind
after_same next other bytes (AtItem item after) is_behind same = ap (λ items. item ∷ items) (same after is_behind)
after_same next other bytes AtEnd is_behind same = refl

same_within : (n m : ℕ) (bytes : List ℕ) → length bytes ≤ n → length bytes ≤ m → items_within n bytes ≡ items_within m bytes
unfolding items_within
same_within zero zero bytes few few_too = refl
same_within zero (suc m) [] few few_too = refl
same_within zero (suc m) (first ∷ bytes) few few_too = absurd (omega arith)
same_within (suc n) zero [] few few_too = refl
same_within (suc n) zero (first ∷ bytes) few few_too = absurd (omega arith)
same_within (suc n) (suc m) bytes few few_too =
    after_same (items_within n) (items_within m) bytes (option_piece bytes) (behind bytes)
    (λ shorter below. same_within n m shorter (omega arith) (omega arith))

-- the options are those of the piece in front and those behind it
pub items_of_piece : (bytes : List ℕ) → items_of bytes ≡ items_after items_of (option_piece bytes)
unfolding items_within
items_of_piece [] = refl
items_of_piece (first ∷ bytes) =
    after_same (items_within (length bytes)) items_of (first ∷ bytes) (option_piece (first ∷ bytes)) (behind (first ∷ bytes))
    (λ shorter below. same_within (length bytes) (length shorter) shorter (omega arith) (omega arith))

pub no_items : (bytes : List ℕ) → length bytes ≡ 0 → items_of bytes ≡ []
no_items [] none = items_of_piece []
no_items (first ∷ bytes) none = absurd (omega (arith, none))

pub pad_here : (kind : ℕ) (after : List ℕ) → kind ≡ 0 → items_of (kind ∷ after) ≡ items_of after
pad_here kind [] is_pad = rw is_pad (items_of_piece (0 ∷ []))
pad_here kind (len ∷ after) is_pad = rw is_pad (items_of_piece (0 ∷ len ∷ after))

item_here : (kind len : ℕ) (after : List ℕ) → 0 < kind → (kind ≡ 255 → ⊥) → len ≤ length after
    → items_of (kind ∷ len ∷ after) ≡ item_with kind (take len after) ∷ items_of (drop len after)
item_here kind len after some no_end fits =
    let no_pad : eqb kind 0 ≡ false = search (rules, tests) in
    let goes_on : eqb kind 255 ≡ false = search (rules, tests) in
    let fit : leb len (length after) ≡ true = search (rules, tests) in
    items_of_piece (kind ∷ len ∷ after) ∙ rw (no_pad, goes_on, fit) refl

-- a length and bytes behind a kind
pub item_in : (kind len : ℕ) (bytes after part rest : List ℕ) → 0 < kind → (kind ≡ 255 → ⊥) → bytes ≡ len ∷ after → len ≤ length after
    → part ≡ take len after → rest ≡ drop len after
    → (items_of (kind ∷ bytes) ≡ item_with kind part ∷ items_of rest) × (length rest < length bytes)
item_in kind len bytes after part rest some no_end is_bytes fits is_part is_rest =
    rw (is_bytes, is_part, is_rest) (item_here kind len after some no_end fits, omega (arith, length-drop len after))

pub end_here : (kind : ℕ) (after : List ℕ) → kind ≡ 255 → items_of (kind ∷ after) ≡ []
end_here kind [] is_end = rw is_end (items_of_piece (255 ∷ []))
end_here kind (len ∷ after) is_end = rw is_end (items_of_piece (255 ∷ len ∷ after))

pub cut_short : (kind : ℕ) (bytes : List ℕ) → 0 < kind → length bytes ≡ 0 → items_of (kind ∷ bytes) ≡ []
cut_short kind [] some none =
    let no_pad : eqb kind 0 ≡ false = search (rules, tests) in
    items_of_piece (kind ∷ []) ∙ rw no_pad refl
cut_short kind (first ∷ bytes) some none = absurd (omega (arith, none))

pub cut_inside : (kind len : ℕ) (bytes after : List ℕ) → 0 < kind → (kind ≡ 255 → ⊥) → bytes ≡ len ∷ after → length after < len
    → items_of (kind ∷ bytes) ≡ []
cut_inside kind len bytes after some no_end is_bytes short =
    let no_pad : eqb kind 0 ≡ false = search (rules, tests) in
    let goes_on : eqb kind 255 ≡ false = search (rules, tests) in
    let unfit : leb len (length after) ≡ false = search (rules, tests) in
    rw is_bytes (items_of_piece (kind ∷ len ∷ after) ∙ rw (no_pad, goes_on, unfit) refl)
