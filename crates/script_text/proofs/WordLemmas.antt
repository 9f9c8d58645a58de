-- The words of a line, by its front.
use Rattle.std.proofs.Common.{◌≡◌, ℕ, suc, ◌+◌, ◌<◌, ◌≤◌, ◌==◌, ◌&&◌, not, cond, Bool, true, false, List, [], ◌∷◌, ◌++◌, length, take, drop, ap, sym, subst, ◌∙◌, refl, arith, append-nil, ◌-◌, length-drop, length-take}
use Rattle.std.specs.List.{list_all, slice_split, prefix_len}
use Rattle.std.specs.Prelude.{filter}
use Rattle.std.proofs.lemmas.Bool.{eqb-true, ne_eqb}
use Rattle.std.proofs.lemmas.List.{take-append-drop, take_all}
use Rattle.std.proofs.lemmas.List.Splits.{slice_split-cons_yes}
use Rattle.script_text.specs.Lines.{uncommented, is_blank, is_inside, is_word, words_of}
use Rattle.script_text.proofs.ReadBackLemmas.{both_true, not_true, split_none, split_at}

one_more : (n : ℕ) → 1 + n ≡ suc n
one_more n = omega arith

-- a line whose first byte is no #, and one whose first byte is
goes_on : (byte : ℕ) (line : List ℕ) → (byte == 0x23) ≡ false → uncommented (byte ∷ line) ≡ byte ∷ uncommented line
goes_on byte line other =
    let more = prefix_len (λ b. not (b == 0x23)) line in
    let P : Bool → List ℕ = λ t. take (cond (not t) (1 + more) 0) (byte ∷ line) in
    ap P other ∙ ap (λ n. take n (byte ∷ line)) (one_more more)

ends : (byte : ℕ) (line : List ℕ) → (byte == 0x23) ≡ true → uncommented (byte ∷ line) ≡ []
ends byte line is =
    let more = prefix_len (λ b. not (b == 0x23)) line in
    let P : Bool → List ℕ = λ t. take (cond (not t) (1 + more) 0) (byte ∷ line) in
    ap P is

-- a blank begins no comment
blank_other : (byte : ℕ) (test : Bool) → (byte == 0x23) ≡ test → is_blank byte ≡ true → test ≡ false
blank_other byte false is blank = refl
blank_other byte true is blank =
    let same : byte ≡ 0x23 = eqb-true byte 0x23 is in
    let clash : false ≡ true = subst (λ b. is_blank b ≡ true) same blank in cc

-- a blank in front counts for nothing
pub skip : (byte : ℕ) (line : List ℕ) → is_blank byte ≡ true → words_of (byte ∷ line) ≡ words_of line
skip byte line blank =
    ap (λ l. filter is_word (slice_split is_blank l)) (goes_on byte line (blank_other byte (byte == 0x23) refl blank))
    ∙ ap (filter is_word) (slice_split-cons_yes is_blank byte (uncommented line) blank)

skip_by : (byte : ℕ) (line : List ℕ) (test : Bool) → is_blank byte ≡ test
    → words_of (drop (prefix_len is_blank line) line) ≡ words_of line
    → words_of (drop (cond test (1 + prefix_len is_blank line) 0) (byte ∷ line)) ≡ words_of (byte ∷ line)
skip_by byte line true is rest =
    ap (λ n. words_of (drop n (byte ∷ line))) (one_more (prefix_len is_blank line)) ∙ rest ∙ sym (skip byte line is)
skip_by byte line false is rest = refl

pub skip_blanks : (line : List ℕ) → words_of (drop (prefix_len is_blank line) line) ≡ words_of line
skip_blanks [] = refl
skip_blanks (byte ∷ line) = skip_by byte line (is_blank byte) refl (skip_blanks line)

-- what stands behind a front that passes, as long as it may be
ends_by : (test : ℕ → Bool) (x byte : ℕ) (xs more : List ℕ) (t : Bool) → test x ≡ t
    → (drop (prefix_len test xs) xs ≡ byte ∷ more → test byte ≡ false)
    → drop (cond t (1 + prefix_len test xs) 0) (x ∷ xs) ≡ byte ∷ more → test byte ≡ false
ends_by test x byte xs more true is rest same =
    rest (ap (λ n. drop n (x ∷ xs)) (sym (one_more (prefix_len test xs))) ∙ same)
ends_by test x byte xs more false is rest same =
    let head : x ≡ byte = cc same in subst (λ b. test b ≡ false) head is

pub front_ends : (test : ℕ → Bool) (xs : List ℕ) (byte : ℕ) (more : List ℕ) → drop (prefix_len test xs) xs ≡ byte ∷ more → test byte ≡ false
front_ends test [] byte more same = cc
front_ends test (x ∷ xs) byte more same = ends_by test x byte xs more (test x) refl (front_ends test xs byte more) same

passes_by : (test : ℕ → Bool) (x : ℕ) (xs : List ℕ) (t : Bool) → test x ≡ t → list_all test (take (prefix_len test xs) xs) ≡ true
    → list_all test (take (cond t (1 + prefix_len test xs) 0) (x ∷ xs)) ≡ true
passes_by test x xs true is rest =
    let P : Bool → Bool = λ a. a && list_all test (take (prefix_len test xs) xs) in
    ap (λ n. list_all test (take n (x ∷ xs))) (one_more (prefix_len test xs)) ∙ ap P is ∙ rest
passes_by test x xs false is rest = refl

pub front_passes : (test : ℕ → Bool) (xs : List ℕ) → list_all test (take (prefix_len test xs) xs) ≡ true
front_passes test [] = refl
front_passes test (x ∷ xs) = passes_by test x xs (test x) refl (front_passes test xs)

-- a word in front
weaker : (test other : ℕ → Bool) (xs : List ℕ) → ((x : ℕ) → test x ≡ true → other x ≡ true) → list_all test xs ≡ true → list_all other xs ≡ true
weaker test other [] each all = refl
weaker test other (x ∷ xs) each all =
    let parts = both_true (test x) (list_all test xs) all in
    let P : Bool → Bool = λ a. a && list_all other xs in
    ap P (each x parts.0) ∙ weaker test other xs each parts.1

inside_blank : (byte : ℕ) → is_inside byte ≡ true → not (is_blank byte) ≡ true
inside_blank byte is = (both_true (not (is_blank byte)) (not (byte == 0x23)) is).0

inside_hash : (byte : ℕ) → is_inside byte ≡ true → not (byte == 0x23) ≡ true
inside_hash byte is = (both_true (not (is_blank byte)) (not (byte == 0x23)) is).1

front_stays : (word line : List ℕ) → list_all is_inside word ≡ true → uncommented (word ++ line) ≡ word ++ uncommented line
front_stays [] line inside = refl
front_stays (byte ∷ word) line inside =
    let parts = both_true (is_inside byte) (list_all is_inside word) inside in
    goes_on byte (word ++ line) (not_true (byte == 0x23) (inside_hash byte parts.0)) ∙ ap (λ l. byte ∷ l) (front_stays word line parts.1)

keeps : (word : List ℕ) (words : List (List ℕ)) → 0 < length word → filter is_word (word ∷ words) ≡ word ∷ filter is_word words
keeps word words some =
    let is : not (length word == 0) ≡ true = ap not (ne_eqb (length word) 0 (λ same. omega (arith, same, some))) in
    let P : Bool → List (List ℕ) = λ t. cond t (word ∷ filter is_word words) (filter is_word words) in
    ap P is

alone : (word : List ℕ) → 0 < length word → list_all is_inside word ≡ true → filter is_word (slice_split is_blank (word ++ [])) ≡ word ∷ []
alone word some inside =
    ap (λ l. filter is_word (slice_split is_blank l)) (append-nil word)
    ∙ ap (filter is_word) (split_none is_blank word (weaker is_inside (λ b. not (is_blank b)) word inside_blank inside)) ∙ keeps word [] some

-- a comment behind it, or a blank
behind : (word : List ℕ) (byte : ℕ) (rest : List ℕ) (blank hash : Bool) → 0 < length word → list_all is_inside word ≡ true
    → is_blank byte ≡ blank → (byte == 0x23) ≡ hash → (not blank && not hash) ≡ false
    → words_of (word ++ byte ∷ rest) ≡ word ∷ words_of (byte ∷ rest)
behind word byte rest true hash some inside blank is outside =
    ap (λ l. filter is_word (slice_split is_blank l))
    (front_stays word (byte ∷ rest) inside ∙ ap (λ l. word ++ l) (goes_on byte rest (blank_other byte (byte == 0x23) refl blank)))
    ∙ ap (filter is_word) (split_at is_blank word byte (uncommented rest) (weaker is_inside (λ b. not (is_blank b)) word inside_blank inside) blank)
    ∙ keeps word (slice_split is_blank (uncommented rest)) some
    ∙ ap (λ (l : List (List ℕ)). word ∷ l) (sym (skip byte rest blank))
behind word byte rest false true some inside blank is outside =
    ap (λ l. filter is_word (slice_split is_blank l)) (front_stays word (byte ∷ rest) inside ∙ ap (λ l. word ++ l) (ends byte rest is))
    ∙ alone word some inside
    ∙ ap (λ l. word ∷ filter is_word (slice_split is_blank l)) (sym (ends byte rest is))
behind word byte rest false false some inside blank is outside = cc

by_rest : (word rest : List ℕ) → 0 < length word → list_all is_inside word ≡ true
    → ((byte : ℕ) (more : List ℕ) → rest ≡ byte ∷ more → is_inside byte ≡ false) → words_of (word ++ rest) ≡ word ∷ words_of rest
by_rest word [] some inside ends_so =
    ap (λ l. filter is_word (slice_split is_blank l)) (front_stays word [] inside) ∙ alone word some inside
by_rest word (byte ∷ more) some inside ends_so = behind word byte more (is_blank byte) (byte == 0x23) some inside refl refl (ends_so byte more refl)

-- the first word, and the words behind it
pub first_word : (line : List ℕ) (len : ℕ) → len ≡ prefix_len is_inside line → 0 < length (take len line)
    → words_of line ≡ take len line ∷ words_of (drop len line)
first_word line len is some =
    let front : list_all is_inside (take len line) ≡ true = subst (λ n. list_all is_inside (take n line) ≡ true) (sym is) (front_passes is_inside line) in
    ap words_of (sym (take-append-drop len line))
    ∙ by_rest (take len line) (drop len line) some front
    (λ byte more same. front_ends is_inside line byte more (ap (λ n. drop n line) (sym is) ∙ same))

-- no word where a line does not begin with one
none_by : (line : List ℕ) (byte : ℕ) (blank hash : Bool) → is_blank byte ≡ blank → (byte == 0x23) ≡ hash → blank ≡ false
    → (not blank && not hash) ≡ false → words_of (byte ∷ line) ≡ []
none_by line byte true hash blank is other outside = cc
none_by line byte false true blank is other outside = ap (λ l. filter is_word (slice_split is_blank l)) (ends byte line is)
none_by line byte false false blank is other outside = cc

none_in : (rest : List ℕ) → ((byte : ℕ) (more : List ℕ) → rest ≡ byte ∷ more → is_blank byte ≡ false)
    → ((byte : ℕ) (more : List ℕ) → rest ≡ byte ∷ more → is_inside byte ≡ false) → words_of rest ≡ []
none_in [] other outside = refl
none_in (byte ∷ more) other outside =
    none_by more byte (is_blank byte) (byte == 0x23) refl refl (other byte more refl) (outside byte more refl)

pub no_word : (line rest : List ℕ) → rest ≡ drop (prefix_len is_blank line) line → 0 ≡ prefix_len is_inside rest → words_of rest ≡ []
no_word line rest is none =
    none_in rest (λ byte more same. front_ends is_blank line byte more (sym is ∙ same))
    (λ byte more same. front_ends is_inside rest byte more (ap (λ n. drop n rest) (sym none) ∙ same))

-- what is left of a line behind its front
whole_rest : (n : ℕ) (line : List ℕ) → take (length line - n) (drop n line) ≡ drop n line
whole_rest n line = take_all (length line - n) (drop n line) (omega (arith, length-drop n line))

-- the line is blanks and a comment
pub none_left : (line : List ℕ) (start len : ℕ) → start ≡ prefix_len is_blank line
    → len ≡ prefix_len is_inside (take (length line - start) (drop start line)) → len ≡ 0 → words_of line ≡ []
none_left line start len is_start is_len none =
    let rest = take (length line - start) (drop start line) in
    let same : rest ≡ drop (prefix_len is_blank line) line = whole_rest start line ∙ ap (λ n. drop n line) is_start in
    sym (skip_blanks line) ∙ ap words_of (sym same) ∙ no_word line rest same (sym none ∙ is_len)

-- or a word stands behind the blanks
pub found_next : (line : List ℕ) (start len : ℕ) → start ≡ prefix_len is_blank line
    → len ≡ prefix_len is_inside (take (length line - start) (drop start line)) → (len ≡ 0 → ⊥)
    → len ≤ length (take (length line - start) (drop start line))
    → words_of line ≡ take len (take (length line - start) (drop start line))
    ∷ words_of (take (length (take (length line - start) (drop start line)) - len) (drop len (take (length line - start) (drop start line))))
found_next line start len is_start is_len some within =
    let rest = take (length line - start) (drop start line) in
    let same : rest ≡ drop (prefix_len is_blank line) line = whole_rest start line ∙ ap (λ n. drop n line) is_start in
    sym (skip_blanks line) ∙ ap words_of (sym same)
    ∙ first_word rest len is_len (omega (arith, length-take len rest, within, some))
    ∙ ap (λ l. take len rest ∷ words_of l) (sym (whole_rest len rest))
