-- Names are read piece by piece: how many pieces are allowed for makes no difference.
use Rattle.std.proofs.Common.{◌≡◌, ℕ, zero, suc, ◌+◌, ◌<◌, ◌≤◌, Bool, true, false, cond, leb, ltb, eqb, List, [], ◌∷◌, length, take, drop, Option, Some, None, Ok, option_map, refl, sym, ◌∙◌, ap, subst, arith, length-take, length-drop}
use Rattle.std.proofs.lemmas.Bool.{cond_both, cond-true, lt-ltb, le-ltb, ltb-true}
use Rattle.net_wire.specs.DnsName.{NamePiece, AtEnd, AtLabel, AtPointer, AtFault, pointer_at, piece_at, LabelList, fault, labels_after, labels_within, labels_at, name_of, name_at, name_len_after, name_len_within, name_len, Spells, ends, goes_on, points}
use Rattle.net_wire.specs.DnsLabels.{TakesPiece}

taken-and-left : (n : ℕ) (bytes : List ℕ) → length (take n bytes) + length (drop n bytes) ≡ length bytes
taken-and-left n bytes = omega (arith, length-take n bytes, length-drop n bytes)

takes-pointer : (high : ℕ) (after : List ℕ) → TakesPiece (suc (length after)) (pointer_at high after)
takes-pointer high [] = tt
takes-pointer high (low ∷ after) = refl

takes-label : (first : ℕ) (after : List ℕ) → TakesPiece (suc (length after)) (AtLabel (take first after) (drop first after))
takes-label first after = omega (arith, taken-and-left first after)

-- the bytes of a piece and those after it are all bytes
pub takes_piece : (bytes : List ℕ) → TakesPiece (length bytes) (piece_at bytes)
takes_piece [] = tt
takes_piece (first ∷ after) =
    let P : NamePiece → Type 0 = λ piece. TakesPiece (suc (length after)) piece in
    cond_both (eqb first 0) (AtEnd after) _ P (λ _. refl) (λ _.
    cond_both (ltb first 64) _ _ P
    (λ _. cond_both (leb first (length after)) (AtLabel (take first after) (drop first after)) AtFault P (λ _. takes-label first after) (λ _. tt))
    (λ _. cond_both (ltb first 0xC0) AtFault (pointer_at first after) P (λ _. tt) (λ _. takes-pointer first after)))

module _ (f g : List ℕ → List ℕ → LabelList) (below : List ℕ) (len : ℕ)
    (same : (b r : List ℕ) → length b + length r < length below + len → f b r ≡ g b r) where
  same-piece : (piece : NamePiece) → TakesPiece len piece → labels_after f below piece ≡ labels_after g below piece
  same-piece (AtEnd after) takes = refl
  same-piece (AtLabel label after) takes = ap (λ more. Ok label ∷ more) (same below after (omega arith))
  same-piece (AtPointer target after) takes =
      ap (λ more. cond (ltb target (length below)) more fault)
      (same (take target below) (drop target below) (omega (arith, taken-and-left target below)))
  same-piece AtFault takes = refl

same-within : (n m : ℕ) (below bytes : List ℕ) → length below + length bytes ≤ n → length below + length bytes ≤ m
    → labels_within n below bytes ≡ labels_within m below bytes
unfolding labels_within
same-within zero zero below bytes h k = refl
same-within zero (suc m) below [] h k = refl
same-within zero (suc m) below (b ∷ bytes) h k = absurd (omega arith)
same-within (suc n) zero below [] h k = refl
same-within (suc n) zero below (b ∷ bytes) h k = absurd (omega arith)
same-within (suc n) (suc m) below bytes h k =
    same-piece (labels_within n) (labels_within m) below (length bytes)
    (λ b r less. same-within n m b r (omega arith) (omega arith)) (piece_at bytes) (takes_piece bytes)

-- the labels by the first piece
pub labels_at_piece : (below bytes : List ℕ) → labels_at below bytes ≡ labels_after labels_at below (piece_at bytes)
unfolding labels_within
labels_at_piece below bytes =
    let n : ℕ = length below + length bytes in
    same-within n (suc n) below bytes (omega arith) (omega arith)
    ∙ same-piece (labels_within n) labels_at below (length bytes)
    (λ b r less. same-within n (length b + length r) b r (omega arith) (omega arith)) (piece_at bytes) (takes_piece bytes)

module _ (f g : List ℕ → Option ℕ) (len : ℕ) (same : (r : List ℕ) → length r < len → f r ≡ g r) where
  same-len : (piece : NamePiece) → TakesPiece len piece → name_len_after f piece ≡ name_len_after g piece
  same-len (AtEnd after) takes = refl
  same-len (AtLabel label after) takes = ap (λ n. option_map (λ k. 1 + length label + k) n) (same after (omega arith))
  same-len (AtPointer target after) takes = refl
  same-len AtFault takes = refl

same-len-within : (n m : ℕ) (bytes : List ℕ) → length bytes ≤ n → length bytes ≤ m → name_len_within n bytes ≡ name_len_within m bytes
unfolding name_len_within
same-len-within zero zero bytes h k = refl
same-len-within zero (suc m) [] h k = refl
same-len-within zero (suc m) (b ∷ bytes) h k = absurd (omega arith)
same-len-within (suc n) zero [] h k = refl
same-len-within (suc n) zero (b ∷ bytes) h k = absurd (omega arith)
same-len-within (suc n) (suc m) bytes h k =
    same-len (name_len_within n) (name_len_within m) (length bytes)
    (λ r less. same-len-within n m r (omega arith) (omega arith)) (piece_at bytes) (takes_piece bytes)

-- the length in place by the first piece
pub name_len_piece : (bytes : List ℕ) → name_len bytes ≡ name_len_after name_len (piece_at bytes)
unfolding name_len_within
name_len_piece bytes =
    let n : ℕ = length bytes in
    same-len-within n (suc n) bytes (omega arith) (omega arith)
    ∙ same-len (name_len_within n) name_len (length bytes)
    (λ r less. same-len-within n (length r) r (omega arith) (omega arith)) (piece_at bytes) (takes_piece bytes)

-- a pointer to what lies below goes on there
pub labels_at-inside : (below bytes after : List ℕ) (target : ℕ) → AtPointer target after ≡ piece_at bytes → target < length below
    → labels_at below bytes ≡ labels_at (take target below) (drop target below)
labels_at-inside below bytes after target is inside =
    labels_at_piece below bytes ∙ ap (labels_after labels_at below) (sym is) ∙ cond-true _ _ _ (lt-ltb target (length below) inside)

-- a pointer that leads out is a fault
pub labels_at-outside : (below bytes after : List ℕ) (target : ℕ) → AtPointer target after ≡ piece_at bytes → length below ≤ target
    → labels_at below bytes ≡ fault
labels_at-outside below bytes after target is outside =
    labels_at_piece below bytes ∙ ap (labels_after labels_at below) (sym is)
    ∙ ap (λ b. cond b (labels_at (take target below) (drop target below)) fault) (le-ltb target (length below) outside)

more_counted : (len k : ℕ) (o : Option ℕ) → option_map (λ n. len + (1 + k) + n) o ≡ option_map (λ n. len + n) (option_map (λ n. 1 + k + n) o)
more_counted len k None = refl
more_counted len k (Some n) = ap Some (omega arith)

-- a label, and what the bytes after it have
pub name_len-label : (len : ℕ) (rest label after : List ℕ) (all : Option ℕ) → AtLabel label after ≡ piece_at rest
    → option_map (λ n. len + n) (name_len rest) ≡ all → option_map (λ n. len + (1 + length label) + n) (name_len after) ≡ all
name_len-label len rest label after all is counted =
    more_counted len (length label) (name_len after)
    ∙ ap (λ o. option_map (λ n. len + n) o) (sym (name_len_piece rest ∙ ap (name_len_after name_len) (sym is))) ∙ counted

module _ {X Y : Type 0} (f : X → Y) where
  pub mapped : (o : Option X) (y : Y) → option_map f o ≡ Some y → (x : X) × (o ≡ Some x) × (f x ≡ y)
  mapped None y e = let no : ⊥ = cc in absurd no
  mapped (Some x) y e = (x, refl, (let same : Some (f x) ≡ Some y = e in cc))

-- what bytes spell is what is read
pub reads : (below bytes : List ℕ) (name : List (List ℕ)) → Spells below bytes name → name_at below bytes ≡ Some name
reads below bytes name (ends below' bytes' after is) = ap name_of (labels_at_piece below' bytes' ∙ ap (labels_after labels_at below') is)
reads below bytes name (goes_on below' bytes' label after more is spells) =
    ap name_of (labels_at_piece below' bytes' ∙ ap (labels_after labels_at below') is)
    ∙ ap (λ n. option_map (λ k. label ∷ k) n) (reads below' after more spells)
reads below bytes name (points below' bytes' after target more is inside spells) =
    ap name_of (labels_at-inside below' bytes' after target (sym is) inside) ∙ reads (take target below') (drop target below') more spells

module _ (below bytes : List ℕ) (name : List (List ℕ))
    (spelled : (b r : List ℕ) (n : List (List ℕ)) → length b + length r < length below + length bytes → name_at b r ≡ Some n → Spells b r n) where
  spelled-pointer : (target : ℕ) (after : List ℕ) → 0 < length bytes → piece_at bytes ≡ AtPointer target after
      → name_of (labels_after labels_at below (AtPointer target after)) ≡ Some name → Spells below bytes name
  spelled-pointer target after some is e =
      let inside : (b : Bool) → ltb target (length below) ≡ b
      → name_of (cond b (labels_at (take target below) (drop target below)) fault) ≡ Some name → Spells below bytes name =
      λ b. elim b as (λ b. ltb target (length below) ≡ b
      → name_of (cond b (labels_at (take target below) (drop target below)) fault) ≡ Some name → Spells below bytes name) [
        | true ↦ λ test more. points below bytes after target name is (ltb-true _ _ test)
            (spelled (take target below) (drop target below) name (omega (arith, taken-and-left target below)) more)
        | false ↦ λ test more. (let no : ⊥ = cc in absurd no)
      ] in
      inside (ltb target (length below)) refl e

  spelled-piece : (piece : NamePiece) → TakesPiece (length bytes) piece → piece_at bytes ≡ piece
      → name_of (labels_after labels_at below piece) ≡ Some name → Spells below bytes name
  spelled-piece (AtEnd after) takes is e =
      let P : List (List ℕ) → Type 0 = λ n. Spells below bytes n in
      subst P (let same : Some [] ≡ Some name = e in let named : [] ≡ name = cc in named) (ends below bytes after is)
  spelled-piece (AtLabel label after) takes is e =
      let found = mapped (λ (k : List (List ℕ)). label ∷ k) (name_at below after) name e in
      let P : List (List ℕ) → Type 0 = λ n. Spells below bytes n in
      subst P found.2 (goes_on below bytes label after found.0 is (spelled below after found.0 (omega arith) found.1))
  spelled-piece (AtPointer target after) takes is e = spelled-pointer target after (omega arith) is e
  spelled-piece AtFault takes is e = (let no : ⊥ = cc in absurd no)

spelled_within : (n : ℕ) (below bytes : List ℕ) (name : List (List ℕ)) → length below + length bytes < n
    → name_at below bytes ≡ Some name → Spells below bytes name
spelled_within zero below bytes name less e = absurd (omega arith)
spelled_within (suc n) below bytes name less e =
    spelled-piece below bytes name (λ b r m fewer. spelled_within n b r m (omega arith)) (piece_at bytes) (takes_piece bytes) refl
    (ap name_of (sym (labels_at_piece below bytes)) ∙ e)

-- what is read is spelled
pub spelled : (below bytes : List ℕ) (name : List (List ℕ)) → name_at below bytes ≡ Some name → Spells below bytes name
spelled below bytes name e = spelled_within (suc (length below + length bytes)) below bytes name (omega arith) e
