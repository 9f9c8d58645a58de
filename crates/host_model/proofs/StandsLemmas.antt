-- Whether a frame, a name, or a type and a name stand in front of bytes.
use Rattle.std.proofs.Common.{◌≡◌, ℕ, ◌^◌, ◌<◌, ◌≤◌, ◌⊎◌, inl, inr, ⊎_elim, Bool, true, false, nat_eq, List, [], ◌∷◌, ◌++◌, length, get_or, take, drop, ap, sym, subst, ◌∙◌, refl, arith, append_assoc, take-append-drop, length-append, length-take-le, leb}
use Rattle.std.specs.Int.{from_be_bytes, to_be_bytes, w16}
use Rattle.std.specs.Str.{IsUtf8, is_utf8}
use Rattle.std.specs.Cmp.Lexicographic.{pointwise}
use Rattle.std.proofs.lemmas.List.{take_at}
use Rattle.std.proofs.lemmas.Slice.Eq.{slice_eq-Decides}
use Rattle.std.proofs.lemmas.Str.{IsUtf8-from_is_utf8, is_utf8-from_IsUtf8}
use Rattle.std.proofs.lemmas.Bool.Decides.{Decides-eqb, leb_tells, not_from_Decides}
use Rattle.std.proofs.lemmas.Nat.{from_be_bytes-to_be_bytes_2}
use Rattle.net_wire.specs.declared.dns.dns_type.DnsType.{DnsType}
use Rattle.net_wire.specs.declared.dns.dns_type.DnsType.TheVariants.{A, Aaaa}
use Rattle.net_wire.specs.DnsMessage.{type_number}
use Rattle.host_model.specs.Script.{name_part, IsAskedType}
use Rattle.host_model.proofs.PartLemmas.{FrameBehind, NameBehind, TypeBehind}

by_test : {P : Type 0} (b : Bool) → (b ≡ true → P) → (b ≡ false → P) → P
by_test true so not_so = so refl
by_test false so not_so = not_so refl

-- a number is another one, or not
pub same_or_not : (a b : ℕ) → (a ≡ b) ⊎ (a ≡ b → ⊥)
same_or_not a b = by_test (nat_eq a b) (λ same. inl ((Decides-eqb a b).0 same)) (λ differs. inr (not_from_Decides (nat_eq a b) (Decides-eqb a b) differs))

pub list_or_not : (xs ys : List ℕ) → (xs ≡ ys) ⊎ (xs ≡ ys → ⊥)
list_or_not xs ys =
    let test = pointwise nat_eq xs ys in
    let decides = slice_eq-Decides Decides-eqb xs ys test refl in
    let P : Type 0 = (xs ≡ ys) ⊎ (xs ≡ ys → ⊥) in
    by_test {P = P} test (λ same. inl (decides.0 same)) (λ differs. inr (not_from_Decides test decides differs))

utf8_or_not : (bytes : List ℕ) → IsUtf8 bytes ⊎ (IsUtf8 bytes → ⊥)
utf8_or_not bytes =
    let P : Type 0 = IsUtf8 bytes ⊎ (IsUtf8 bytes → ⊥) in
    by_test {P = P} (is_utf8 bytes) (λ is. inl (IsUtf8-from_is_utf8 bytes is))
    (λ is_not. inr (λ (is : IsUtf8 bytes). let wrong : true ≡ false = sym (is_utf8-from_IsUtf8 bytes is) ∙ is_not in cc))

-- bytes that begin with a frame behind its length
abbrev pub FrameThere : List ℕ → Type 0
FrameThere bytes = (rest : List ℕ) × FrameBehind bytes rest

-- with a name behind its length
abbrev pub NameThere : List ℕ → Type 0
NameThere bytes = (rest : List ℕ) × NameBehind bytes rest

-- and with a type of addresses and a name
abbrev pub TypeThere : List ℕ → Type 0
TypeThere bytes = (rest : List ℕ) × TypeBehind bytes rest

-- the number where the length of a frame stands
abbrev len_of : List ℕ → ℕ
len_of bytes = from_be_bytes w16 (take 2 bytes)

-- what it takes that a frame stands there
record FrameFits (bytes : List ℕ) : Type 0 where
  number : take 2 bytes ≡ to_be_bytes w16 (len_of bytes)
  fits : len_of bytes < 2 ^ 16
  enough : len_of bytes ≤ length (drop 2 bytes)

frame_fits : (bytes : List ℕ) → FrameThere bytes → FrameFits bytes
frame_fits bytes there =
    let rest = there.0 in
    let found = there.1 in
    let len : length found.frame ≡ len_of bytes =
    sym (ap (λ l. from_be_bytes w16 (take 2 l)) found.whole ∙ from_be_bytes-to_be_bytes_2 (length found.frame) found.fits) in
    let counted : length (drop 2 bytes) ≡ length (found.frame ++ rest) = ap (λ l. length (drop 2 l)) found.whole in
    record {
      number = ap (take 2) found.whole ∙ ap (to_be_bytes w16) len;
      fits = omega (arith, len, found.fits);
      enough = omega (arith, len, counted, length-append found.frame rest);
    }

fitting_frame : (bytes : List ℕ) → FrameFits bytes → FrameThere bytes
fitting_frame bytes is =
    let len = len_of bytes in
    let frame = take len (drop 2 bytes) in
    let more = drop len (drop 2 bytes) in
    let is_long : length frame ≡ len = length-take-le len (drop 2 bytes) is.enough in (
      more,
      record {
        frame = frame;
        fits = omega (arith, is_long, is.fits);
        whole = sym (take-append-drop 2 bytes) ∙ ap (λ l. l ++ drop 2 bytes) (is.number ∙ ap (to_be_bytes w16) (sym is_long))
            ∙ ap (λ l. to_be_bytes w16 (length frame) ++ l) (sym (take-append-drop len (drop 2 bytes)))
            ∙ sym (append_assoc (to_be_bytes w16 (length frame)) frame more);
      },
    )

fits_or_not : (bytes : List ℕ) → FrameFits bytes ⊎ (FrameFits bytes → ⊥)
fits_or_not bytes =
    let len = len_of bytes in
    ⊎_elim
    (λ (number : take 2 bytes ≡ to_be_bytes w16 len).
    ⊎_elim
    (λ (enough : (leb len (length (drop 2 bytes)) ≡ true) × (len ≤ length (drop 2 bytes))).
    ⊎_elim
    (λ (long : (leb (2 ^ 16) len ≡ true) × (2 ^ 16 ≤ len)). inr (λ (is : FrameFits bytes). omega (arith, is.fits, long.1)))
    (λ (fits : (leb (2 ^ 16) len ≡ false) × (len < 2 ^ 16)). inl (record { number = number; fits = fits.1; enough = enough.1 }))
    (leb_tells (2 ^ 16) len))
    (λ (short : (leb len (length (drop 2 bytes)) ≡ false) × (length (drop 2 bytes) < len)).
    inr (λ (is : FrameFits bytes). omega (arith, is.enough, short.1)))
    (leb_tells len (length (drop 2 bytes))))
    (λ (differs : take 2 bytes ≡ to_be_bytes w16 len → ⊥). inr (λ (is : FrameFits bytes). differs is.number))
    (list_or_not (take 2 bytes) (to_be_bytes w16 len))

pub frame_or_not : (bytes : List ℕ) → FrameThere bytes ⊎ (FrameThere bytes → ⊥)
frame_or_not bytes =
    ⊎_elim (λ (fits : FrameFits bytes). inl (fitting_frame bytes fits))
    (λ (none : FrameFits bytes → ⊥). inr (λ (there : FrameThere bytes). none (frame_fits bytes there)))
    (fits_or_not bytes)

-- what it takes that a name stands behind a length
record NameFits (len : ℕ) (more : List ℕ) : Type 0 where
  fits : len < 2 ^ 8
  enough : len ≤ length more
  text : IsUtf8 (take len more)

name_fits : (len : ℕ) (more : List ℕ) → NameThere (len ∷ more) → NameFits len more
name_fits len more there =
    let rest = there.0 in
    let found = there.1 in
    let lengths : len ≡ length found.name = ap (λ l. get_or l 0 0) found.whole in
    let stands : more ≡ found.name ++ rest = ap (drop 1) found.whole in
    let counted : length more ≡ length (found.name ++ rest) = ap length stands in
    let name : take len more ≡ found.name = ap (take len) stands ∙ take_at found.name rest len (sym lengths) in
    record {
      fits = omega (arith, lengths, found.is_name.0);
      enough = omega (arith, lengths, counted, length-append found.name rest);
      text = subst IsUtf8 (sym name) found.is_name.1;
    }

fitting_name : (len : ℕ) (more : List ℕ) → NameFits len more → NameThere (len ∷ more)
fitting_name len more is =
    let name = take len more in
    let is_long : length name ≡ len = length-take-le len more is.enough in (
      drop len more,
      record {
        name = name;
        is_name = (omega (arith, is_long, is.fits), is.text);
        whole = ap (λ l. len ∷ l) (sym (take-append-drop len more)) ∙ ap (λ n. n ∷ (name ++ drop len more)) (sym is_long);
      },
    )

text_or_not : (len : ℕ) (more : List ℕ) → NameFits len more ⊎ (NameFits len more → ⊥)
text_or_not len more =
    ⊎_elim
    (λ (text : IsUtf8 (take len more)).
    ⊎_elim
    (λ (enough : (leb len (length more) ≡ true) × (len ≤ length more)).
    ⊎_elim
    (λ (long : (leb (2 ^ 8) len ≡ true) × (2 ^ 8 ≤ len)). inr (λ (is : NameFits len more). omega (arith, is.fits, long.1)))
    (λ (fits : (leb (2 ^ 8) len ≡ false) × (len < 2 ^ 8)). inl (record { fits = fits.1; enough = enough.1; text = text }))
    (leb_tells (2 ^ 8) len))
    (λ (short : (leb len (length more) ≡ false) × (length more < len)). inr (λ (is : NameFits len more). omega (arith, is.enough, short.1)))
    (leb_tells len (length more)))
    (λ (none : IsUtf8 (take len more) → ⊥). inr (λ (is : NameFits len more). none is.text))
    (utf8_or_not (take len more))

pub name_or_not : (bytes : List ℕ) → NameThere bytes ⊎ (NameThere bytes → ⊥)
name_or_not [] =
    inr (λ (there : NameThere []).
    let counted : 0 ≡ length (name_part there.1.name ++ there.0) = ap length there.1.whole in omega (arith, counted))
name_or_not (len ∷ more) =
    ⊎_elim (λ (fits : NameFits len more). inl (fitting_name len more fits))
    (λ (none : NameFits len more → ⊥). inr (λ (there : NameThere (len ∷ more)). none (name_fits len more there)))
    (text_or_not len more)

-- a type of addresses stands there, and then a name
typed : (type_ : DnsType) (bytes : List ℕ) → IsAskedType type_ → take 2 bytes ≡ to_be_bytes w16 (type_number type_) → NameThere (drop 2 bytes)
    → TypeThere bytes
typed type_ bytes asked number there =
    let found = there.1 in (
      there.0,
      record {
        type_ = type_;
        asked = asked;
        name = found.name;
        is_name = found.is_name;
        whole = sym (take-append-drop 2 bytes) ∙ ap (λ l. l ++ drop 2 bytes) number
            ∙ ap (λ l. to_be_bytes w16 (type_number type_) ++ l) found.whole
            ∙ sym (append_assoc (to_be_bytes w16 (type_number type_)) (name_part found.name) there.0);
      },
    )

pub type_or_not : (bytes : List ℕ) → TypeThere bytes ⊎ (TypeThere bytes → ⊥)
type_or_not bytes =
    ⊎_elim
    (λ (named : NameThere (drop 2 bytes)).
    ⊎_elim
    (λ (is : take 2 bytes ≡ to_be_bytes w16 1). inl (typed A bytes (inl refl) is named))
    (λ (not_a : take 2 bytes ≡ to_be_bytes w16 1 → ⊥).
    ⊎_elim (λ (is : take 2 bytes ≡ to_be_bytes w16 28). inl (typed Aaaa bytes (inr refl) is named))
    (λ (not_aaaa : take 2 bytes ≡ to_be_bytes w16 28 → ⊥).
    inr (λ (there : TypeThere bytes).
    let number : take 2 bytes ≡ to_be_bytes w16 (type_number there.1.type_) = ap (take 2) there.1.whole in
    ⊎_elim (λ (is : there.1.type_ ≡ A). not_a (number ∙ ap (λ t. to_be_bytes w16 (type_number t)) is))
    (λ (is : there.1.type_ ≡ Aaaa). not_aaaa (number ∙ ap (λ t. to_be_bytes w16 (type_number t)) is)) there.1.asked))
    (list_or_not (take 2 bytes) (to_be_bytes w16 28)))
    (list_or_not (take 2 bytes) (to_be_bytes w16 1)))
    (λ (none : NameThere (drop 2 bytes) → ⊥).
    inr (λ (there : TypeThere bytes).
    none (there.0, record { name = there.1.name; is_name = there.1.is_name; whole = ap (drop 2) there.1.whole })))
    (name_or_not (drop 2 bytes))
