-- What was read behind the head of an event, and is no whole event.
use Rattle.std.proofs.Common.{◌≡◌, ℕ, ◌^◌, ◌<◌, ◌⊎◌, inl, inr, ⊎_elim, List, [], ◌∷◌, ◌++◌, length, Option, get_or, ap, sym, subst, ◌∙◌, refl, arith, append_assoc, append-nil, length-append}
use Rattle.std.specs.Int.{to_be_bytes, from_be_bytes, w16}
use Rattle.std.specs.Io.KnownBytes.{Consumes, IsAtEnd}
use Rattle.std.specs.Str.{IsUtf8}
use Rattle.std.proofs.KnownBytes.{Consumes-trans}
use Rattle.std.proofs.lemmas.Nat.{be_bytes_2}
use Rattle.net_wire.specs.declared.dns.dns_type.DnsType.{DnsType}
use Rattle.net_wire.specs.declared.dns.dns_type.DnsType.TheVariants.{A}
use Rattle.net_wire.specs.DnsMessage.{type_number}
use Rattle.host_model.specs.Script.{head_with, IsAskedType}
use Rattle.host_model.specs.Parts.{BeginsQuery, IsInside}
use Rattle.script_reader.specs.declared.script.KindByte.TheVariants as kinds
use Rattle.script_reader.specs.declared.script.ReadEventError.{ReadEventError}
use Rattle.script_reader.specs.declared.script.ReadEventError.TheVariants as script
use Rattle.script_reader.specs.Head.{GivesType, CutsName, CutsRest}
use Rattle.script_reader.specs.Reading.{EndsWith}
use Rattle.script_reader.proofs.ReadingLemmas.{one_byte}

-- reading ended before a part was whole: the source failed, or the input ended
abbrev pub Ended : ReadEventError → Option (List ℕ) → Type 0
Ended error left = (error ≡ script.Read) ⊎ ((offset : ℕ) × (error ≡ script.Script offset) × IsAtEnd left)

ends_inside : (error : ReadEventError) (last : ℕ) (left : Option (List ℕ)) (part : List ℕ) → Ended error left → 0 < length part → IsInside last part
    → EndsWith error last left part
ends_inside error last left part ended some inside =
    let P : ReadEventError → Type 0 = λ e. EndsWith e last left part in
    ⊎_elim (λ (is_read : error ≡ script.Read). subst P (sym is_read) inside)
    (λ (at_end : (offset : ℕ) × (error ≡ script.Script offset) × IsAtEnd left).
    subst P (sym at_end.1) (inr (record { some = some; inside = inside; at_end = at_end.2 })))
    ended

-- behind a head there are bytes
some_with : (kind at : ℕ) (part : List ℕ) → 0 < length (head_with kind at ++ part)
some_with kind at part = omega (arith, length-append (head_with kind at) part)

query_some : (type_ : DnsType) (at : ℕ) (head part : List ℕ) → BeginsQuery type_ at head → 0 < length (head ++ part)
query_some type_ at head part begins =
    ⊎_elim
    (λ (plain : (type_ ≡ A) × (head ≡ head_with 3 at)).
    let counted : length head ≡ length (head_with 3 at) = ap length plain.1 in omega (arith, counted, length-append head part))
    (λ (typed : IsAskedType type_ × (head ≡ head_with 5 at ++ to_be_bytes w16 (type_number type_))).
    let counted : length head ≡ length (head_with 5 at ++ to_be_bytes w16 (type_number type_)) = ap length typed.1 in
    omega (arith, counted, length-append head part, length-append (head_with 5 at) (to_be_bytes w16 (type_number type_))))
    begins

-- a part of a frame's length
pub cut_length : (error : ReadEventError) (left_old left_new : Option (List ℕ)) (front : List ℕ) → length front < 2
    → Consumes left_old left_new front → Ended error left_new → CutsRest error kinds.Frame left_old left_new
cut_length error left_old left_new front short took ended = record {
  part = front;
  took = took;
  ends = λ last at right.
      ends_inside error last left_new (head_with 1 at ++ front) ended (some_with 1 at front)
      (inr (inr (inl (record { at = at; right = right; front = front; whole = refl; short = short }))));
}

-- a length and a part of a frame
pub cut_frame : (error : ReadEventError) (left_old left_mid left_new : Option (List ℕ)) (bytes front : List ℕ) (len : ℕ)
    → length bytes ≡ 2 → ((i : ℕ) → get_or bytes i 0 < 256) → len ≡ from_be_bytes w16 bytes → len < 2 ^ 16 → length front < len
    → Consumes left_old left_mid bytes → Consumes left_mid left_new front → Ended error left_new
    → CutsRest error kinds.Frame left_old left_new
cut_frame error left_old left_mid left_new bytes front len is_long are_bytes number fits short first second ended = record {
  part = bytes ++ front;
  took = Consumes-trans left_old left_mid left_new bytes front first second;
  ends = λ last at right.
      ends_inside error last left_new (head_with 1 at ++ (bytes ++ front)) ended (some_with 1 at (bytes ++ front)) (inr (inr (inr (inl (record {
        at = at;
        right = right;
        len = len;
        fits = fits;
        front = front;
        whole = ap (λ l. head_with 1 at ++ (l ++ front)) (sym (be_bytes_2 bytes len is_long are_bytes number));
        short = short;
      })))));
}

-- a part of a type
pub cut_type : (error : ReadEventError) (left_old left_new : Option (List ℕ)) (front : List ℕ) → length front < 2
    → Consumes left_old left_new front → Ended error left_new → CutsRest error kinds.TypedQuery left_old left_new
cut_type error left_old left_new front short took ended = record {
  part = front;
  took = took;
  ends = λ last at right.
      ends_inside error last left_new (head_with 5 at ++ front) ended (some_with 5 at front)
      (inr (inr (inr (inr (inl (record { at = at; right = right; front = front; whole = refl; short = short }))))));
}

-- a type that is none of addresses
pub wrong_type : (offset : ℕ) (left_old left_new : Option (List ℕ)) (bytes : List ℕ) (number : ℕ)
    → length bytes ≡ 2 → ((i : ℕ) → get_or bytes i 0 < 256) → number ≡ from_be_bytes w16 bytes → number < 2 ^ 16
    → ((number ≡ 1) ⊎ (number ≡ 28) → ⊥) → Consumes left_old left_new bytes
    → CutsRest (script.Script offset) kinds.TypedQuery left_old left_new
wrong_type offset left_old left_new bytes number is_long are_bytes is_number fits wrong took = record {
  part = bytes;
  took = took;
  ends = λ last at right. inl (inr (inr (inl (record {
    at = at;
    right = right;
    number = number;
    fits = fits;
    whole = ap (λ l. head_with 5 at ++ l) (sym (be_bytes_2 bytes number is_long are_bytes is_number));
    wrong = wrong;
  }))));
}

-- no byte of a name's length
pub cut_name_length : (error : ReadEventError) (left_old left_new : Option (List ℕ)) (front : List ℕ) → length front < 1
    → Consumes left_old left_new front → Ended error left_new → CutsName error left_old left_new
cut_name_length error left_old left_new (byte ∷ front) short took ended = absurd (omega (arith, short))
cut_name_length error left_old left_new [] short took ended = record {
  part = [];
  took = took;
  ends = λ type_ last at head right begins.
      let P : List ℕ → Type 0 = λ l. BeginsQuery type_ at l in
      ends_inside error last left_new (head ++ []) ended (query_some type_ at head [] begins)
      (inr (inr (inr (inr (inr (inl (record { type_ = type_; at = at; right = right; begins = subst P (sym (append-nil head)) begins })))))));
}

-- a length and a part of a name
pub cut_name : (error : ReadEventError) (left_old left_mid left_new : Option (List ℕ)) (bytes front : List ℕ) (len : ℕ)
    → length bytes ≡ 1 → get_or bytes 0 0 ≡ len → len < 2 ^ 8 → length front < len
    → Consumes left_old left_mid bytes → Consumes left_mid left_new front → Ended error left_new → CutsName error left_old left_new
cut_name error left_old left_mid left_new bytes front len is_one is_len fits short first second ended = record {
  part = bytes ++ front;
  took = Consumes-trans left_old left_mid left_new bytes front first second;
  ends = λ type_ last at head right begins.
      ends_inside error last left_new (head ++ (bytes ++ front)) ended (query_some type_ at head (bytes ++ front) begins)
      (inr (inr (inr (inr (inr (inr (record {
        type_ = type_;
        at = at;
        right = right;
        head = head;
        begins = begins;
        len = len;
        fits = fits;
        front = front;
        whole = ap (λ l. head ++ (l ++ front)) (one_byte bytes len is_one is_len);
        short = short;
      })))))));
}

-- a name that is not in UTF-8
pub wrong_name : (offset : ℕ) (left_old left_mid left_new : Option (List ℕ)) (bytes name : List ℕ) (len : ℕ)
    → length bytes ≡ 1 → get_or bytes 0 0 ≡ len → len < 2 ^ 8 → length name ≡ len → (IsUtf8 name → ⊥)
    → Consumes left_old left_mid bytes → Consumes left_mid left_new name → CutsName (script.Script offset) left_old left_new
wrong_name offset left_old left_mid left_new bytes name len is_one is_len fits is_long wrong first second = record {
  part = bytes ++ name;
  took = Consumes-trans left_old left_mid left_new bytes name first second;
  ends = λ type_ last at head right begins. inl (inr (inr (inr (record {
    type_ = type_;
    at = at;
    right = right;
    head = head;
    begins = begins;
    name = name;
    fits = omega (arith, is_long, fits);
    whole = ap (λ l. head ++ (l ++ name)) (one_byte bytes len is_one is_len ∙ ap (λ n. n ∷ []) (sym is_long));
    wrong = wrong;
  }))));
}

-- of a query without a type, and of one behind it
pub plain_name : (error : ReadEventError) (left_old left_new : Option (List ℕ)) → CutsName error left_old left_new
    → CutsRest error kinds.Query left_old left_new
plain_name error left_old left_new cuts =
    record { part = cuts.part; took = cuts.took; ends = λ last at right. cuts.ends A last at (head_with 3 at) right (inl (refl, refl)) }

pub typed_name : (error : ReadEventError) (left_old left_mid left_new : Option (List ℕ)) (query_type : DnsType)
    → GivesType left_old left_mid query_type → CutsName error left_mid left_new → CutsRest error kinds.TypedQuery left_old left_new
typed_name error left_old left_mid left_new query_type typed cuts =
    let number = to_be_bytes w16 (type_number query_type) in
    record {
      part = number ++ cuts.part;
      took = Consumes-trans left_old left_mid left_new number cuts.part typed.took cuts.took;
      ends = λ last at right.
          let P : List ℕ → Type 0 = λ l. EndsWith error last left_new l in
          subst P (append_assoc (head_with 5 at) number cuts.part)
          (cuts.ends query_type last at (head_with 5 at ++ number) right (inr (typed.asked, refl)));
    }
