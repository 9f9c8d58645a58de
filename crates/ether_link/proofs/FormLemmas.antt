-- What an accepted part says of the bytes, and of those that they are the first of.
use Rattle.std.proofs.Common.{◌≡◌, ℕ, ◌+◌, ◌≤◌, Bool, true, false, cond, List, length, take, Option, Some, None, min, refl, sym, ap, ◌∙◌, arith}
use Rattle.std.specs.Prelude.{nat_lt}
use Rattle.std.proofs.lemmas.Bool.Decides.{nat_tests}
use Rattle.std.proofs.lemmas.List.{length-take, length-take-le, take-take}
use Rattle.ether_link.specs.declared.err.layers.Layer.{Layer}
use Rattle.ether_link.specs.declared.err.length.LenError.{LenError}
use Rattle.ether_link.specs.declared.len_source.LenSource.{LenSource}
use Rattle.ether_link.specs.declared.len_source.LenSource.TheVariants.{Slice}
use Rattle.ether_link.specs.Form.{Form, or_else, short, long, header_len, refusal, IsHeader, IsSameHeader}

pub is_false : {E : Type 0} (b : Bool) (x : E) → cond b (Some x) None ≡ None → b ≡ false
is_false true x e = absurd (cc)
is_false false x e = refl

short-none : {E : Type 0} (wrong_len : LenError → E) (layer : Layer) (source : LenSource) (there required : ℕ)
    → short wrong_len layer source there required ≡ None → required ≤ there
short-none wrong_len layer source there required e =
    let no : nat_lt there required ≡ false = is_false (nat_lt there required) _ e in
    grind (arith, nat_tests)

short-fits : {E : Type 0} (wrong_len : LenError → E) (layer : Layer) (source : LenSource) (there required : ℕ)
    → required ≤ there → short wrong_len layer source there required ≡ None
short-fits wrong_len layer source there required fits =
    let no : nat_lt there required ≡ false = grind (arith, nat_tests) in
    rw no refl

none_of : {E : Type 0} (a b c d e : Option E) → or_else a (or_else b (or_else c (or_else d e))) ≡ None
    → (a ≡ None) × (b ≡ None) × (c ≡ None) × (d ≡ None)
none_of None None None None e is = (refl, refl, refl, refl)
none_of None None None (Some x) e is = absurd (cc)
none_of None None (Some x) d e is = absurd (cc)
none_of None (Some x) c d e is = absurd (cc)
none_of (Some x) b c d e is = absurd (cc)

module _ {E : Type 0} (form : Form E) (bytes : List ℕ) (accepted : refusal form bytes ≡ None) where
  parts : (short form.wrong_len form.layer Slice (length bytes) form.least ≡ None)
      × (form.early (take form.least bytes) ≡ None)
      × (short form.wrong_len (form.whole (take form.least bytes)) form.source (length bytes) (header_len form bytes) ≡ None)
      × (form.late (take form.least bytes) ≡ None)
  parts = none_of _ _ _ _
      (cond (form.alone (take form.least bytes))
      (long form.wrong_len (form.whole (take form.least bytes)) form.source (length bytes) (header_len form bytes)) None) accepted

  pub has_first : form.least ≤ length bytes
  has_first = short-none form.wrong_len form.layer Slice (length bytes) form.least parts.0

  pub no_early : form.early (take form.least bytes) ≡ None
  no_early = parts.1

  -- the header of an accepted part is there
  pub has_header : header_len form bytes ≤ length bytes
  has_header =
      short-none form.wrong_len (form.whole (take form.least bytes)) form.source (length bytes) (header_len form bytes) parts.2

  pub no_late : form.late (take form.least bytes) ≡ None
  no_late = parts.3

is_accepted : {E : Type 0} (form : Form E) (bytes : List ℕ) → form.least ≤ length bytes → form.early (take form.least bytes) ≡ None
    → header_len form bytes ≤ length bytes → form.late (take form.least bytes) ≡ None → form.alone (take form.least bytes) ≡ false
    → refusal form bytes ≡ None
is_accepted form bytes first early whole late open_end =
    rw (
      short-fits form.wrong_len form.layer Slice (length bytes) form.least first,
      early,
      short-fits form.wrong_len (form.whole (take form.least bytes)) form.source (length bytes) (header_len form bytes) whole,
      late,
      open_end,
    ) refl

module _ {E : Type 0} (form : Form E) (n : ℕ) (bytes : List ℕ) where
  cut_len : length (take n bytes) ≡ min n (length bytes)
  cut_len = length-take n bytes

  -- what the first n bytes begin with, all of them begin with
  pub same_part : form.alone (take form.least bytes) ≡ false → refusal form (take n bytes) ≡ None → IsSameHeader form (take n bytes) bytes n
  same_part open_end accepted =
      let first = has_first form (take n bytes) accepted in
      let fits : form.least ≤ n = omega (arith, cut_len) in
      let head : take form.least (take n bytes) ≡ take form.least bytes = take-take form.least n bytes fits in
      let whole : header_len form (take n bytes) ≤ length (take n bytes) = has_header form (take n bytes) accepted in
      let len : header_len form (take n bytes) ≡ header_len form bytes = ap (λ h. form.least + form.more h) head in
      let within : header_len form bytes ≤ n = omega (arith, cut_len) in
      let there : header_len form bytes ≤ length bytes = omega (arith, cut_len) in
      record {
        accepted = is_accepted form bytes (omega (arith, cut_len)) (rw head at (no_early form (take n bytes) accepted)) there
            (rw head at (no_late form (take n bytes) accepted)) open_end;
        same_len = sym len;
        within = within;
        same_header = rw len (take-take (header_len form bytes) n bytes within);
      }

  -- the first n bytes begin with what all of them begin with, where its header has room in them
  pub kept_part : form.alone (take form.least bytes) ≡ false → refusal form bytes ≡ None → header_len form bytes ≤ n → refusal form (take n bytes) ≡ None
  kept_part open_end accepted fits =
      let least : form.least ≤ n = omega arith in
      let head : take form.least (take n bytes) ≡ take form.least bytes = take-take form.least n bytes least in
      let len : header_len form (take n bytes) ≡ header_len form bytes = ap (λ h. form.least + form.more h) head in
      let there = has_header form bytes accepted in
      let first = has_first form bytes accepted in
      is_accepted form (take n bytes) (omega (arith, cut_len)) (rw head (no_early form bytes accepted)) (omega (arith, cut_len))
      (rw head (no_late form bytes accepted)) (rw head open_end)

-- the header of an accepted part is a header by itself
pub is_header : {E : Type 0} (form : Form E) (bytes : List ℕ) → form.alone (take form.least bytes) ≡ false → refusal form bytes ≡ None
    → IsHeader form (take (header_len form bytes) bytes)
is_header form bytes open_end accepted =
    let there = has_header form bytes accepted in
    let accepted_alone = kept_part form (header_len form bytes) bytes open_end accepted (omega arith) in
    let same = same_part form (header_len form bytes) bytes open_end accepted_alone in
    (accepted_alone, sym same.same_len ∙ sym (length-take-le (header_len form bytes) bytes there))
