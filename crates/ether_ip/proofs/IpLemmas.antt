-- An IP header that is accepted whatever its version is accepted by the reader of its version, with the same length.
use Rattle.std.proofs.Common.{◌≡◌, ℕ, ◌+◌, ◌*◌, ◌-◌, ◌<◌, ◌≤◌, Bool, true, false, cond, List, length, take, get_or, Some, None, refl, sym, arith}
use Rattle.std.specs.Prelude.{◌≢◌, ◌==◌, nat_lt}
use Rattle.std.proofs.lemmas.Bool.Decides.{nat_tests}
use Rattle.std.proofs.lemmas.List.{get_or-take}
use Rattle.ether_link.specs.declared.err.length.LenError.{LenError}
use Rattle.ether_link.specs.Form.{header_len, refusal}
use Rattle.ether_link.proofs.FormLemmas.{has_header, is_false, no_early}
use Rattle.ether_ip.specs.Version.{ip_version, ihl}
use Rattle.ether_ip.specs.Ip.{ip_form, ip_slice_form}
use Rattle.ether_ip.specs.Ipv4.{ipv4_form, ipv4_slice_form}
use Rattle.ether_ip.specs.Ipv6.{ipv6_form, ipv6_slice_form}
use Rattle.ether_ip.specs.declared.err.ip.HeaderError as ip
use Rattle.ether_ip.specs.declared.err.ip.LaxHeaderSliceError as lax
use Rattle.ether_ip.specs.declared.err.ipv4.HeaderError as ipv4
use Rattle.ether_ip.specs.declared.err.ipv4.HeaderSliceError as ipv4_slice
use Rattle.ether_ip.specs.declared.err.ipv6.HeaderError as ipv6
use Rattle.ether_ip.specs.declared.err.ipv6.HeaderSliceError as ipv6_slice

is_true : {E : Type 0} (b : Bool) (x : E) → cond b None (Some x) ≡ None → b ≡ true
is_true true x e = refl
is_true false x e = absurd (cc)

words_of_four : {E : Type 0} (few other : E) (version words : ℕ)
    → cond (version == 4) (cond (nat_lt words 5) (Some few) None) (cond (version == 6) None (Some other)) ≡ None
    → version ≡ 4 → 5 ≤ words
words_of_four few other version words accepted is =
    let small : nat_lt words 5 ≡ false = is_false (nat_lt words 5) few (rw is at accepted) in
    grind (arith, nat_tests)

six_else : {E : Type 0} (few other : E) (version words : ℕ)
    → cond (version == 4) (cond (nat_lt words 5) (Some few) None) (cond (version == 6) None (Some other)) ≡ None
    → version ≢ 4 → version ≡ 6
six_else few other version words accepted isnt =
    let not_four : (version == 4) ≡ false = grind (arith, nat_tests) in
    let six : (version == 6) ≡ true = is_true (version == 6) other (rw not_four at accepted) in
    grind (arith, nat_tests)

head_byte : (n : ℕ) (bytes : List ℕ) → 0 < n → get_or (take n bytes) 0 0 ≡ get_or bytes 0 0
head_byte n bytes some = get_or-take n bytes 0 0 some

module _ {E : Type 0} (wrong_len : LenError → E) (wrong : ip.HeaderError → E) (bytes : List ℕ)
    (accepted : refusal (ip_form wrong_len wrong) bytes ≡ None) where
  abbrev few : E
  few = wrong (ip.TheVariants.Ipv4HeaderLengthSmallerThanHeader (ihl bytes))

  abbrev other : E
  other = wrong (ip.TheVariants.UnsupportedIpVersion (ip_version bytes))

  early : cond (ip_version bytes == 4) (cond (nat_lt (ihl bytes) 5) (Some few) None) (cond (ip_version bytes == 6) None (Some other)) ≡ None
  early = rw (head_byte 1 bytes (omega arith)) at (no_early (ip_form wrong_len wrong) bytes accepted)

  -- there is no third version
  pub six_if_not_four : ip_version bytes ≢ 4 → ip_version bytes ≡ 6
  six_if_not_four isnt = six_else _ _ (ip_version bytes) (ihl bytes) early isnt

  words : ip_version bytes ≡ 4 → 5 ≤ ihl bytes
  words is = words_of_four _ _ (ip_version bytes) (ihl bytes) early is

  len_of_four : ip_version bytes ≡ 4 → header_len (ip_form wrong_len wrong) bytes ≡ 4 * ihl bytes
  len_of_four is =
      let many = words is in
      let whole : 1 + (4 * ihl bytes - 1) ≡ 4 * ihl bytes = omega arith in
      rw (head_byte 1 bytes (omega arith), is) whole

  pub len_of_six : ip_version bytes ≡ 6 → header_len (ip_form wrong_len wrong) bytes ≡ 40
  len_of_six is = rw (head_byte 1 bytes (omega arith), is) refl

module _ {E F : Type 0} (wrong_len : LenError → E) (wrong : ip.HeaderError → E) (len : LenError → F) (content : ipv4.HeaderError → F)
    (bytes : List ℕ) (accepted : refusal (ip_form wrong_len wrong) bytes ≡ None) (is : ip_version bytes ≡ 4) where
  -- the header of version 4 has the same length
  pub same_len_of_four : header_len (ipv4_form len content) bytes ≡ header_len (ip_form wrong_len wrong) bytes
  same_len_of_four =
      let many = words wrong_len wrong bytes accepted is in
      let whole : 20 + (4 * ihl bytes - 20) ≡ 4 * ihl bytes = omega arith in
      rw (len_of_four wrong_len wrong bytes accepted is, head_byte 20 bytes (omega arith)) whole

  -- and is accepted
  pub accepted_as_four : refusal (ipv4_form len content) bytes ≡ None
  accepted_as_four =
      let many = words wrong_len wrong bytes accepted is in
      let there : header_len (ip_form wrong_len wrong) bytes ≤ length bytes = has_header (ip_form wrong_len wrong) bytes accepted in
      let long = len_of_four wrong_len wrong bytes accepted is in
      let same = same_len_of_four in
      let first : nat_lt (length bytes) 20 ≡ false = grind (arith, nat_tests) in
      let whole : nat_lt (length bytes) (20 + (4 * ihl bytes - 20)) ≡ false = grind (arith, nat_tests) in
      let few : nat_lt (ihl bytes) 5 ≡ false = grind (arith, nat_tests) in
      rw (head_byte 20 bytes (omega arith), first, is, few, whole) refl

module _ {E F : Type 0} (wrong_len : LenError → E) (wrong : ip.HeaderError → E) (len : LenError → F) (content : ipv6.HeaderError → F)
    (bytes : List ℕ) (accepted : refusal (ip_form wrong_len wrong) bytes ≡ None) (is : ip_version bytes ≡ 6) where
  -- the header of version 6 has the same length
  pub same_len_of_six : header_len (ipv6_form len content) bytes ≡ header_len (ip_form wrong_len wrong) bytes
  same_len_of_six = sym (len_of_six wrong_len wrong bytes accepted is)

  -- and is accepted
  pub accepted_as_six : refusal (ipv6_form len content) bytes ≡ None
  accepted_as_six =
      let there : header_len (ip_form wrong_len wrong) bytes ≤ length bytes = has_header (ip_form wrong_len wrong) bytes accepted in
      let long = len_of_six wrong_len wrong bytes accepted is in
      let first : nat_lt (length bytes) 40 ≡ false = grind (arith, nat_tests) in
      rw (head_byte 40 bytes (omega arith), first, is) refl

-- the same of the readers of a slice
module _ (bytes : List ℕ) (accepted : refusal ip_slice_form bytes ≡ None) where
  pub accepted_ipv4 : ip_version bytes ≡ 4 → refusal ipv4_slice_form bytes ≡ None
  accepted_ipv4 is =
      accepted_as_four lax.TheVariants.Len lax.TheVariants.Content ipv4_slice.TheVariants.Len ipv4_slice.TheVariants.Content bytes accepted is

  pub same_ipv4_len : ip_version bytes ≡ 4 → header_len ipv4_slice_form bytes ≡ header_len ip_slice_form bytes
  same_ipv4_len is =
      same_len_of_four lax.TheVariants.Len lax.TheVariants.Content ipv4_slice.TheVariants.Len ipv4_slice.TheVariants.Content bytes accepted is

  pub is_version_6 : ip_version bytes ≢ 4 → ip_version bytes ≡ 6
  is_version_6 isnt = six_if_not_four lax.TheVariants.Len lax.TheVariants.Content bytes accepted isnt

  pub accepted_ipv6 : ip_version bytes ≢ 4 → refusal ipv6_slice_form bytes ≡ None
  accepted_ipv6 isnt =
      let six = is_version_6 isnt in
      accepted_as_six lax.TheVariants.Len lax.TheVariants.Content ipv6_slice.TheVariants.Len ipv6_slice.TheVariants.Content bytes accepted six

  pub same_ipv6_len : ip_version bytes ≢ 4 → header_len ipv6_slice_form bytes ≡ header_len ip_slice_form bytes
  same_ipv6_len isnt =
      let six = is_version_6 isnt in
      same_len_of_six lax.TheVariants.Len lax.TheVariants.Content ipv6_slice.TheVariants.Len ipv6_slice.TheVariants.Content bytes accepted six

-- an accepted header has 20 bytes at least
pub header_has_room : (bytes : List ℕ) → refusal ip_slice_form bytes ≡ None → 20 ≤ header_len ip_slice_form bytes
header_has_room bytes accepted = by_version (ip_version bytes == 4) refl
  where
    by_version : (b : Bool) → (ip_version bytes == 4) ≡ b → 20 ≤ header_len ip_slice_form bytes
    by_version true is =
        let four : ip_version bytes ≡ 4 = grind (arith, nat_tests) in
        let same = same_ipv4_len bytes accepted four in
        omega arith
    by_version false isnt =
        let not_four : ip_version bytes ≢ 4 = grind (arith, nat_tests) in
        let same = same_ipv6_len bytes accepted not_four in
        omega arith
