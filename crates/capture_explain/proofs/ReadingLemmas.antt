-- The numbers of a header and of an entry, as a buffer holds them.
use Rattle.std.proofs.Common.{◌≡◌, ℕ, zero, suc, ◌+◌, ◌<◌, ◌≤◌, ◌-◌, List, [], ◌∷◌, ◌++◌, length, take, drop, get_or, Option, ap, ap₂, sym, ◌∙◌, arith, append_assoc, append-nil, length-drop, length-take}
use Rattle.std.specs.Int.{to_le_bytes, from_le_bytes, w32}
use Rattle.std.specs.Io.KnownBytes.{Consumes}
use Rattle.std.proofs.KnownBytes.{Consumes-trans}
use Rattle.std.proofs.lemmas.List.{take-append-drop, drop-drop, drop_all, take_all}
use Rattle.std.proofs.lemmas.Nat.{le_bytes_4}
use Rattle.std.proofs.Math.Seq.{drop-append_seam}
use Rattle.capture_explain.specs.Capture.{header_front, header_end, entry_head, IsHeader}

-- 24 bytes between the two ends of a header are one
pub is_header : (bytes : List ℕ) → length bytes ≡ 24 → take 8 bytes ≡ header_front
    → take (length bytes - 20) (drop 20 bytes) ≡ header_end → IsHeader bytes
is_header bytes long front end =
    let middle = take 12 (drop 8 bytes) in
    let all : take (length bytes - 20) (drop 20 bytes) ≡ drop 20 bytes =
    take_all (length bytes - 20) (drop 20 bytes) (omega (arith, length-drop 20 bytes, long)) in
    record {
      middle = middle;
      twelve = omega (arith, length-take 12 (drop 8 bytes), length-drop 8 bytes, long);
      whole = sym (take-append-drop 8 bytes) ∙ ap (λ l. take 8 bytes ++ l) (sym (take-append-drop 12 (drop 8 bytes)))
          ∙ sym (append_assoc (take 8 bytes) middle (drop 12 (drop 8 bytes)))
          ∙ ap₂ (λ a b. (a ++ middle) ++ b) front (drop-drop 12 8 bytes ∙ sym all ∙ end);
    }

-- and only they
pub front_of : (bytes : List ℕ) → IsHeader bytes → take 8 bytes ≡ header_front
front_of bytes is = ap (take 8) is.whole

pub end_of : (bytes : List ℕ) → length bytes ≡ 24 → IsHeader bytes → take (length bytes - 20) (drop 20 bytes) ≡ header_end
end_of bytes long is =
    take_all (length bytes - 20) (drop 20 bytes) (omega (arith, length-drop 20 bytes, long))
    ∙ ap (drop 20) is.whole ∙ ap (λ n. drop n (is.middle ++ header_end)) (sym is.twelve) ∙ drop-append_seam is.middle header_end

-- pieces of bytes are bytes
small_drop : (n : ℕ) (bytes : List ℕ) → ((i : ℕ) → get_or bytes i 0 < 256) → (i : ℕ) → get_or (drop n bytes) i 0 < 256
small_drop zero bytes small i = small i
small_drop (suc n) [] small i = omega arith
small_drop (suc n) (byte ∷ bytes) small i = small_drop n bytes (λ k. small (suc k)) i

small_take : (n : ℕ) (bytes : List ℕ) → ((i : ℕ) → get_or bytes i 0 < 256) → (i : ℕ) → get_or (take n bytes) i 0 < 256
small_take zero bytes small i = omega arith
small_take (suc n) [] small i = omega arith
small_take (suc n) (byte ∷ bytes) small zero = small zero
small_take (suc n) (byte ∷ bytes) small (suc i) = small_take n bytes (λ k. small (suc k)) i

-- a number of four bytes
number_at : (bytes : List ℕ) (at n : ℕ) → at + 4 ≤ length bytes → ((i : ℕ) → get_or bytes i 0 < 256)
    → n ≡ from_le_bytes w32 (take 4 (drop at bytes)) → take 4 (drop at bytes) ≡ to_le_bytes w32 n
number_at bytes at n within small is =
    sym (le_bytes_4 (take 4 (drop at bytes)) n (omega (arith, length-take 4 (drop at bytes), length-drop at bytes))
    (small_take 4 (drop at bytes) (small_drop at bytes small)) is)

-- four of them
four_numbers : (bytes : List ℕ) (a b c d : ℕ) → length bytes ≡ 16 → ((i : ℕ) → get_or bytes i 0 < 256)
    → a ≡ from_le_bytes w32 (take 4 bytes) → b ≡ from_le_bytes w32 (take 4 (drop 4 bytes))
    → c ≡ from_le_bytes w32 (take 4 (drop 8 bytes)) → d ≡ from_le_bytes w32 (take 4 (drop 12 bytes))
    → bytes ≡ entry_head a b c d
four_numbers bytes a b c d long small is_a is_b is_c is_d =
    let last : take 4 (drop 12 bytes) ≡ drop 12 bytes = take_all 4 (drop 12 bytes) (omega (arith, length-drop 12 bytes, long)) in
    let from_12 : drop 12 bytes ≡ to_le_bytes w32 d = sym last ∙ number_at bytes 12 d (omega (arith, long)) small is_d in
    let from_8 : drop 8 bytes ≡ to_le_bytes w32 c ++ to_le_bytes w32 d =
    sym (take-append-drop 4 (drop 8 bytes))
    ∙ ap₂ (λ x y. x ++ y) (number_at bytes 8 c (omega (arith, long)) small is_c) (drop-drop 4 8 bytes ∙ from_12) in
    let from_4 : drop 4 bytes ≡ to_le_bytes w32 b ++ (to_le_bytes w32 c ++ to_le_bytes w32 d) =
    sym (take-append-drop 4 (drop 4 bytes))
    ∙ ap₂ (λ x y. x ++ y) (number_at bytes 4 b (omega (arith, long)) small is_b) (drop-drop 4 4 bytes ∙ from_8) in
    sym (take-append-drop 4 bytes)
    ∙ ap₂ (λ x y. x ++ y) (number_at bytes 0 a (omega (arith, long)) small is_a) from_4

-- the first of them, by its bytes
first_number : (first : ℕ) (rest : List ℕ) (n : ℕ) → length rest ≡ 15
    → n ≡ from_le_bytes w32 (first ∷ get_or rest 0 0 ∷ get_or rest 1 0 ∷ get_or rest 2 0 ∷ [])
    → n ≡ from_le_bytes w32 (first ∷ take 3 rest)
first_number first [] n long is = absurd (omega (arith, long))
first_number first (a ∷ []) n long is = absurd (omega (arith, long))
first_number first (a ∷ b ∷ []) n long is = absurd (omega (arith, long))
first_number first (a ∷ b ∷ c ∷ rest) n long is = is

small_cons : (byte : ℕ) (bytes : List ℕ) → byte < 256 → ((i : ℕ) → get_or bytes i 0 < 256) → (i : ℕ) → get_or (byte ∷ bytes) i 0 < 256
small_cons byte bytes one small zero = one
small_cons byte bytes one small (suc i) = small i

-- all of them, by the first byte and the rest
pub numbers_behind : (first : ℕ) (rest : List ℕ) (a b c d : ℕ) → length rest ≡ 15 → first < 256 → ((i : ℕ) → get_or rest i 0 < 256)
    → a ≡ from_le_bytes w32 (first ∷ get_or rest 0 0 ∷ get_or rest 1 0 ∷ get_or rest 2 0 ∷ [])
    → b ≡ from_le_bytes w32 (take 4 (drop 3 rest)) → c ≡ from_le_bytes w32 (take 4 (drop 7 rest))
    → d ≡ from_le_bytes w32 (take 4 (drop 11 rest)) → first ∷ rest ≡ entry_head a b c d
numbers_behind first rest a b c d long one small is_a is_b is_c is_d =
    four_numbers (first ∷ rest) a b c d (omega (arith, long)) (small_cons first rest one small)
    (first_number first rest a long is_a) is_b is_c is_d

-- what was taken before and behind a first byte
pub first_and_rest : (old mid new : Option (List ℕ)) (first rest : List ℕ) → length first ≡ 1 → Consumes old mid first
    → Consumes mid new rest → Consumes old new (get_or first 0 0 ∷ rest)
first_and_rest old mid new (byte ∷ []) rest one before behind = Consumes-trans old mid new (byte ∷ []) rest before behind
first_and_rest old mid new [] rest one before behind = absurd (omega (arith, one))
first_and_rest old mid new (byte ∷ other ∷ bytes) rest one before behind = absurd (omega (arith, one))

-- a list that was written over all of another one
pub written_over : (len : ℕ) (new items : List ℕ) → length new ≡ length items → len ≡ length items
    → take len (new ++ drop (length new) items) ≡ new
written_over len new items as_long is_len =
    let none : drop (length new) items ≡ [] = drop_all (length new) items (omega (arith, as_long)) in
    ap (λ l. take len (new ++ l)) none ∙ ap (take len) (append-nil new) ∙ take_all len new (omega (arith, as_long, is_len))
