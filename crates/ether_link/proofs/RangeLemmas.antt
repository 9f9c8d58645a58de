-- Ranges of ranges, and of the first bytes.
use Rattle.std.proofs.Common.{◌≡◌, ℕ, ◌+◌, ◌-◌, ◌≤◌, min, Bool, true, false, List, length, take, drop, refl, sym, ◌∙◌, arith}
use Rattle.std.specs.Prelude.{nat_lt, slice_range}
use Rattle.std.proofs.lemmas.Bool.Decides.{nat_tests}
use Rattle.std.proofs.lemmas.List.{length-take, take-take, take_all, drop-take, drop-drop}

take_shorter : (i j : ℕ) (l : List ℕ) (b : Bool) → nat_lt i j ≡ b → take i (take j l) ≡ take (min i j) l
take_shorter i j l true is =
    let fits : i ≤ j = grind (arith, nat_tests) in
    let least : min i j ≡ i = omega arith in
    rw least (take-take i j l fits)
take_shorter i j l false is =
    let fits : j ≤ i = grind (arith, nat_tests) in
    let least : min i j ≡ j = omega arith in
    rw least (take_all i (take j l) (omega (arith, length-take j l)))

take_both : (i j : ℕ) (l : List ℕ) → take i (take j l) ≡ take (min i j) l
take_both i j l = take_shorter i j l (nat_lt i j) refl

-- a window of the first n bytes is the front of a window
pub range_cut : (frame : List ℕ) (n start end : ℕ) → start ≤ n
    → slice_range (take n frame) start (min end n) ≡ take (n - start) (slice_range frame start end)
range_cut frame n start end within =
    let at_n : start + (n - start) ≡ n = omega arith in
    let moved : drop start (take n frame) ≡ take (n - start) (drop start frame) = rw at_n at (drop-take start (n - start) frame) in
    let left = take_both (min end n - start) (n - start) (drop start frame) in
    let right = take_both (n - start) (end - start) (drop start frame) in
    let lens : min (min end n - start) (n - start) ≡ min (n - start) (end - start) = omega arith in
    rw moved (left ∙ (rw lens (sym right)))

range_by : (frame : List ℕ) (from to start end : ℕ) → end ≤ to - from → (b : Bool) → nat_lt (to - from) start ≡ b
    → slice_range (slice_range frame from to) start end ≡ slice_range frame (from + start) (from + end)
range_by frame from to start end within true is =
    let none : end - start ≡ 0 = grind (arith, nat_tests) in
    let none_moved : from + end - (from + start) ≡ 0 = omega arith in
    rw (none, none_moved) refl
range_by frame from to start end within false is =
    let at_start : start + (to - from - start) ≡ to - from = grind (arith, nat_tests) in
    let fits : end - start ≤ to - from - start = omega arith in
    let same_len : from + end - (from + start) ≡ end - start = omega arith in
    let dropped = rw at_start at (drop-take start (to - from - start) (drop from frame)) in
    rw (same_len, dropped, take-take (end - start) (to - from - start) (drop start (drop from frame)) fits, drop-drop start from frame) refl

-- a range of a range
pub range_range : (frame : List ℕ) (from to start end : ℕ) → end ≤ to - from
    → slice_range (slice_range frame from to) start end ≡ slice_range frame (from + start) (from + end)
range_range frame from to start end within = range_by frame from to start end within (nat_lt (to - from) start) refl

-- the header that a window begins with, by its place
pub header_is : (frame : List ℕ) (start end len : ℕ) → len ≤ length (slice_range frame start end)
    → take len (slice_range frame start end) ≡ slice_range frame start (start + len)
header_is frame start end len there =
    let room : len ≤ end - start = omega (arith, length-take (end - start) (drop start frame)) in
    let same : start + len - start ≡ len = omega arith in
    rw (same, take-take len (end - start) (drop start frame) room) refl
