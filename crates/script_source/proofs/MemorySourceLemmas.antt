-- What a read of a source in memory gives and leaves is what a read of any source does.
use Rattle.std.proofs.Common.{◌≡◌, ℕ, zero, suc, ◌<◌, ◌≤◌, Bool, true, false, List, [], ◌∷◌, ◌++◌, length, take, drop, min, Some, Ok, Err, Result, is_err, IfOk, sym, ap, refl, length-append, arith, if◌then◌else◌}
use Rattle.std.proofs.lemmas.List.{length-take, take_at, drop_all}
use Rattle.phy_layers.proofs.CallLemmas.{counted_later, counted_risen}
use Rattle.phy_layers.specs.Calls.{fails_next, after_call}
use Rattle.script_source.specs.declared.source.ReadFault.{ReadFault}
use Rattle.script_source.specs.MemorySource.{SourceState, given, after_read}
use Rattle.script_source.specs.Source.{Gave}

front : (k : ℕ) (bytes : List ℕ) → bytes ≡ take k bytes ++ drop (length (take k bytes)) bytes
front zero bytes = refl
front (suc k) [] = refl
front (suc k) (byte ∷ bytes) = ap (λ rest. byte ∷ rest) (front k bytes)

by_cases : (old : SourceState) (into : List ℕ) (named : Bool) (result : Result ℕ ReadFault)
    → 1 ≤ old.chunk → 0 < length into → is_err result ≡ named
    → let bytes = if named then [] else take (min old.chunk (length into)) old.left in
    IfOk result (λ count. count ≡ length bytes)
    → Gave (λ source. Some source.left) (λ source. source.calls.faults) result
    (bytes ++ drop (length bytes) into) old
    (record old { left = drop (length bytes) old.left; calls = after_call named old.calls })
by_cases old into true (Ok count) some room is count_is = cc
by_cases old into true (Err fault) some room is count_is = record {
  within = tt;
  took = tt;
  ended = tt;
  quiet = tt;
  err = refl;
  cause = (counted_later old.calls.faults, counted_risen old.calls.faults);
}
by_cases old into false (Err fault) some room is count_is = cc
by_cases old into false (Ok count) some room is count_is =
    let bytes = take (min old.chunk (length into)) old.left in
    record {
      within = omega (arith, length-append bytes (drop (length bytes) into), count_is);
      took = rw (take_at bytes (drop (length bytes) into) count (sym count_is))
          (front (min old.chunk (length into)) old.left);
      ended = λ no_byte. drop_all (length bytes) old.left (omega (
        arith,
        length-take (min old.chunk (length into)) old.left,
        count_is,
        no_byte,
        some,
        room,
      ));
      quiet = refl;
      err = tt;
      cause = tt;
    }

pub gave : (old : SourceState) (into : List ℕ) (result : Result ℕ ReadFault)
    → 1 ≤ old.chunk → 0 < length into → is_err result ≡ fails_next old.calls
    → IfOk result (λ count. count ≡ length (given old (length into)))
    → Gave (λ source. Some source.left) (λ source. source.calls.faults) result
    (given old (length into) ++ drop (length (given old (length into))) into) old (after_read old (length into))
gave old into result = by_cases old into (fails_next old.calls) result
