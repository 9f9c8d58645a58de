-- What a call of a source gives, and several calls one after another.
use Rattle.std.specs.Prelude.{◌≡◌, ℕ, ◌<◌, ◌≤◌, Bool, true, false, List, length, take, slice_index, Option, Result, Ok, IfOk, OnOk, OnErr}
use Rattle.std.specs.Io.KnownBytes.{Consumes, IsAtEnd, Keeps}
use Rattle.wire_base.specs.Causes.{IsRisen}
use Rattle.script_source.specs.declared.source.ReadFault.{ReadFault}

-- A read of a source that is `old` before and `new` after it: the bytes left lose those that it gave, and it
-- gives none only at their end. A failure shows in the count, and takes no byte.
pub record Gave {S : Type 0} (left : S → Option (List ℕ)) (faults : S → ℕ)
    (result : Result ℕ ReadFault) (into : List ℕ)
    (old new : S) : Type 0 where
  pub within : IfOk result (λ count. count ≤ length into)
  pub took : IfOk result (λ count. Consumes (left old) (left new) (take count into))
  pub ended : IfOk result (λ count. count ≡ 0 → IsAtEnd (left new))
  pub quiet : OnOk result (faults new ≡ faults old)
  pub err : OnErr result (Keeps (left old) (left new))
  pub cause : OnErr result ((faults old ≤ faults new) × IsRisen (faults old) (faults new))

-- Reads until `into` is full: it holds the bytes that the source lost, or the input ended, or the source
-- failed, before.
pub record Filled {S : Type 0} (left : S → Option (List ℕ)) (faults : S → ℕ)
    (result : Result Bool ReadFault) (into : List ℕ)
    (old new : S) : Type 0 where
  pub bytes : (i : ℕ) → slice_index into i < 256
  pub full : result ≡ Ok true → Consumes (left old) (left new) into
  pub short : result ≡ Ok false
      → (front : List ℕ) × (length front < length into) × Consumes (left old) (left new) front
      × IsAtEnd (left new)
  pub failed : OnErr result (
      (front : List ℕ) × (length front < length into) × Consumes (left old) (left new) front)
  pub quiet : OnOk result (faults new ≡ faults old)
  pub cause : OnErr result ((faults old ≤ faults new) × IsRisen (faults old) (faults new))
