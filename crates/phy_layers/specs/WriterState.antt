-- What a contract sees of a sink over a writer.
use Rattle.std.specs.Prelude.{ℕ, List, Option}

-- the bytes that the writer has taken, where it tells them, and how many calls failed
pub record WriterState : Type 0 where
  pub contents : Option (List ℕ)
  pub faults : ℕ
