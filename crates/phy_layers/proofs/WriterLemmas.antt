-- How the writes of the parts of a piece join.
use Rattle.std.proofs.Common.{◌≡◌, ℕ, List, ◌++◌, take, drop, Option, Some, None, append_assoc}
use Rattle.std.specs.Io.KnownBytes.{Appends, Keeps}
use Rattle.std.proofs.lemmas.List.{take-append-drop}
use Rattle.phy_layers.proofs.SinkLemmas.{Appends-then}

-- known bytes grew by a piece but for its rest
pub record HasLeft (old new : Option (List ℕ)) (piece rest : List ℕ) : Type 0 where
  pub taken : List ℕ
  pub split : piece ≡ taken ++ rest
  pub grown : Appends old new taken

Appends-keeps : (a b c : Option (List ℕ)) (xs : List ℕ) → Appends a b xs → Keeps b c → Appends a c xs
Appends-keeps None b c xs p q = tt
Appends-keeps (Some a) None c xs p q = absurd p
Appends-keeps (Some a) (Some b) None xs p q = absurd q
Appends-keeps (Some a) (Some b) (Some c) xs p q = rw q p

-- a write that took `count` bytes of the rest
pub left_after_write : {old middle new : Option (List ℕ)} {piece rest : List ℕ} (count : ℕ)
    → HasLeft old middle piece rest → Appends middle new (take count rest)
    → HasLeft old new piece (drop count rest)
left_after_write {old} {middle} {new} {piece} {rest} count left written = record {
  taken = left.taken ++ take count rest;
  split = rw (append_assoc left.taken (take count rest) (drop count rest), take-append-drop count rest)
      left.split;
  grown = Appends-then old middle new left.taken (take count rest) left.grown written;
}

-- a write that failed
pub left_after_keep : {old middle new : Option (List ℕ)} {piece rest : List ℕ}
    → HasLeft old middle piece rest → Keeps middle new → HasLeft old new piece rest
left_after_keep {old} {middle} {new} {piece} {rest} left kept = record {
  taken = left.taken;
  split = left.split;
  grown = Appends-keeps old middle new left.taken left.grown kept;
}
