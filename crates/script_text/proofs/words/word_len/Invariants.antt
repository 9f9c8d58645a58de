-- The bytes so far pass.
use Rattle.std.proofs.Common.{◌≡◌, ℕ, ◌<◌, true, get_or}
use Rattle.script_text.specs.Lines.{is_inside}
use Rattle.script_text.proofs.words.word_len.Given as goal

abbrev pub invariant-loop-at : goal.invariant-loop-at
invariant-loop-at l = (k : ℕ) → k < l.at → is_inside (get_or l.line k 0) ≡ true
