use Rattle.std.proofs.Common.{ℕ}
use Rattle.std.proofs.lemmas.List.{take-replicate}
use Rattle.capture_explain.proofs.text.zeros.Goals as goal

pub returns : goal.returns
returns c = take-replicate {X = ℕ} c.args.count 6 48 c.requires
