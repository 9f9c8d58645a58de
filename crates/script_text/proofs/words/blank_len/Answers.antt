-- The first byte that does not pass ends the front.
use Rattle.std.proofs.Common.{◌≡◌, length, arith, sym, ◌∙◌}
use Rattle.std.proofs.lemmas.List.Sums.{prefix_len_is}
use Rattle.script_text.specs.Lines.{is_blank}
use Rattle.script_text.proofs.words.blank_len.Goals as goal

pub returns-then-not-is_blank-clause-value : goal.returns-then-not-is_blank-clause-value
returns-then-not-is_blank-clause-value c =
    sym (prefix_len_is is_blank c.args.line.now c.loop-at.at 0 (omega arith) c.loop-at.invariant (λ more. sym c.if-not-is_blank.ensures))

pub returns-clause-value : goal.returns-clause-value
returns-clause-value c =
    let whole : length c.args.line.now ≡ c.loop-at.at = omega arith in
    whole ∙ sym (prefix_len_is is_blank c.args.line.now c.loop-at.at 0 (omega arith) c.loop-at.invariant (λ more. absurd (omega (arith, more))))
