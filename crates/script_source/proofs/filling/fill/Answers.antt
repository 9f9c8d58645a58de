-- One read more: what it gave stands behind what stood there.
use Rattle.std.proofs.Common.{◌-◌, ◌∙◌, length, take, drop, arith, length-append, length-drop}
use Rattle.std.proofs.lemmas.List.{length-take}
use Rattle.std.proofs.lemmas.Grind.{common_steps}
use Rattle.std.proofs.KnownBytes.{Consumes-trans}
use Rattle.script_source.proofs.PieceLemmas.{take_part}
use Rattle.script_source.proofs.filling.fill.Goals as goal

pub loop-at-preserved : goal.loop-at-preserved
loop-at-preserved g c =
    let left = g.S.ScriptSource.left in
    let took = rw c.in_ok-count.was at c.read.ensures.took in
    let within = rw c.in_ok-count.was at c.read.ensures.within in
    let quiet = rw c.in_ok-count.was at c.read.ensures.quiet in
    let place = c.loop-at.at in
    let past = drop (length c.loop-at.into - place) (drop place c.loop-at.into) in
    record {
      bytes = λ i. omega (arith, c.type_inv.into i);
      within = grind (arith, common_steps, length-append, length-take, length-drop, within, c.read.auto.into);
      took = rw (take_part place c.in_ok-count.count c.loop-at.into c.read.new.into past c.loop-at.invariant.within within)
          (Consumes-trans (left c.args.source.now) (left c.loop-at.source) (left c.read.new.self) (take place c.loop-at.into)
          (take c.in_ok-count.count c.read.new.into) c.loop-at.invariant.took took);
      quiet = quiet ∙ c.loop-at.invariant.quiet;
    }
