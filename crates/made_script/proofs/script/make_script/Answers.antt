use Rattle.std.proofs.Common.{arith}
use Rattle.made_script.proofs.ScriptLemmas.{script_grows}
use Rattle.made_script.proofs.script.make_script.Goals as goal

pub loop-place-preserved : goal.loop-place-preserved
loop-place-preserved c =
    script_grows c.args.words.now c.loop-place.place c.loop-place.bytes.items c.push_event.new.bytes.items (omega (arith, c.ranges.count.fits, c.loop-place-test.true))
    c.loop-place.invariant c.in_ok-push_event.ensures.ok
