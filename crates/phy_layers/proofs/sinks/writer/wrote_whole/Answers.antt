use Rattle.std.proofs.lemmas.List.{take_rest}
use Rattle.phy_layers.proofs.WriterLemmas.{left_after_write, left_after_keep}
use Rattle.phy_layers.proofs.sinks.writer.wrote_whole.Goals as goal
use Rattle.phy_layers.proofs.sinks.writer.wrote_whole.Goals.{in-Ok, in-Err+else-ne}

pub loop-preserved : goal.loop-preserved
loop-preserved g c =
    elim c.match-write.branch [
      | in-Ok w ↦ rw (w.rest-is, take_rest c.loop.rest.now w.in-Ok.taken)
          (left_after_write w.in-Ok.taken c.loop.invariant w.in-Ok.ensures.bytes)
      | in-Err+else-ne w ↦ rw w.rest-is (left_after_keep c.loop.invariant w.in-Err.ensures.bytes)
    ]
