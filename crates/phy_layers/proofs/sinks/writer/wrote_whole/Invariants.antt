-- The writer has taken the piece but for the rest.
use Rattle.phy_layers.proofs.WriterLemmas.{HasLeft}
use Rattle.phy_layers.proofs.sinks.writer.wrote_whole.Given as goal

abbrev pub invariant-loop : goal.invariant-loop
invariant-loop g l = HasLeft (g.W.Write.contents l.initial.inner) (g.W.Write.contents l.inner) l.piece l.rest
