-- What a write leaves is what the trait says of any sink.
use Rattle.phy_layers.proofs.MemorySinkLemmas.{wrote}
use Rattle.phy_layers.proofs.sinks.memory.MemorySinkByteSink.TheImpl.Goals as goal

pub write-tells : goal.write-tells
write-tells c = rw (c.ensures.refuses, c.ensures.left) (wrote c.args.self.now c.args.piece.now)
