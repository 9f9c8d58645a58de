-- What a read gives and leaves is what the trait says of any source.
use Rattle.script_source.proofs.MemorySourceLemmas.{gave}
use Rattle.script_source.proofs.sources.memory.MemorySourceScriptSource.TheImpl.Goals as goal

pub read-tells : goal.read-tells
read-tells c = rw (c.ensures.written, c.ensures.left)
    (gave c.args.self.now c.args.into.now c.result c.ensures.chunk c.requires c.ensures.refuses c.ensures.count)
