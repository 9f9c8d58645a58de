use Rattle.managed.proofs.EditLemmas.{packed_rest}
use Rattle.managed.proofs.map.borrowed.put_at.Goals as goal

pub len-count-requires : goal.len-count-requires
len-count-requires g c = packed_rest c.args.at c.args.places.now c.requires.1
