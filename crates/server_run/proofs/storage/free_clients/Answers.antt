use Rattle.std.proofs.Common.{rules}
use Rattle.server_run.proofs.StorageLemmas.{vacant}
use Rattle.server_run.proofs.storage.free_clients.Goals as goal

pub returns-in-Ok-clause-empty : goal.returns-in-Ok-clause-empty
returns-in-Ok-clause-empty c = vacant c.from.result c.in-Ok.places.items (c.in-Ok.ensures.items_if_clones_equal (λ y is. search rules))
