use Rattle.std.proofs.Common.{refl}
use Rattle.net_wire.specs.DhcpOptions.{items_within}
use Rattle.host_model.proofs.laws.leases_begin.Goals as goal

pub returns-clause-at_once : goal.returns-clause-at_once
unfolding items_within
returns-clause-at_once c = record { sent = refl; anchor = refl; leased = refl }

pub returns-clause-retries : goal.returns-clause-retries
unfolding items_within
returns-clause-retries c = record { sent = refl; anchor = refl }

pub returns-clause-leases : goal.returns-clause-leases
unfolding items_within
returns-clause-leases c = record { sent = refl; anchor = refl; leased = refl }

pub returns-clause-at_end : goal.returns-clause-at_end
unfolding items_within
returns-clause-at_end c = record { sent = refl; anchor = refl; leased = refl }

pub returns-clause-reset : goal.returns-clause-reset
unfolding items_within
returns-clause-reset c = record { sent = refl; anchor = refl; leased = refl }
