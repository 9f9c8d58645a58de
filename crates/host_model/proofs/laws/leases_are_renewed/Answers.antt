use Rattle.std.proofs.Common.{refl}
use Rattle.net_wire.specs.DhcpOptions.{items_within}
use Rattle.host_model.proofs.laws.leases_are_renewed.Goals as goal

pub returns-clause-renews : goal.returns-clause-renews
unfolding items_within
returns-clause-renews c = record {
  renewals = refl;
  rebindings = refl;
  lasts = refl;
  end = refl;
  anchor = refl;
  lost = refl;
}

pub returns-clause-at_end : goal.returns-clause-at_end
unfolding items_within
returns-clause-at_end c = record { sent = refl; anchor = refl; other_id = refl }

pub returns-clause-asks : goal.returns-clause-asks
unfolding items_within
returns-clause-asks c = record { before = refl; sent = refl; first = refl; again = refl; told = refl }

pub returns-clause-forgets : goal.returns-clause-forgets
unfolding items_within
returns-clause-forgets c = record { known = refl; forgotten = refl; asks = refl }
