-- The slots so far are freed, whichever queries stand in them.
use Rattle.std.proofs.Common.{◌≡◌, ◌≤◌, List}
use Rattle.net_wire.specs.declared.address.IpAddress.{IpAddress}
use Rattle.dns_client.specs.Client.{client_of}
use Rattle.host_model.specs.QuerySlots.{Slot}
use Rattle.net_host.specs.QueryPolling.{AreLent}
use Rattle.net_host.specs.QueryStanding.{StandAs}
use Rattle.net_host.proofs.QueryEndLemmas.{HasFreed}
use Rattle.net_host.proofs.queries.end_queries.Given as goal

abbrev pub invariant-loop-slot : goal.invariant-loop-slot
invariant-loop-slot l = record {
  freed : (servers : List IpAddress) (slots : List Slot)
      → StandAs servers slots (client_of l.fn.dns) l.fn.out.numbers
      → HasFreed servers slots l.slot (client_of l.dns) l.out.numbers l.lines;
  lent : AreLent (client_of l.fn.dns) → AreLent (client_of l.dns);
  out : l.out ≡ record l.fn.out { numbers = l.out.numbers };
  within : l.slot ≤ 16;
}

abbrev pub decreases-loop-slot : goal.decreases-loop-slot
decreases-loop-slot l = l.slot
