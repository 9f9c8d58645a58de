use Rattle.managed.specs.SortedMap.{pairs}
use Rattle.managed.specs.SlotMap.{elements_of}
use Rattle.lease_server.specs.Holders.{holders_in}
use Rattle.lease_server.specs.Values.{values_of}
use Rattle.lease_server.proofs.MarkLemmas.{AreMarked}
use Rattle.lease_server.proofs.server.Server.taken.Given as goal

abbrev pub invariant-loop-pair : goal.invariant-loop-pair
invariant-loop-pair l = AreMarked (values_of l.self-inside.values) (pairs l.self-inside.clients)
    (holders_in (pairs l.self-inside.clients) (elements_of l.self-inside.leases)) l.at l.taken l.pair-iterator
