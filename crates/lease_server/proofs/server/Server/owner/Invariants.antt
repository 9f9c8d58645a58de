use Rattle.managed.specs.SortedMap.{pairs}
use Rattle.managed.specs.SlotMap.{elements_of}
use Rattle.lease_server.specs.Values.{number_of}
use Rattle.lease_server.proofs.MarkLemmas.{AreLeft}
use Rattle.lease_server.proofs.server.Server.owner.Given as goal

abbrev pub invariant-loop-pair : goal.invariant-loop-pair
invariant-loop-pair l = AreLeft (pairs l.self-inside.clients) (elements_of l.self-inside.leases) (number_of l.address) l.pair-iterator
