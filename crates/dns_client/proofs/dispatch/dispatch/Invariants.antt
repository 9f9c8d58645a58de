-- What the looks so far left, and what the looks from here on do to the slots as they were, is the walk.
use Rattle.std.proofs.Common.{◌≡◌, take, drop}
use Rattle.dns_client.specs.Looks.{look, walk, behind}
use Rattle.dns_client.proofs.dispatch.dispatch.Given as goal

abbrev pub invariant-loop-at : goal.invariant-loop-at
invariant-loop-at g l =
    let plan = look (g.E.DnsEmit.source l.fn.out) l.servers l.now in
    record {
      walked : behind (take l.at l.slots) (walk plan (drop l.at l.slots)) ≡ walk plan l.fn.slots;
      untouched : l.out ≡ l.fn.out;
    }
