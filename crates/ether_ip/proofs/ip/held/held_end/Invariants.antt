use Rattle.std.proofs.Common.{◌-◌, List}
use Rattle.ether_link.specs.declared.layout.Place.{Place}
use Rattle.ether_ip.proofs.HeldLemmas.{AreFree}
use Rattle.ether_ip.proofs.WalkLemmas.{IsExtensionWalk}
use Rattle.ether_ip.proofs.ip.held.held_end.Given as goal

abbrev pub invariant-loop-named : goal.invariant-loop-named
invariant-loop-named l =
    (places : List Place)
    × IsExtensionWalk l.packet l.fn.first l.fn.before.number.0 l.fn.before.fragmented l.fn.before.at l.end l.behind.at l.behind.number.0 l.behind.fragmented l.named places
    × AreFree l.packet l.held places

abbrev pub decreases-loop-named : goal.decreases-loop-named
decreases-loop-named l = l.end - l.behind.at
