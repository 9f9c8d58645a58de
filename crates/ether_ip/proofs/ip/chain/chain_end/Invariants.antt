use Rattle.std.proofs.Common.{◌-◌, List, length, false}
use Rattle.ether_link.specs.declared.layout.Place.{Place}
use Rattle.ether_ip.specs.ExtensionGrammar.{first_extension_kind}
use Rattle.ether_ip.proofs.WalkLemmas.{IsExtensionWalk}
use Rattle.ether_ip.proofs.ip.chain.chain_end.Given as goal

abbrev pub invariant-loop-named : goal.invariant-loop-named
invariant-loop-named l =
    (places : List Place) × IsExtensionWalk l.bytes (first_extension_kind l.fn.start.0) l.fn.start.0 false 0 (length l.bytes) l.at l.number.0 l.fragmented l.named places

abbrev pub decreases-loop-named : goal.decreases-loop-named
decreases-loop-named l = length l.bytes - l.at
