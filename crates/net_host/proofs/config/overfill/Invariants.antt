-- The options so far have taken what the room has less.
use Rattle.std.proofs.Common.{◌≡◌, ◌+◌, length, drop, map}
use Rattle.net_wire.specs.DhcpMessage.{option_value}
use Rattle.net_wire.specs.DhcpBytes.{additional_bytes}
use Rattle.net_host.proofs.config.overfill.Given as goal

abbrev pub invariant-loop-option : goal.invariant-loop-option
invariant-loop-option l =
    l.room + length (additional_bytes (map option_value (drop l.option-index l.options)))
    ≡ l.left + length (additional_bytes (map option_value l.options))
