-- The bytes of the options so far and of those to come are all bytes.
use Rattle.std.proofs.Common.{◌≡◌, ◌+◌, length, drop, map}
use Rattle.net_wire.specs.DhcpMessage.{option_value}
use Rattle.net_wire.specs.DhcpBytes.{additional_bytes}
use Rattle.net_wire.proofs.dhcp.option.additional_len.Given as goal

abbrev pub invariant-loop-option : goal.invariant-loop-option
invariant-loop-option l =
    l.len + length (additional_bytes (map option_value (drop l.option-index l.options))) ≡ length (additional_bytes (map option_value l.options))
