-- Whether one of the options to come cannot be written is whether one of all cannot.
use Rattle.std.proofs.Common.{◌≡◌, drop, map}
use Rattle.std.specs.List.{list_any}
use Rattle.net_wire.specs.DhcpMessage.{option_value}
use Rattle.net_host.specs.Config.{is_unwritable}
use Rattle.net_host.proofs.config.has_unwritable.Given as goal

abbrev pub invariant-loop-option : goal.invariant-loop-option
invariant-loop-option l =
    list_any is_unwritable (map option_value (drop l.option-index l.options)) ≡ list_any is_unwritable (map option_value l.options)
