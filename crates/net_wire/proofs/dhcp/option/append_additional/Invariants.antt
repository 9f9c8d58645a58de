-- The options so far stand behind what was there, and those to come can be written and have their room.
use Rattle.std.proofs.Common.{◌≡◌, ◌+◌, ◌++◌, length, take, drop, map}
use Rattle.std.specs.List.{AllByRecursion}
use Rattle.net_wire.specs.DhcpMessage.{option_value}
use Rattle.net_wire.specs.DhcpBytes.{additional_bytes, IsWritableOption}
use Rattle.net_wire.proofs.dhcp.option.append_additional.Given as goal

abbrev pub invariant-loop-option : goal.invariant-loop-option
invariant-loop-option l =
    let rest = map option_value (drop l.option-index l.options) in
    let all = map option_value l.options in
    record {
      written : take l.end l.into ++ additional_bytes rest ≡ take l.at l.initial.into ++ additional_bytes all;
      placed : l.end + length (additional_bytes rest) ≡ l.at + length (additional_bytes all);
      writable : AllByRecursion IsWritableOption rest;
    }
