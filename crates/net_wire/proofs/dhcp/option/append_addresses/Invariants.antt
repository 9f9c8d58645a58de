-- The addresses so far stand behind what was there, and those to come have their room.
use Rattle.std.proofs.Common.{◌≡◌, ◌+◌, ◌++◌, length, take, drop}
use Rattle.std.specs.List.{flat_map}
use Rattle.net_wire.specs.DhcpBytes.{option_bytes}
use Rattle.net_wire.proofs.dhcp.option.append_addresses.Given as goal

abbrev pub invariant-loop-address : goal.invariant-loop-address
invariant-loop-address l =
    let rest = flat_map (λ address. address.0) (drop l.address-index l.addresses) in
    let all = option_bytes l.kind (flat_map (λ address. address.0) l.addresses) in
    record {
      written : take l.end l.into ++ rest ≡ take l.at l.fn.into ++ all;
      placed : l.end + length rest ≡ l.at + length all;
    }
