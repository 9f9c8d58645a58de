-- The bytes of the addresses so far and of those to come are all bytes; each has four.
use Rattle.std.proofs.Common.{◌≡◌, ◌+◌, ◌*◌, length, drop}
use Rattle.std.specs.List.{flat_map}
use Rattle.net_wire.proofs.dhcp.option.addresses_len.Given as goal

abbrev pub invariant-loop-address : goal.invariant-loop-address
invariant-loop-address l = record {
  counted : l.len ≡ 4 * l.address-index;
  summed : l.len + length (flat_map (λ address. address.0) (drop l.address-index l.addresses)) ≡ length (flat_map (λ address. address.0) l.addresses);
}
