-- The bytes of the addresses so far and of those to come are all bytes; each has four.
use Rattle.std.proofs.Common.{◌≡◌, ◌+◌, ◌*◌, length, drop}
use Rattle.std.specs.List.{flat_map}
use Rattle.server_run.proofs.frames.addresses_len.Given as goal

abbrev pub invariant-loop-server : goal.invariant-loop-server
invariant-loop-server l = record {
  counted : l.len ≡ 4 * l.server-index;
  summed : l.len + length (flat_map (λ address. address.0) (drop l.server-index l.servers)) ≡ length (flat_map (λ address. address.0) l.servers);
}
