-- What was passed and what is left are the bytes.
use Rattle.std.proofs.Common.{◌≡◌, ◌+◌, length, option_map}
use Rattle.net_wire.specs.DnsName.{name_len}
use Rattle.net_wire.proofs.dns.name.name_len.Given as goal

abbrev pub invariant-loop-label : goal.invariant-loop-label
invariant-loop-label l = record {
  counted : option_map (λ n. l.len + n) (name_len l.rest) ≡ name_len l.bytes;
  splits : l.len + length l.rest ≡ length l.bytes;
}

abbrev pub decreases-loop-label : goal.decreases-loop-label
decreases-loop-label l = length l.rest
