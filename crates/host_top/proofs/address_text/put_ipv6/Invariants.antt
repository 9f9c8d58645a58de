use Rattle.std.proofs.Common.{◌≡◌, ◌*◌, take}
use Rattle.std.specs.List.{join_with_byte}
use Rattle.capture_explain.specs.Text.{Puts}
use Rattle.host_top.specs.AddressText.{groups_of}
use Rattle.host_top.proofs.JoinLemmas.{between}
use Rattle.host_top.proofs.address_text.put_ipv6.Given as goal

abbrev pub invariant-loop-group : goal.invariant-loop-group
invariant-loop-group g l = record {
  between : l.between ≡ between 58 l.group;
  put : Puts g.O.ByteSink.bytes g.O.ByteSink.faults g.O.ByteSink.grows l.fn.answer l.answer
      (join_with_byte 58 (groups_of (take (2 * l.group) l.address.0))) l.fn.out l.out;
}
