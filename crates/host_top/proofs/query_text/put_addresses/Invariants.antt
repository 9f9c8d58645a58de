use Rattle.std.proofs.Common.{◌≡◌, take, map}
use Rattle.std.specs.List.{join_with_byte}
use Rattle.capture_explain.specs.Text.{Puts}
use Rattle.host_top.specs.AddressText.{ip_text}
use Rattle.host_top.proofs.JoinLemmas.{between}
use Rattle.host_top.proofs.query_text.put_addresses.Given as goal

abbrev pub invariant-loop-address : goal.invariant-loop-address
invariant-loop-address g l = record {
  between : l.between ≡ between 44 l.address-index;
  put : Puts g.O.ByteSink.bytes g.O.ByteSink.faults g.O.ByteSink.grows l.fn.answer l.answer
      (join_with_byte 44 (map ip_text (take l.address-index l.addresses))) l.fn.out l.out;
}
