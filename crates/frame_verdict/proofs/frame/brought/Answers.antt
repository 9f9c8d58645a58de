use Rattle.std.proofs.Common.{sym, ◌∙◌}
use Rattle.net_wire.specs.ArrivalValues.{datagram_value}
use Rattle.frame_verdict.specs.Brought.{brought_by}
use Rattle.frame_verdict.proofs.CarriedLemmas.{err_is, is_carried, ok_is}
use Rattle.frame_verdict.proofs.frame.brought.Goals as goal

pub returns-in-Some : goal.returns-in-Some
returns-in-Some c = record {
  value = ok_is (brought_by c.args.hardware c.args.frame.now) (datagram_value c.in-Some.datagram)
      (is_carried c.args.hardware c.args.frame.now ∙ sym c.in-Some.ensures);
}

pub returns-in-None : goal.returns-in-None
returns-in-None c = record {
  value = err_is (brought_by c.args.hardware c.args.frame.now) c.frame_verdict.result
      (is_carried c.args.hardware c.args.frame.now ∙ sym c.in-None.ensures) c.frame_verdict.ensures;
}
