use Rattle.std.proofs.Common.{ap, arith, sym, ◌∙◌}
use Rattle.frame_verdict.specs.Brought.{brought_by_packet}
use Rattle.frame_verdict.specs.BroughtValue.{otherwise}
use Rattle.frame_verdict.proofs.CarriedLemmas.{behind_type}
use Rattle.frame_verdict.proofs.frame.frame_verdict.Goals as goal

pub returns-in-2048 : goal.returns-in-2048
returns-in-2048 c =
    c.packet_verdict.ensures
    ∙ ap (λ packet. otherwise (brought_by_packet packet)) c.split_at.ensures.back
    ∙ ap otherwise (sym (behind_type c.args.hardware c.args.frame.now (omega (arith, c.if-frame-lt14.false))
    (sym c.is_for.ensures ∙ c.if-not-is_for.false) (sym c.read_be16.ensures ∙ c.in-2048.is)))
