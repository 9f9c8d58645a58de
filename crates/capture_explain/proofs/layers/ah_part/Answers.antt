-- The check value is what is behind twelve bytes.
use Rattle.std.proofs.Common.{◌≡◌, ◌-◌, ◌∙◌, length, ap, refl, length-drop}
use Rattle.capture_explain.proofs.layers.ah_part.Goals as goal

pub returns : goal.returns
returns c =
    let len : length c.icv.result.now ≡ length c.args.header.now - 12 =
    ap length c.icv.ensures.value ∙ length-drop 12 c.args.header.now in
    rw (c.next_header.ensures.value, c.spi.ensures.value, c.sequence_number.ensures.value, len) refl
