-- The piece of one byte more, which is a byte.
use Rattle.std.proofs.Common.{◌<◌, sym, arith}
use Rattle.std.proofs.lemmas.List.Elements.{All-more}
use Rattle.phy_layers.proofs.SinkLemmas.{flat_map-take_more}
use Rattle.capture_explain.proofs.TextLemmas.{puts_same, puts_then}
use Rattle.script_text.specs.EventText.{name_byte}
use Rattle.script_text.proofs.line.put_name_bytes.Goals as goal

pub loop-byte-preserved : goal.loop-byte-preserved
loop-byte-preserved g c =
    let now = c.loop-byte in
    record {
      text = puts_same (puts_then now.invariant.text c.put_name_byte.ensures)
          (sym (flat_map-take_more name_byte c.args.bytes.now now.byte-index 0 c.loop-byte-test.true));
      small = All-more (λ byte. byte < 256) c.args.bytes.now now.byte-index 0 c.loop-byte-test.true now.invariant.small
          (omega (arith, c.type_inv.bytes now.byte-index));
    }
