-- The pieces so far were put.
use Rattle.std.proofs.Common.{◌<◌, take}
use Rattle.std.specs.List.{All, flat_map}
use Rattle.capture_explain.specs.Text.{Puts}
use Rattle.script_text.specs.EventText.{hex_byte}
use Rattle.script_text.proofs.line.put_hex_bytes.Given as goal

abbrev pub invariant-loop-byte : goal.invariant-loop-byte
invariant-loop-byte g l =
    record {
      text : Puts g.O.ByteSink.bytes g.O.ByteSink.faults g.O.ByteSink.grows l.fn.answer l.answer (flat_map hex_byte (take l.byte-index l.bytes))
          l.fn.out l.out;
      small : All (λ byte. byte < 256) (take l.byte-index l.bytes);
    }
