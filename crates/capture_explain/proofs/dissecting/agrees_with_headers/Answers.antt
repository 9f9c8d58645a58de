-- Both are of one frame; one of fewer than 14 bytes has no headers.
use Rattle.std.proofs.Common.{arith}
use Rattle.capture_explain.proofs.DissectionLemmas.{refused_short}
use Rattle.capture_explain.proofs.dissecting.agrees_with_headers.Goals as goal

pub returns-in-Ok : goal.returns-in-Ok
returns-in-Ok c =
    let headers = c.in-Ok.ensures in
    λ long. record {
      headers = c.in-Ok.headers;
      holds_headers = headers.value.1.1;
      agree_is = c.agrees.ensures.value;
      agrees = λ free. c.agrees.ensures.value.1 ((headers.agrees c.args.packet.now c.requires free).0);
    }

pub returns-in-Err : goal.returns-in-Err
returns-in-Err c = λ long. absurd (omega (arith, long, refused_short c.args.frame.now _ c.in-Err.ensures.value))
