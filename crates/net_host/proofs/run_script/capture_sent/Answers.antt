-- What was refused is a front of a record, so what was taken is a front of all records.
use Rattle.std.proofs.Common.{◌+◌, ◌<◌, ◌++◌, length, take, Ok, sym, ap, ◌∙◌, arith}
use Rattle.std.proofs.lemmas.Result.{err_from_is_err_and}
use Rattle.phy_layers.specs.PcapBytes.{epoch_micros, packet_record}
use Rattle.phy_layers.proofs.SinkLemmas.{took_then, stops, flat_map-take_more, flat_map-take-drop}
use Rattle.net_host.specs.declared.report.Sent.{Sent}
use Rattle.net_host.specs.Captured.{sent_records}
use Rattle.net_host.proofs.run_script.capture_sent.Goals as goal

pub returns-in_err-packet : goal.returns-in_err-packet
returns-in_err-packet g c =
    let refused = err_from_is_err_and c.from_residual.result c.from_residual.ensures.1 in
    let within : c.loop-frame.frame-index < length c.args.sent.now = omega arith in
    let record_of = λ (s : Sent). packet_record (epoch_micros c.args.at) s.frame in
    let bytes = ap (packet_record (epoch_micros c.args.at)) (c.as_slice.ensures.value ∙ ap (λ (s : Sent). s.frame) c.frame-item.is) in
    let so_far = flat_map-take_more record_of c.args.sent.now c.loop-frame.frame-index c.frame-item.result within
    ∙ ap (λ l. sent_records (epoch_micros c.args.at) (take c.loop-frame.frame-index c.args.sent.now) ++ l) (sym bytes) in
    rw (refused.1, refused.2, ← flat_map-take-drop record_of c.args.sent.now (c.loop-frame.frame-index + 1), so_far)
    (stops _ (took_then c.loop-frame.invariant c.in_err-packet.ensures))

pub loop-frame-preserved : goal.loop-frame-preserved
loop-frame-preserved g c =
    let within : c.loop-frame.frame-index < length c.args.sent.now = omega arith in
    let record_of = λ (s : Sent). packet_record (epoch_micros c.args.at) s.frame in
    let bytes = ap (packet_record (epoch_micros c.args.at)) (c.as_slice.ensures.value ∙ ap (λ (s : Sent). s.frame) c.frame-item.is) in
    let so_far = flat_map-take_more record_of c.args.sent.now c.loop-frame.frame-index c.frame-item.result within
    ∙ ap (λ l. sent_records (epoch_micros c.args.at) (take c.loop-frame.frame-index c.args.sent.now) ++ l) (sym bytes) in
    rw so_far (took_then {result = Ok tt} c.loop-frame.invariant c.in_ok-packet.ensures)
