-- The row is placed and filled in; the capture took its records, or a front of them.
use Rattle.std.proofs.Common.{inr, sym, subst, List, Option, ℕ}
use Rattle.std.specs.Io.KnownBytes.{Appends}
use Rattle.phy_layers.specs.PcapBytes.{epoch_micros}
use Rattle.phy_layers.proofs.SinkLemmas.{Appends-then, AppendsFront-then}
use Rattle.lease_server.specs.Values.{values_of}
use Rattle.server_run.specs.Captured.{frame_record}
use Rattle.server_run.proofs.PlacingLemmas.{epoch_is, place_row}
use Rattle.server_run.proofs.serving.take_event.Goals as goal

pub returns-in_err-captured-clause-sink : goal.returns-in_err-captured-clause-sink
returns-in_err-captured-clause-sink g c = λ calls agrees is.
    let values = values_of c.args.values.now in
    let places = place_row values calls c.args.at c.args.event c.args.server.now c.answer_event.new.server
    (g.C.ByteSink.bytes c.args.capture.now) (g.C.ByteSink.bytes c.capture_sent-captured.new.capture)
    c.args.report.now c.begin.new.self c.fill_last.new.self c.in_ok-arrived.arrived c.in_ok-given.given
    (epoch_is c.args.at c.requires.time.0) c.in_ok-begin.ensures.ok c.fill_last.ensures c.in_ok-arrived.ensures
    (c.in_ok-given.ensures.value calls agrees) in
    let at = epoch_micros c.args.at in
    let Q : Option (List ℕ) → Type 0 = λ frame. Appends (g.C.ByteSink.bytes c.args.capture.now) (g.C.ByteSink.bytes c.capture_arrived.new.capture) (frame_record at frame) in
    let arrived = subst Q (sym c.in_ok-arrived.ensures) (rw c.in_ok-capture_arrived.was at c.capture_arrived.ensures.whole) in
    inr (record {
      places = places;
      captured = AppendsFront-then (g.C.ByteSink.bytes c.args.capture.now) (g.C.ByteSink.bytes c.capture_arrived.new.capture)
          (g.C.ByteSink.bytes c.capture_sent-captured.new.capture) (frame_record at c.in_ok-arrived.arrived)
          (frame_record at c.in_ok-given.given.sent) arrived c.capture_sent-captured.ensures.front;
    })

pub returns-in_err-captured-clause-memory : goal.returns-in_err-captured-clause-memory
returns-in_err-captured-clause-memory g c = λ calls agrees is.
    let values = values_of c.args.values.now in
    let places = place_row values calls c.args.at c.args.event c.args.server.now c.answer_event.new.server
    (g.C.ByteSink.bytes c.args.capture.now) (g.C.ByteSink.bytes c.capture_sent-captured.new.capture)
    c.args.report.now c.begin.new.self c.fill_last.new.self c.in_ok-arrived.arrived c.in_ok-given.given
    (epoch_is c.args.at c.requires.time.0) c.in_ok-begin.ensures.ok c.fill_last.ensures c.in_ok-arrived.ensures
    (c.in_ok-given.ensures.value calls agrees) in
    let at = epoch_micros c.args.at in
    let Q : Option (List ℕ) → Type 0 = λ frame. Appends (g.C.ByteSink.bytes c.args.capture.now) (g.C.ByteSink.bytes c.capture_arrived.new.capture) (frame_record at frame) in
    let arrived = subst Q (sym c.in_ok-arrived.ensures) (rw c.in_ok-capture_arrived.was at c.capture_arrived.ensures.whole) in
    inr (inr (record {
      places = places;
      captured = AppendsFront-then (g.C.ByteSink.bytes c.args.capture.now) (g.C.ByteSink.bytes c.capture_arrived.new.capture)
          (g.C.ByteSink.bytes c.capture_sent-captured.new.capture) (frame_record at c.in_ok-arrived.arrived)
          (frame_record at c.in_ok-given.given.sent) arrived c.capture_sent-captured.ensures.front;
    }))

pub returns-clause-ok : goal.returns-clause-ok
returns-clause-ok g c = λ calls agrees.
    let values = values_of c.args.values.now in
    let places = place_row values calls c.args.at c.args.event c.args.server.now c.answer_event.new.server
    (g.C.ByteSink.bytes c.args.capture.now) (g.C.ByteSink.bytes c.capture_sent-captured.new.capture)
    c.args.report.now c.begin.new.self c.fill_last.new.self c.in_ok-arrived.arrived c.in_ok-given.given
    (epoch_is c.args.at c.requires.time.0) c.in_ok-begin.ensures.ok c.fill_last.ensures c.in_ok-arrived.ensures
    (c.in_ok-given.ensures.value calls agrees) in
    let at = epoch_micros c.args.at in
    let Q : Option (List ℕ) → Type 0 = λ frame. Appends (g.C.ByteSink.bytes c.args.capture.now) (g.C.ByteSink.bytes c.capture_arrived.new.capture) (frame_record at frame) in
    let arrived = subst Q (sym c.in_ok-arrived.ensures) (rw c.in_ok-capture_arrived.was at c.capture_arrived.ensures.whole) in
    let sent = rw c.in_ok-captured.was at c.capture_sent-captured.ensures.whole in
    record {
      places = places;
      captured = Appends-then (g.C.ByteSink.bytes c.args.capture.now) (g.C.ByteSink.bytes c.capture_arrived.new.capture)
          (g.C.ByteSink.bytes c.capture_sent-captured.new.capture) (frame_record at c.in_ok-arrived.arrived)
          (frame_record at c.in_ok-given.given.sent) arrived sent;
    }
