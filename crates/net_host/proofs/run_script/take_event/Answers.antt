-- The row is placed and filled in; the capture took its records, or a front of them.
use Rattle.std.proofs.Common.{inl, inr, ap, subst, ◌∙◌, List, [], ◌∷◌, ◌++◌, ℕ}
use Rattle.std.specs.Io.KnownBytes.{Appends}
use Rattle.wire_base.specs.Causes.{AppendsFront}
use Rattle.phy_layers.specs.PcapBytes.{epoch_micros}
use Rattle.phy_layers.proofs.SinkLemmas.{Appends-then, AppendsFront-then}
use Rattle.net_host.specs.Captured.{arrived_record, sent_records}
use Rattle.script_reader.specs.Reading.{arrival_of}
use Rattle.net_host.specs.Report.{new_row}
use Rattle.net_host.specs.Rows.{kind_of}
use Rattle.host_model.specs.Neighbor.{told_to}
use Rattle.net_host.proofs.CrowdedLemmas.{room_place}
use Rattle.net_host.proofs.PlacingLemmas.{place_row}
use Rattle.net_host.proofs.run_script.take_event.Goals as goal

pub answer-requires-clause-can : goal.answer-requires-clause-can
answer-requires-clause-can g c = record {
  ready = c.requires.can.ready;
  lent = c.requires.can.lent;
  holds = c.requires.can.holds;
  few = c.requires.can.few;
  place = room_place (told_to c.args.host.now.out.hardware (arrival_of c.args.event)) (epoch_micros c.args.at) c.args.host.now.out.neighbors c.requires.can.room;
  order = c.requires.order;
}

pub returns-in_err-capture_arrived-clause-sink : goal.returns-in_err-capture_arrived-clause-sink
returns-in_err-capture_arrived-clause-sink g c = λ is. inl (record {
  note = c.note_for-note.result;
  noted = c.note_for-note.ensures;
  placed = c.in_ok-begin.ensures.ok
      ∙ ap (λ k. c.args.report.now ++ new_row c.args.at k c.note_for-note.result c.lease.result ∷ []) c.kind_of.ensures
      ∙ ap (λ l. c.args.report.now ++ new_row c.args.at (kind_of (arrival_of c.args.event)) c.note_for-note.result l ∷ []) c.lease.ensures.value;
  captured = c.capture_arrived.ensures.front;
})

pub returns-in_err-capture_arrived-clause-memory : goal.returns-in_err-capture_arrived-clause-memory
returns-in_err-capture_arrived-clause-memory g c = λ is. inr (inl (record {
  note = c.note_for-note.result;
  noted = c.note_for-note.ensures;
  placed = c.in_ok-begin.ensures.ok
      ∙ ap (λ k. c.args.report.now ++ new_row c.args.at k c.note_for-note.result c.lease.result ∷ []) c.kind_of.ensures
      ∙ ap (λ l. c.args.report.now ++ new_row c.args.at (kind_of (arrival_of c.args.event)) c.note_for-note.result l ∷ []) c.lease.ensures.value;
  captured = c.capture_arrived.ensures.front;
}))

pub returns-in_err-handled-clause-memory : goal.returns-in_err-handled-clause-memory
returns-in_err-handled-clause-memory g c = λ is. inr (inl (record {
  note = c.note_for-note.result;
  noted = c.note_for-note.ensures;
  placed = c.in_ok-begin.ensures.ok
      ∙ ap (λ k. c.args.report.now ++ new_row c.args.at k c.note_for-note.result c.lease.result ∷ []) c.kind_of.ensures
      ∙ ap (λ l. c.args.report.now ++ new_row c.args.at (kind_of (arrival_of c.args.event)) c.note_for-note.result l ∷ []) c.lease.ensures.value;
  captured = c.capture_arrived.ensures.front;
}))

pub returns-in_err-captured-clause-sink : goal.returns-in_err-captured-clause-sink
returns-in_err-captured-clause-sink g c = λ is.
    let places = place_row c.args.at c.args.event c.args.words c.args.host.now c.answer.new.self (g.C.ByteSink.bytes c.args.capture.now)
    (g.C.ByteSink.bytes c.capture_sent-captured.new.capture) c.args.report.now c.begin.new.self c.fill_last.new.self
    c.kind_of.result c.note_for-note.result c.lease.result c.in_ok-handled.handled c.in_ok-begin.ensures.ok c.fill_last.ensures
    c.kind_of.ensures c.note_for-note.ensures c.in_ok-handled.ensures.value in
    let P : List ℕ → Type 0 = λ l.
    AppendsFront (g.C.ByteSink.bytes c.capture_arrived.new.capture) (g.C.ByteSink.bytes c.capture_sent-captured.new.capture) l in
    let sent = subst P (ap (sent_records (epoch_micros c.args.at)) c.as_slice.ensures) c.capture_sent-captured.ensures.front in
    let arrived = rw c.in_ok-capture_arrived.was at c.capture_arrived.ensures.whole in
    inr (record {
      places = places;
      captured = AppendsFront-then (g.C.ByteSink.bytes c.args.capture.now) (g.C.ByteSink.bytes c.capture_arrived.new.capture)
          (g.C.ByteSink.bytes c.capture_sent-captured.new.capture) (arrived_record (epoch_micros c.args.at) (arrival_of c.args.event))
          (sent_records (epoch_micros c.args.at) c.in_ok-handled.handled.sent) arrived sent;
    })

pub returns-in_err-captured-clause-memory : goal.returns-in_err-captured-clause-memory
returns-in_err-captured-clause-memory g c = λ is.
    let places = place_row c.args.at c.args.event c.args.words c.args.host.now c.answer.new.self (g.C.ByteSink.bytes c.args.capture.now)
    (g.C.ByteSink.bytes c.capture_sent-captured.new.capture) c.args.report.now c.begin.new.self c.fill_last.new.self
    c.kind_of.result c.note_for-note.result c.lease.result c.in_ok-handled.handled c.in_ok-begin.ensures.ok c.fill_last.ensures
    c.kind_of.ensures c.note_for-note.ensures c.in_ok-handled.ensures.value in
    let P : List ℕ → Type 0 = λ l.
    AppendsFront (g.C.ByteSink.bytes c.capture_arrived.new.capture) (g.C.ByteSink.bytes c.capture_sent-captured.new.capture) l in
    let sent = subst P (ap (sent_records (epoch_micros c.args.at)) c.as_slice.ensures) c.capture_sent-captured.ensures.front in
    let arrived = rw c.in_ok-capture_arrived.was at c.capture_arrived.ensures.whole in
    inr (inr (record {
      places = places;
      captured = AppendsFront-then (g.C.ByteSink.bytes c.args.capture.now) (g.C.ByteSink.bytes c.capture_arrived.new.capture)
          (g.C.ByteSink.bytes c.capture_sent-captured.new.capture) (arrived_record (epoch_micros c.args.at) (arrival_of c.args.event))
          (sent_records (epoch_micros c.args.at) c.in_ok-handled.handled.sent) arrived sent;
    }))

pub returns-clause-ok : goal.returns-clause-ok
returns-clause-ok g c =
    let places = place_row c.args.at c.args.event c.args.words c.args.host.now c.answer.new.self (g.C.ByteSink.bytes c.args.capture.now)
    (g.C.ByteSink.bytes c.capture_sent-captured.new.capture) c.args.report.now c.begin.new.self c.fill_last.new.self
    c.kind_of.result c.note_for-note.result c.lease.result c.in_ok-handled.handled c.in_ok-begin.ensures.ok c.fill_last.ensures
    c.kind_of.ensures c.note_for-note.ensures c.in_ok-handled.ensures.value in
    let P : List ℕ → Type 0 = λ l.
    Appends (g.C.ByteSink.bytes c.capture_arrived.new.capture) (g.C.ByteSink.bytes c.capture_sent-captured.new.capture) l in
    let whole = rw c.in_ok-captured.was at c.capture_sent-captured.ensures.whole in
    let sent = subst P (ap (sent_records (epoch_micros c.args.at)) c.as_slice.ensures) whole in
    let arrived = rw c.in_ok-capture_arrived.was at c.capture_arrived.ensures.whole in
    record {
      places = places;
      captured = Appends-then (g.C.ByteSink.bytes c.args.capture.now) (g.C.ByteSink.bytes c.capture_arrived.new.capture)
          (g.C.ByteSink.bytes c.capture_sent-captured.new.capture) (arrived_record (epoch_micros c.args.at) (arrival_of c.args.event))
          (sent_records (epoch_micros c.args.at) c.in_ok-handled.handled.sent) arrived sent;
    }
