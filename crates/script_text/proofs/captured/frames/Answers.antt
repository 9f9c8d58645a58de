-- The entries so far stand, whatever comes of the next one.
use Rattle.std.proofs.Common.{◌≡◌, [], ◌+◌, ◌==◌, length, take, Err, ap, sym, subst, ◌∙◌, refl, arith}
use Rattle.std.proofs.lemmas.Result.{err_from_is_err_and}
use Rattle.wire_base.specs.Causes.{IsRisen}
use Rattle.host_model.specs.Script.{Frame}
use Rattle.capture_explain.specs.Reading.{entry_with, GivesEntry}
use Rattle.capture_explain.specs.declared.error.ExplainError.TheVariants as explain
use Rattle.capture_explain.proofs.ReadingLemmas.{written_over}
use Rattle.capture_explain.proofs.TextLemmas.{puts_nothing, puts_same}
use Rattle.script_text.specs.EventText.{event_line}
use Rattle.script_text.specs.ShownFrames.{PutsFrames}
use Rattle.script_text.proofs.FramesLemmas.{Progress, starts, goes_on, header_stops, entry_stops, refused_stops, stops_cause, finishes, completes, next_entry, no_next_entry, same_event, still_below, at_limit, frame_more}
use Rattle.script_text.proofs.LineLemmas.{puts_events}
use Rattle.script_text.proofs.captured.frames.Goals as goal

pub returns-in_err-room-clause-leaves : goal.returns-in_err-room-clause-leaves
returns-in_err-room-clause-leaves g c =
    let refused = err_from_is_err_and c.from_residual.result c.from_residual.ensures.1 in
    rw (refused.1, refused.2) (record {
      none = puts_events g.O.ByteSink c.args.written.now c.args.written.now c.args.out.now c.args.out.now [] puts_nothing;
      stays = refl;
    })

pub returns-in_err-read_header-clause-leaves : goal.returns-in_err-read_header-clause-leaves
returns-in_err-read_header-clause-leaves g c =
    let refused = err_from_is_err_and c.from_residual-in_err-read_header.result c.from_residual-in_err-read_header.ensures.1 in
    let left = g.S.ScriptSource.left in
    rw (refused.1, refused.2)
    (header_stops c.args.max_frames (left c.args.source.now) (left c.read_header.new.source)
    (PutsFrames g.O.ByteSink c.args.written.now c.args.written.now c.args.out.now c.args.out.now)
    c.in_err-read_header.field-0.0 (puts_events g.O.ByteSink c.args.written.now c.args.written.now c.args.out.now c.args.out.now [] puts_nothing) c.in_err-read_header.ensures.err)

pub returns-in_err-read_header-clause-cause : goal.returns-in_err-read_header-clause-cause
returns-in_err-read_header-clause-cause g c =
    let refused = err_from_is_err_and c.from_residual-in_err-read_header.result c.from_residual-in_err-read_header.ensures.1 in
    let left = g.S.ScriptSource.left in
    let faults = g.S.ScriptSource.faults in
    let Tells = (PutsFrames g.O.ByteSink c.args.written.now c.args.written.now c.args.out.now c.args.out.now) in
    rw (refused.1, refused.2)
    (stops_cause c.args.max_frames (left c.args.source.now) (left c.read_header.new.source) Tells
    (faults c.args.source.now) (faults c.read_header.new.source) c.in_err-read_header.field-0.0
    (header_stops c.args.max_frames (left c.args.source.now) (left c.read_header.new.source) Tells
    c.in_err-read_header.field-0.0 (puts_events g.O.ByteSink c.args.written.now c.args.written.now c.args.out.now c.args.out.now [] puts_nothing) c.in_err-read_header.ensures.err)
    (record { quiet = λ other. c.in_err-read_header.ensures.quiet (λ is. other (cc)); risen = λ is. c.in_err-read_header.ensures.read (ap (λ e. Err e) is) }))

pub returns-in_err-read_header-clause-complete : goal.returns-in_err-read_header-clause-complete
returns-in_err-read_header-clause-complete g c =
    completes c.args.max_frames (g.S.ScriptSource.left c.args.source.now) (g.S.ScriptSource.faults c.args.source.now)
    (g.S.ScriptSource.faults c.read_header.new.source) c.from_residual-in_err-read_header.result
    (returns-in_err-read_header-clause-cause g c)

pub loop-count-init : goal.loop-count-init
loop-count-init g c =
    let left = g.S.ScriptSource.left in
    let header = c.in_ok-read_header.ensures.ok in
    record {
      progress = starts (left c.args.source.now) (left c.read_header.new.source) header.header
          (PutsFrames g.O.ByteSink c.args.written.now c.args.written.now c.args.out.now c.args.out.now) header.is_header header.took
          (puts_events g.O.ByteSink c.args.written.now c.args.written.now c.args.out.now c.args.out.now [] puts_nothing);
      quiet = c.in_ok-read_header.ensures.quiet (λ is. cc);
      near = omega arith;
      within = omega arith;
      most = c.requires.max;
      room = c.in_ok-room.ensures;
    }

pub returns-in_err-head-clause-leaves : goal.returns-in_err-head-clause-leaves
returns-in_err-head-clause-leaves g c =
    let refused = err_from_is_err_and c.from_residual-in_err-head.result c.from_residual-in_err-head.ensures.1 in
    let left = g.S.ScriptSource.left in
    let now = c.loop-count in
    rw (refused.1, refused.2)
    (entry_stops c.args.max_frames (left c.args.source.now) (left now.source) (left c.read_entry.new.source)
    now.offset now.count now.last_micros (PutsFrames g.O.ByteSink c.args.written.now now.written c.args.out.now now.out)
    c.in_err-head.field-0.0 (now.count == c.args.max_frames) now.invariant.progress now.invariant.within
    (still_below now.count c.args.max_frames now.invariant.within) (at_limit now.count c.args.max_frames) c.in_err-head.ensures.err
    c.in_err-head.ensures.entry (λ is. c.in_err-head.ensures.limit (ap (λ e. Err e) is)))

pub returns-in_err-head-clause-cause : goal.returns-in_err-head-clause-cause
returns-in_err-head-clause-cause g c =
    let refused = err_from_is_err_and c.from_residual-in_err-head.result c.from_residual-in_err-head.ensures.1 in
    let left = g.S.ScriptSource.left in
    let faults = g.S.ScriptSource.faults in
    let now = c.loop-count in
    let Tells = (PutsFrames g.O.ByteSink c.args.written.now now.written c.args.out.now now.out) in
    rw (refused.1, refused.2)
    (stops_cause c.args.max_frames (left c.args.source.now) (left c.read_entry.new.source) Tells
    (faults c.args.source.now) (faults c.read_entry.new.source) c.in_err-head.field-0.0
    (entry_stops c.args.max_frames (left c.args.source.now) (left now.source) (left c.read_entry.new.source)
    now.offset now.count now.last_micros Tells c.in_err-head.field-0.0 (now.count == c.args.max_frames) now.invariant.progress now.invariant.within
    (still_below now.count c.args.max_frames now.invariant.within) (at_limit now.count c.args.max_frames) c.in_err-head.ensures.err
    c.in_err-head.ensures.entry (λ is. c.in_err-head.ensures.limit (ap (λ e. Err e) is)))
    (record {
      quiet = λ other. c.in_err-head.ensures.quiet (λ is. other (cc)) ∙ now.invariant.quiet;
      risen = λ is. subst (λ n. IsRisen n (faults c.read_entry.new.source)) now.invariant.quiet (c.in_err-head.ensures.read (ap (λ e. Err e) is));
    }))

pub returns-in_err-head-clause-complete : goal.returns-in_err-head-clause-complete
returns-in_err-head-clause-complete g c =
    completes c.args.max_frames (g.S.ScriptSource.left c.args.source.now) (g.S.ScriptSource.faults c.args.source.now)
    (g.S.ScriptSource.faults c.read_entry.new.source) c.from_residual-in_err-head.result (returns-in_err-head-clause-cause g c)

pub returns-in_default-clause-shown : goal.returns-in_default-clause-shown
returns-in_default-clause-shown g c =
    let left = g.S.ScriptSource.left in
    let now = c.loop-count in
    let ended = rw c.in_default.is at c.in_ok-head.ensures.ended in
    finishes c.args.max_frames (left c.args.source.now) (left now.source) (left c.read_entry.new.source) now.offset now.count now.last_micros
    (PutsFrames g.O.ByteSink c.args.written.now now.written c.args.out.now now.out) now.invariant.progress now.invariant.within ended.0 ended.1

pub returns-in_default-next_micros-clause-leaves : goal.returns-in_default-next_micros-clause-leaves
returns-in_default-next_micros-clause-leaves g c =
    let left = g.S.ScriptSource.left in
    let now = c.loop-count in
    let head = c.in-Some.head in
    let found = rw c.in-Some.is at c.in_ok-head.ensures.found in
    let frame = take head.captured c.read_entry.new.frame in
    refused_stops c.args.max_frames (left c.args.source.now) (left now.source) (left c.read_entry.new.source)
    now.offset now.count now.last_micros (PutsFrames g.O.ByteSink c.args.written.now now.written c.args.out.now now.out) (entry_with head frame) now.invariant.progress
    (still_below now.count c.args.max_frames now.invariant.within found.0) found.1.fits found.1.took
    (no_next_entry now.last_micros head frame found.1.captured c.in_default-next_micros.ensures.refuses)

pub returns-in_default-next_micros-clause-cause : goal.returns-in_default-next_micros-clause-cause
returns-in_default-next_micros-clause-cause g c =
    let left = g.S.ScriptSource.left in
    let faults = g.S.ScriptSource.faults in
    let now = c.loop-count in
    stops_cause c.args.max_frames (left c.args.source.now) (left c.read_entry.new.source)
    (PutsFrames g.O.ByteSink c.args.written.now now.written c.args.out.now now.out)
    (faults c.args.source.now) (faults c.read_entry.new.source) (explain.Entry now.offset)
    (returns-in_default-next_micros-clause-leaves g c)
    (record { quiet = λ other. c.in_ok-head.ensures.quiet (λ is. cc) ∙ now.invariant.quiet; risen = λ is. cc })

pub returns-in_default-next_micros-clause-complete : goal.returns-in_default-next_micros-clause-complete
returns-in_default-next_micros-clause-complete g c =
    completes c.args.max_frames (g.S.ScriptSource.left c.args.source.now) (g.S.ScriptSource.faults c.args.source.now)
    (g.S.ScriptSource.faults c.read_entry.new.source) (Err (explain.Entry c.loop-count.offset))
    (returns-in_default-next_micros-clause-cause g c)

pub loop-count-preserved : goal.loop-count-preserved
loop-count-preserved g c =
    let left = g.S.ScriptSource.left in
    let now = c.loop-count in
    let head = c.in-Some.head in
    let found = rw c.in-Some.is at c.in_ok-head.ensures.found in
    let as_long : length c.read_entry.new.frame ≡ length now.room.items =
    omega (arith, c.read_entry.auto.frame, ap length c.as_mut_slice.ensures.value, c.as_mut_slice.ensures.len) in
    let is_len : now.room.len ≡ length now.room.items = omega (arith, c.as_mut_slice.ensures.len) in
    let kept = written_over now.room.len c.read_entry.new.frame now.room.items as_long is_len in
    let is_frame : c.as_slice.result.now ≡ c.read_entry.new.frame = c.as_slice.ensures.value ∙ kept in
    let given = subst (λ l. GivesEntry (left now.source) (left c.read_entry.new.source) l head) (sym is_frame) found.1 in
    let frame = take head.captured c.as_slice.result.now in
    let next = c.in-Some-next_micros.ensures.found in
    let micros = c.in-Some-next_micros.micros in
    let same = same_event micros head frame (record { at = micros; arrival = Frame frame }) next.0 refl in
    let below = still_below now.count c.args.max_frames now.invariant.within found.0 in
    let Told = (PutsFrames g.O.ByteSink c.args.written.now c.put_event.new.answer c.args.out.now c.put_event.new.out) in
    record {
      progress = subst (λ m. Progress (left c.args.source.now) (left c.read_entry.new.source) (now.offset + (16 + c.from.result)) (now.count + 1) m Told) (sym next.0)
          (goes_on (left c.args.source.now) (left now.source) (left c.read_entry.new.source) now.offset (now.offset + (16 + c.from.result)) now.count now.last_micros
          (entry_with head frame) (PutsFrames g.O.ByteSink c.args.written.now now.written c.args.out.now now.out) Told
          now.invariant.progress (next_entry now.last_micros head frame given.captured given.fits next.1) given.took c.put_event.ensures.bytes
          (λ entries are. frame_more g.O.ByteSink c.args.written.now now.written c.put_event.new.answer c.args.out.now now.out c.put_event.new.out entries
          (entry_with head frame) are (puts_same c.put_event.ensures.text (ap event_line same)))
          (omega (arith, c.from.ensures, given.captured)));
      quiet = c.in_ok-head.ensures.quiet (λ is. cc) ∙ now.invariant.quiet;
      near = omega (arith, now.invariant.near, c.from.ensures, given.captured, given.fits.captured);
      within = omega (arith, below);
      most = now.invariant.most;
      room = ap length kept ∙ as_long ∙ now.invariant.room;
    }
