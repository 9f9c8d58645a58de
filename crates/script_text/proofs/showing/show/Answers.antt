-- The events so far stand, whatever comes of the next one.
use Rattle.std.proofs.Common.{◌≡◌, [], ap, sym, subst, ◌∙◌, refl, arith, Err, ◌+◌, IfSome}
use Rattle.std.proofs.lemmas.Result.{err_from_is_err_and}
use Rattle.capture_explain.proofs.TextLemmas.{puts_nothing, puts_same}
use Rattle.script_reader.specs.ReaderState.{ReaderState}
use Rattle.script_reader.specs.Reading.{event_with}
use Rattle.script_text.specs.EventText.{event_line}
use Rattle.script_text.specs.Shown.{PutsEvents}
use Rattle.script_text.proofs.LineLemmas.{event_more, puts_events}
use Rattle.script_text.proofs.ShownLemmas.{starts, goes_on, same_event, same_bytes, reading_stops, reading_cause, finished, completes}
use Rattle.script_text.proofs.showing.show.Goals as goal

pub returns-in_err-reader-clause-leaves : goal.returns-in_err-reader-clause-leaves
returns-in_err-reader-clause-leaves g c =
    let refused = err_from_is_err_and c.from_residual.result c.from_residual.ensures.1 in
    rw (refused.1, refused.2) (record {
      none = puts_events g.O.ByteSink c.args.written.now c.args.written.now c.args.out.now c.args.out.now [] puts_nothing;
      stays = refl;
    })

pub loop-count-init : goal.loop-count-init
loop-count-init g c =
    rw c.in_ok-reader.ensures.value (record {
      progress = starts c.args.max_events (g.S.ScriptSource.left c.args.source.now)
          (PutsEvents g.O.ByteSink c.args.written.now c.args.written.now c.args.out.now c.args.out.now)
          (puts_events g.O.ByteSink c.args.written.now c.args.written.now c.args.out.now c.args.out.now [] puts_nothing);
      quiet = refl;
      counted = refl;
      within = omega arith;
      goes_on = refl;
      limit = tt;
    })

pub returns-in_err-head-clause-leaves : goal.returns-in_err-head-clause-leaves
returns-in_err-head-clause-leaves g c =
    let refused = err_from_is_err_and c.from_residual-in_err-head.result c.from_residual-in_err-head.ensures.1 in
    let left = g.S.ScriptSource.left in
    let now = c.loop-count in
    rw (refused.1, refused.2)
    (reading_stops c.args.max_events (left c.args.source.now) (left now.source) (left c.next_head.new.source) now.reader c.next_head.new.self
    (PutsEvents g.O.ByteSink c.args.written.now now.written c.args.out.now now.out) c.in_err-head.field-0.0 now.invariant.progress c.in_err-head.ensures.err
    (record { script = c.in_err-head.ensures.script; limit = λ is. c.in_err-head.ensures.limit (ap (λ e. Err e) is) }))

pub returns-in_err-head-clause-cause : goal.returns-in_err-head-clause-cause
returns-in_err-head-clause-cause g c =
    let refused = err_from_is_err_and c.from_residual-in_err-head.result c.from_residual-in_err-head.ensures.1 in
    let left = g.S.ScriptSource.left in
    let faults = g.S.ScriptSource.faults in
    let now = c.loop-count in
    rw (refused.1, refused.2)
    (reading_cause c.args.max_events (left c.args.source.now) (left now.source) now.reader
    (PutsEvents g.O.ByteSink c.args.written.now now.written c.args.out.now now.out)
    (faults c.args.source.now) (faults now.source) (faults c.next_head.new.source) c.in_err-head.field-0.0 now.invariant.progress
    (record { script = c.in_err-head.ensures.script; limit = λ is. c.in_err-head.ensures.limit (ap (λ e. Err e) is) })
    (record {
      quiet = now.invariant.quiet;
      source = λ other. c.in_err-head.ensures.quiet (λ is. other (cc));
      risen = λ is. c.in_err-head.ensures.read (ap (λ e. Err e) is);
    }))

pub returns-in_err-head-clause-complete : goal.returns-in_err-head-clause-complete
returns-in_err-head-clause-complete g c =
    completes c.args.max_events (g.S.ScriptSource.left c.args.source.now) (g.S.ScriptSource.faults c.args.source.now)
    (g.S.ScriptSource.faults c.next_head.new.source) c.from_residual-in_err-head.result (returns-in_err-head-clause-cause g c)

pub returns-in_default-clause-shown : goal.returns-in_default-clause-shown
returns-in_default-clause-shown g c =
    let left = g.S.ScriptSource.left in
    let now = c.loop-count in
    let ended = rw c.in_default.is at c.in_ok-head.ensures.ended in
    finished c.args.max_events (left c.args.source.now) (left now.source) (left c.next_head.new.source) now.reader
    (PutsEvents g.O.ByteSink c.args.written.now now.written c.args.out.now now.out) now.invariant.progress ended.was_at_end ended.at_end

pub loop-count-preserved : goal.loop-count-preserved
loop-count-preserved g c =
    let left = g.S.ScriptSource.left in
    let now = c.loop-count in
    let head = c.in-Some.head in
    let reader = c.next_head.new.self in
    let event = event_with head reader.brought in
    let is = c.event-at.ensures.event in
    let same = same_event head c.event-at.result.0 c.event-at.result.1 reader.brought is in
    let found = rw c.in-Some.is at c.in_ok-head.ensures.found in
    record {
      progress = goes_on c.args.max_events (left c.args.source.now) (left now.source) (left c.next_head.new.source) now.reader reader event
          (PutsEvents g.O.ByteSink c.args.written.now now.written c.args.out.now now.out)
          (PutsEvents g.O.ByteSink c.args.written.now c.put_event.new.answer c.args.out.now c.put_event.new.out)
          now.invariant.progress found (same_bytes head c.event-at.result.0 c.event-at.result.1 reader.brought is c.put_event.ensures.bytes)
          (λ events are. event_more g.O.ByteSink c.args.written.now now.written c.put_event.new.answer c.args.out.now now.out c.put_event.new.out events event
          are (puts_same c.put_event.ensures.text (ap event_line same)));
      quiet = c.in_ok-head.ensures.quiet (λ is. cc) ∙ now.invariant.quiet;
      counted = ap (λ (r : ReaderState). r.events) found.moved ∙ ap (λ n. n + 1) now.invariant.counted;
      within = omega (arith, found.within, now.invariant.counted);
      goes_on = ap (λ (r : ReaderState). r.is_through) found.moved;
      limit = subst (λ (r : ReaderState). IfSome r.max_events (λ max. max ≡ c.args.max_events)) (sym found.moved) refl;
    }
