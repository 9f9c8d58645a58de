-- The events so far stand, whatever comes of the next one.
use Rattle.std.proofs.Common.{◌≡◌, [], length, ap, sym, subst, ◌∙◌, refl, arith, ⊎_elim, pos, Err}
use Rattle.std.proofs.lemmas.Result.{err_from_is_err_and}
use Rattle.phy_layers.specs.PcapBytes.{epoch_micros}
use Rattle.host_model.specs.Script.{Event}
use Rattle.lease_server.specs.Calls.{Agrees}
use Rattle.lease_server.specs.State.{ServerState, new_server}
use Rattle.lease_server.specs.Values.{values_of}
use Rattle.lease_server.proofs.CallLemmas.{is_as_called}
use Rattle.net_host.specs.Outside.{outside_of}
use Rattle.script_reader.specs.ReaderState.{ReaderState}
use Rattle.script_reader.specs.Reading.{GivesNext}
use Rattle.server_run.specs.declared.serve_error.ServeError.{ServeError}
use Rattle.server_run.specs.declared.serve_error.ServeError.TheVariants.{Sink, NoMemory}
use Rattle.server_run.specs.Served.{Leaves}
use Rattle.server_run.specs.Serving.{standing}
use Rattle.server_run.proofs.CompleteLemmas.{completes, taking_cause}
use Rattle.server_run.proofs.ProgressLemmas.{goes_on, starts}
use Rattle.server_run.proofs.PushLemmas.{calls_by}
use Rattle.server_run.proofs.RefusedLemmas.{event_leaves, header_leaves, nothing_served, row_leaves}
use Rattle.server_run.proofs.StoppedLemmas.{finished, reading_cause, reading_leaves}
use Rattle.server_run.proofs.TellingLemmas.{adds_at_most_one}
use Rattle.server_run.proofs.serving.serve_over.Goals as goal

pub returns-in_err-reader-clause-leaves : goal.returns-in_err-reader-clause-leaves
returns-in_err-reader-clause-leaves g c =
    let refused = err_from_is_err_and c.from_residual.result c.from_residual.ensures.1 in
    rw (refused.1, refused.2)
    (nothing_served (values_of c.args.values.now) c.args.max_events
    (outside_of g.S.ScriptSource g.C.ByteSink c.args.source.now c.args.capture.now) c.args.report.now c.requires.empty)

pub returns-in_err-told-clause-leaves : goal.returns-in_err-told-clause-leaves
returns-in_err-told-clause-leaves g c =
    let refused = err_from_is_err_and c.from_residual-in_err-told.result c.from_residual-in_err-told.ensures.1 in
    rw (refused.1, refused.2)
    (nothing_served (values_of c.args.values.now) c.args.max_events
    (outside_of g.S.ScriptSource g.C.ByteSink c.args.source.now c.args.capture.now) c.args.report.now c.requires.empty)

pub returns-in_err-clients-clause-leaves : goal.returns-in_err-clients-clause-leaves
returns-in_err-clients-clause-leaves g c =
    let refused = err_from_is_err_and c.from_residual-in_err-clients.result c.from_residual-in_err-clients.ensures.1 in
    rw (refused.1, refused.2)
    (nothing_served (values_of c.args.values.now) c.args.max_events
    (outside_of g.S.ScriptSource g.C.ByteSink c.args.source.now c.args.capture.now) c.args.report.now c.requires.empty)

pub returns-in_err-leases-clause-leaves : goal.returns-in_err-leases-clause-leaves
returns-in_err-leases-clause-leaves g c =
    let refused = err_from_is_err_and c.from_residual-in_err-leases.result c.from_residual-in_err-leases.ensures.1 in
    rw (refused.1, refused.2)
    (nothing_served (values_of c.args.values.now) c.args.max_events
    (outside_of g.S.ScriptSource g.C.ByteSink c.args.source.now c.args.capture.now) c.args.report.now c.requires.empty)

pub returns-in_err-slots-clause-leaves : goal.returns-in_err-slots-clause-leaves
returns-in_err-slots-clause-leaves g c =
    let refused = err_from_is_err_and c.from_residual-in_err-slots.result c.from_residual-in_err-slots.ensures.1 in
    rw (refused.1, refused.2)
    (nothing_served (values_of c.args.values.now) c.args.max_events
    (outside_of g.S.ScriptSource g.C.ByteSink c.args.source.now c.args.capture.now) c.args.report.now c.requires.empty)

pub returns-in_err-global_header-clause-leaves : goal.returns-in_err-global_header-clause-leaves
returns-in_err-global_header-clause-leaves g c =
    let refused = err_from_is_err_and c.from_residual-in_err-global_header.result c.from_residual-in_err-global_header.ensures.1 in
    rw (refused.1, refused.2)
    (header_leaves (values_of c.args.values.now) c.args.max_events
    (outside_of g.S.ScriptSource g.C.ByteSink c.args.source.now c.args.capture.now)
    (outside_of g.S.ScriptSource g.C.ByteSink c.args.source.now c.global_header.new.self) c.args.report.now c.in_err-global_header.field-0.0
    c.requires.empty refl c.global_header.ensures.front)

pub loop-init : goal.loop-init
loop-init g c =
    let values = values_of c.args.values.now in
    let P : ServerState → Type 0 = Agrees values [] in
    let is_new : c.new-server.result ≡ new_server values = c.new-server.ensures ∙ ap new_server c.in_ok-told.ensures in
    let started = starts values c.args.max_events
    (outside_of g.S.ScriptSource g.C.ByteSink c.args.source.now c.args.capture.now)
    (outside_of g.S.ScriptSource g.C.ByteSink c.args.source.now c.global_header.new.self) c.new-server.result c.args.report.now
    c.requires.empty (subst P (sym is_new) (is_as_called.new values)) (ap (λ (s : ServerState). s.last) is_new)
    (rw c.in_ok-global_header.was at c.global_header.ensures.whole) refl in
    rw c.in_ok-reader.ensures.value (record {
      progress = started;
      seen = subst (λ rows. g.W.ServeWatcher.sees c.args.watcher.now rows c.args.watcher.now) (sym c.requires.empty) (g.met.W.ServeWatcher.starts c.args.watcher.now);
      quiet = record { source = refl; capture = rw c.in_ok-global_header.was at c.global_header.ensures.quiet };
      counted = refl;
      within = omega arith;
      goes_on = refl;
      limit = tt;
    })

pub returns-in_err-head-clause-leaves : goal.returns-in_err-head-clause-leaves
returns-in_err-head-clause-leaves g c =
    let refused = err_from_is_err_and c.from_residual-in_err-head.result c.from_residual-in_err-head.ensures.1 in
    let now = c.loop in
    rw (refused.1, refused.2)
    (reading_leaves (values_of c.args.values.now) c.args.max_events
    (outside_of g.S.ScriptSource g.C.ByteSink c.args.source.now c.args.capture.now) (outside_of g.S.ScriptSource g.C.ByteSink now.source now.capture)
    (outside_of g.S.ScriptSource g.C.ByteSink c.next_head.new.source now.capture) now.reader c.next_head.new.self now.server now.report
    c.in_err-head.field-0.0 now.invariant.progress c.in_err-head.ensures.err
    (record { script = c.in_err-head.ensures.script; limit = λ is. c.in_err-head.ensures.limit (ap (λ e. Err e) is) }) refl)

pub returns-in_err-head-clause-cause : goal.returns-in_err-head-clause-cause
returns-in_err-head-clause-cause g c =
    let refused = err_from_is_err_and c.from_residual-in_err-head.result c.from_residual-in_err-head.ensures.1 in
    let now = c.loop in
    rw (refused.1, refused.2)
    (reading_cause c.args.max_events
    (outside_of g.S.ScriptSource g.C.ByteSink c.args.source.now c.args.capture.now) (outside_of g.S.ScriptSource g.C.ByteSink now.source now.capture)
    (outside_of g.S.ScriptSource g.C.ByteSink c.next_head.new.source now.capture) now.reader c.in_err-head.field-0.0
    now.invariant.progress.read (record { script = c.in_err-head.ensures.script; limit = λ is. c.in_err-head.ensures.limit (ap (λ e. Err e) is) })
    (record {
      quiet = now.invariant.quiet;
      capture = refl;
      source = λ other. c.in_err-head.ensures.quiet (λ is. other (cc));
      risen = λ is. c.in_err-head.ensures.read (ap (λ e. Err e) is);
    }))

pub returns-in_err-head-clause-complete : goal.returns-in_err-head-clause-complete
returns-in_err-head-clause-complete g c =
    completes c.args.max_events
    (outside_of g.S.ScriptSource g.C.ByteSink c.args.source.now c.args.capture.now)
    (outside_of g.S.ScriptSource g.C.ByteSink c.next_head.new.source c.loop.capture) c.from_residual-in_err-head.result
    (returns-in_err-head-clause-cause g c)

pub returns-in_default-clause-finished : goal.returns-in_default-clause-finished
returns-in_default-clause-finished g c =
    let now = c.loop in
    let through = rw c.in_default.is at c.in_ok-head.ensures.ended in
    finished (values_of c.args.values.now) c.args.max_events
    (outside_of g.S.ScriptSource g.C.ByteSink c.args.source.now c.args.capture.now) (outside_of g.S.ScriptSource g.C.ByteSink now.source now.capture)
    (outside_of g.S.ScriptSource g.C.ByteSink c.next_head.new.source now.capture) now.reader now.server now.report now.invariant.progress
    through.was_at_end through.at_end refl

pub returns-in_err-taken-clause-leaves : goal.returns-in_err-taken-clause-leaves
returns-in_err-taken-clause-leaves g c =
    let refused = err_from_is_err_and c.from_residual-in_err-taken.result c.from_residual-in_err-taken.ensures.1 in
    let error = c.in_err-taken.field-0.0 in
    let now = c.loop in
    let values = values_of c.args.values.now in
    let before = outside_of g.S.ScriptSource g.C.ByteSink c.args.source.now c.args.capture.now in
    let here = outside_of g.S.ScriptSource g.C.ByteSink now.source now.capture in
    let after = outside_of g.S.ScriptSource g.C.ByteSink c.next_head.new.source c.take_event-taken.new.capture in
    let calls = calls_by values [] now.invariant.progress.read.events in
    let agrees = now.invariant.progress.agrees in
    let G : Event → Type 0 = GivesNext c.args.max_events now.reader c.next_head.new.self (g.S.ScriptSource.left now.source)
    (g.S.ScriptSource.left c.next_head.new.source) in
    let gives = subst G (sym c.event-at.ensures.event) (rw c.in-Some.is at c.in_ok-head.ensures.found) in
    let is_time : c.event-at.result.0 ≡ pos (epoch_micros c.event-at.result.0)
    = c.event-at.ensures.time ∙ ap pos (sym (ap epoch_micros c.event-at.ensures.time)) in
    let P : ServeError → Type 0 = Leaves values c.args.max_events before after c.take_event-taken.new.report in
    rw (refused.1, refused.2)
    (⊎_elim
    (λ (is_sink : error ≡ Sink). subst P (sym is_sink)
    (row_leaves values c.args.max_events before here after now.reader c.next_head.new.self now.server c.take_event-taken.new.server
    now.report c.take_event-taken.new.report c.event-at.result.0 c.event-at.result.1 now.invariant.progress gives is_time
    ((rw c.in_err-taken.was at c.take_event-taken.ensures.sink) calls agrees (ap (λ e. Err e) is_sink))))
    (λ (is_memory : error ≡ NoMemory). subst P (sym is_memory)
    (event_leaves values c.args.max_events before here after now.reader c.next_head.new.self now.server c.take_event-taken.new.server
    now.report c.take_event-taken.new.report c.event-at.result.0 c.event-at.result.1 now.invariant.progress gives is_time
    ((rw c.in_err-taken.was at c.take_event-taken.ensures.memory) calls agrees (ap (λ e. Err e) is_memory))))
    (rw c.in_err-taken.was at c.take_event-taken.ensures.cause))

pub returns-in_err-taken-clause-cause : goal.returns-in_err-taken-clause-cause
returns-in_err-taken-clause-cause g c =
    let refused = err_from_is_err_and c.from_residual-in_err-taken.result c.from_residual-in_err-taken.ensures.1 in
    let error = c.in_err-taken.field-0.0 in
    let now = c.loop in
    let before = outside_of g.S.ScriptSource g.C.ByteSink c.args.source.now c.args.capture.now in
    let here = outside_of g.S.ScriptSource g.C.ByteSink now.source now.capture in
    let after = outside_of g.S.ScriptSource g.C.ByteSink c.next_head.new.source c.take_event-taken.new.capture in
    rw (refused.1, refused.2)
    (taking_cause c.args.max_events before here after error now.invariant.quiet (c.in_ok-head.ensures.quiet (λ is. cc))
    (rw c.in_err-taken.was at c.take_event-taken.ensures.cause)
    (λ is. (rw c.in_err-taken.was at c.take_event-taken.ensures.risen) (ap (λ e. Err e) is))
    (λ other. (rw c.in_err-taken.was at c.take_event-taken.ensures.quiet) (λ is. other (cc))))

pub returns-in_err-taken-clause-complete : goal.returns-in_err-taken-clause-complete
returns-in_err-taken-clause-complete g c =
    completes c.args.max_events
    (outside_of g.S.ScriptSource g.C.ByteSink c.args.source.now c.args.capture.now)
    (outside_of g.S.ScriptSource g.C.ByteSink c.next_head.new.source c.take_event-taken.new.capture) c.from_residual-in_err-taken.result
    (returns-in_err-taken-clause-cause g c)

pub returns-in_err-taken-clause-seen : goal.returns-in_err-taken-clause-seen
returns-in_err-taken-clause-seen g c =
    let now = c.loop in
    let values = values_of c.args.values.now in
    let calls = calls_by values [] now.invariant.progress.read.events in
    let agrees = now.invariant.progress.agrees in
    let added = adds_at_most_one values calls c.event-at.result.0 c.event-at.result.1
    (standing now.server (g.C.ByteSink.bytes now.capture) now.report)
    (standing c.take_event-taken.new.server (g.C.ByteSink.bytes c.take_event-taken.new.capture) c.take_event-taken.new.report)
    c.take_event-taken.result (c.take_event-taken.ensures.ok calls agrees) c.take_event-taken.ensures.cause
    (c.take_event-taken.ensures.sink calls agrees) (c.take_event-taken.ensures.memory calls agrees) in
    c.tell.ensures c.args.watcher.now now.report (ap length (sym c.rows-before.ensures)) added now.invariant.seen

pub loop-preserved : goal.loop-preserved
loop-preserved g c =
    let now = c.loop in
    let values = values_of c.args.values.now in
    let before = outside_of g.S.ScriptSource g.C.ByteSink c.args.source.now c.args.capture.now in
    let here = outside_of g.S.ScriptSource g.C.ByteSink now.source now.capture in
    let after = outside_of g.S.ScriptSource g.C.ByteSink c.next_head.new.source c.take_event-taken.new.capture in
    let calls = calls_by values [] now.invariant.progress.read.events in
    let agrees = now.invariant.progress.agrees in
    let G : Event → Type 0 = GivesNext c.args.max_events now.reader c.next_head.new.self (g.S.ScriptSource.left now.source)
    (g.S.ScriptSource.left c.next_head.new.source) in
    let gives = subst G (sym c.event-at.ensures.event) (rw c.in-Some.is at c.in_ok-head.ensures.found) in
    let added = adds_at_most_one values calls c.event-at.result.0 c.event-at.result.1
    (standing now.server (g.C.ByteSink.bytes now.capture) now.report)
    (standing c.take_event-taken.new.server (g.C.ByteSink.bytes c.take_event-taken.new.capture) c.take_event-taken.new.report)
    c.take_event-taken.result (c.take_event-taken.ensures.ok calls agrees) c.take_event-taken.ensures.cause
    (c.take_event-taken.ensures.sink calls agrees) (c.take_event-taken.ensures.memory calls agrees) in
    let moved = gives.moved in
    let more = ap (λ (s : ReaderState). s.events) moved in
    record {
      progress = goes_on values c.args.max_events before here after now.reader c.next_head.new.self now.server c.take_event-taken.new.server
          now.report c.take_event-taken.new.report c.event-at.result.0 c.event-at.result.1 now.invariant.progress gives
          ((rw c.in_ok-taken.was at c.take_event-taken.ensures.ok) calls agrees)
          (rw c.in_ok-taken.was at c.take_event-taken.ensures.last);
      seen = c.tell.ensures c.args.watcher.now now.report (ap length (sym c.rows-before.ensures)) added now.invariant.seen;
      quiet = record {
        source = c.in_ok-head.ensures.quiet (λ is. cc) ∙ now.invariant.quiet.source;
        capture = (rw c.in_ok-taken.was at c.take_event-taken.ensures.quiet) (λ is. cc) ∙ now.invariant.quiet.capture;
      };
      counted = omega (arith, more, now.invariant.counted);
      within = omega (arith, gives.within, now.invariant.counted);
      goes_on = ap (λ (s : ReaderState). s.is_through) moved;
      limit = rw moved refl;
    }
