-- The events so far stand, whatever comes of the next one.
use Rattle.std.proofs.Common.{◌≡◌, pos, length, ap, sym, subst, ◌∙◌, refl, arith, ⊎_elim, Err, ◌*◌, ◌+◌, ◌≤◌}
use Rattle.std.proofs.lemmas.Result.{err_from_is_err_and}
use Rattle.phy_layers.specs.PcapBytes.{epoch_micros}
use Rattle.host_model.specs.Chronicle.{words_at}
use Rattle.net_host.specs.declared.run_script.RunError.{RunError}
use Rattle.net_host.specs.declared.run_script.RunError.TheVariants.{Words, Sink, NoMemory}
use Rattle.net_host.specs.Moments.{IsFrom}
use Rattle.net_host.specs.Outside.{outside_of}
use Rattle.script_reader.specs.ReaderState.{ReaderState}
use Rattle.net_host.specs.Run.{task_over, Leaves}
use Rattle.net_host.specs.Taking.{standing}
use Rattle.net_host.specs.Told.{told_by}
use Rattle.net_host.proofs.CompleteLemmas.{completes}
use Rattle.net_host.proofs.PollingLemmas.{from_later}
use Rattle.net_host.proofs.ProgressLemmas.{starts, goes_on, ran_out}
use Rattle.net_host.proofs.LinkLemmas.{met_event}
use Rattle.net_host.proofs.RefusedLemmas.{nothing_run, header_leaves, row_leaves, event_leaves}
use Rattle.net_host.proofs.StoppedLemmas.{reading_leaves, reading_cause}
use Rattle.net_host.proofs.TellingLemmas.{adds_at_most_one}
use Rattle.net_host.proofs.WordLemmas.{few_words}
use Rattle.net_host.proofs.run_script.run_over.Goals as goal

pub returns-in_err-reader-clause-leaves : goal.returns-in_err-reader-clause-leaves
returns-in_err-reader-clause-leaves g c =
    let refused = err_from_is_err_and c.from_residual.result c.from_residual.ensures.1 in
    rw (refused.1, refused.2)
    (nothing_run (task_over (g.L.Link.makes c.args.link.now (told_by c.args.config.now c.args.words.now)) c.args.config.now c.args.words.now c.args.max_events)
    (outside_of g.S.ScriptSource g.C.ByteSink c.args.source.now c.args.capture.now) c.args.report.now (g.met.L.Link.ends c.args.link.now (told_by c.args.config.now c.args.words.now)) c.requires.empty)

pub returns-in_err-places-clause-leaves : goal.returns-in_err-places-clause-leaves
returns-in_err-places-clause-leaves g c =
    let refused = err_from_is_err_and c.from_residual-in_err-places.result c.from_residual-in_err-places.ensures.1 in
    rw (refused.1, refused.2)
    (nothing_run (task_over (g.L.Link.makes c.args.link.now (told_by c.args.config.now c.args.words.now)) c.args.config.now c.args.words.now c.args.max_events)
    (outside_of g.S.ScriptSource g.C.ByteSink c.args.source.now c.args.capture.now) c.args.report.now (g.met.L.Link.ends c.args.link.now (told_by c.args.config.now c.args.words.now)) c.requires.empty)

pub returns-in_err-global_header-clause-leaves : goal.returns-in_err-global_header-clause-leaves
returns-in_err-global_header-clause-leaves g c =
    let refused = err_from_is_err_and c.from_residual-in_err-global_header.result c.from_residual-in_err-global_header.ensures.1 in
    rw (refused.1, refused.2)
    (header_leaves (task_over (g.L.Link.makes c.args.link.now (told_by c.args.config.now c.args.words.now)) c.args.config.now c.args.words.now c.args.max_events)
    (outside_of g.S.ScriptSource g.C.ByteSink c.args.source.now c.args.capture.now)
    (outside_of g.S.ScriptSource g.C.ByteSink c.args.source.now c.global_header.new.self) c.args.report.now c.in_err-global_header.field-0.0
    (g.met.L.Link.ends c.args.link.now (told_by c.args.config.now c.args.words.now)) c.requires.empty refl c.global_header.ensures.front)

pub loop-count-init : goal.loop-count-init
loop-count-init g c =
    let started = starts (task_over (g.L.Link.makes c.args.link.now (told_by c.args.config.now c.args.words.now)) c.args.config.now c.args.words.now c.args.max_events)
    (g.L.Link.makes c.args.link.now)
    (outside_of g.S.ScriptSource g.C.ByteSink c.args.source.now c.args.capture.now)
    (outside_of g.S.ScriptSource g.C.ByteSink c.args.source.now c.global_header.new.self) c.new-host.result c.args.report.now
    c.requires.empty (λ events. refl) (g.met.L.Link.ends c.args.link.now) c.new-host.ensures.agrees (rw c.in_ok-global_header.was at c.global_header.ensures.whole) refl in
    rw c.in_ok-reader.ensures.value (record {
      progress = started;
      seen = subst (λ rows. g.W.Watcher.sees c.args.watcher.now rows c.args.watcher.now) (sym c.requires.empty) (g.met.W.Watcher.starts c.args.watcher.now);
      quiet = record { source = refl; capture = rw c.in_ok-global_header.was at c.global_header.ensures.quiet };
      counted = refl;
      within = omega arith;
      goes_on = refl;
      limit = tt;
      ready = c.new-host.ensures.can.ready;
      order = rw c.new-host.ensures.last tt;
      places = c.new-host.ensures.places ∙ ap length c.as_mut_slice.ensures.value ∙ c.in_ok-places.ensures;
      few = omega (arith, c.new-host.ensures.few);
      lent = c.new-host.ensures.can.lent;
      holds = c.new-host.ensures.can.holds;
      queries = omega (arith, c.new-host.ensures.queries);
      most = c.requires.max;
    })

pub returns-in_err-head-clause-leaves : goal.returns-in_err-head-clause-leaves
returns-in_err-head-clause-leaves g c =
    let refused = err_from_is_err_and c.from_residual-in_err-head.result c.from_residual-in_err-head.ensures.1 in
    let now = c.loop-count in
    rw (refused.1, refused.2)
    (reading_leaves (task_over (g.L.Link.makes c.args.link.now (told_by c.args.config.now c.args.words.now)) c.args.config.now c.args.words.now c.args.max_events)
    (outside_of g.S.ScriptSource g.C.ByteSink c.args.source.now c.args.capture.now) (outside_of g.S.ScriptSource g.C.ByteSink now.source now.capture)
    (outside_of g.S.ScriptSource g.C.ByteSink c.next_head.new.source now.capture) now.reader c.next_head.new.self now.host now.report c.in_err-head.field-0.0
    now.invariant.progress c.in_err-head.ensures.err
    (record { script = c.in_err-head.ensures.script; limit = λ is. c.in_err-head.ensures.limit (ap (λ e. Err e) is) }) refl)

pub returns-in_err-head-clause-cause : goal.returns-in_err-head-clause-cause
returns-in_err-head-clause-cause g c =
    let refused = err_from_is_err_and c.from_residual-in_err-head.result c.from_residual-in_err-head.ensures.1 in
    let now = c.loop-count in
    rw (refused.1, refused.2)
    (reading_cause (task_over (g.L.Link.makes c.args.link.now (told_by c.args.config.now c.args.words.now)) c.args.config.now c.args.words.now c.args.max_events)
    (outside_of g.S.ScriptSource g.C.ByteSink c.args.source.now c.args.capture.now) (outside_of g.S.ScriptSource g.C.ByteSink now.source now.capture)
    (outside_of g.S.ScriptSource g.C.ByteSink c.next_head.new.source now.capture) now.reader now.host now.report c.in_err-head.field-0.0
    now.invariant.progress (record { script = c.in_err-head.ensures.script; limit = λ is. c.in_err-head.ensures.limit (ap (λ e. Err e) is) })
    (record {
      quiet = now.invariant.quiet;
      capture = refl;
      source = λ other. c.in_err-head.ensures.quiet (λ is. other (cc));
      risen = λ is. c.in_err-head.ensures.read (ap (λ e. Err e) is);
    }))

pub returns-in_err-head-clause-complete : goal.returns-in_err-head-clause-complete
returns-in_err-head-clause-complete g c =
    completes (task_over (g.L.Link.makes c.args.link.now (told_by c.args.config.now c.args.words.now)) c.args.config.now c.args.words.now c.args.max_events)
    (outside_of g.S.ScriptSource g.C.ByteSink c.args.source.now c.args.capture.now)
    (outside_of g.S.ScriptSource g.C.ByteSink c.next_head.new.source c.loop-count.capture) c.from_residual-in_err-head.result
    (returns-in_err-head-clause-cause g c)

pub returns-in_default-words_at-clause-leaves : goal.returns-in_default-words_at-clause-leaves
returns-in_default-words_at-clause-leaves g c =
    let now = c.loop-count in
    ran_out (task_over (g.L.Link.makes c.args.link.now (told_by c.args.config.now c.args.words.now)) c.args.config.now c.args.words.now c.args.max_events)
    (outside_of g.S.ScriptSource g.C.ByteSink c.args.source.now c.args.capture.now) (outside_of g.S.ScriptSource g.C.ByteSink now.source now.capture)
    (outside_of g.S.ScriptSource g.C.ByteSink c.next_head.new.source now.capture) now.reader c.pass-met.new.self now.host now.report
    c.event-at.result.0 c.event-at.result.1 now.invariant.progress
    (met_event c.args.max_events now.reader c.next_head.new.self c.pass-met.new.self (g.S.ScriptSource.left now.source)
    (g.S.ScriptSource.left c.next_head.new.source) (g.L.Link.makes now.link) (g.L.Link.makes c.pass-met.new.link) c.last_id-id.result
    c.in-Some.head c.pass-met.result c.event-at.result.0 c.event-at.result.1 (rw c.in-Some.is at c.in_ok-head.ensures.found)
    c.pass-met.ensures.passes (g.met.L.Link.ends c.pass-met.new.link) c.pass-met.ensures.stays c.event-at.ensures.event c.event-at.ensures.time) refl
    (rw now.invariant.counted c.in_default-words_at.ensures.refuses)

pub returns-in_default-words_at-clause-cause : goal.returns-in_default-words_at-clause-cause
returns-in_default-words_at-clause-cause g c =
    let now = c.loop-count in (
      few_words (task_over (g.L.Link.makes c.args.link.now (told_by c.args.config.now c.args.words.now)) c.args.config.now c.args.words.now c.args.max_events)
          (outside_of g.S.ScriptSource g.C.ByteSink c.args.source.now c.args.capture.now)
          (outside_of g.S.ScriptSource g.C.ByteSink c.next_head.new.source now.capture) now.report (returns-in_default-words_at-clause-leaves g c),
      record { source = c.in_ok-head.ensures.quiet (λ is. cc) ∙ now.invariant.quiet.source; capture = now.invariant.quiet.capture },
    )

pub returns-in_default-words_at-clause-complete : goal.returns-in_default-words_at-clause-complete
returns-in_default-words_at-clause-complete g c =
    completes (task_over (g.L.Link.makes c.args.link.now (told_by c.args.config.now c.args.words.now)) c.args.config.now c.args.words.now c.args.max_events)
    (outside_of g.S.ScriptSource g.C.ByteSink c.args.source.now c.args.capture.now)
    (outside_of g.S.ScriptSource g.C.ByteSink c.next_head.new.source c.loop-count.capture) (Err Words) (returns-in_default-words_at-clause-cause g c)

pub take_event-taken-requires-clause-can : goal.take_event-taken-requires-clause-can
take_event-taken-requires-clause-can g c =
    let now = c.loop-count in
    let meets = met_event c.args.max_events now.reader c.next_head.new.self c.pass-met.new.self (g.S.ScriptSource.left now.source)
    (g.S.ScriptSource.left c.next_head.new.source) (g.L.Link.makes now.link) (g.L.Link.makes c.pass-met.new.link) c.last_id-id.result
    c.in-Some.head c.pass-met.result c.event-at.result.0 c.event-at.result.1 (rw c.in-Some.is at c.in_ok-head.ensures.found)
    c.pass-met.ensures.passes (g.met.L.Link.ends c.pass-met.new.link) c.pass-met.ensures.stays c.event-at.ensures.event c.event-at.ensures.time in
    record {
      ready = now.invariant.ready;
      lent = now.invariant.lent;
      holds = now.invariant.holds;
      few = omega (arith, now.invariant.queries, now.invariant.counted, now.invariant.most, meets.gives.within);
      room = omega (arith, now.invariant.few, now.invariant.places, now.invariant.counted, meets.gives.within);
    }

pub take_event-taken-requires-clause-order : goal.take_event-taken-requires-clause-order
take_event-taken-requires-clause-order g c =
    let now = c.loop-count in
    let read = rw c.in-Some.is at c.in_ok-head.ensures.found in
    let micros : epoch_micros c.event-at.result.0 ≡ c.pass-met.result.micros = ap epoch_micros c.event-at.ensures.time in
    from_later now.host.last (pos now.reader.last) c.event-at.result.0 now.invariant.order
    (omega (arith, micros, c.pass-met.ensures.time, read.next.not_before))

pub returns-in_err-taken-clause-leaves : goal.returns-in_err-taken-clause-leaves
returns-in_err-taken-clause-leaves g c =
    let refused = err_from_is_err_and c.from_residual-in_err-taken.result c.from_residual-in_err-taken.ensures.1 in
    let now = c.loop-count in
    let error = c.in_err-taken.field-0.0 in
    let task = task_over (g.L.Link.makes c.args.link.now (told_by c.args.config.now c.args.words.now)) c.args.config.now c.args.words.now c.args.max_events in
    let before = outside_of g.S.ScriptSource g.C.ByteSink c.args.source.now c.args.capture.now in
    let here = outside_of g.S.ScriptSource g.C.ByteSink now.source now.capture in
    let after = outside_of g.S.ScriptSource g.C.ByteSink c.next_head.new.source c.take_event-taken.new.capture in
    let meets = met_event c.args.max_events now.reader c.next_head.new.self c.pass-met.new.self (g.S.ScriptSource.left now.source)
    (g.S.ScriptSource.left c.next_head.new.source) (g.L.Link.makes now.link) (g.L.Link.makes c.pass-met.new.link) c.last_id-id.result
    c.in-Some.head c.pass-met.result c.event-at.result.0 c.event-at.result.1 (rw c.in-Some.is at c.in_ok-head.ensures.found)
    c.pass-met.ensures.passes (g.met.L.Link.ends c.pass-met.new.link) c.pass-met.ensures.stays c.event-at.ensures.event c.event-at.ensures.time in
    let found = c.in-Some-words_at.ensures.found in
    let word = found.0 ∙ ap (words_at task.words) (sym now.invariant.counted) in
    let enough : 3 * (now.reader.events + 1) ≤ length c.args.words.now = omega (arith, found.1, now.invariant.counted) in
    let P : RunError → Type 0 = Leaves task before after c.take_event-taken.new.report in
    rw (refused.1, refused.2)
    (⊎_elim
    (λ (is_sink : error ≡ Sink). subst P (sym is_sink)
    (row_leaves task before here after now.reader c.pass-met.new.self now.host c.take_event-taken.new.host now.report c.take_event-taken.new.report
    c.event-at.result.0 c.event-at.result.1 c.in-Some-words_at.drawn now.invariant.progress c.new-host.ensures.runs word enough meets (λ before agrees. sym (c.last_id-id.ensures c.args.config.now before agrees))
    ((rw c.in_err-taken.was at c.take_event-taken.ensures.sink) (ap (λ e. Err e) is_sink))))
    (λ (is_memory : error ≡ NoMemory). subst P (sym is_memory)
    (event_leaves task before here after now.reader c.pass-met.new.self now.host c.take_event-taken.new.host now.report c.take_event-taken.new.report
    c.event-at.result.0 c.event-at.result.1 c.in-Some-words_at.drawn now.invariant.progress c.new-host.ensures.runs word enough meets (λ before agrees. sym (c.last_id-id.ensures c.args.config.now before agrees))
    ((rw c.in_err-taken.was at c.take_event-taken.ensures.memory) (ap (λ e. Err e) is_memory))))
    (rw c.in_err-taken.was at c.take_event-taken.ensures.cause))

pub returns-in_err-taken-clause-seen : goal.returns-in_err-taken-clause-seen
returns-in_err-taken-clause-seen g c =
    let now = c.loop-count in
    let added = adds_at_most_one c.event-at.result.0 c.event-at.result.1 c.in-Some-words_at.drawn
    (standing now.host (g.C.ByteSink.bytes now.capture) now.report)
    (standing c.take_event-taken.new.host (g.C.ByteSink.bytes c.take_event-taken.new.capture) c.take_event-taken.new.report)
    c.take_event-taken.result c.take_event-taken.ensures.ok c.take_event-taken.ensures.cause c.take_event-taken.ensures.sink c.take_event-taken.ensures.memory in
    c.tell.ensures c.args.watcher.now now.report (ap length (sym c.rows-before.ensures)) added now.invariant.seen

pub loop-count-preserved : goal.loop-count-preserved
loop-count-preserved g c =
    let now = c.loop-count in
    let task = task_over (g.L.Link.makes c.args.link.now (told_by c.args.config.now c.args.words.now)) c.args.config.now c.args.words.now c.args.max_events in
    let before = outside_of g.S.ScriptSource g.C.ByteSink c.args.source.now c.args.capture.now in
    let here = outside_of g.S.ScriptSource g.C.ByteSink now.source now.capture in
    let after = outside_of g.S.ScriptSource g.C.ByteSink c.next_head.new.source c.take_event-taken.new.capture in
    let meets = met_event c.args.max_events now.reader c.next_head.new.self c.pass-met.new.self (g.S.ScriptSource.left now.source)
    (g.S.ScriptSource.left c.next_head.new.source) (g.L.Link.makes now.link) (g.L.Link.makes c.pass-met.new.link) c.last_id-id.result
    c.in-Some.head c.pass-met.result c.event-at.result.0 c.event-at.result.1 (rw c.in-Some.is at c.in_ok-head.ensures.found)
    c.pass-met.ensures.passes (g.met.L.Link.ends c.pass-met.new.link) c.pass-met.ensures.stays c.event-at.ensures.event c.event-at.ensures.time in
    let found = c.in-Some-words_at.ensures.found in
    let word = found.0 ∙ ap (words_at task.words) (sym now.invariant.counted) in
    let read = rw c.in-Some.is at c.in_ok-head.ensures.found in
    let stays = c.pass-met.ensures.stays in
    let micros : epoch_micros c.event-at.result.0 ≡ c.pass-met.result.micros = ap epoch_micros c.event-at.ensures.time in
    let more = ap (λ (s : ReaderState). s.events) stays ∙ ap (λ (s : ReaderState). s.events) read.moved in
    let added = adds_at_most_one c.event-at.result.0 c.event-at.result.1 c.in-Some-words_at.drawn
    (standing now.host (g.C.ByteSink.bytes now.capture) now.report)
    (standing c.take_event-taken.new.host (g.C.ByteSink.bytes c.take_event-taken.new.capture) c.take_event-taken.new.report)
    c.take_event-taken.result c.take_event-taken.ensures.ok c.take_event-taken.ensures.cause c.take_event-taken.ensures.sink c.take_event-taken.ensures.memory in
    record {
      progress = goes_on task before here after now.reader c.pass-met.new.self now.host c.take_event-taken.new.host now.report c.take_event-taken.new.report
          c.event-at.result.0 c.event-at.result.1 c.in-Some-words_at.drawn now.invariant.progress c.new-host.ensures.runs word
          (omega (arith, found.1, now.invariant.counted)) meets (λ before agrees. sym (c.last_id-id.ensures c.args.config.now before agrees)) (rw c.in_ok-taken.was at c.take_event-taken.ensures.ok);
      seen = c.tell.ensures c.args.watcher.now now.report (ap length (sym c.rows-before.ensures)) added now.invariant.seen;
      quiet = record {
        source = c.in_ok-head.ensures.quiet (λ is. cc) ∙ now.invariant.quiet.source;
        capture = (rw c.in_ok-taken.was at c.take_event-taken.ensures.quiet) (λ is. cc) ∙ now.invariant.quiet.capture;
      };
      counted = omega (arith, more, now.invariant.counted);
      within = omega (arith, read.within, now.invariant.counted);
      goes_on = ap (λ (s : ReaderState). s.is_through) stays ∙ ap (λ (s : ReaderState). s.is_through) read.moved;
      limit = rw (stays, read.moved) refl;
      ready = (rw c.in_ok-taken.was at c.take_event-taken.ensures.ready);
      order = subst (λ last. IsFrom last (pos c.pass-met.new.self.last)) (sym (rw c.in_ok-taken.was at c.take_event-taken.ensures.last))
          (omega (arith, micros, c.pass-met.ensures.time, ap (λ (s : ReaderState). s.last) stays, ap (λ (s : ReaderState). s.last) read.moved));
      places = (rw c.in_ok-taken.was at c.take_event-taken.ensures.places) ∙ now.invariant.places;
      few = omega (arith, (rw c.in_ok-taken.was at c.take_event-taken.ensures.few), now.invariant.few);
      lent = (rw c.in_ok-taken.was at c.take_event-taken.ensures.lent);
      holds = (rw c.in_ok-taken.was at c.take_event-taken.ensures.holds);
      queries = omega (arith, (rw c.in_ok-taken.was at c.take_event-taken.ensures.queries), now.invariant.queries);
      most = now.invariant.most;
    }
