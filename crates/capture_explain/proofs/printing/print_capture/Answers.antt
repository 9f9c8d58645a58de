-- Why it stopped is read off what was taken, as where a capture is explained.
use Rattle.std.proofs.Common.{◌≡◌, ◌+◌, ◌==◌, inl, inr, length, take, Err, ap, sym, subst, ◌∙◌, refl, arith}
use Rattle.std.proofs.lemmas.Result.{err_from_is_err_and}
use Rattle.wire_base.specs.Causes.{IsRisen}
use Rattle.capture_explain.specs.Reading.{entry_with, GivesEntry}
use Rattle.capture_explain.specs.PrintText.{PutsEntries}
use Rattle.capture_explain.proofs.CauseLemmas.{header_leaves, leaves_cause, completes}
use Rattle.capture_explain.proofs.ProgressLemmas.{starts, goes_on, stops, lacks, still_below, at_limit}
use Rattle.capture_explain.proofs.ReadingLemmas.{written_over}
use Rattle.capture_explain.proofs.TextLemmas.{entries_more, puts_kept, puts_no_entries, puts_same, puts_then}
use Rattle.capture_explain.proofs.printing.print_capture.Goals as goal

pub returns-in_err-frame-clause-leaves : goal.returns-in_err-frame-clause-leaves
returns-in_err-frame-clause-leaves g c =
    let refused = err_from_is_err_and c.from_residual.result c.from_residual.ensures.1 in
    rw (refused.1, refused.2) (inl (record { none = puts_no_entries; stays = refl }))

pub returns-in_err-read_header-clause-leaves : goal.returns-in_err-read_header-clause-leaves
returns-in_err-read_header-clause-leaves g c =
    let refused = err_from_is_err_and c.from_residual-in_err-read_header.result c.from_residual-in_err-read_header.ensures.1 in
    let left = g.S.ScriptSource.left in
    rw (refused.1, refused.2)
    (header_leaves c.args.max_frames (left c.args.source.now) (left c.read_header.new.source) (PutsEntries g.O.ByteSink c.args.written.now c.args.written.now c.args.out.now c.args.out.now) c.in_err-read_header.field-0.0
    puts_no_entries c.in_err-read_header.ensures.err)

pub returns-in_err-read_header-clause-cause : goal.returns-in_err-read_header-clause-cause
returns-in_err-read_header-clause-cause g c =
    let refused = err_from_is_err_and c.from_residual-in_err-read_header.result c.from_residual-in_err-read_header.ensures.1 in
    let left = g.S.ScriptSource.left in
    let faults = g.S.ScriptSource.faults in
    rw (refused.1, refused.2)
    (leaves_cause c.args.max_frames (left c.args.source.now) (left c.read_header.new.source) (PutsEntries g.O.ByteSink c.args.written.now c.args.written.now c.args.out.now c.args.out.now)
    (faults c.args.source.now) (faults c.read_header.new.source) c.in_err-read_header.field-0.0
    (header_leaves c.args.max_frames (left c.args.source.now) (left c.read_header.new.source) (PutsEntries g.O.ByteSink c.args.written.now c.args.written.now c.args.out.now c.args.out.now) c.in_err-read_header.field-0.0
    puts_no_entries c.in_err-read_header.ensures.err)
    (record { quiet = λ other. c.in_err-read_header.ensures.quiet (λ is. other (cc)); risen = λ is. c.in_err-read_header.ensures.read (ap (λ e. Err e) is) }))

pub returns-in_err-read_header-clause-complete : goal.returns-in_err-read_header-clause-complete
returns-in_err-read_header-clause-complete g c =
    completes c.args.max_frames (g.S.ScriptSource.left c.args.source.now) (g.S.ScriptSource.faults c.args.source.now)
    (g.S.ScriptSource.faults c.read_header.new.source) c.from_residual-in_err-read_header.result
    (returns-in_err-read_header-clause-cause g c)

pub loop-count-init : goal.loop-count-init
loop-count-init g c =
    let left = g.S.ScriptSource.left in
    let header = c.in_ok-read_header.ensures.ok in
    record {
      progress = starts (left c.args.source.now) (left c.read_header.new.source) header.header (PutsEntries g.O.ByteSink c.args.written.now c.args.written.now c.args.out.now c.args.out.now) header.is_header header.took
          puts_no_entries;
      quiet = c.in_ok-read_header.ensures.quiet (λ is. cc);
      near = omega arith;
      within = omega arith;
      most = c.requires.max;
      room = c.in_ok-frame.ensures;
    }

pub returns-in_err-head-clause-leaves : goal.returns-in_err-head-clause-leaves
returns-in_err-head-clause-leaves g c =
    let refused = err_from_is_err_and c.from_residual-in_err-head.result c.from_residual-in_err-head.ensures.1 in
    let left = g.S.ScriptSource.left in
    let now = c.loop-count in
    rw (refused.1, refused.2)
    (stops (left c.args.source.now) (left now.source) (left c.read_entry.new.source) c.args.max_frames now.offset now.count (PutsEntries g.O.ByteSink c.args.written.now now.written c.args.out.now now.out)
    c.in_err-head.field-0.0 (now.count == c.args.max_frames) now.invariant.progress now.invariant.within
    (still_below now.count c.args.max_frames now.invariant.within) (at_limit now.count c.args.max_frames) c.in_err-head.ensures.err
    c.in_err-head.ensures.entry (λ is. c.in_err-head.ensures.limit (ap (λ e. Err e) is)))

pub returns-in_err-head-clause-cause : goal.returns-in_err-head-clause-cause
returns-in_err-head-clause-cause g c =
    let refused = err_from_is_err_and c.from_residual-in_err-head.result c.from_residual-in_err-head.ensures.1 in
    let left = g.S.ScriptSource.left in
    let faults = g.S.ScriptSource.faults in
    let now = c.loop-count in
    rw (refused.1, refused.2)
    (leaves_cause c.args.max_frames (left c.args.source.now) (left c.read_entry.new.source) (PutsEntries g.O.ByteSink c.args.written.now now.written c.args.out.now now.out) (faults c.args.source.now)
    (faults c.read_entry.new.source) c.in_err-head.field-0.0
    (stops (left c.args.source.now) (left now.source) (left c.read_entry.new.source) c.args.max_frames now.offset now.count (PutsEntries g.O.ByteSink c.args.written.now now.written c.args.out.now now.out)
    c.in_err-head.field-0.0 (now.count == c.args.max_frames) now.invariant.progress now.invariant.within
    (still_below now.count c.args.max_frames now.invariant.within) (at_limit now.count c.args.max_frames) c.in_err-head.ensures.err
    c.in_err-head.ensures.entry (λ is. c.in_err-head.ensures.limit (ap (λ e. Err e) is)))
    (record {
      quiet = λ other. c.in_err-head.ensures.quiet (λ is. other (cc)) ∙ now.invariant.quiet;
      risen = λ is. subst (λ n. IsRisen n (faults c.read_entry.new.source)) now.invariant.quiet
          (c.in_err-head.ensures.read (ap (λ e. Err e) is));
    }))

pub returns-in_err-head-clause-complete : goal.returns-in_err-head-clause-complete
returns-in_err-head-clause-complete g c =
    completes c.args.max_frames (g.S.ScriptSource.left c.args.source.now) (g.S.ScriptSource.faults c.args.source.now)
    (g.S.ScriptSource.faults c.read_entry.new.source) c.from_residual-in_err-head.result (returns-in_err-head-clause-cause g c)

pub returns-in_err-put_entry-clause-leaves : goal.returns-in_err-put_entry-clause-leaves
returns-in_err-put_entry-clause-leaves g c =
    let refused = err_from_is_err_and c.from_residual-in_err-put_entry.result c.from_residual-in_err-put_entry.ensures.1 in
    let left = g.S.ScriptSource.left in
    let now = c.loop-count in
    let head = c.in-Some.head in
    let found = rw c.in-Some.is at c.in_ok-head.ensures.found in
    rw (refused.1, refused.2)
    (inr (lacks (left c.args.source.now) (left now.source) (left c.read_entry.new.source) c.args.max_frames now.offset now.count (PutsEntries g.O.ByteSink c.args.written.now now.written c.args.out.now now.out)
    (PutsEntries g.O.ByteSink c.args.written.now c.put_entry.new.written c.args.out.now c.put_entry.new.out) (entry_with head (take head.captured c.read_entry.new.frame)) now.invariant.progress
    (still_below now.count c.args.max_frames now.invariant.within found.0) found.1.fits found.1.took
    (λ entries are. puts_kept are c.in_err-put_entry.ensures.err.0 c.in_err-put_entry.ensures.err.1)))

pub loop-count-preserved : goal.loop-count-preserved
loop-count-preserved g c =
    let left = g.S.ScriptSource.left in
    let now = c.loop-count in
    let head = c.in-Some.head in
    let found = rw c.in-Some.is at c.in_ok-head.ensures.found in
    let as_long : length c.read_entry.new.frame ≡ length now.frame.items =
    omega (arith, c.read_entry.auto.frame, ap length c.as_mut_slice.ensures.value, c.as_mut_slice.ensures.len) in
    let is_len : now.frame.len ≡ length now.frame.items = omega (arith, c.as_mut_slice.ensures.len) in
    let kept = written_over now.frame.len c.read_entry.new.frame now.frame.items as_long is_len in
    let is_frame : c.as_slice.result.now ≡ c.read_entry.new.frame = c.as_slice.ensures.value ∙ kept in
    let given = subst (λ l. GivesEntry (left now.source) (left c.read_entry.new.source) l head) (sym is_frame) found.1 in
    let added = c.in_ok-put_entry.ensures.ok in
    let below = still_below now.count c.args.max_frames now.invariant.within found.0 in
    record {
      progress = goes_on (left c.args.source.now) (left now.source) (left c.read_entry.new.source) now.offset (now.offset + (16 + c.from.result))
          now.count (PutsEntries g.O.ByteSink c.args.written.now now.written c.args.out.now now.out) (PutsEntries g.O.ByteSink c.args.written.now c.put_entry.new.written c.args.out.now c.put_entry.new.out)
          (entry_with head (take head.captured c.as_slice.result.now)) now.invariant.progress given.fits given.took
          (λ entries counted are. puts_same (puts_then are added) (entries_more entries _ now.count counted)) (omega (arith, c.from.ensures, given.captured));
      quiet = c.in_ok-head.ensures.quiet (λ is. cc) ∙ now.invariant.quiet;
      near = omega (arith, now.invariant.near, c.from.ensures, given.captured, given.fits.captured);
      within = omega (arith, below);
      most = now.invariant.most;
      room = ap length kept ∙ as_long ∙ now.invariant.room;
    }
