-- Whatever became of a run, its report counts the frames and the lines of queries as a report of whole rows does.
use Rattle.std.proofs.Common.{◌≡◌, ℕ, ℤ, ◌⊎◌, inl, inr, List, [], ◌∷◌, ◌++◌, Option, Result, Ok, Err, OnOk, IfErr, ap, sym, subst, refl}
use Rattle.ether_lax.specs.declared.note.FrameNote.{FrameNote}
use Rattle.net_wire.specs.declared.address.Ipv4Cidr.{Ipv4Cidr}
use Rattle.host_model.specs.Script.{Event, AreInOrder}
use Rattle.host_model.specs.Settings.{Settings}
use Rattle.net_host.specs.declared.report.Kind.{Kind}
use Rattle.net_host.specs.declared.report.Row.{Row}
use Rattle.net_host.specs.declared.run_script.RunError.{RunError}
use Rattle.net_host.specs.declared.run_script.RunError.TheVariants.{Script, Limit, Words, Read, Sink, NoMemory}
use Rattle.net_host.specs.Outside.{Outside}
use Rattle.net_host.specs.QueryRows.{CountsQueries, sent_in, lines_in}
use Rattle.net_host.specs.Report.{new_row}
use Rattle.net_host.specs.Rows.{AreRows}
use Rattle.net_host.specs.Run.{Task, Finished, Leaves, HasRows, IsUnfinished, LacksRow}
use Rattle.net_host.proofs.QueryRowLemmas.{four_times, one_line_each}

-- a front of events is in order
front_in_order : (last : ℕ) (events more : List Event) → AreInOrder last (events ++ more) → AreInOrder last events
front_in_order last [] more in_order = tt
front_in_order last (event ∷ events) more in_order = (in_order.0, front_in_order event.at events more in_order.1)

-- whole rows
counted_rows : (settings : Settings) (words : List ℕ) (events : List Event) (rows : List Row) → AreInOrder 0 events
    → AreRows settings words events rows → CountsQueries rows
counted_rows settings words events rows in_order are = record {
  few = λ number place. four_times settings number place words events rows in_order are;
  one_line = λ number. (one_line_each settings number words events rows are).at_most;
}

-- a row in which nothing was sent yet counts nothing
sent_behind : (rows : List Row) (at : ℤ) (kind : Kind) (seen : Option FrameNote) (lease : Option Ipv4Cidr)
    → sent_in (rows ++ new_row at kind seen lease ∷ []) ≡ sent_in rows
sent_behind [] at kind seen lease = refl
sent_behind (row ∷ rows) at kind seen lease = ap (λ l. row.sent ++ l) (sent_behind rows at kind seen lease)

lines_behind : (rows : List Row) (at : ℤ) (kind : Kind) (seen : Option FrameNote) (lease : Option Ipv4Cidr)
    → lines_in (rows ++ new_row at kind seen lease ∷ []) ≡ lines_in rows
lines_behind [] at kind seen lease = refl
lines_behind (row ∷ rows) at kind seen lease = ap (λ l. row.lines ++ l) (lines_behind rows at kind seen lease)

counted_behind : (rows : List Row) (at : ℤ) (kind : Kind) (seen : Option FrameNote) (lease : Option Ipv4Cidr)
    → CountsQueries rows → CountsQueries (rows ++ new_row at kind seen lease ∷ [])
counted_behind rows at kind seen lease counted = record {
  few = λ number place. rw (sent_behind rows at kind seen lease) (counted.few number place);
  one_line = λ number. rw (lines_behind rows at kind seen lease) (counted.one_line number);
}

-- the last row may be unfinished, or not be there yet
counted_unfinished : (task : Task) (report : List Row) (events : List Event) → AreInOrder 0 events → IsUnfinished task report events
    → CountsQueries report
counted_unfinished task report events in_order unfinished =
    let earlier = front_in_order 0 unfinished.earlier (unfinished.event ∷ []) (subst (AreInOrder 0) unfinished.event_last in_order) in
    subst CountsQueries (sym unfinished.row_last)
    (counted_behind unfinished.done _ _ unfinished.note _ (counted_rows task.settings task.words unfinished.earlier unfinished.done earlier unfinished.rows))

counted_lacking : (task : Task) (report : List Row) (events : List Event) → AreInOrder 0 events → LacksRow task report events
    → CountsQueries report
counted_lacking task report events in_order lacking =
    let earlier = front_in_order 0 lacking.earlier (lacking.event ∷ []) (subst (AreInOrder 0) lacking.event_last in_order) in
    counted_rows task.settings task.words lacking.earlier report earlier lacking.rows

counted_begun : (task : Task) (report : List Row) (events : List Event) → AreInOrder 0 events → HasRows task report events
    → CountsQueries report
counted_begun task report events in_order (inl are) = counted_rows task.settings task.words events report in_order are
counted_begun task report events in_order (inr unfinished) = counted_unfinished task report events in_order unfinished

counted_at_least : (task : Task) (report : List Row) (events : List Event) → AreInOrder 0 events
    → HasRows task report events ⊎ LacksRow task report events → CountsQueries report
counted_at_least task report events in_order (inl rows) = counted_begun task report events in_order rows
counted_at_least task report events in_order (inr lacking) = counted_lacking task report events in_order lacking

-- what the host meets is in order where what is read is
abbrev pub KeepsOrder : Task → Type 0
KeepsOrder task = (events : List Event) → AreInOrder 0 events → AreInOrder 0 (task.link events)

pub finished_counts : (task : Task) (before after : Outside) (report : List Row) → KeepsOrder task → Finished task before after report
    → CountsQueries report
finished_counts task before after report keeps finished =
    counted_rows task.settings task.words (task.link finished.events) report (keeps finished.events finished.in_order) finished.answered.rows

pub leaves_counts : (task : Task) (before after : Outside) (report : List Row) (error : RunError) → KeepsOrder task
    → Leaves task before after report error → CountsQueries report
leaves_counts task before after report (Script offset) keeps stopped =
    counted_rows task.settings task.words (task.link stopped.taken.events) report (keeps stopped.taken.events stopped.taken.in_order) stopped.answered.rows
leaves_counts task before after report Limit keeps stopped =
    counted_rows task.settings task.words (task.link stopped.taken.events) report (keeps stopped.taken.events stopped.taken.in_order) stopped.answered.rows
leaves_counts task before after report Read keeps stopped =
    counted_rows task.settings task.words (task.link stopped.taken.events) report (keeps stopped.taken.events stopped.taken.in_order) stopped.answered.rows
leaves_counts task before after report Words keeps out =
    let earlier = front_in_order 0 out.answered_events (out.event ∷ []) (subst (AreInOrder 0) out.last out.taken.in_order) in
    counted_rows task.settings task.words (task.link out.answered_events) report (keeps out.answered_events earlier) out.answered.rows
leaves_counts task before after report Sink keeps interrupted =
    counted_begun task report (task.link interrupted.taken.events) (keeps interrupted.taken.events interrupted.taken.in_order) interrupted.begun.rows
leaves_counts task before after report NoMemory keeps interrupted =
    counted_at_least task report (task.link interrupted.taken.events) (keeps interrupted.taken.events interrupted.taken.in_order) interrupted.begun.rows

-- whatever the run answered
pub run_counts : (task : Task) (before after : Outside) (report : List Row) (result : Result (Unit {0}) RunError) → KeepsOrder task
    → OnOk result (Finished task before after report) → IfErr result (Leaves task before after report) → CountsQueries report
run_counts task before after report (Ok done) keeps finished leaves = finished_counts task before after report keeps finished
run_counts task before after report (Err error) keeps finished leaves = leaves_counts task before after report error keeps leaves
