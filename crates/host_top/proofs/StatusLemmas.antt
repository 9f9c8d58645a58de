-- What each status says of how a command ended.
use Rattle.std.proofs.Common.{◌≡◌, ℕ, ◌<◌, List, Option, Some, None, Result, Ok, Err, IfSome, sym, ap, ◌∙◌, arith}
use Rattle.wire_base.specs.Causes.{IsRisen}
use Rattle.host_model.specs.Classes.{IsBrokenAt}
use Rattle.phy_layers.specs.declared.byte_sink.SinkError.{SinkError}
use Rattle.phy_layers.specs.declared.byte_sink.SinkError.TheVariants as sink
use Rattle.net_host.specs.declared.report.Row.{Row}
use Rattle.net_host.specs.Outside.{Outside, IsQuiet}
use Rattle.host_top.specs.declared.command.Command.{Command}
use Rattle.host_top.specs.declared.command.Command.TheVariants.{Run, Make, Explain, Print, Help, Disturb, Serve, Show, Frames}
use Rattle.host_top.specs.declared.ending.Ending.{Ending}
use Rattle.host_top.specs.declared.ending.Ending.TheVariants.{Done, Script, Limit, Entry, FrameLimit, Read, Capture}
use Rattle.host_top.specs.Ending.{status_of, status_after}
use Rattle.host_top.specs.HostMain.{ForNamed, IsDone, HasBrokenScript, HasLongScript, EndedAs, Ask, HasEnded}
use Rattle.host_top.proofs.EndingLemmas.{Answered}
use Rattle.capture_explain.specs.Rows.{TellsRows}
use Rattle.host_top.specs.Explain.{TellsLines}
use Rattle.host_top.proofs.ExplainLemmas.{explain_broken, explain_done, explain_long, explain_read, explain_uncaptured}
use Rattle.host_top.proofs.ShowLemmas.{show_says, frames_says}
use Rattle.host_top.proofs.ServeLemmas.{serve_broken, serve_captured, serve_done, serve_long, serve_read}

-- what 0, 2, 3, 4 and 5 say
done_of : (command : Command) (before after : Outside) (report : List Row) (text : List ℕ) → EndedAs command before after report Done text
    → IsDone command before after report × IsQuiet before after
done_of (Run run) before after report text ended = ended.ran
done_of (Make make) before after report text ended =
    let made = ended.left in (
      record { bytes = made.bytes; rest = made.rest; made = made.made; unread = made.unread; left = made.left.0 },
      record { source = made.unread.faults; capture = made.left.1.capture },
    )
done_of (Disturb disturb) before after report text ended = ended.ran
done_of (Explain explain) before after report text ended =
    let done = explain_done explain.max_frames before.left after.left before.read_faults after.read_faults (TellsRows ended.rows) Done ended.explains (λ i. 0) in
    ((ended.uncaptured.empty, ended.rows, done.0), record { source = done.1; capture = ended.uncaptured.faults })
done_of (Print print) before after report text ended =
    let done = explain_done print.max_frames before.left after.left before.read_faults after.read_faults (TellsLines ended.lines) Done ended.prints (λ i. 0) in
    ((ended.uncaptured.empty, ended.lines, done.0), record { source = done.1; capture = ended.uncaptured.faults })
done_of (Serve serve) before after report text ended =
    let done = serve_done serve before after ended.rows Done ended.serves (λ i. 0) in
    ((ended.empty, ended.rows, done.0), done.1)
done_of (Show show) before after report text ended =
    let done = (show_says show.max_events before.left after.left before.read_faults after.read_faults ended.lines Done ended.shows).done (λ i. 0) in
    ((ended.uncaptured.empty, ended.lines, done.0), record { source = done.1; capture = ended.uncaptured.faults })
done_of (Frames frames) before after report text ended =
    let done = (frames_says frames.max_events before.left after.left before.read_faults after.read_faults ended.lines Done ended.shows).done (λ i. 0) in
    ((ended.uncaptured.empty, ended.lines, done.0), record { source = done.1; capture = ended.uncaptured.faults })
done_of Help before after report text ended =
    (ended.empty, record { source = ap (λ o. o.read_faults) ended.same; capture = ap (λ o. o.capture_faults) ended.same })

done_at : (command : Command) (before after : Outside) (report : List Row) (ending : Ending) (text : List ℕ)
    → EndedAs command before after report ending text → status_of ending ≡ 0 → IsDone command before after report × IsQuiet before after
done_at command before after report Done text ended same = done_of command before after report text ended
done_at command before after report ending text ended same = absurd (omega arith)

at_some_place : (max offset : ℕ) (left : Option (List ℕ)) → IfSome left (λ bytes. IsBrokenAt max bytes offset)
    → IfSome left (λ bytes. (offset : ℕ) × IsBrokenAt max bytes offset)
at_some_place max offset None broken = tt
at_some_place max offset (Some bytes) broken = (offset, broken)

broken_of : (command : Command) (before after : Outside) (report : List Row) (offset : ℕ) (text : List ℕ)
    → EndedAs command before after report (Script offset) text → HasBrokenScript command before
broken_of (Run run) before after report offset text ended = at_some_place run.max_events offset before.left ended.ran.1.0
broken_of (Make make) before after report offset text ended = absurd ended.may
broken_of (Disturb disturb) before after report offset text ended = at_some_place disturb.run.max_events offset before.left ended.ran.1.0
broken_of (Serve serve) before after report offset text ended =
    serve_broken serve before after ended.rows (Script offset) ended.serves (λ i. 2)
broken_of (Explain explain) before after report offset text ended =
    explain_broken explain.max_frames before.left after.left before.read_faults after.read_faults (TellsRows ended.rows) (Script offset) ended.explains (λ i. 2)
broken_of (Print print) before after report offset text ended =
    explain_broken print.max_frames before.left after.left before.read_faults after.read_faults (TellsLines ended.lines) (Script offset) ended.prints (λ i. 2)
broken_of (Show show) before after report offset text ended =
    (show_says show.max_events before.left after.left before.read_faults after.read_faults ended.lines (Script offset) ended.shows).broken (λ i. 2)
broken_of (Frames frames) before after report offset text ended =
    (frames_says frames.max_events before.left after.left before.read_faults after.read_faults ended.lines (Script offset) ended.shows).broken (λ i. 2)
broken_of Help before after report offset text ended = omega (arith, ap status_of ended.done)

broken_at : (command : Command) (before after : Outside) (report : List Row) (ending : Ending) (text : List ℕ)
    → EndedAs command before after report ending text → status_of ending ≡ 2 → HasBrokenScript command before
broken_at (Explain explain) before after report ending text ended same =
    explain_broken explain.max_frames before.left after.left before.read_faults after.read_faults (TellsRows ended.rows) ending ended.explains same
broken_at (Print print) before after report ending text ended same =
    explain_broken print.max_frames before.left after.left before.read_faults after.read_faults (TellsLines ended.lines) ending ended.prints same
broken_at (Serve serve) before after report ending text ended same = serve_broken serve before after ended.rows ending ended.serves same
broken_at (Show show) before after report ending text ended same = (show_says show.max_events before.left after.left before.read_faults after.read_faults ended.lines ending ended.shows).broken same
broken_at (Frames frames) before after report ending text ended same = (frames_says frames.max_events before.left after.left before.read_faults after.read_faults ended.lines ending ended.shows).broken same
broken_at command before after report (Script offset) text ended same = broken_of command before after report offset text ended
broken_at (Run run) before after report (Entry offset) text ended same = absurd ended.ran
broken_at (Make make) before after report (Entry offset) text ended same = absurd ended.may
broken_at Help before after report (Entry offset) text ended same = omega (arith, ap status_of ended.done)
broken_at (Disturb disturb) before after report (Entry offset) text ended same = absurd ended.ran
broken_at command before after report ending text ended same = absurd (omega arith)

long_of : (command : Command) (before after : Outside) (report : List Row) (text : List ℕ) → EndedAs command before after report Limit text
    → HasLongScript command before
long_of (Run run) before after report text ended = ended.ran.1.0
long_of (Make make) before after report text ended = absurd ended.may
long_of (Disturb disturb) before after report text ended = ended.ran.1.0
long_of (Serve serve) before after report text ended = serve_long serve before after ended.rows Limit ended.serves (λ i. 3)
long_of (Explain explain) before after report text ended =
    explain_long explain.max_frames before.left after.left before.read_faults after.read_faults (TellsRows ended.rows) Limit ended.explains (λ i. 3)
long_of (Print print) before after report text ended =
    explain_long print.max_frames before.left after.left before.read_faults after.read_faults (TellsLines ended.lines) Limit ended.prints (λ i. 3)
long_of (Show show) before after report text ended = (show_says show.max_events before.left after.left before.read_faults after.read_faults ended.lines Limit ended.shows).long (λ i. 3)
long_of (Frames frames) before after report text ended = (frames_says frames.max_events before.left after.left before.read_faults after.read_faults ended.lines Limit ended.shows).long (λ i. 3)
long_of Help before after report text ended = omega (arith, ap status_of ended.done)

long_at : (command : Command) (before after : Outside) (report : List Row) (ending : Ending) (text : List ℕ)
    → EndedAs command before after report ending text → status_of ending ≡ 3 → HasLongScript command before
long_at (Explain explain) before after report ending text ended same =
    explain_long explain.max_frames before.left after.left before.read_faults after.read_faults (TellsRows ended.rows) ending ended.explains same
long_at (Print print) before after report ending text ended same =
    explain_long print.max_frames before.left after.left before.read_faults after.read_faults (TellsLines ended.lines) ending ended.prints same
long_at (Serve serve) before after report ending text ended same = serve_long serve before after ended.rows ending ended.serves same
long_at (Show show) before after report ending text ended same = (show_says show.max_events before.left after.left before.read_faults after.read_faults ended.lines ending ended.shows).long same
long_at (Frames frames) before after report ending text ended same = (frames_says frames.max_events before.left after.left before.read_faults after.read_faults ended.lines ending ended.shows).long same
long_at command before after report Limit text ended same = long_of command before after report text ended
long_at (Run run) before after report FrameLimit text ended same = absurd ended.ran
long_at (Make make) before after report FrameLimit text ended same = absurd ended.may
long_at Help before after report FrameLimit text ended same = omega (arith, ap status_of ended.done)
long_at (Disturb disturb) before after report FrameLimit text ended same = absurd ended.ran
long_at command before after report ending text ended same = absurd (omega arith)

read_of : (command : Command) (before after : Outside) (report : List Row) (text : List ℕ) → EndedAs command before after report Read text
    → IsRisen before.read_faults after.read_faults
read_of (Run run) before after report text ended = ended.ran.1.0
read_of (Make make) before after report text ended = absurd ended.may
read_of (Disturb disturb) before after report text ended = ended.ran.1.0
read_of (Serve serve) before after report text ended = serve_read serve before after ended.rows Read ended.serves (λ i. 4)
read_of (Explain explain) before after report text ended =
    explain_read explain.max_frames before.left after.left before.read_faults after.read_faults (TellsRows ended.rows) Read ended.explains (λ i. 4)
read_of (Print print) before after report text ended =
    explain_read print.max_frames before.left after.left before.read_faults after.read_faults (TellsLines ended.lines) Read ended.prints (λ i. 4)
read_of (Show show) before after report text ended = (show_says show.max_events before.left after.left before.read_faults after.read_faults ended.lines Read ended.shows).read (λ i. 4)
read_of (Frames frames) before after report text ended = (frames_says frames.max_events before.left after.left before.read_faults after.read_faults ended.lines Read ended.shows).read (λ i. 4)
read_of Help before after report text ended = absurd (omega (arith, ap status_of ended.done))

read_at : (command : Command) (before after : Outside) (report : List Row) (ending : Ending) (text : List ℕ)
    → EndedAs command before after report ending text → status_of ending ≡ 4 → IsRisen before.read_faults after.read_faults
read_at command before after report Read text ended same = read_of command before after report text ended
read_at command before after report ending text ended same = absurd (omega arith)

capture_of : (command : Command) (before after : Outside) (report : List Row) (text : List ℕ)
    → EndedAs command before after report Capture text → IsRisen before.capture_faults after.capture_faults
capture_of (Run run) before after report text ended = ended.ran.1.0
capture_of (Make make) before after report text ended = ended.left.left.1.0
capture_of (Disturb disturb) before after report text ended = ended.ran.1.0
capture_of (Serve serve) before after report text ended = serve_captured serve before after ended.rows Capture ended.serves (λ i. 5)
capture_of (Explain explain) before after report text ended =
    absurd (explain_uncaptured explain.max_frames before.left after.left before.read_faults after.read_faults (TellsRows ended.rows) Capture ended.explains (λ i. 5))
capture_of (Print print) before after report text ended =
    absurd (explain_uncaptured print.max_frames before.left after.left before.read_faults after.read_faults (TellsLines ended.lines) Capture ended.prints (λ i. 5))
capture_of (Show show) before after report text ended = absurd ((show_says show.max_events before.left after.left before.read_faults after.read_faults ended.lines Capture ended.shows).uncaptured (λ i. 5))
capture_of (Frames frames) before after report text ended = absurd ((frames_says frames.max_events before.left after.left before.read_faults after.read_faults ended.lines Capture ended.shows).uncaptured (λ i. 5))
capture_of Help before after report text ended = absurd (omega (arith, ap status_of ended.done))

capture_at : (command : Command) (before after : Outside) (report : List Row) (ending : Ending) (text : List ℕ)
    → EndedAs command before after report ending text → status_of ending ≡ 5 → IsRisen before.capture_faults after.capture_faults
capture_at command before after report Capture text ended same = capture_of command before after report text ended
capture_at command before after report ending text ended same = absurd (omega arith)

-- a status from 0 to 5 but 1 is that of how a command ended
not_replaced : (status : ℕ) (asked : Option Command) (before after : Outside) (report : List Row) (ending : Ending) (text : List ℕ)
    (answer : Result (Unit {0}) SinkError) → HasEnded asked before after report ending text → status < 6 → status ≡ status_after ending answer
    → status ≡ status_of ending
not_replaced status asked before after report ending text (Ok _) ended low is = is
not_replaced status asked before after report ending text (Err sink.Fault) ended low is = absurd (omega arith)
not_replaced status asked before after report ending text (Err sink.NoMemory) ended low is = absurd (omega arith)

-- what the status says of how a command ended
pub record SaysStatus (words : List (List ℕ)) (before after : Outside) (report : List Row) (result : ℕ) : Type 0 where
  pub done : result ≡ 0 → ForNamed words (λ command. IsDone command before after report)
  pub quiet : result ≡ 0 → IsQuiet before after
  pub broken : result ≡ 2 → ForNamed words (λ command. HasBrokenScript command before)
  pub limit : result ≡ 3 → ForNamed words (λ command. HasLongScript command before)
  pub read : result ≡ 4 → IsRisen before.read_faults after.read_faults
  pub capture : result ≡ 5 → IsRisen before.capture_faults after.capture_faults

-- by the status before the output's answer
says_of : (words : List (List ℕ)) (asked : Option Command) (before after : Outside) (report : List Row) (ending : Ending) (text : List ℕ) (result : ℕ)
    → Ask words asked → HasEnded asked before after report ending text → (result < 6 → result ≡ status_of ending)
    → SaysStatus words before after report result
says_of words None before after report ending text result asks ended is =
    let one : result < 6 → result ≡ 1 = λ low. is low ∙ ap status_of ended.refused in
    record {
      done = λ same. absurd (omega (arith, one (omega (arith, same))));
      quiet = λ same. absurd (omega (arith, one (omega (arith, same))));
      broken = λ same. absurd (omega (arith, one (omega (arith, same))));
      limit = λ same. absurd (omega (arith, one (omega (arith, same))));
      read = λ same. absurd (omega (arith, one (omega (arith, same))));
      capture = λ same. absurd (omega (arith, one (omega (arith, same))));
    }
says_of words (Some command) before after report ending text result asks ended is =
    let low : (n : ℕ) → result ≡ n → n < 6 → status_of ending ≡ n = λ n same low. sym (is (omega (arith, same, low))) ∙ same in
    record {
      done = λ same. (command, asks, (done_at command before after report ending text ended (low 0 same (omega arith))).0);
      quiet = λ same. (done_at command before after report ending text ended (low 0 same (omega arith))).1;
      broken = λ same. (command, asks, broken_at command before after report ending text ended (low 2 same (omega arith)));
      limit = λ same. (command, asks, long_at command before after report ending text ended (low 3 same (omega arith)));
      read = λ same. read_at command before after report ending text ended (low 4 same (omega arith));
      capture = λ same. capture_at command before after report ending text ended (low 5 same (omega arith));
    }

pub says : {words : List (List ℕ)} {asked : Option Command} {before after : Outside} {report : List Row} {ending : Ending}
    {text : List ℕ} {answer : Result (Unit {0}) SinkError} {result : ℕ} → Answered words asked before after report ending text answer result
    → SaysStatus words before after report result
says {words} {asked} {before} {after} {report} {ending} {text} {answer} {result} how =
    says_of words asked before after report ending text result how.asks how.ended
    (λ low. not_replaced result asked before after report ending text answer how.ended low how.status)
