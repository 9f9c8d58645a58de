-- Whatever a command left, its report counts queries as a report of whole rows does.
use Rattle.std.proofs.Common.{◌≡◌, ℕ, List, [], Option, Some, None, sym, subst, arith}
use Rattle.host_disturb.proofs.SpelledLemmas.{keeps_order}
use Rattle.net_host.specs.declared.report.Row.{Row}
use Rattle.net_host.specs.declared.run_script.RunError.TheVariants as run_error
use Rattle.net_host.specs.Outside.{Outside}
use Rattle.net_host.specs.QueryRows.{CountsQueries}
use Rattle.net_host.specs.Run.{Task}
use Rattle.net_host.proofs.CountedLemmas.{KeepsOrder, finished_counts, leaves_counts}
use Rattle.host_top.specs.declared.command.Command.{Command}
use Rattle.host_top.specs.declared.command.Command.TheVariants.{Run, Make, Explain, Print, Help, Disturb, Serve, Show, Frames}
use Rattle.host_top.specs.declared.ending.Ending.{Ending}
use Rattle.host_top.specs.declared.ending.Ending.TheVariants.{Done, Refused, Script, Limit, Entry, FrameLimit, Read, Capture, NoMemory}
use Rattle.host_top.specs.Disturb.{faults_named, task_disturbed}
use Rattle.host_top.specs.HostMain.{EndedAs, HasEnded}
use Rattle.host_top.specs.MakeWords.{run_of_make}
use Rattle.host_top.specs.Making.{fed_with}
use Rattle.host_top.specs.Ran.{RanAs, task_named}

ran_counts : (task : Task) (before after : Outside) (report : List Row) (ending : Ending) → KeepsOrder task
    → RanAs task before after report ending → CountsQueries report
ran_counts task before after report Done keeps ran = finished_counts task before after report keeps ran.0
ran_counts task before after report Refused keeps ran = absurd ran
ran_counts task before after report (Script offset) keeps ran = leaves_counts task before after report (run_error.Script offset) keeps ran.0
ran_counts task before after report Limit keeps ran = leaves_counts task before after report run_error.Limit keeps ran.0
ran_counts task before after report (Entry offset) keeps ran = absurd ran
ran_counts task before after report FrameLimit keeps ran = absurd ran
ran_counts task before after report Read keeps ran = leaves_counts task before after report run_error.Read keeps ran.0
ran_counts task before after report Capture keeps ran = leaves_counts task before after report run_error.Sink keeps ran.0
ran_counts task before after report NoMemory keeps ran = leaves_counts task before after report run_error.NoMemory keeps ran.0

none_counted : (report : List Row) → report ≡ [] → CountsQueries report
none_counted report empty =
    subst CountsQueries (sym empty) (record { few = λ number place. omega arith; one_line = λ number. omega arith })

command_counts : (command : Command) (before after : Outside) (report : List Row) (ending : Ending) (text : List ℕ)
    → EndedAs command before after report ending text → CountsQueries report
command_counts (Run run) before after report ending text ended =
    ran_counts (task_named run) before after report ending (λ events in_order. in_order) ended.ran
command_counts (Make make) before after report ending text ended =
    ran_counts (task_named (run_of_make make)) (fed_with (Some ended.left.bytes) before) (fed_with ended.left.rest after) report ending
    (λ events in_order. in_order) ended.left.left
command_counts (Explain explain) before after report ending text ended = none_counted report ended.uncaptured.empty
command_counts (Print print) before after report ending text ended = none_counted report ended.uncaptured.empty
command_counts (Serve serve) before after report ending text ended = none_counted report ended.empty
command_counts (Show show) before after report ending text ended = none_counted report ended.uncaptured.empty
command_counts (Frames frames) before after report ending text ended = none_counted report ended.uncaptured.empty
command_counts Help before after report ending text ended = none_counted report ended.empty
command_counts (Disturb disturb) before after report ending text ended =
    ran_counts (task_disturbed disturb) before after report ending (keeps_order (faults_named disturb)) ended.ran

pub counts_of : (asked : Option Command) (before after : Outside) (report : List Row) (ending : Ending) (text : List ℕ)
    → HasEnded asked before after report ending text → CountsQueries report
counts_of None before after report ending text ended = none_counted report ended.empty
counts_of (Some command) before after report ending text ended = command_counts command before after report ending text ended
