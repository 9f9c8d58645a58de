-- What is left by the run of a made script.
use Rattle.std.proofs.Common.{◌≡◌, ℕ, ◌≤◌, List, [], Option, Some, refl, arith}
use Rattle.host_model.proofs.ClassLemmas.{not_over, not_broken}
use Rattle.made_script.specs.Made.{IsMadeScript}
use Rattle.made_script.proofs.SomeLemmas.{makes_some}
use Rattle.net_host.specs.declared.report.Row.{Row}
use Rattle.net_host.specs.Outside.{Outside}
use Rattle.net_host.proofs.RefusedLemmas.{nothing_run}
use Rattle.host_top.specs.declared.command.MakeCommand.{MakeCommand}
use Rattle.host_top.specs.declared.ending.Ending.{Ending}
use Rattle.host_top.specs.declared.ending.Ending.TheVariants.{Done, Refused, Script, Limit, Entry, FrameLimit, Read, Capture, NoMemory}
use Rattle.host_top.specs.MakeWords.{run_of_make}
use Rattle.host_top.specs.Generator.{event_words}
use Rattle.host_top.specs.Ran.{task_named, RanTo}
use Rattle.host_top.specs.Making.{IsUnread, IsEndingOfMade, MadeTo, fed_with}

-- a made script ends no run, nor does a source in memory
ends : (make : MakeCommand) (before after : Outside) (report : List Row) (ending : Ending) (bytes : List ℕ) (rest : Option (List ℕ))
    → IsMadeScript (event_words (run_of_make make)) make.count bytes
    → RanTo (run_of_make make) (fed_with (Some bytes) before) (fed_with rest after) report ending → IsEndingOfMade ending
ends make before after report Done bytes rest made ran = tt
ends make before after report Refused bytes rest made ran = ran
ends make before after report (Script offset) bytes rest made ran = not_broken make.count bytes offset made.events made.script ran.1.0
ends make before after report Limit bytes rest made ran = not_over make.count bytes made.events made.script ran.1.0
ends make before after report (Entry offset) bytes rest made ran = ran
ends make before after report FrameLimit bytes rest made ran = ran
ends make before after report Read bytes rest made ran = absurd (omega (arith, ran.1.0))
ends make before after report Capture bytes rest made ran = tt
ends make before after report NoMemory bytes rest made ran = tt

pub made_ran : (make : MakeCommand) (before after : Outside) (report : List Row) (ending : Ending) (bytes : List ℕ) (rest : Option (List ℕ))
    → IsMadeScript (event_words (run_of_make make)) make.count bytes → IsUnread before after
    → RanTo (run_of_make make) (fed_with (Some bytes) before) (fed_with rest after) report ending
    → MadeTo make before after report ending
made_ran make before after report ending bytes rest made unread ran =
    (ends make before after report ending bytes rest made ran, record { bytes = bytes; rest = rest; made = made; unread = unread; left = ran })

-- want of memory before anything
pub nothing_made : (make : MakeCommand) (before : Outside) (report : List Row) → make.count ≤ 10000 → report ≡ []
    → MadeTo make before before report NoMemory
nothing_made make before report few empty =
    let some = makes_some (event_words (run_of_make make)) make.count (omega (arith, few)) in
    let fed = fed_with (Some some.0) before in (
      tt,
      record {
        bytes = some.0;
        rest = Some some.0;
        made = some.1;
        unread = record { left = refl; faults = refl };
        left = (nothing_run (task_named (run_of_make make)) fed report refl empty, record { source = refl; capture = refl });
      },
    )
