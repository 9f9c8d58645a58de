-- What is left by a command that makes its script.
use Rattle.std.specs.Prelude.{◌≡◌, ℕ, List, Option, Some, None, ⊤}
use Rattle.phy_layers.specs.declared.byte_sink.ByteSink as byte_sink
use Rattle.made_script.specs.Made.{IsMadeScript}
use Rattle.net_host.specs.declared.report.Row.{Row}
use Rattle.net_host.specs.Outside.{Outside}
use Rattle.host_top.specs.declared.command.MakeCommand.{MakeCommand}
use Rattle.host_top.specs.declared.ending.Ending.{Ending}
use Rattle.host_top.specs.declared.ending.Ending.TheVariants.{Done, Capture, NoMemory}
use Rattle.host_top.specs.MakeWords.{run_of_make}
use Rattle.host_top.specs.Generator.{event_words}
use Rattle.host_top.specs.Ran.{RanTo}

-- nothing was read
pub record IsUnread (before after : Outside) : Type 0 where
  pub left : after.left ≡ before.left
  pub faults : after.read_faults ≡ before.read_faults

-- the outside with a source in memory, which never fails, in the place of its own
abbrev pub fed_with : Option (List ℕ) → Outside → Outside
fed_with left outside = record outside { left = left; read_faults = 0 }

-- What was left between two outsides is what is left with a made script in the place of the source, which is not
-- read. So much of the script is left as `rest` says.
pub record IsLeftByMade (make : MakeCommand) (Left : Outside → Outside → Type 0) (before after : Outside) : Type 0 where
  pub bytes : List ℕ
  pub rest : Option (List ℕ)
  pub made : IsMadeScript (event_words (run_of_make make)) make.count bytes
  pub unread : IsUnread before after
  pub left : Left (fed_with (Some bytes) before) (fed_with rest after)

-- a made script is valid and is there: only the capture and memory can stop its run
abbrev pub IsEndingOfMade : Ending → Type 0
IsEndingOfMade Done = ⊤
IsEndingOfMade Capture = ⊤
IsEndingOfMade NoMemory = ⊤
IsEndingOfMade ending = ⊥

-- What the run of a made script left when it ended so.
abbrev pub MadeTo : MakeCommand → Outside → Outside → List Row → Ending → Type 0
MadeTo make before after report ending =
    IsEndingOfMade ending
    × IsLeftByMade make (λ before after. RanTo (run_of_make make) before after report ending) before after

-- an outside without a source
abbrev pub sink_alone : {C : Type 0} → byte_sink.Ghosts C → C → Outside
sink_alone sink capture = record {
  left = None;
  read_faults = 0;
  captured = sink.bytes capture;
  capture_faults = sink.faults capture;
}
