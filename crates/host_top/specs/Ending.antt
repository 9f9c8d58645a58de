-- The status and the last line of the output, by how a command ended.
use Rattle.std.specs.Prelude.{ℕ, List, ◌++◌, Result, Ok, Err, codes}
use Rattle.std.specs.Fmt.{decimal}
use Rattle.phy_layers.specs.declared.byte_sink.SinkError.{SinkError}
use Rattle.phy_layers.specs.declared.byte_sink.SinkError.TheVariants as sink
use Rattle.host_top.specs.Usage.{usage_text}
use Rattle.host_top.specs.declared.ending.Ending.{Ending}
use Rattle.host_top.specs.declared.ending.Ending.TheVariants.{Done, Refused, Script, Limit, Entry, FrameLimit, Read, Capture, NoMemory}

abbrev pub status_of : Ending → ℕ
status_of Done = 0
status_of Refused = 1
status_of (Script offset) = 2
status_of Limit = 3
status_of (Entry offset) = 2
status_of FrameLimit = 3
status_of Read = 4
status_of Capture = 5
status_of NoMemory = 7

-- a refusal of the output replaces the status
abbrev pub status_after : Ending → Result (Unit {0}) SinkError → ℕ
status_after ending (Ok _) = status_of ending
status_after ending (Err sink.Fault) = 6
status_after ending (Err sink.NoMemory) = 7

-- the last line: for refused words, how to use the program
abbrev pub last_line : Ending → List ℕ
last_line Done = codes "done\n"
last_line Refused = usage_text
last_line (Script offset) = codes "script error at " ++ decimal offset ++ codes "\n"
last_line Limit = codes "event limit reached\n"
last_line (Entry offset) = codes "capture error at " ++ decimal offset ++ codes "\n"
last_line FrameLimit = codes "frame limit reached\n"
last_line Read = codes "read fault\n"
last_line Capture = codes "capture fault\n"
last_line NoMemory = codes "no memory\n"
