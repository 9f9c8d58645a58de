-- What is printed.
use Rattle.std.specs.Prelude.{◌≡◌, ℕ, List, Result}
use Rattle.phy_layers.specs.declared.byte_sink.ByteSink as byte_sink
use Rattle.phy_layers.specs.declared.byte_sink.SinkError.{SinkError}
use Rattle.phy_layers.specs.Sink.{Took}
use Rattle.net_host.specs.declared.report.Row.{Row}
use Rattle.host_top.specs.declared.ending.Ending.{Ending}
use Rattle.host_top.specs.declared.ending.Ending.TheVariants.{Done}
use Rattle.host_top.specs.Ending.{status_after, last_line}
use Rattle.host_top.specs.Summary.{summary_text}

-- a script that is made is summed up in place of a last line, where its run was done
abbrev pub summed_up : List Row → Ending → List ℕ
summed_up report Done = summary_text report
summed_up report ending = last_line ending

-- The text was handed to the output, which decides on the status beside the ending.
pub record Prints {O : Type 0} (sink : byte_sink.Ghosts O) (text : List ℕ) (ending : Ending)
    (result : ℕ) (old new : O) : Type 0 where
  pub answer : Result (Unit {0}) SinkError
  pub status : result ≡ status_after ending answer
  pub took : Took sink.bytes sink.faults sink.grows answer text old new
