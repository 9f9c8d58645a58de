-- The answers of a run by those of its parts.
use Rattle.phy_layers.specs.declared.byte_sink.SinkError.{SinkError}
use Rattle.phy_layers.specs.declared.byte_sink.SinkError.TheVariants as sink
use Rattle.script_reader.specs.declared.script.ReadEventError.{ReadEventError}
use Rattle.script_reader.specs.declared.script.ReadEventError.TheVariants as read
use Rattle.net_host.specs.declared.run_script.RunError.{RunError}
use Rattle.net_host.specs.declared.run_script.RunError.TheVariants.{Script, Limit, Read, Sink, NoMemory}

abbrev pub of_read_event : ReadEventError → RunError
of_read_event (read.Script offset) = Script offset
of_read_event read.Limit = Limit
of_read_event read.Read = Read

abbrev pub of_sink : SinkError → RunError
of_sink sink.Fault = Sink
of_sink sink.NoMemory = NoMemory
