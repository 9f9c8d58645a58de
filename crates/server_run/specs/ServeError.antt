-- The answers of a run by those of its parts.
use Rattle.phy_layers.specs.declared.byte_sink.SinkError.{SinkError}
use Rattle.phy_layers.specs.declared.byte_sink.SinkError.TheVariants as sink
use Rattle.script_reader.specs.declared.script.ReadEventError.{ReadEventError}
use Rattle.script_reader.specs.declared.script.ReadEventError.TheVariants as read
use Rattle.server_run.specs.declared.serve_error.ServeError.{ServeError}
use Rattle.server_run.specs.declared.serve_error.ServeError.TheVariants.{Script, Limit, Read, Sink, NoMemory}

abbrev pub of_read_event : ReadEventError → ServeError
of_read_event (read.Script offset) = Script offset
of_read_event read.Limit = Limit
of_read_event read.Read = Read

abbrev pub of_sink : SinkError → ServeError
of_sink sink.Fault = Sink
of_sink sink.NoMemory = NoMemory
