-- What each command finishes with.
use Rattle.std.proofs.Common.{◌≡◌, ℕ, List, [], ◌++◌, Some, None, refl}
use Rattle.phy_layers.specs.declared.byte_sink.ByteSink as byte_sink
use Rattle.phy_layers.specs.Sink.{Took}
use Rattle.script_source.specs.declared.source.ScriptSource as script_source
use Rattle.net_host.specs.declared.report.Row.{Row}
use Rattle.net_host.specs.Outside.{Outside, outside_of}
use Rattle.host_top.specs.declared.command.Command.TheVariants.{Run, Make, Explain, Print, Help, Disturb, Serve, Show, Frames}
use Rattle.host_top.specs.declared.command.MakeCommand.{MakeCommand}
use Rattle.host_top.specs.declared.command.RunCommand.{RunCommand}
use Rattle.host_top.specs.declared.disturb_command.DisturbCommand.{DisturbCommand}
use Rattle.host_top.specs.declared.ending.Ending.TheVariants.{Done, Refused}
use Rattle.host_top.specs.declared.ending.Finish.{Finish}
use Rattle.host_top.specs.declared.capture_command.CaptureCommand.{CaptureCommand}
use Rattle.server_run.specs.declared.report.ServeRow.{ServeRow}
use Rattle.host_top.specs.declared.serve_command.ServeCommand.{ServeCommand}
use Rattle.host_top.specs.Explain.{ExplainsAs, PrintsAs}
use Rattle.host_top.specs.Serve.{ServesAs}
use Rattle.host_top.specs.declared.show_command.ShowCommand.{ShowCommand}
use Rattle.host_top.specs.Show.{ShowsAs, FramesAs, remark_of}
use Rattle.host_top.specs.ServeText.{serve_bytes}
use Rattle.capture_explain.specs.declared.explanation.ExplainRow.{ExplainRow}
use Rattle.capture_explain.specs.ExplainText.{explanation_bytes}
use Rattle.host_top.specs.Disturb.{DisturbedTo}
use Rattle.host_top.specs.Ending.{last_line}
use Rattle.host_top.specs.HostMain.{Finishes}
use Rattle.host_top.specs.Making.{MadeTo, sink_alone}
use Rattle.host_top.specs.Printing.{summed_up}
use Rattle.host_top.specs.Ran.{RanTo}
use Rattle.host_top.specs.ReportText.{report_bytes}
use Rattle.host_top.specs.Usage.{help_text}

pub finishes_run : {O : Type 0} (sink : byte_sink.Ghosts O) (run : RunCommand) (before after : Outside) (report : List Row) (finish : Finish)
    (old new : O) → RanTo run before after report finish.ending
    → Took sink.bytes sink.faults sink.grows finish.answer (report_bytes report ++ last_line finish.ending) old new
    → Finishes sink (Some (Run run)) before after report finish old new
finishes_run {O} sink run before after report finish old new ran took = record {
  text = report_bytes report ++ last_line finish.ending;
  ended = record { ran = ran; says = refl };
  took = took;
}

pub finishes_disturb : {O : Type 0} (sink : byte_sink.Ghosts O) (disturb : DisturbCommand) (before after : Outside) (report : List Row)
    (finish : Finish) (old new : O) → DisturbedTo disturb before after report finish.ending
    → Took sink.bytes sink.faults sink.grows finish.answer (report_bytes report ++ last_line finish.ending) old new
    → Finishes sink (Some (Disturb disturb)) before after report finish old new
finishes_disturb {O} sink disturb before after report finish old new ran took = record {
  text = report_bytes report ++ last_line finish.ending;
  ended = record { ran = ran; says = refl };
  took = took;
}

-- nothing is read where the script is made
pub finishes_make : {S C O : Type 0} (source : script_source.Ghosts S) (captures : byte_sink.Ghosts C) (sink : byte_sink.Ghosts O)
    (make : MakeCommand) (script : S) (first last : C) (report : List Row) (finish : Finish) (old new : O)
    → MadeTo make (sink_alone captures first) (sink_alone captures last) report finish.ending
    → Took sink.bytes sink.faults sink.grows finish.answer (summed_up report finish.ending) old new
    → Finishes sink (Some (Make make)) (outside_of source captures script first) (outside_of source captures script last) report finish old new
finishes_make {S} {C} {O} source captures sink make script first last report finish old new made took = record {
  text = summed_up report finish.ending;
  ended = record {
    may = made.0;
    left = record {
      bytes = made.1.bytes;
      rest = made.1.rest;
      made = made.1.made;
      unread = record { left = refl; faults = refl };
      left = made.1.left;
    };
    says = refl;
  };
  took = took;
}

pub finishes_help : {O : Type 0} (sink : byte_sink.Ghosts O) (before : Outside) (report : List Row) (finish : Finish) (old new : O)
    → report ≡ [] → finish.ending ≡ Done → Took sink.bytes sink.faults sink.grows finish.answer help_text old new
    → Finishes sink (Some Help) before before report finish old new
finishes_help {O} sink before report finish old new empty done took = record {
  text = help_text;
  ended = record { done = done; empty = empty; same = refl; says = refl };
  took = took;
}

pub finishes_refused : {O : Type 0} (sink : byte_sink.Ghosts O) (before : Outside) (report : List Row) (finish : Finish) (old new : O)
    → report ≡ [] → finish.ending ≡ Refused → Took sink.bytes sink.faults sink.grows finish.answer (last_line Refused) old new
    → Finishes sink None before before report finish old new
finishes_refused {O} sink before report finish old new empty refused took = record {
  text = last_line Refused;
  ended = record { empty = empty; refused = refused; says = refl };
  took = took;
}

-- nothing is captured or reported where a capture is explained
pub finishes_explain : {S C O : Type 0} (source : script_source.Ghosts S) (captures : byte_sink.Ghosts C) (sink : byte_sink.Ghosts O)
    (explain : CaptureCommand) (first last : S) (capture : C) (report : List Row) (rows : List ExplainRow) (finish : Finish) (old new : O)
    → report ≡ []
    → ExplainsAs explain.max_frames (source.left first) (source.left last) (source.faults first) (source.faults last) rows finish.ending
    → Took sink.bytes sink.faults sink.grows finish.answer (explanation_bytes rows ++ last_line finish.ending) old new
    → Finishes sink (Some (Explain explain)) (outside_of source captures first capture) (outside_of source captures last capture) report finish old new
finishes_explain {S} {C} {O} source captures sink explain first last capture report rows finish old new empty explains took = record {
  text = explanation_bytes rows ++ last_line finish.ending;
  ended = record {
    rows = rows;
    explains = explains;
    uncaptured = record { captured = refl; faults = refl; empty = empty };
    says = refl;
  };
  took = took;
}

pub finishes_print : {S C O : Type 0} (source : script_source.Ghosts S) (captures : byte_sink.Ghosts C) (sink : byte_sink.Ghosts O)
    (print : CaptureCommand) (first last : S) (capture : C) (report : List Row) (lines : List ℕ) (finish : Finish) (old new : O)
    → report ≡ []
    → PrintsAs print.max_frames (source.left first) (source.left last) (source.faults first) (source.faults last) lines finish.ending
    → Took sink.bytes sink.faults sink.grows finish.answer (lines ++ last_line finish.ending) old new
    → Finishes sink (Some (Print print)) (outside_of source captures first capture) (outside_of source captures last capture) report finish old new
finishes_print {S} {C} {O} source captures sink print first last capture report lines finish old new empty prints took = record {
  text = lines ++ last_line finish.ending;
  ended = record {
    lines = lines;
    prints = prints;
    uncaptured = record { captured = refl; faults = refl; empty = empty };
    says = refl;
  };
  took = took;
}

pub finishes_show : {S C O : Type 0} (source : script_source.Ghosts S) (captures : byte_sink.Ghosts C) (sink : byte_sink.Ghosts O)
    (show : ShowCommand) (first last : S) (capture : C) (report : List Row) (lines : List ℕ) (finish : Finish) (old new : O)
    → report ≡ []
    → ShowsAs show.max_events (source.left first) (source.left last) (source.faults first) (source.faults last) lines finish.ending
    → Took sink.bytes sink.faults sink.grows finish.answer (lines ++ remark_of finish.ending) old new
    → Finishes sink (Some (Show show)) (outside_of source captures first capture) (outside_of source captures last capture) report finish old new
finishes_show {S} {C} {O} source captures sink show first last capture report lines finish old new empty shows took = record {
  text = lines ++ remark_of finish.ending;
  ended = record {
    lines = lines;
    shows = shows;
    uncaptured = record { captured = refl; faults = refl; empty = empty };
    says = refl;
  };
  took = took;
}

pub finishes_frames : {S C O : Type 0} (source : script_source.Ghosts S) (captures : byte_sink.Ghosts C) (sink : byte_sink.Ghosts O)
    (frames : ShowCommand) (first last : S) (capture : C) (report : List Row) (lines : List ℕ) (finish : Finish) (old new : O)
    → report ≡ []
    → FramesAs frames.max_events (source.left first) (source.left last) (source.faults first) (source.faults last) lines finish.ending
    → Took sink.bytes sink.faults sink.grows finish.answer (lines ++ remark_of finish.ending) old new
    → Finishes sink (Some (Frames frames)) (outside_of source captures first capture) (outside_of source captures last capture) report finish old new
finishes_frames {S} {C} {O} source captures sink frames first last capture report lines finish old new empty shows took = record {
  text = lines ++ remark_of finish.ending;
  ended = record {
    lines = lines;
    shows = shows;
    uncaptured = record { captured = refl; faults = refl; empty = empty };
    says = refl;
  };
  took = took;
}

-- the host has no report where leases are served
pub finishes_serve : {O : Type 0} (sink : byte_sink.Ghosts O) (serve : ServeCommand) (before after : Outside) (report : List Row)
    (rows : List ServeRow) (finish : Finish) (old new : O) → report ≡ [] → ServesAs serve before after rows finish.ending
    → Took sink.bytes sink.faults sink.grows finish.answer (serve_bytes rows ++ last_line finish.ending) old new
    → Finishes sink (Some (Serve serve)) before after report finish old new
finishes_serve {O} sink serve before after report rows finish old new empty serves took = record {
  text = serve_bytes rows ++ last_line finish.ending;
  ended = record { rows = rows; serves = serves; empty = empty; says = refl };
  took = took;
}
