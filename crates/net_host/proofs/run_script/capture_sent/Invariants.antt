-- The capture has taken the records so far.
use Rattle.std.proofs.Common.{Ok, take}
use Rattle.phy_layers.specs.Sink.{Took}
use Rattle.phy_layers.specs.PcapBytes.{epoch_micros}
use Rattle.net_host.specs.Captured.{sent_records}
use Rattle.net_host.proofs.run_script.capture_sent.Given as goal

abbrev pub invariant-loop-frame : goal.invariant-loop-frame
invariant-loop-frame g l =
    let sink = g.C.ByteSink in
    Took sink.bytes sink.faults sink.grows (Ok tt) (sent_records (epoch_micros l.at) (take l.frame-index l.sent)) l.fn.capture l.capture
