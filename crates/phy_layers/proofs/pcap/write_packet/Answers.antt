use Rattle.std.proofs.Common.{append-nil}
use Rattle.std.proofs.lemmas.Result.{err_from_is_err_and}
use Rattle.phy_layers.specs.PcapBytes.{packet_record}
use Rattle.phy_layers.proofs.SinkLemmas.{took_then, stops}
use Rattle.phy_layers.proofs.pcap.write_packet.Goals as goal

pub returns-in_err-write_record_header : goal.returns-in_err-write_record_header
unfolding packet_record
returns-in_err-write_record_header g c =
    let refused = err_from_is_err_and c.from_residual.result c.from_residual.ensures.1 in
    rw (refused.1, refused.2) (stops _ c.in_err-write_record_header.ensures)

pub returns-in_err-write : goal.returns-in_err-write
unfolding packet_record
returns-in_err-write g c =
    let refused = err_from_is_err_and c.from_residual-in_err-write.result
    c.from_residual-in_err-write.ensures.1 in
    rw (refused.1, refused.2, ← c.captured.ensures)
    (took_then c.in_ok-write_record_header.ensures c.in_err-write.ensures.took)

-- The flush appends nothing.
pub returns : goal.returns
unfolding packet_record
returns g c =
    let whole = took_then (took_then c.in_ok-write_record_header.ensures c.in_ok-write.ensures.took)
    c.flush.ensures.took in
    rw (← c.captured.ensures) (rw append-nil at whole)
