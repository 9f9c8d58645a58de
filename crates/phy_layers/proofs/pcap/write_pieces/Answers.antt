use Rattle.std.proofs.Common.{◌+◌, ◌<◌, length, Ok, arith}
use Rattle.std.proofs.lemmas.Result.{err_from_is_err_and}
use Rattle.phy_layers.proofs.SinkLemmas.{took_then, stops, flat_map-take_more, flat_map-take-drop}
use Rattle.phy_layers.proofs.pcap.write_pieces.Goals as goal

-- What was refused is a front of the piece, so what was taken is a front of all pieces.
pub returns-in_err-write : goal.returns-in_err-write
returns-in_err-write g c =
    let refused = err_from_is_err_and c.from_residual.result c.from_residual.ensures.1 in
    let within : c.loop-piece.piece-index < length c.args.pieces.now = omega arith in
    let so_far =
    flat_map-take_more (λ piece. piece.now) c.args.pieces.now c.loop-piece.piece-index _ within in
    rw (
      refused.1,
      refused.2,
      ← flat_map-take-drop (λ piece. piece.now) c.args.pieces.now (c.loop-piece.piece-index + 1),
      so_far,
    )
    (stops _ (took_then c.loop-piece.invariant c.in_err-write.ensures.took))

pub loop-piece-preserved : goal.loop-piece-preserved
loop-piece-preserved g c =
    let within : c.loop-piece.piece-index < length c.args.pieces.now = omega arith in
    let so_far =
    flat_map-take_more (λ piece. piece.now) c.args.pieces.now c.loop-piece.piece-index _ within in
    rw so_far (took_then {result = Ok tt} c.loop-piece.invariant c.in_ok-write.ensures.took)
