-- The sink has taken the pieces so far.
use Rattle.std.proofs.Common.{Ok, take}
use Rattle.std.specs.List.{flat_map}
use Rattle.phy_layers.specs.Sink.{Took}
use Rattle.phy_layers.proofs.pcap.write_pieces.Given as goal

abbrev pub invariant-loop-piece : goal.invariant-loop-piece
invariant-loop-piece g l =
    Took g.S.ByteSink.bytes g.S.ByteSink.faults g.S.ByteSink.grows (Ok tt)
    (flat_map (λ piece. piece.now) (take l.piece-index l.pieces))
    l.initial.sink l.sink
