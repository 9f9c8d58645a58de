-- What lies past the piece is as it was.
use Rattle.std.proofs.Common.{◌+◌, ◌-◌, length, arith}
use Rattle.std.proofs.lemmas.Slice.{drop-put_mid}
use Rattle.wire_base.proofs.number.append.Goals as goal

pub returns-clause-rest : goal.returns-clause-rest
returns-clause-rest c = λ n past.
    drop-put_mid c.args.at (c.args.at + length c.args.piece.now - c.args.at) c.args.into.now c.copy_from_slice.new.self n
    (omega arith) (omega arith) (omega (arith, c.copy_from_slice.ensures.len))
