use Rattle.std.proofs.lemmas.Result.{err_from_is_err_and}
use Rattle.phy_layers.proofs.SinkLemmas.{took_then, stops}
use Rattle.phy_layers.proofs.conversion.convert.Goals as goal

pub returns-in_err-global_header : goal.returns-in_err-global_header
returns-in_err-global_header g c =
    let refused = err_from_is_err_and c.from_residual.result c.from_residual.ensures.1 in
    rw (refused.1, refused.2) (stops _ c.in_err-global_header.ensures)

pub returns : goal.returns
returns g c = took_then c.in_ok-global_header.ensures c.packet.ensures
