use Rattle.net_wire.proofs.ProtocolLemmas.{each_number_is_its_protocol}
use Rattle.net_wire.proofs.protocol.each_number_is_its_protocol.Goals as goal

pub returns : goal.returns
returns c = each_number_is_its_protocol
