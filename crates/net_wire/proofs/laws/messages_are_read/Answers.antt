use Rattle.net_wire.proofs.DhcpReadBackLemmas.{reads_written}
use Rattle.net_wire.proofs.laws.messages_are_read.Goals as goal

pub returns : goal.returns
returns c = reads_written
