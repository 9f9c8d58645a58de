use Rattle.std.proofs.Common.{append-nil}
use Rattle.host_top.proofs.TextLemmas.{puts_same, puts_then}
use Rattle.host_top.proofs.show_command.put_remark.Goals as goal

pub returns : goal.returns
returns g c = puts_same (puts_then (puts_then c.put.ensures c.put_last_line.ensures) c.flush.ensures) (append-nil _)
