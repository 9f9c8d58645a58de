-- The client keeps the id of its last message.
use Rattle.std.proofs.Common.{◌∙◌}
use Rattle.net_host.proofs.host.Host.last_id.Goals as goal

pub returns : goal.returns
returns c = λ settings before agrees. c.transaction_id.ensures ∙ agrees.dhcp.id
