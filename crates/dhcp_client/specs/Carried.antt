-- The client's plans and messages without where their parts lie in memory.
use Rattle.std.specs.Prelude.{◌≡◌, ⊤}
use Rattle.net_wire.specs.declared.protocol.IpProtocol.TheVariants.{Udp}
use Rattle.net_wire.specs.DhcpBytes.{IsWritable}
use Rattle.dhcp_client.specs.declared.messages.OutgoingMessage.{OutgoingMessage}
use Rattle.dhcp_client.specs.declared.plan.Plan as declared
use Rattle.dhcp_client.specs.declared.plan.Plan.TheVariants as variant
use Rattle.dhcp_client.specs.Messages.{Outgoing, outgoing_of}
use Rattle.dhcp_client.specs.Plan.{Plan, Wait, Restart, Send}

abbrev pub outgoing_value : OutgoingMessage → Outgoing
outgoing_value outgoing = outgoing_of outgoing.ip outgoing.udp outgoing.dhcp

abbrev pub plan_value : declared.Plan → Plan
plan_value variant.Wait = Wait
plan_value variant.Restart = Restart
plan_value (variant.Send outgoing before after) = Send (outgoing_value outgoing) before after

-- the message, if there is one, can be written, and goes by UDP
abbrev pub IsWritablePlan : Plan → Type 0
IsWritablePlan Wait = ⊤
IsWritablePlan Restart = ⊤
IsWritablePlan (Send outgoing before after) = IsWritable outgoing.message × (outgoing.ip.next_header ≡ Udp)
