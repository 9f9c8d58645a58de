-- What becomes of what goes from the port of DHCP servers to that of the client (RFC 2131, sections 4.1, 4.4.1 and 4.4.5).
use Rattle.std.specs.Prelude.{ℕ, ◌==◌, ◌||◌, Bool, true, false, not, nat_eq, Option, Some, None, if◌then◌else◌}
use Rattle.std.specs.Cmp.Lexicographic.{pointwise}
use Rattle.net_wire.specs.declared.address.EthernetAddress.{EthernetAddress}
use Rattle.net_wire.specs.declared.address.Ipv4Address.{Ipv4Address}
use Rattle.net_wire.specs.declared.dhcp.DhcpMessageType.{DhcpMessageType}
use Rattle.net_wire.specs.declared.dhcp.DhcpMessageType.TheVariants as kind
use Rattle.net_wire.specs.DhcpMessage.{Message}
use Rattle.net_wire.specs.Unicast.{is_unicast}
use Rattle.dhcp_client.specs.Heard.{Ear, cidr_with, is_named, prefix_in}
use Rattle.host_model.specs.Anchor.{Anchor, Loss, Offer, Ack}
use Rattle.frame_verdict.specs.declared.message.Listener.{Listener}
use Rattle.frame_verdict.specs.declared.verdict.Reason.TheVariants as reason
use Rattle.frame_verdict.specs.declared.verdict.Verdict.{Verdict}
use Rattle.frame_verdict.specs.declared.verdict.Verdict.TheVariants as verdict
use Rattle.frame_verdict.specs.declared.verdict.Verdict.TheVariants.{Ignored}

-- the client has neither an offer nor a lease
abbrev pub is_loss : Anchor → Bool
is_loss (Loss place) = true
is_loss (Offer place since server address) = false
is_loss (Ack place since granted server) = false

-- the DHCP client, by what it hears by and what it goes by
abbrev pub listener_by : Ear → Anchor → Listener
listener_by ear anchor = record {
  hardware = ear.hardware;
  id = ear.id;
  has_none = is_loss anchor;
  ignore_naks = ear.settings.ignore_naks;
}

-- an offer of an address counts where there is neither
abbrev pub verdict_of_offer : Listener → Message → Verdict
verdict_of_offer listener message =
    if not (is_unicast message.your_ip) then Ignored reason.Values
    else if not listener.has_none then Ignored reason.Offer
    else verdict.Offer message.your_ip

-- an acknowledgement needs a mask of ones followed by zeros, and counts with an offer or a lease
abbrev pub verdict_of_prefix : Listener → Ipv4Address → Option ℕ → Verdict
verdict_of_prefix listener address None = Ignored reason.Values
verdict_of_prefix listener address (Some ones) =
    if listener.has_none then Ignored reason.Ack else verdict.Ack (cidr_with address ones)

abbrev pub verdict_of_ack : Listener → Message → Verdict
verdict_of_ack listener message =
    if not (is_unicast message.your_ip) then Ignored reason.Values
    else verdict_of_prefix listener message.your_ip (prefix_in message.subnet_mask)

-- and so does a refusal, unless refusals are ignored
abbrev pub verdict_of_nak : Listener → Verdict
verdict_of_nak listener =
    if listener.has_none || listener.ignore_naks then Ignored reason.Nak else verdict.Nak

-- a server's message by its type; without the server that sent it, it says nothing
abbrev pub unless_unnamed : Message → Verdict → Verdict
unless_unnamed message found = if is_named message.server_identifier then found else Ignored reason.Values

abbrev pub verdict_of_kind : Listener → Message → DhcpMessageType → Verdict
verdict_of_kind listener message kind.Offer = unless_unnamed message (verdict_of_offer listener message)
verdict_of_kind listener message kind.Ack = unless_unnamed message (verdict_of_ack listener message)
verdict_of_kind listener message kind.Nak = unless_unnamed message (verdict_of_nak listener)
verdict_of_kind listener message other = Ignored reason.Kind

-- for this hardware address
abbrev pub is_addressed : EthernetAddress → Message → Bool
is_addressed hardware message = pointwise nat_eq message.client_hardware_address.0 hardware.0

-- the message that the payload is, if it is one
abbrev pub verdict_of_message : Listener → Option Message → Verdict
verdict_of_message listener None = Ignored reason.Message
verdict_of_message listener (Some message) =
    if not (is_addressed listener.hardware message) then Ignored reason.Client
    else if not (message.transaction_id == listener.id) then Ignored reason.Id
    else verdict_of_kind listener message message.message_type
