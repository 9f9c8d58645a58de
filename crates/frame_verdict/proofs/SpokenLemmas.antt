-- A message whose verdict is that it is ignored leaves the anchor.
use Rattle.std.proofs.Common.{◌≡◌, ℕ, Bool, true, false, not, cond, Option, Some, None, refl, sym, ◌∙◌}
use Rattle.std.specs.Prelude.{◌&&◌, ◌||◌, ◌==◌}
use Rattle.net_wire.specs.declared.address.Ipv4Address.{Ipv4Address}
use Rattle.net_wire.specs.declared.dhcp.DhcpMessageType.{DhcpMessageType}
use Rattle.net_wire.specs.declared.dhcp.DhcpMessageType.TheVariants as kind
use Rattle.net_wire.specs.DhcpMessage.{Message}
use Rattle.net_wire.specs.Unicast.{is_unicast}
use Rattle.dhcp_client.specs.declared.state.ServerInfo.{ServerInfo}
use Rattle.dhcp_client.specs.Heard.{Ear, Heard, Nothing, AnOffer, ARefusal, ack_with, heard_by_type, heard_from, heard_of, prefix_in, server_with}
use Rattle.host_model.specs.Anchor.{Anchor, Loss, Offer, Ack, anchor_after_heard}
use Rattle.frame_verdict.specs.declared.verdict.Reason.{Reason}
use Rattle.frame_verdict.specs.declared.verdict.Reason.TheVariants as reason
use Rattle.frame_verdict.specs.declared.verdict.Verdict.{Verdict}
use Rattle.frame_verdict.specs.declared.verdict.Verdict.TheVariants as verdict
use Rattle.frame_verdict.specs.declared.verdict.Verdict.TheVariants.{Ignored}
use Rattle.frame_verdict.specs.MessageVerdict.{is_addressed, is_loss, listener_by, unless_unnamed, verdict_of_ack, verdict_of_kind, verdict_of_message, verdict_of_nak, verdict_of_offer, verdict_of_prefix}

module _ (here at : ℕ) (why : Reason) where
  -- what is heard leaves what the client goes by
  abbrev Leaves : Heard → Anchor → Type 0
  Leaves heard anchor = anchor_after_heard here at heard anchor ≡ anchor

  offered : (server : ServerInfo) (address : Ipv4Address) (is_one : Bool) (anchor : Anchor)
      → cond (not is_one) (Ignored reason.Values) (cond (not (is_loss anchor)) (Ignored reason.Offer) (verdict.Offer address))
      ≡ Ignored why
      → Leaves (cond is_one (AnOffer server address) Nothing) anchor
  offered server address false anchor said = refl
  offered server address true (Loss place) said = (let clash = said in cc)
  offered server address true (Offer place since old other) said = refl
  offered server address true (Ack place since granted old) said = refl

  granted_with : (ear : Ear) (message : Message) (anchor : Anchor) (prefix : Option ℕ)
      → verdict_of_prefix (listener_by ear anchor) message.your_ip prefix ≡ Ignored why
      → Leaves (ack_with ear.settings message prefix) anchor
  granted_with ear message anchor None said = refl
  granted_with ear message (Loss place) (Some ones) said = refl
  granted_with ear message (Offer place since old other) (Some ones) said = (let clash = said in cc)
  granted_with ear message (Ack place since granted old) (Some ones) said = (let clash = said in cc)

  acknowledged : (ear : Ear) (message : Message) (anchor : Anchor) (is_one : Bool)
      → cond (not is_one) (Ignored reason.Values) (verdict_of_prefix (listener_by ear anchor) message.your_ip (prefix_in message.subnet_mask))
      ≡ Ignored why
      → Leaves (cond is_one (ack_with ear.settings message (prefix_in message.subnet_mask)) Nothing) anchor
  acknowledged ear message anchor false said = refl
  acknowledged ear message anchor true said =
      granted_with ear message anchor (prefix_in message.subnet_mask) said

  refused : (is_deaf : Bool) (anchor : Anchor)
      → cond (is_loss anchor || is_deaf) (Ignored reason.Nak) verdict.Nak ≡ Ignored why
      → Leaves (cond is_deaf Nothing ARefusal) anchor
  refused true anchor said = refl
  refused false (Loss place) said = refl
  refused false (Offer place since old other) said = (let clash = said in cc)
  refused false (Ack place since granted old) said = (let clash = said in cc)

  -- a message that names its server
  unless_named : (message : Message) (identifier : Ipv4Address) (found : Verdict)
      → message.server_identifier ≡ Some identifier → unless_unnamed message found ≡ found
  unless_named message identifier found named = rw named refl

  by_kind : (ear : Ear) (source : Ipv4Address) (message : Message) (anchor : Anchor)
      (identifier : Ipv4Address) (kind_is : DhcpMessageType) → message.server_identifier ≡ Some identifier
      → verdict_of_kind (listener_by ear anchor) message kind_is ≡ Ignored why
      → Leaves (heard_by_type ear.settings (server_with source identifier) message kind_is) anchor
  by_kind ear source message anchor identifier kind.Discover named said = refl
  by_kind ear source message anchor identifier kind.Offer named said =
      offered (server_with source identifier) message.your_ip (is_unicast message.your_ip) anchor
      (sym (unless_named message identifier (verdict_of_offer (listener_by ear anchor) message) named) ∙ said)
  by_kind ear source message anchor identifier kind.Request named said = refl
  by_kind ear source message anchor identifier kind.Decline named said = refl
  by_kind ear source message anchor identifier kind.Ack named said =
      acknowledged ear message anchor (is_unicast message.your_ip)
      (sym (unless_named message identifier (verdict_of_ack (listener_by ear anchor) message) named) ∙ said)
  by_kind ear source message anchor identifier kind.Nak named said =
      refused ear.settings.ignore_naks anchor
      (sym (unless_named message identifier (verdict_of_nak (listener_by ear anchor)) named) ∙ said)
  by_kind ear source message anchor identifier kind.Release named said = refl
  by_kind ear source message anchor identifier kind.Inform named said = refl
  by_kind ear source message anchor identifier (kind.Unknown number) named said = refl

  by_name : (ear : Ear) (source : Ipv4Address) (message : Message) (anchor : Anchor)
      (identifier : Option Ipv4Address) → message.server_identifier ≡ identifier
      → verdict_of_kind (listener_by ear anchor) message message.message_type ≡ Ignored why
      → Leaves (heard_from ear.settings source message identifier) anchor
  by_name ear source message anchor None named said = refl
  by_name ear source message anchor (Some identifier) named said =
      by_kind ear source message anchor identifier message.message_type named said

  by_ear : (ear : Ear) (source : Ipv4Address) (message : Message) (anchor : Anchor) (addressed answers : Bool)
      → cond (not addressed) (Ignored reason.Client) (cond (not answers) (Ignored reason.Id)
      (verdict_of_kind (listener_by ear anchor) message message.message_type)) ≡ Ignored why
      → Leaves (cond (addressed && answers) (heard_from ear.settings source message message.server_identifier) Nothing) anchor
  by_ear ear source message anchor false answers said = refl
  by_ear ear source message anchor true false said = refl
  by_ear ear source message anchor true true said =
      by_name ear source message anchor message.server_identifier refl said

  pub leaves_anchor : (ear : Ear) (source : Ipv4Address) (anchor : Anchor) (message : Option Message)
      → verdict_of_message (listener_by ear anchor) message ≡ Ignored why
      → Leaves (heard_of ear source message) anchor
  leaves_anchor ear source anchor None said = refl
  leaves_anchor ear source anchor (Some message) said =
      by_ear ear source message anchor (is_addressed ear.hardware message) (message.transaction_id == ear.id) said
