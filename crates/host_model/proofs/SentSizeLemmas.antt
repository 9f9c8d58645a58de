-- Messages that are sent fit a datagram.
use Rattle.std.proofs.Common.{ℕ, ◌≤◌, nat_lt, List, Option, Some, None, length, refl, arith}
use Rattle.std.specs.Prelude.{⊤}
use Rattle.std.proofs.lemmas.Bool.{cond_both}
use Rattle.net_wire.specs.declared.dhcp.DhcpMessageType.TheVariants.{Discover, Request}
use Rattle.net_wire.specs.DhcpBytes.{message_bytes}
use Rattle.net_wire.specs.DhcpReadBack.{HasFour}
use Rattle.dhcp_client.specs.Config.{AreSettingsWritable}
use Rattle.dhcp_client.specs.Messages.{limited_broadcast, unspecified}
use Rattle.dhcp_client.proofs.MessageLemmas.{length-message}
use Rattle.host_model.specs.declared.words.EventWords.{EventWords}
use Rattle.host_model.specs.Script.{Event}
use Rattle.host_model.specs.Settings.{Settings}
use Rattle.host_model.specs.History.{Entry, Transmission, last_id, times_since}
use Rattle.host_model.specs.Anchor.{Anchor, Loss, Offer, Ack, anchor_at, due_under, lease_times, place_of}
use Rattle.host_model.specs.Named.{message_under, named_message}
use Rattle.host_model.specs.Sizes.{HasSix}
use Rattle.host_model.proofs.HeldSizeLemmas.{AnchorsFours}
use Rattle.host_model.proofs.AnchorSizeLemmas.{at_fours}

-- a message is sent between addresses of four bytes, and is short enough
pub record FitsMessage (transmission : Transmission) : Type 0 where
  pub source : HasFour transmission.source
  pub destination : HasFour transmission.destination
  pub payload : length (message_bytes transmission.message) ≤ 65507

abbrev pub FitsMessageIn : Option Transmission → Type 0
FitsMessageIn None = ⊤
FitsMessageIn (Some transmission) = FitsMessage transmission

module _ (settings : Settings) (six : HasSix settings.hardware)
    (writable : AreSettingsWritable settings.client settings.ip_mtu) where
  under_fits : (id at : ℕ) (words : EventWords) (anchor : Anchor) → AnchorsFours anchor
      → FitsMessage (message_under settings id at words anchor)
  under_fits id at words (Loss place) fours = record {
    source = refl;
    destination = refl;
    payload = omega (
      arith,
      writable.size,
      length-message Discover unspecified None None settings.hardware settings.ip_mtu words.first
          settings.client.parameters settings.client.options six refl,
    );
  }
  under_fits id at words (Offer place since server address) fours = record {
    source = refl;
    destination = refl;
    payload = omega (
      arith,
      writable.size,
      fours.identifier,
      fours.offered,
      length-message Request unspecified (Some server.identifier) (Some address) settings.hardware
          settings.ip_mtu id settings.client.parameters settings.client.options six refl,
    );
  }
  under_fits id at words (Ack place since granted server) fours = record {
    source = fours.0.address;
    destination =
        cond_both (nat_lt at (lease_times since granted).rebind) server.address limited_broadcast HasFour
        (λ before. fours.1) (λ after. refl);
    payload = omega (
      arith,
      writable.size,
      length-message Request granted.address.address None None settings.hardware settings.ip_mtu words.first
          settings.client.parameters settings.client.options six fours.0.address,
    );
  }

  pub named_fits : (before : List Entry) (event : Event) (words : EventWords)
      → FitsMessageIn (named_message settings before event words)
  named_fits before event words =
      let anchor : Anchor = anchor_at settings before event in
      cond_both
      (nat_lt event.at (due_under settings.client.retry (times_since (place_of anchor) before) anchor))
      None (Some (message_under settings (last_id before) event.at words anchor)) FitsMessageIn (λ early. tt)
      (λ due. under_fits (last_id before) event.at words anchor (at_fours settings before event))
