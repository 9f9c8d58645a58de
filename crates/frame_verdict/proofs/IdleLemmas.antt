-- A frame that is ignored tells nothing.
use Rattle.std.proofs.Common.{◌≡◌, ℕ, Bool, true, false, not, cond, List, Option, None, Ok, Err, refl, ap, sym, subst, ◌∙◌}
use Rattle.std.specs.Prelude.{◌&&◌, ◌||◌, ◌==◌}
use Rattle.std.specs.List.{list_any}
use Rattle.std.specs.Result.{result_ok}
use Rattle.net_wire.specs.declared.address.IpAddress.TheVariants as ip
use Rattle.net_wire.specs.Arp.{arriving_arp}
use Rattle.net_wire.specs.Arrival.{arriving_datagram}
use Rattle.net_wire.specs.Datagram.{Datagram}
use Rattle.net_wire.specs.DhcpRead.{message_at}
use Rattle.dhcp_client.specs.Heard.{Nothing, heard_of}
use Rattle.dns_client.specs.Response.{is_same_address}
use Rattle.host_model.specs.Anchor.{anchor_after_heard, anchor_before}
use Rattle.host_model.specs.Hearing.{ear_after, heard_by, is_for_client}
use Rattle.host_model.specs.History.{Entry}
use Rattle.host_model.specs.Queries.{hears_datagram, servers_before, slots_before}
use Rattle.host_model.specs.QueryAnswers.{after_datagram, after_response, is_from_dns}
use Rattle.host_model.specs.QuerySlots.{Slot}
use Rattle.host_model.specs.Settings.{Settings}
use Rattle.host_model.proofs.Alike.{IsIdle}
use Rattle.frame_verdict.specs.declared.verdict.Reason.{Reason}
use Rattle.frame_verdict.specs.declared.verdict.Reason.TheVariants as reason
use Rattle.frame_verdict.specs.declared.verdict.Verdict.{Verdict}
use Rattle.frame_verdict.specs.declared.verdict.Verdict.TheVariants.{Ignored}
use Rattle.frame_verdict.specs.Brought.{Brought, brought_by}
use Rattle.frame_verdict.specs.MessageVerdict.{listener_by, verdict_of_message}
use Rattle.frame_verdict.specs.ResponseVerdict.{verdict_of_response}
use Rattle.frame_verdict.specs.Verdict.{is_name_port, verdict_of, verdict_on_brought}
use Rattle.frame_verdict.proofs.CarriedLemmas.{carries_no_arp, is_carried, tells_nothing}
use Rattle.frame_verdict.proofs.DecidedLemmas.{decides_nothing}
use Rattle.frame_verdict.proofs.SpokenLemmas.{leaves_anchor}

-- what comes from neither port comes from no name server
from_neither : (dns mdns listed : Bool) → (dns || mdns) ≡ false → (mdns || (dns && listed)) ≡ false
from_neither false false listed neither = refl
from_neither false true listed neither = neither
from_neither true mdns listed neither = (let clash = neither in cc)

module _ (settings : Settings) (before : List Entry) (why : Reason) (datagram : Datagram) where
  abbrev slots : List Slot
  slots = slots_before settings before

  heard : (here at : ℕ) (for_client : Bool) (other : Verdict)
      → cond for_client
      (verdict_of_message (listener_by (ear_after settings before) (anchor_before settings before)) (message_at datagram.payload)) other
      ≡ Ignored why
      → anchor_after_heard here at
      (cond for_client (heard_of (ear_after settings before) datagram.source (message_at datagram.payload)) Nothing)
      (anchor_before settings before)
      ≡ anchor_before settings before
  heard here at true other said =
      leaves_anchor here at why (ear_after settings before) datagram.source (anchor_before settings before)
      (message_at datagram.payload) said
  heard here at false other said = refl

  from_name : (named : Bool) → is_name_port datagram.source_port ≡ named
      → (listed : Bool) → is_from_dns (servers_before settings before) datagram ≡ listed
      → cond (not named) (Ignored reason.Port) (cond (not listed) (Ignored reason.Server)
      (verdict_of_response (after_response datagram slots))) ≡ Ignored why
      → cond listed (after_response datagram slots) slots ≡ slots
  from_name named named_is false listed_is said = refl
  from_name true named_is true listed_is said = decides_nothing datagram slots why said
  from_name false named_is true listed_is said =
      (let clash =
      sym listed_is
      ∙ from_neither (datagram.source_port == 53) (datagram.source_port == 5353)
      (list_any (λ server. is_same_address server (ip.Ipv4 datagram.source)) (servers_before settings before)) named_is in cc)

  told : (for_client : Bool) (message : Verdict)
      → cond for_client message (cond (not (is_name_port datagram.source_port)) (Ignored reason.Port)
      (cond (not (is_from_dns (servers_before settings before) datagram)) (Ignored reason.Server)
      (verdict_of_response (after_response datagram slots)))) ≡ Ignored why
      → cond for_client slots (after_datagram (servers_before settings before) datagram slots) ≡ slots
  told true message said = refl
  told false message said =
      from_name (is_name_port datagram.source_port) refl (is_from_dns (servers_before settings before) datagram) refl said

-- by what is carried
abbrev IsIdleBy : Settings → List Entry → ℕ → Option Datagram → Type 0
IsIdleBy settings before at carried =
    ((here : ℕ) → anchor_after_heard here at (heard_by (ear_after settings before) carried) (anchor_before settings before)
    ≡ anchor_before settings before)
    × (hears_datagram settings (servers_before settings before) carried (slots_before settings before)
    ≡ slots_before settings before)

idle_by : (settings : Settings) (before : List Entry) (at : ℕ) (bytes : List ℕ) (why : Reason) (brought : Brought)
    → brought_by settings.hardware bytes ≡ brought → verdict_on_brought settings before brought ≡ Ignored why
    → IsIdleBy settings before at (result_ok brought) × (arriving_arp settings.hardware bytes ≡ None)
idle_by settings before at bytes why (Ok datagram) is said = (
  (
    λ here. heard settings before why datagram here at (is_for_client settings.client datagram) _ said,
    told settings before why datagram (is_for_client settings.client datagram) _ said,
  ),
  carries_no_arp settings.hardware bytes datagram is,
)
idle_by settings before at bytes why (Err verdict) is said =
    ((λ here. refl, refl), tells_nothing settings.hardware bytes why (is ∙ ap Err said))

pub idle_of_ignored : (settings : Settings) (before : List Entry) (at : ℕ) (bytes : List ℕ) (why : Reason)
    → verdict_of settings before bytes ≡ Ignored why → IsIdle settings before at bytes
idle_of_ignored settings before at bytes why said =
    let brought : Brought = brought_by settings.hardware bytes in
    let idle = idle_by settings before at bytes why brought refl said in
    let by : IsIdleBy settings before at (arriving_datagram settings.hardware bytes) =
    subst (IsIdleBy settings before at) (is_carried settings.hardware bytes) idle.0 in
    record { no_arp = idle.1; anchor = by.0; slots = by.1 }
