-- What the queries hear of an event.
use Rattle.std.proofs.Common.{◌≡◌, ℕ, List, cond, false, Option, Some, None, refl, ◌∙◌, ap, subst, sym}
use Rattle.net_wire.specs.declared.address.IpAddress.{IpAddress}
use Rattle.net_wire.specs.declared.arp.ArpRepr.{ArpRepr}
use Rattle.net_wire.specs.Arrival.{arriving_datagram}
use Rattle.net_wire.specs.Datagram.{Datagram}
use Rattle.dhcp_client.specs.Config.{ClientSettings}
use Rattle.dns_client.specs.Client.{client_of}
use Rattle.host_model.specs.declared.words.EventWords.{EventWords}
use Rattle.host_model.specs.Hearing.{is_for_client}
use Rattle.host_model.specs.Queries.{hears_datagram}
use Rattle.host_model.specs.QueryAnswers.{after_datagram}
use Rattle.host_model.specs.QuerySlots.{Slot}
use Rattle.host_model.specs.Script.{Frame}
use Rattle.host_model.specs.Settings.{Settings}
use Rattle.net_host.specs.declared.emitter.Emitter.{Emitter}
use Rattle.net_host.specs.declared.host.Host.{Host}
use Rattle.net_host.specs.Hearing.{after_told}
use Rattle.net_host.specs.QueryHearing.{HearsQueries}
use Rattle.net_host.specs.QueryStanding.{StandAs}

-- a datagram that is not the DHCP client's
pub told_other : (settings : Settings) (servers : List IpAddress) (slots : List Slot) (told : ClientSettings)
    (datagram : Datagram) → settings.client ≡ told → is_for_client told datagram ≡ false
    → hears_datagram settings servers (Some datagram) slots ≡ after_datagram servers datagram slots
told_other settings servers slots told datagram same other =
    ap (λ b. cond b slots (after_datagram servers datagram slots))
    (ap (λ client. is_for_client client datagram) same ∙ other)

-- what a frame carries is told to the queries, and is no query
pub frame_heard : (bytes : List ℕ) (words : EventWords) (old new : Host) (found : Option Datagram)
    → new.queries ≡ old.queries → new.out.numbers ≡ old.out.numbers
    → arriving_datagram old.out.hardware bytes ≡ found
    → ((settings : Settings) (servers : List IpAddress) (slots : List Slot) (numbers : List ℕ)
    → settings.client ≡ old.dhcp.settings → StandAs servers slots (client_of old.dns) numbers
    → StandAs servers (hears_datagram settings servers found slots) (client_of new.dns) numbers)
    → HearsQueries (Frame bytes) words old new None
frame_heard bytes words old new found count numbers_are found_is tells = record {
  counts = count;
  hears = λ settings servers slots is_hardware is_client stand.
      let datagram_is : arriving_datagram settings.hardware bytes ≡ found =
      ap (λ hardware. arriving_datagram hardware bytes) is_hardware ∙ found_is in
      record {
        stand = subst (λ one. StandAs servers (hears_datagram settings servers one slots) (client_of new.dns) new.out.numbers)
            (sym datagram_is)
            (subst (λ numbers. StandAs servers (hears_datagram settings servers found slots) (client_of new.dns) numbers)
            (sym numbers_are) (tells settings servers slots old.out.numbers is_client stand));
        line = refl;
      };
}

-- what an ARP packet tells leaves the numbers
pub told_numbers : (told : Option ArpRepr) (out : Emitter) → (after_told told out).numbers ≡ out.numbers
told_numbers None out = refl
told_numbers (Some arp) out = refl

pub told_hardware : (told : Option ArpRepr) (out : Emitter) → (after_told told out).hardware ≡ out.hardware
told_hardware None out = refl
told_hardware (Some arp) out = refl
