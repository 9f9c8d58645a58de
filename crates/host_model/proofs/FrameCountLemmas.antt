-- The frames of queries that an event lists are those of its messages.
use Rattle.std.proofs.Common.{◌≡◌, ℕ, ◌≤◌, cond, List, [], ◌∷◌, Option, Some, None, refl, arith}
use Rattle.std.specs.Prelude.{count_by, map}
use Rattle.std.proofs.lemmas.Bool.{cond_both}
use Rattle.std.proofs.lemmas.List.Sums.{sum_by-append, sum_by-cons}
use Rattle.net_wire.specs.declared.address.EthernetAddress.{EthernetAddress}
use Rattle.net_wire.specs.declared.address.Ipv4Address.{Ipv4Address}
use Rattle.net_wire.specs.declared.arp.ArpRepr.{ArpRepr}
use Rattle.host_model.specs.declared.held.Held.{Held}
use Rattle.host_model.specs.declared.words.EventWords.{EventWords}
use Rattle.host_model.specs.Frames.{Listed, ArpReply, Dns, asks_for, dhcp_asked, dhcp_frames, dns_frames, frames_of, hop_of_unknown, lease_frames, not_asked, query_frames, replies, reply_to, requests, sent_or_asked}
use Rattle.host_model.specs.History.{Entry, Transmission}
use Rattle.host_model.specs.Lease.{held_before}
use Rattle.host_model.specs.Named.{named_message}
use Rattle.host_model.specs.Neighbor.{hop_address, known_hop, told_by}
use Rattle.host_model.specs.Queries.{looks_at}
use Rattle.host_model.specs.QueryLooks.{Looks, SentAsk}
use Rattle.host_model.specs.QuerySends.{AreRising, all_asks, all_frames, is_frame_to, is_to_place}
use Rattle.host_model.specs.Script.{Event}
use Rattle.host_model.specs.Settings.{Settings}
use Rattle.host_model.proofs.QuerySpareLemmas.{four_messages}

module _ (number place : ℕ) where
  abbrev counted : List Listed → ℕ
  counted frames = count_by (is_frame_to number place) frames

  abbrev one_for : Listed → ℕ
  one_for listed = cond (is_frame_to number place listed) 1 0

  abbrev sent_in : List SentAsk → ℕ
  sent_in asks = count_by (is_to_place number place) asks

  no_reply : (hardware : EthernetAddress) (held : Option Held) (told : Option ArpRepr)
      → counted (replies hardware held told) ≡ 0
  no_reply hardware None told = refl
  no_reply hardware (Some held) None = refl
  no_reply hardware (Some held) (Some arp) =
      cond_both (asks_for held arp) (ArpReply arp.source_hardware_addr (reply_to hardware held arp) ∷ []) []
      (λ frames. counted frames ≡ 0) (λ asks. refl) (λ other. refl)

  no_request : (hardware : EthernetAddress) (held : Option Held) (address : Option Ipv4Address)
      → counted (requests hardware held address) ≡ 0
  no_request hardware None address = refl
  no_request hardware (Some held) None = refl
  no_request hardware (Some held) (Some address) = refl

  by_hop : (hardware : EthernetAddress) (held : Option Held) (transmission : Transmission)
      (hop : Option EthernetAddress) → counted (sent_or_asked hardware held transmission hop) ≡ 0
  by_hop hardware held transmission (Some hop) = refl
  by_hop hardware held transmission None = no_request hardware held (hop_address held transmission.destination)

  no_dhcp : (hardware : EthernetAddress) (held : Option Held) (hop : Ipv4Address → Option EthernetAddress)
      (message : Option Transmission) → counted (dhcp_frames hardware held hop message) ≡ 0
  no_dhcp hardware held hop None = refl
  no_dhcp hardware held hop (Some transmission) = by_hop hardware held transmission (hop transmission.destination)

  asks_count : (asks : List SentAsk) → counted (map Dns asks) ≡ sent_in asks
  asks_count [] = refl
  asks_count (sent ∷ asks) = omega (
    arith,
    sum_by-cons one_for (Dns sent) (map Dns asks),
    sum_by-cons (λ x. cond (is_to_place number place x) 1 0) sent asks,
    asks_count asks,
  )

  dns_count : (hardware : EthernetAddress) (held : Option Held) (asked : Option Ipv4Address) (looks : Looks)
      → counted (dns_frames hardware held asked looks) ≡ sent_in looks.asks
  dns_count hardware held asked looks = omega (
    arith,
    sum_by-append one_for (map Dns looks.asks)
        (requests hardware held (not_asked asked (hop_of_unknown held looks.unknown))),
    asks_count looks.asks,
    no_request hardware held (not_asked asked (hop_of_unknown held looks.unknown)),
  )

  frames_count : (settings : Settings) (before : List Entry) (event : Event) (words : EventWords)
      → counted (frames_of settings before event words) ≡ sent_in (looks_at settings before event words).asks
  frames_count settings before event words =
      let held : Option Held = held_before settings before in
      let message : Option Transmission = named_message settings before event words in
      omega (
        arith,
        sum_by-append one_for (lease_frames settings before event words) (query_frames settings before event words),
        sum_by-append one_for (replies settings.hardware held (told_by settings event.arrival))
            (dhcp_frames settings.hardware held (known_hop settings before event) message),
        no_reply settings.hardware held (told_by settings event.arrival),
        no_dhcp settings.hardware held (known_hop settings before event) message,
        dns_count settings.hardware held (dhcp_asked held (known_hop settings before event) message)
            (looks_at settings before event words),
      )

  all_count : (settings : Settings) (entries : List Entry)
      → counted (all_frames settings entries) ≡ sent_in (all_asks settings entries)
  all_count settings [] = refl
  all_count settings (entry ∷ before) = omega (
    arith,
    sum_by-append one_for (all_frames settings before) (frames_of settings before entry.event entry.words),
    sum_by-append (λ x. cond (is_to_place number place x) 1 0) (all_asks settings before)
        (looks_at settings before entry.event entry.words).asks,
    all_count settings before,
    frames_count settings before entry.event entry.words,
  )

pub four_frames : (settings : Settings) (entries : List Entry) → AreRising entries → (number place : ℕ)
    → count_by (is_frame_to number place) (all_frames settings entries) ≤ 4
four_frames settings entries rising number place =
    omega (arith, all_count number place settings entries, four_messages settings entries rising number place)
