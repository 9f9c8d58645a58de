-- All that is listed fits a frame.
use Rattle.std.proofs.Common.{List, [], ◌∷◌, ◌++◌, Option, Some, None, map, refl, arith}
use Rattle.std.specs.List.{AllByRecursion}
use Rattle.std.proofs.lemmas.Bool.{cond_both}
use Rattle.net_wire.specs.declared.address.EthernetAddress.{EthernetAddress}
use Rattle.net_wire.specs.declared.address.Ipv4Address.{Ipv4Address}
use Rattle.net_wire.specs.declared.arp.ArpRepr.{ArpRepr}
use Rattle.dhcp_client.specs.Config.{AreSettingsWritable}
use Rattle.dhcp_client.specs.Hearing.{same_address}
use Rattle.host_model.specs.declared.held.Held.{Held}
use Rattle.host_model.specs.declared.words.EventWords.{EventWords}
use Rattle.host_model.specs.Script.{Event}
use Rattle.host_model.specs.Settings.{Settings}
use Rattle.host_model.specs.History.{Entry, Transmission}
use Rattle.host_model.specs.Frames.{Listed, asks_for, dhcp_asked, dhcp_frames, dns_frames, frames_of, hop_of_unknown, lease_frames, not_asked, query_frames, replies, reply_to, requests, sent_or_asked}
use Rattle.host_model.specs.Frames as listed
use Rattle.host_model.specs.Lease.{held_before}
use Rattle.host_model.specs.Named.{named_message}
use Rattle.host_model.specs.Neighbor.{hop_address, known_hop, told_by}
use Rattle.host_model.specs.Queries.{looks_at}
use Rattle.host_model.specs.QueryLooks.{Looks, SentAsk}
use Rattle.host_model.specs.Sizes.{FitsFrame, HasSix}
use Rattle.host_model.proofs.AnchorSizeLemmas.{HasSixIn, HoldsFoursIn, held_fours, hop_fours, hop_six, told_sender}
use Rattle.host_model.proofs.AddressSizeLemmas.{HasFourIn}
use Rattle.host_model.proofs.LookSizeLemmas.{FitsAsk, FitsLooks, looks_fit}
use Rattle.host_model.proofs.ReadSizeLemmas.{HasSender}
use Rattle.host_model.proofs.SentSizeLemmas.{FitsMessage, FitsMessageIn, named_fits}

abbrev AllFit : List Listed → Type 0
AllFit listed = AllByRecursion FitsFrame listed

both_fit : (some more : List Listed) → AllFit some → AllFit more → AllFit (some ++ more)
both_fit [] more fit more_fit = more_fit
both_fit (one ∷ some) more fit more_fit = (fit.0, both_fit some more fit.1 more_fit)

module _ (settings : Settings) (six : HasSix settings.hardware)
    (writable : AreSettingsWritable settings.client settings.ip_mtu) where
  replies_fit : (held : Option Held) (told : Option ArpRepr) → HoldsFoursIn held → HasSender told
      → AllFit (replies settings.hardware held told)
  replies_fit None told holds sender = tt
  replies_fit (Some held) None holds sender = tt
  replies_fit (Some held) (Some arp) holds sender =
      cond_both (asks_for held arp)
      (listed.ArpReply arp.source_hardware_addr (reply_to settings.hardware held arp) ∷ []) [] AllFit
      (λ asks. (
        (
          sender.0,
          record {
            operation = omega arith;
            source_hardware = six;
            source_protocol = holds.address;
            target_hardware = sender.0;
            target_protocol = sender.1;
          },
        ),
        tt,
      ))
      (λ other. tt)

  requests_fit : (held : Option Held) (address : Option Ipv4Address) → HoldsFoursIn held → HasFourIn address
      → AllFit (requests settings.hardware held address)
  requests_fit None address holds four = tt
  requests_fit (Some held) None holds four = tt
  requests_fit (Some held) (Some address) holds four = (
    (
      refl,
      record {
        operation = omega arith;
        source_hardware = six;
        source_protocol = holds.address;
        target_hardware = refl;
        target_protocol = four;
      },
    ),
    tt,
  )

  sent_fits : (held : Option Held) (transmission : Transmission) (hop : Option EthernetAddress)
      → HoldsFoursIn held → FitsMessage transmission → HasSixIn hop
      → AllFit (sent_or_asked settings.hardware held transmission hop)
  sent_fits held transmission (Some hop) holds fits station = (
    record {
      hop = station;
      source = fits.source;
      destination = fits.destination;
      payload = fits.payload;
    },
    tt,
  )
  sent_fits held transmission None holds fits station =
      requests_fit held (hop_address held transmission.destination) holds
      (hop_fours held transmission.destination holds fits.destination)

  dhcp_fits : (before : List Entry) (event : Event) (message : Option Transmission) → FitsMessageIn message
      → AllFit (dhcp_frames settings.hardware (held_before settings before) (known_hop settings before event)
      message)
  dhcp_fits before event None fits = tt
  dhcp_fits before event (Some transmission) fits =
      sent_fits (held_before settings before) transmission
      (known_hop settings before event transmission.destination) (held_fours settings before) fits
      (hop_six settings before event transmission.destination)

  asks_fit : (asks : List SentAsk) → AllByRecursion FitsAsk asks → AllFit (map listed.Dns asks)
  asks_fit [] fit = tt
  asks_fit (ask ∷ asks) fit = (fit.0, asks_fit asks fit.1)

  unknown_fours : (held : Option Held) (unknown : Option Ipv4Address) → HoldsFoursIn held → HasFourIn unknown
      → HasFourIn (hop_of_unknown held unknown)
  unknown_fours held None holds four = tt
  unknown_fours held (Some destination) holds four = hop_fours held destination holds four

  not_asked_four : (asked address : Option Ipv4Address) → HasFourIn address
      → HasFourIn (not_asked asked address)
  not_asked_four None None four = tt
  not_asked_four (Some asked) None four = tt
  not_asked_four None (Some address) four = four
  not_asked_four (Some asked) (Some address) four =
      cond_both (same_address asked address) None (Some address) HasFourIn (λ same. tt) (λ other. four)

  dns_fits : (held : Option Held) (asked : Option Ipv4Address) (looks : Looks) → HoldsFoursIn held
      → FitsLooks looks → AllFit (dns_frames settings.hardware held asked looks)
  dns_fits held asked looks holds fits =
      let address : Option Ipv4Address = hop_of_unknown held looks.unknown in
      both_fit (map listed.Dns looks.asks) (requests settings.hardware held (not_asked asked address))
      (asks_fit looks.asks fits.asks)
      (requests_fit held (not_asked asked address) holds
      (not_asked_four asked address (unknown_fours held looks.unknown holds fits.unknown)))

  lease_fits : (before : List Entry) (event : Event) (words : EventWords)
      → AllFit (lease_frames settings before event words)
  lease_fits before event words =
      both_fit (replies settings.hardware (held_before settings before) (told_by settings event.arrival))
      (dhcp_frames settings.hardware (held_before settings before) (known_hop settings before event)
      (named_message settings before event words))
      (replies_fit (held_before settings before) (told_by settings event.arrival) (held_fours settings before)
      (told_sender settings event.arrival))
      (dhcp_fits before event (named_message settings before event words)
      (named_fits settings six writable before event words))

  pub frames_fit : (before : List Entry) (event : Event) (words : EventWords)
      → AllFit (frames_of settings before event words)
  frames_fit before event words =
      both_fit (lease_frames settings before event words) (query_frames settings before event words)
      (lease_fits before event words)
      (dns_fits (held_before settings before)
      (dhcp_asked (held_before settings before) (known_hop settings before event)
      (named_message settings before event words))
      (looks_at settings before event words) (held_fours settings before)
      (looks_fit settings before event words))
