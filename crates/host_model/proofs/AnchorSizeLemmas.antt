-- What is sent and listed has the sizes of its fields.
use Rattle.std.proofs.Common.{ℕ, ◌-◌, nat_lt, List, [], ◌∷◌, Option, Some, None, length, refl}
use Rattle.std.specs.Prelude.{⊤}
use Rattle.std.proofs.lemmas.Bool.{cond_both}
use Rattle.net_wire.specs.declared.address.EthernetAddress.{EthernetAddress}
use Rattle.net_wire.specs.declared.address.Ipv4Address.{Ipv4Address}
use Rattle.net_wire.specs.declared.arp.ArpRepr.{ArpRepr}
use Rattle.net_wire.specs.DhcpReadBack.{HasFour}
use Rattle.dhcp_client.specs.Hearing.{same_address}
use Rattle.dhcp_client.specs.Messages.{limited_broadcast}
use Rattle.host_model.specs.declared.held.Held.{Held}
use Rattle.host_model.specs.declared.neighbor.Neighbor.{Neighbor}
use Rattle.host_model.specs.Script.{Arrival, Tick, Reset, Frame, Query, Event}
use Rattle.host_model.specs.Settings.{Settings}
use Rattle.host_model.specs.History.{Entry, times_since}
use Rattle.host_model.specs.Anchor.{Anchor, Loss, Offer, Ack, anchor_after, anchor_after_arrival, anchor_at, anchor_before, is_over, place_of}
use Rattle.host_model.specs.Lease.{held_before, held_under}
use Rattle.host_model.specs.Neighbor.{ethernet_broadcast, events_of, hop_address, hop_of, is_on_network, known_at, known_hop, neighbor_in, or_told, told_by}
use Rattle.host_model.specs.Sizes.{HasSix}
use Rattle.host_model.proofs.HeldSizeLemmas.{AnchorsFours, arrival_fours}
use Rattle.host_model.proofs.AddressSizeLemmas.{HasFourIn}
use Rattle.host_model.proofs.ReadSizeLemmas.{HasSender, sender_sized}

after_fours : (settings : Settings) (before : List Entry) (event : Event) (had : Anchor) → AnchorsFours had
    → AnchorsFours (anchor_after settings before event had)
after_fours settings before event had fours =
    let anchor : Anchor = anchor_after_arrival settings before event.at event.arrival had in
    cond_both (is_over settings.client.retry (times_since (place_of anchor) before) event.at anchor)
    (Loss (length before)) anchor AnchorsFours (λ over. tt)
    (λ going. arrival_fours settings before event.at event.arrival had fours)

pub before_fours : (settings : Settings) (before : List Entry) → AnchorsFours (anchor_before settings before)
before_fours settings [] = tt
before_fours settings (entry ∷ before) =
    after_fours settings before entry.event (anchor_before settings before) (before_fours settings before)

pub at_fours : (settings : Settings) (before : List Entry) (event : Event)
    → AnchorsFours (anchor_at settings before event)
at_fours settings before event =
    after_fours settings before event (anchor_before settings before) (before_fours settings before)

-- what is held
pub record HoldsFours (held : Held) : Type 0 where
  pub address : HasFour held.address.address
  pub router : HasFourIn held.router

abbrev pub HoldsFoursIn : Option Held → Type 0
HoldsFoursIn None = ⊤
HoldsFoursIn (Some held) = HoldsFours held

under_fours : (anchor : Anchor) → AnchorsFours anchor → HoldsFoursIn (held_under anchor)
under_fours (Loss place) fours = tt
under_fours (Offer place since server address) fours = tt
under_fours (Ack place since granted server) fours =
    record { address = fours.0.address; router = fours.0.router }

pub held_fours : (settings : Settings) (before : List Entry) → HoldsFoursIn (held_before settings before)
held_fours settings before = under_fours (anchor_before settings before) (before_fours settings before)

pub hop_fours : (held : Option Held) (destination : Ipv4Address) → HoldsFoursIn held → HasFour destination
    → HasFourIn (hop_address held destination)
hop_fours None destination holds four = tt
hop_fours (Some held) destination holds four =
    cond_both (is_on_network held destination) (Some destination) held.router HasFourIn (λ on. four)
    (λ off. holds.router)

-- the stations that are known have addresses of six bytes
abbrev pub HasSixIn : Option EthernetAddress → Type 0
HasSixIn None = ⊤
HasSixIn (Some station) = HasSix station

abbrev KnowsSix : Option Neighbor → Type 0
KnowsSix None = ⊤
KnowsSix (Some neighbor) = HasSix neighbor.hardware

pub told_sender : (settings : Settings) (arrival : Arrival) → HasSender (told_by settings arrival)
told_sender settings Tick = tt
told_sender settings Reset = tt
told_sender settings (Frame bytes) = sender_sized settings.hardware bytes
told_sender settings (Query type_ name) = tt

told_six : (address : Ipv4Address) (at : ℕ) (told : Option ArpRepr) (known : Option Neighbor) → HasSender told
    → KnowsSix known → KnowsSix (or_told address at told known)
told_six address at None known sender knows = knows
told_six address at (Some arp) known sender knows =
    cond_both (same_address arp.source_protocol_addr address)
    (Some (record { hardware = arp.source_hardware_addr; since = at })) known KnowsSix (λ same. sender.0)
    (λ other. knows)

neighbor_six : (settings : Settings) (events : List Event) (address : Ipv4Address)
    → KnowsSix (neighbor_in settings events address)
neighbor_six settings [] address = tt
neighbor_six settings (event ∷ events) address =
    told_six address event.at (told_by settings event.arrival) (neighbor_in settings events address)
    (told_sender settings event.arrival) (neighbor_six settings events address)

young_six : (at : ℕ) (known : Option Neighbor) → KnowsSix known → HasSixIn (hop_of at known)
young_six at None knows = tt
young_six at (Some neighbor) knows =
    cond_both (nat_lt (at - neighbor.since) 60000000) (Some neighbor.hardware) None HasSixIn (λ young. knows)
    (λ old. tt)

at_six : (settings : Settings) (events : List Event) (at : ℕ) (address : Option Ipv4Address)
    → HasSixIn (known_at settings events at address)
at_six settings events at None = tt
at_six settings events at (Some address) =
    young_six at (neighbor_in settings events address) (neighbor_six settings events address)

pub hop_six : (settings : Settings) (before : List Entry) (event : Event) (destination : Ipv4Address)
    → HasSixIn (known_hop settings before event destination)
hop_six settings before event destination =
    let next = hop_address (held_before settings before) destination in
    cond_both (same_address destination limited_broadcast) (Some ethernet_broadcast)
    (known_at settings (event ∷ events_of before) event.at next) HasSixIn (λ to_all. refl)
    (λ other. at_six settings (event ∷ events_of before) event.at next)
