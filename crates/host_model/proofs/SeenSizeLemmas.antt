-- What a look at a query gives fits a datagram.
use Rattle.std.proofs.Common.{ℕ, ◌<◌, nat_lt, zero, suc, List, [], ◌∷◌, Option, Some, None, map, take, refl, arith}
use Rattle.std.specs.Prelude.{⊤, slice_get, if◌then◌else◌}
use Rattle.std.specs.List.{AllByRecursion}
use Rattle.std.proofs.lemmas.Bool.{cond_both}
use Rattle.net_wire.specs.declared.address.IpAddress.{IpAddress}
use Rattle.net_wire.specs.declared.address.IpAddress.TheVariants as ip
use Rattle.net_wire.specs.declared.address.Ipv4Address.{Ipv4Address}
use Rattle.net_wire.specs.Arrival.{IsSendable}
use Rattle.net_wire.specs.DhcpReadBack.{HasFour}
use Rattle.net_wire.specs.IpAddress.{is_unspecified}
use Rattle.dns_client.specs.declared.query.MulticastDns.{MulticastDns}
use Rattle.dns_client.specs.declared.query.MulticastDns.TheVariants.{Disabled, Enabled}
use Rattle.dns_client.specs.Looks.{places, port_of}
use Rattle.host_model.specs.declared.held.Held.{Held}
use Rattle.host_model.specs.Anchor.{Anchor, Loss, Offer, Ack, anchor_before}
use Rattle.host_model.specs.Frames.{query_datagram}
use Rattle.host_model.specs.History.{Entry}
use Rattle.host_model.specs.Lease.{held_before}
use Rattle.host_model.specs.Queries.{address_in, around_at, servers_under}
use Rattle.host_model.specs.QueryLooks.{Around, Deed, Fails, Waits, Asks, Seen, Kept, Named, deed_at, deed_from, deed_in, seen_at, seen_by}
use Rattle.host_model.specs.QuerySlots.{Query, Slot, Free, Live, Over}
use Rattle.host_model.specs.QueryTurns.{Turn, due_in, turn_at, turn_of}
use Rattle.host_model.specs.Script.{Event}
use Rattle.host_model.specs.Settings.{Settings}
use Rattle.host_model.proofs.AddressSizeLemmas.{HasFourIn, HaveFour, take_fours}
use Rattle.host_model.proofs.AnchorSizeLemmas.{HasSixIn, HoldsFoursIn, before_fours, held_fours, hop_six}
use Rattle.host_model.proofs.HeldSizeLemmas.{AnchorsFours}
use Rattle.host_model.proofs.QuerySizeLemmas.{FitsSlot}
use Rattle.host_model.proofs.RequestSizeLemmas.{FitsRequest, question_len}

-- an address of IPv4 has its bytes
abbrev pub FitsIp : IpAddress → Type 0
FitsIp (ip.Ipv4 address) = HasFour address
FitsIp (ip.Ipv6 address) = ⊤

abbrev FitsIpIn : Option IpAddress → Type 0
FitsIpIn None = ⊤
FitsIpIn (Some address) = FitsIp address

servers_fit : (servers : List Ipv4Address) → HaveFour servers → AllByRecursion FitsIp (map ip.Ipv4 servers)
servers_fit [] fours = tt
servers_fit (server ∷ servers) fours = (fours.0, servers_fit servers fours.1)

under_fits : (anchor : Anchor) → AnchorsFours anchor → AllByRecursion FitsIp (servers_under anchor)
under_fits (Loss place) fours = tt
under_fits (Offer place since server address) fours = tt
under_fits (Ack place since granted server) fours =
    servers_fit (take 3 granted.dns_servers) (take_fours 3 granted.dns_servers fours.0.servers)

at_place : (addresses : List IpAddress) (place : ℕ) → AllByRecursion FitsIp addresses
    → FitsIpIn (slice_get addresses place)
at_place [] place fit = tt
at_place (address ∷ addresses) zero fit = fit.0
at_place (address ∷ addresses) (suc place) fit = at_place addresses place fit.1

places_fit : (servers : List IpAddress) (mdns : MulticastDns) → AllByRecursion FitsIp servers
    → AllByRecursion FitsIp (places servers mdns)
places_fit servers Disabled fit = fit
places_fit servers Enabled fit = (tt, (refl, tt))

-- what the looks go by
pub record FitsAround (around : Around) : Type 0 where
  pub servers : AllByRecursion FitsIp around.servers
  pub from : HasFourIn around.from
  pub hop : (destination : Ipv4Address) → HasSixIn (around.hop destination)

address_fits : (held : Option Held) → HoldsFoursIn held → HasFourIn (address_in held)
address_fits None holds = tt
address_fits (Some held) holds = holds.address

pub around_fits : (settings : Settings) (before : List Entry) (event : Event)
    → FitsAround (around_at settings before event)
around_fits settings before event = record {
  servers = under_fits (anchor_before settings before) (before_fours settings before);
  from = address_fits (held_before settings before) (held_fours settings before);
  hop = hop_six settings before event;
}

abbrev FitsDeed : Deed → Type 0
FitsDeed Fails = ⊤
FitsDeed Waits = ⊤
FitsDeed (Asks from to) = HasFour from × HasFour to

from_fits : (from : Option Ipv4Address) (to : IpAddress) → HasFourIn from → FitsIp to
    → FitsDeed (deed_from from to)
from_fits None to four fits = tt
from_fits (Some from) (ip.Ipv4 to) four fits = (four, fits)
from_fits (Some from) (ip.Ipv6 to) four fits = tt

deed_fits : (from : Option Ipv4Address) (due at : ℕ) (to : Option IpAddress) → HasFourIn from → FitsIpIn to
    → FitsDeed (deed_at from due at to)
deed_fits from due at None four fits = tt
deed_fits from due at (Some to) four fits =
    let later : Deed = if nat_lt at due then Waits else deed_from from to in
    cond_both (is_unspecified to) Fails later FitsDeed (λ none. tt)
    (λ some. cond_both (nat_lt at due) Waits (deed_from from to) FitsDeed (λ early. tt)
    (λ due. from_fits from to four fits))

-- what a look gives
abbrev pub FitsSeen : Seen → Type 0
FitsSeen (Kept slot) = FitsSlot slot
FitsSeen (Named ask refused sent) =
    IsSendable (query_datagram ask) × FitsRequest refused.request × FitsRequest sent.request

port_fits : (mdns : MulticastDns) → port_of mdns < 65536
port_fits Disabled = omega arith
port_fits Enabled = omega arith

seen_fits : (at : ℕ) (query : Query) (place : ℕ) (deed : Deed) → FitsRequest query.request → FitsDeed deed
    → FitsSeen (seen_by at query place deed)
seen_fits at query place Fails fits deed = tt
seen_fits at query place Waits fits deed = fits
seen_fits at query place (Asks from to) fits deed = (
  record {
    source = deed.0;
    destination = deed.1;
    source_port = fits.port;
    destination_port = port_fits query.request.mdns;
    payload = omega (
      arith,
      fits.name,
      question_len query.request.id (record { name = query.request.name; type_ = query.request.type_ }),
    );
  },
  fits,
  fits,
)

pub slot_fits : (around : Around) (at : ℕ) (slot : Slot) → FitsAround around → FitsSlot slot
    → FitsSeen (seen_at around at slot)
slot_fits around at Free fits fit = tt
slot_fits around at (Live query) fits fit =
    let turn : Turn = turn_at at (turn_of query.looks) in
    let to : Option IpAddress = slice_get (places around.servers query.request.mdns) turn.place in
    seen_fits at query turn.place (deed_in around at query.request turn) fit
    (deed_fits around.from (due_in turn.sent) at to fits.from
    (at_place (places around.servers query.request.mdns) turn.place
    (places_fit around.servers query.request.mdns fits.servers)))
slot_fits around at (Over number addresses) fits fit = tt
