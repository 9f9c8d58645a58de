-- One dispatch of a host's DNS client: it moves slots from the rest to those that are settled.
use Rattle.std.proofs.Common.{◌≡◌, ℕ, ◌<◌, false, List, [], ◌∷◌, ◌++◌, map, Option, Some, ℤ, pos, Result, sym, ◌∙◌, ap, ap₂, subst, subst₂, append-nil, append_assoc, unwrap_or}
use Rattle.net_wire.specs.declared.address.EthernetAddress.{EthernetAddress}
use Rattle.net_wire.specs.declared.address.IpAddress.{IpAddress}
use Rattle.net_wire.specs.declared.address.IpAddress.TheVariants as ip
use Rattle.net_wire.specs.declared.address.Ipv4Address.{Ipv4Address}
use Rattle.net_wire.specs.declared.error.EmitError.{EmitError}
use Rattle.net_wire.specs.Datagram.{IsSentFrame}
use Rattle.dns_client.specs.Client.{Client}
use Rattle.dns_client.specs.Emit.{Outgoing}
use Rattle.dns_client.specs.Looks.{behind, look, walk, message_for, Dispatched}
use Rattle.dns_client.specs.Slots.{Slots, least_due}
use Rattle.host_model.specs.declared.held.Held.{Held}
use Rattle.host_model.specs.Frames.{query_datagram}
use Rattle.host_model.specs.Queries.{address_in}
use Rattle.host_model.specs.QueryLooks.{Around, Ask, Looks, looks_from}
use Rattle.host_model.specs.QuerySlots.{Slot, is_any_due}
use Rattle.host_model.specs.QueryTurns.{asked_after}
use Rattle.host_model.specs.Script.{time_limit}
use Rattle.net_host.specs.declared.emitter.Emitter.{Emitter}
use Rattle.net_host.specs.declared.report.Sent.{Sent}
use Rattle.net_host.specs.Emitter.{hop_by}
use Rattle.net_host.specs.QueryEmitter.{source_for, number_at, query_sent, datagram_with, TakesQuery, RefusesQuery}
use Rattle.net_host.specs.QueryLeaving.{LeavesLooks}
use Rattle.net_host.specs.QueryPolling.{is_reached, DispatchesQueries}
use Rattle.net_host.specs.QueryStanding.{StandAs, standing_in, number_in}
use Rattle.net_host.proofs.QueryDueLemmas.{reached_is}
use Rattle.net_host.proofs.QuerySegments.{segment, with_front, looks_none}
use Rattle.net_host.proofs.QueryWalkLemmas.{walk_of, walk_is, AreSettled, walk_behind, due_behind}

-- a message of the history that the emitter took
pub record SendsAsk (ask : Ask) (out mid : Emitter) : Type 0 where
  pub hop : EthernetAddress
  pub frame : List ℕ
  pub known : hop_by out ask.to ≡ Some hop
  pub carries : IsSentFrame out.hardware hop 64 (query_datagram ask) frame
  pub mid_is : mid ≡ record out { sent = out.sent ++ query_sent ask.query ask.place frame ∷ [] }

abbrev pub address_of : Ipv4Address → IpAddress → Ipv4Address
address_of other (ip.Ipv4 address) = address
address_of other (ip.Ipv6 address) = other

abbrev pub message_of : ℕ → ℕ → Ask → Outgoing
message_of slot place ask =
    message_for (record { slot = slot; place = place; from = ip.Ipv4 ask.from; to = ip.Ipv4 ask.to; hop_limit = 64 }) ask.request

pub took : (slot place : ℕ) (ask : Ask) (out mid : Emitter) → number_at out.numbers slot ≡ ask.query → place ≡ ask.place
    → TakesQuery out mid (message_of slot place ask) → SendsAsk ask out mid
took slot place ask out mid is_number is_place take =
    let to_is : ask.to ≡ take.to = ap (address_of ask.to) take.destination in
    let from_is : ask.from ≡ take.from = ap (address_of ask.from) take.source in
    record {
      hop = take.hop;
      frame = take.frame;
      known = ap (hop_by out) to_is ∙ take.known;
      carries = subst₂ (λ from to. IsSentFrame out.hardware take.hop 64 (datagram_with from to (message_of slot place ask)) take.frame)
          (sym from_is) (sym to_is) take.carries;
      mid_is = take.listed ∙ ap₂ (λ query at. record out { sent = out.sent ++ query_sent query at take.frame ∷ [] }) is_number is_place;
    }

-- frames that were sent one after another
pub joined : (out mid later : Emitter) (front more : List Sent) (unknown : Option Ipv4Address) → mid ≡ record out { sent = out.sent ++ front }
    → later ≡ record mid { sent = mid.sent ++ more; refused = asked_after unknown mid.refused }
    → later ≡ record out { sent = out.sent ++ (front ++ more); refused = asked_after unknown out.refused }
joined out mid later front more unknown mid_is later_is =
    later_is ∙ ap (λ (e : Emitter). record e { sent = e.sent ++ more; refused = asked_after unknown e.refused }) mid_is
    ∙ ap (λ (s : List Sent). record out { sent = s; refused = asked_after unknown out.refused }) (append_assoc out.sent front more)

module _ (around : Around) (held : Option Held) (from_is : around.from ≡ address_in held) (at : ℕ) (small : at < time_limit) where
  -- a front that is settled, and the rest, as they stand in a client
  pub record Stands (front rest : List Slot) (client : Client) (out : Emitter) : Type 0 where
    pub settled : AreSettled around held from_is at small front
    pub stand : StandAs around.servers (front ++ rest) client out.numbers
    pub held_is : out.held ≡ held
    pub hop_is : (to : Ipv4Address) → hop_by out to ≡ around.hop to

  abbrev pub Leaves : List Slot → Looks → Emitter → Client → Emitter → Type 0
  Leaves front looks out last later = LeavesLooks around.servers (with_front front looks) out last later

  pub reached : (front rest : List Slot) (client : Client) (out : Emitter) → Stands front rest client out
      → is_reached (least_due client.slots) (pos at) ≡ is_any_due at rest
  reached front rest client out stands =
      ap (λ slots. is_reached (least_due slots) (pos at)) stands.stand.slots_are ∙ reached_is at (front ++ rest)
      ∙ due_behind around held from_is at small front rest stands.settled

  -- nothing is due
  pub quiet : (front rest : List Slot) (client : Client) (out : Emitter) → Stands front rest client out
      → is_reached (least_due client.slots) (pos at) ≡ false → Leaves front (looks_from around at false rest) out client out
  quiet front rest client out stands early =
      subst (λ looks. Leaves front looks out client out) (sym (looks_none around at rest (sym (reached front rest client out stands) ∙ early)))
      (record {
        stand = stands.stand;
        sent = [];
        frames = λ settings hardware. tt;
        later_is = ap (λ (s : List Sent). record out { sent = s }) (sym (append-nil out.sent));
      })

  -- one dispatch
  pub dispatched : (front rest : List Slot) (now : ℤ) (result : Result (Unit {0}) EmitError) (client next : Client) (out mid : Emitter) → Stands front rest client out
      → now ≡ pos at → DispatchesQueries now result client next out mid
      → Dispatched TakesQuery RefusesQuery 64 (behind (map standing_in front) (walk_of (segment around at rest))) result next.slots out mid
  dispatched front rest now result client next out mid stands is_now done =
      subst₂ (λ hop_limit w. Dispatched TakesQuery RefusesQuery hop_limit w result next.slots out mid)
      (ap (λ (o : Option ℕ). unwrap_or o 64) stands.stand.no_hop_limit)
      (ap (λ (h : Option Held). walk (look (source_for h) client.servers now) client.slots) stands.held_is
      ∙ ap (λ (s : List IpAddress). walk (look (source_for held) s now) client.slots) stands.stand.servers_are
      ∙ ap (λ n. walk (look (source_for held) around.servers n) client.slots) is_now
      ∙ ap (λ (s : Slots). walk (look (source_for held) around.servers (pos at)) s) stands.stand.slots_are
      ∙ walk_behind around held from_is at small front rest stands.settled
      ∙ ap (behind (map standing_in front)) (walk_is around held from_is at small rest))
      done.walks

  -- and how the queries stand behind it
  pub stand_after : (before left : List Slot) (client next : Client) (numbers : List ℕ) → StandAs around.servers before client numbers
      → next ≡ record client { slots = next.slots } → next.slots ≡ map standing_in left → map number_in left ≡ map number_in before
      → StandAs around.servers left next numbers
  stand_after before left client next numbers stand others slots_are same = record {
    servers_are = ap (λ (c : Client). c.servers) others ∙ stand.servers_are;
    slots_are = slots_are;
    numbers_are = stand.numbers_are ∙ sym same;
    no_hop_limit = ap (λ (c : Client). c.hop_limit) others ∙ stand.no_hop_limit;
  }

  -- a dispatch adds to the sent frames alone
  pub moved : (front rest later_front later_rest : List Slot) (client next : Client) (out mid : Emitter) (sent : List Sent) → Stands front rest client out
      → mid ≡ record out { sent = sent } → AreSettled around held from_is at small later_front
      → StandAs around.servers (later_front ++ later_rest) next out.numbers → Stands later_front later_rest next mid
  moved front rest later_front later_rest client next out mid sent stands mid_is settled stand = record {
    settled = settled;
    stand = subst (λ (e : Emitter). StandAs around.servers (later_front ++ later_rest) next e.numbers) (sym mid_is) stand;
    held_is = ap (λ (e : Emitter). e.held) mid_is ∙ stands.held_is;
    hop_is = subst (λ (e : Emitter). (to : Ipv4Address) → hop_by e to ≡ around.hop to) (sym mid_is) stands.hop_is;
  }
