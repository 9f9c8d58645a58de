-- What the DHCP client's part of an event leaves in a host that agrees with the history before it.
use Rattle.std.proofs.Common.{◌≡◌, ◌<◌, List, [], ◌∷◌, ◌++◌, cond, Option, Some, None, ap, sym, subst, ◌∙◌, refl, ℕ, arith}
use Rattle.std.specs.Option.{option_map}
use Rattle.net_wire.specs.declared.address.Ipv4Address.{Ipv4Address}
use Rattle.net_wire.specs.declared.error.Context.{Context}
use Rattle.dhcp_client.specs.Client.{Client}
use Rattle.dhcp_client.specs.Hearing.{same_address}
use Rattle.dhcp_client.specs.Messages.{limited_broadcast}
use Rattle.host_model.specs.declared.held.Held.{Held}
use Rattle.host_model.specs.declared.neighbor.Neighbor.{Neighbor}
use Rattle.host_model.specs.declared.words.EventWords.{EventWords}
use Rattle.host_model.specs.Anchor.{anchor_after_arrival, anchor_at, anchor_before}
use Rattle.host_model.specs.Chronicle.{entry_of}
use Rattle.host_model.specs.Frames.{dhcp_asked, dhcp_frames, lease_frames, replies}
use Rattle.host_model.specs.History.{Entry}
use Rattle.host_model.specs.Lease.{held_before}
use Rattle.host_model.specs.Named.{named_message}
use Rattle.host_model.specs.Neighbor.{ethernet_broadcast, events_of, hop_address, hop_of, known_at, known_hop, neighbor_in, told_by, told_to}
use Rattle.host_model.specs.Script.{Event, time_limit}
use Rattle.host_model.specs.Settings.{Settings}
use Rattle.net_host.specs.declared.emitter.Emitter.{Emitter}
use Rattle.net_host.specs.declared.host.Host.{Host}
use Rattle.net_host.specs.declared.report.Sent.{Sent}
use Rattle.net_host.specs.Agreement.{AgreesWithHistory}
use Rattle.net_host.specs.Config.{IsFair}
use Rattle.net_host.specs.Emitter.{hop_at, refused_hop}
use Rattle.net_host.specs.Following.{AgreesUnder, Holding}
use Rattle.net_host.specs.Hearing.{after_arrival, after_told, IsShortIn}
use Rattle.net_host.specs.Holding.{host_holding}
use Rattle.net_host.specs.Listed.{AreListed}
use Rattle.net_host.specs.Neighbors.{Table, TableAgrees, IsSince, neighbor_with, table_after}
use Rattle.net_host.specs.Polling.{Polled}
use Rattle.net_host.proofs.AnsweredLemmas.{answered}
use Rattle.net_host.proofs.ArrivalLemmas.{heard}
use Rattle.net_host.proofs.Contexts.{IsContextOf}
use Rattle.net_host.proofs.HistoryLemmas.{KnowsHops}
use Rattle.net_host.proofs.KeptLemmas.{Told, told_leaves, kept_by, refused_by}
use Rattle.net_host.proofs.ListingLemmas.{asked, leaves_listed, listed_append, replied, replies_listed}
use Rattle.net_host.proofs.NeighborLemmas.{hop_still, learned_agrees}

-- the hops that the emitter knows are those that the events tell of
hop_at_is : (settings : Settings) (events : List Event) (at : ℕ) (out : Emitter) (address : Option Ipv4Address)
    → out.at ≡ at → IsSince events at → TableAgrees settings events out.neighbors
    → hop_at out address ≡ known_at settings events at address
hop_at_is settings events at out None is_at since agrees = refl
hop_at_is settings events at out (Some address) is_at since agrees =
    ap (λ at. hop_of at (neighbor_with out.neighbors address)) is_at
    ∙ hop_still at (neighbor_with out.neighbors address)
    ∙ ap (option_map (λ (neighbor : Neighbor). neighbor.hardware)) (agrees.finds address at since)
    ∙ sym (hop_still at (neighbor_in settings events address))

pub knows : (settings : Settings) (before : List Entry) (event : Event) (out : Emitter)
    → out.hardware ≡ settings.hardware → out.held ≡ held_before settings before → out.at ≡ event.at
    → TableAgrees settings (event ∷ events_of before) out.neighbors → KnowsHops settings before event out
knows settings before event out is_hardware is_held is_at agrees = record {
  hardware = is_hardware;
  hops = λ destination.
      ap (λ hop. cond (same_address destination limited_broadcast) (Some ethernet_broadcast) hop)
      (hop_at_is settings (event ∷ events_of before) event.at out (hop_address out.held destination) is_at (omega arith) agrees
      ∙ ap (λ held. known_at settings (event ∷ events_of before) event.at (hop_address held destination)) is_held);
}

-- the state of a host and the frames that it sent, once the DHCP client has answered an event
pub record Leased (settings : Settings) (before : List Entry) (event : Event) (words : EventWords) (holding : Holding)
    (client : Client) (mid out : Emitter) : Type 0 where
  pub hardware : out.hardware ≡ settings.hardware
  pub held : out.held ≡ held_before settings before
  pub at : out.at ≡ event.at
  pub neighbors : TableAgrees settings (event ∷ events_of before) out.neighbors
  pub numbers : out.numbers ≡ mid.numbers
  pub dhcp : AgreesUnder settings (entry_of settings before event words ∷ before) (anchor_at settings before event) holding client
  pub frames : AreListed settings (lease_frames settings before event words) out.sent
  pub asks : refused_hop out
      ≡ dhcp_asked (held_before settings before) (known_hop settings before event) (named_message settings before event words)

pub leased : (settings : Settings) (before : List Entry) (event : Event) (words : EventWords) (cx : Context) (old : Host)
    (begun mid later out : Emitter) (client last : Client)
    → IsFair settings.client.retry → IsContextOf settings event.at cx → event.at < time_limit → AgreesWithHistory settings before old
    → IsSince (events_of before) event.at
    → begun ≡ record old.out { at = event.at; sent = []; refused = None }
    → mid ≡ record (after_told (told_to begun.hardware event.arrival) begun) { numbers = mid.numbers }
    → client ≡ after_arrival cx event.arrival old.dhcp → IsShortIn cx event.arrival old.dhcp
    → Polled cx words.first client mid last later
    → out ≡ record later { sent = later.sent ++ asked later }
    → Leased settings before event words (host_holding old) last mid out
leased settings before event words cx old begun mid later out client last fair is_cx in_range agrees since begins tells hears short polling asks =
    let arp = told_by settings event.arrival in
    let begun_hardware : begun.hardware ≡ settings.hardware = ap (λ (e : Emitter). e.hardware) begins ∙ agrees.hardware in
    let begun_held : begun.held ≡ held_before settings before = ap (λ (e : Emitter). e.held) begins ∙ agrees.held in
    let begun_at : begun.at ≡ event.at = ap (λ (e : Emitter). e.at) begins in
    let empty : begun.sent ≡ [] = ap (λ (e : Emitter). e.sent) begins in
    let none : begun.refused ≡ None = ap (λ (e : Emitter). e.refused) begins in
    let is_mid : mid ≡ record (after_told arp begun) { numbers = mid.numbers } =
    tells ∙ ap (λ hardware. record (after_told (told_to hardware event.arrival) begun) { numbers = mid.numbers }) begun_hardware in
    let T : Emitter → Type 0 = λ e. Told arp begun e in
    let leaves = subst T (sym is_mid) (told_leaves arp begun mid.numbers empty) in
    let N : Table → Type 0 = λ t. TableAgrees settings (event ∷ events_of before) t in
    let table : mid.neighbors ≡ table_after arp event.at old.out.neighbors =
    leaves.neighbors ∙ ap (λ at. table_after arp at begun.neighbors) begun_at
    ∙ ap (λ (e : Emitter). table_after arp event.at e.neighbors) begins in
    let learned = subst N (sym table) (learned_agrees settings event (events_of before) old.out.neighbors since agrees.neighbors) in
    let mid_hardware = leaves.hardware ∙ begun_hardware in
    let mid_held = leaves.held ∙ begun_held in
    let C : Client → Type 0 = λ c. AgreesUnder settings before (anchor_after_arrival settings before event.at event.arrival
    (anchor_before settings before)) (host_holding old) c in
    let after_heard = subst C (sym hears)
    (heard settings before event.at event.arrival (anchor_before settings before) (host_holding old) cx old.dhcp is_cx in_range short agrees.dhcp) in
    let answer = answered settings before event words _ (host_holding old) cx client last mid later fair is_cx in_range
    (knows settings before event mid mid_hardware mid_held (leaves.at ∙ begun_at) learned) after_heard polling in
    let kept = kept_by settings (known_hop settings before event) (named_message settings before event words) mid later answer.leaves in
    let grows = leaves_listed settings (known_hop settings before event) (named_message settings before event words) mid later
    mid_hardware (leaves.none ∙ none) answer.leaves in
    let replies_sent : mid.sent ≡ replied settings.hardware (held_before settings before) arp =
    leaves.sent ∙ ap (λ l. l ++ replied begun.hardware begun.held arp) empty
    ∙ ap (λ hardware. replied hardware begun.held arp) begun_hardware
    ∙ ap (λ held. replied settings.hardware held arp) begun_held in
    let listed = listed_append settings _ _ _ grows.more (replies_listed settings (held_before settings before) arp) grows.are in
    let is_sent : out.sent ≡ replied settings.hardware (held_before settings before) arp ++ grows.more =
    ap (λ (e : Emitter). e.sent) asks ∙ grows.grown ∙ ap (λ l. l ++ grows.more) replies_sent in
    let D : Option Held → Type 0 = λ held. AreListed settings
    (replies settings.hardware (held_before settings before) arp
    ++ dhcp_frames settings.hardware held (known_hop settings before event) (named_message settings before event words)) out.sent in
    let S : List Sent → Type 0 = λ l. AreListed settings
    (replies settings.hardware (held_before settings before) arp
    ++ dhcp_frames settings.hardware mid.held (known_hop settings before event) (named_message settings before event words)) l in
    record {
      hardware = ap (λ (e : Emitter). e.hardware) asks ∙ kept.hardware ∙ mid_hardware;
      held = ap (λ (e : Emitter). e.held) asks ∙ kept.held ∙ mid_held;
      at = ap (λ (e : Emitter). e.at) asks ∙ kept.at ∙ leaves.at ∙ begun_at;
      neighbors = subst N (sym (ap (λ (e : Emitter). e.neighbors) asks ∙ kept.neighbors)) learned;
      numbers = ap (λ (e : Emitter). e.numbers) asks ∙ kept.numbers;
      dhcp = answer.agrees;
      frames = subst D mid_held (subst S (sym is_sent) listed);
      asks = ap (λ (e : Emitter). refused_hop e) asks
          ∙ refused_by settings (known_hop settings before event) (named_message settings before event words) mid later (leaves.none ∙ none) answer.leaves
          ∙ ap (λ held. dhcp_asked held (known_hop settings before event) (named_message settings before event words)) mid_held;
    }
