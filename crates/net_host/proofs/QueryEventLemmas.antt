-- What the DNS client's part of an event leaves in a host that agrees with the history before it.
use Rattle.std.proofs.Common.{◌≡◌, ◌<◌, List, ◌∷◌, ◌++◌, Option, Some, None, pos, ap, sym, subst, ◌∙◌, refl}
use Rattle.std.proofs.lemmas.List.{append_assoc}
use Rattle.net_wire.specs.declared.address.Ipv4Address.{Ipv4Address}
use Rattle.dhcp_client.specs.Client as dhcp
use Rattle.dns_client.specs.Client.{Client}
use Rattle.host_model.specs.declared.held.Held.{Held}
use Rattle.host_model.specs.declared.words.EventWords.{EventWords}
use Rattle.host_model.specs.Frames.{dhcp_asked, frames_of, hop_of_unknown, not_asked}
use Rattle.host_model.specs.History.{Entry}
use Rattle.host_model.specs.Lease.{held_before}
use Rattle.host_model.specs.Named.{named_message}
use Rattle.host_model.specs.Neighbor.{events_of, known_hop}
use Rattle.host_model.specs.Queries.{address_in, around_at, arrived_over, looks_at, servers_before, slots_before}
use Rattle.host_model.specs.QueryTurns.{asked_after}
use Rattle.host_model.specs.Script.{Event, time_limit}
use Rattle.host_model.specs.Settings.{Settings}
use Rattle.net_host.specs.declared.emitter.Emitter.{Emitter}
use Rattle.net_host.specs.Emitter.{hop_of_refused, refused_hop, request_sent}
use Rattle.net_host.specs.Following.{Holding}
use Rattle.net_host.specs.Listed.{AreListed}
use Rattle.net_host.specs.Neighbors.{Table, TableAgrees}
use Rattle.net_host.specs.QueryLeaving.{PollsAsLooks}
use Rattle.net_host.specs.QueryPolling.{PolledQueries}
use Rattle.net_host.specs.QueryStanding.{StandAs}
use Rattle.net_host.proofs.EventLemmas.{Leased, knows}
use Rattle.net_host.proofs.ListingLemmas.{listed_append, requests_listed}

-- the queries, and the frames of the event
pub record Queried (settings : Settings) (before : List Entry) (event : Event) (words : EventWords) (last : Client)
    (out : Emitter) : Type 0 where
  pub hardware : out.hardware ≡ settings.hardware
  pub held : out.held ≡ held_before settings before
  pub neighbors : TableAgrees settings (event ∷ events_of before) out.neighbors
  pub stand : StandAs (servers_before settings before) (looks_at settings before event words).slots last out.numbers
  pub frames : AreListed settings (frames_of settings before event words) out.sent

-- where a look stopped is where a request is for
unknown_is : (held : Option Held) (unknown : Option Ipv4Address)
    → hop_of_refused held (asked_after unknown None) ≡ hop_of_unknown held unknown
unknown_is held None = refl
unknown_is held (Some to) = refl

pub queried : PollsAsLooks → (settings : Settings) (before : List Entry) (event : Event) (words : EventWords)
    (holding : Holding) (dhcp_last : dhcp.Client) (mid asked begun later out : Emitter) (client last : Client)
    → event.at < time_limit
    → Leased settings before event words holding dhcp_last mid asked
    → StandAs (servers_before settings before) (arrived_over settings before event words (slots_before settings before)).slots
    client mid.numbers
    → begun ≡ record asked { refused = None }
    → PolledQueries (pos event.at) client begun last later
    → out ≡ record later {
      sent = later.sent
          ++ request_sent later.hardware later.held (not_asked (refused_hop asked) (refused_hop later));
    }
    → Queried settings before event words last out
queried polls settings before event words holding dhcp_last mid asked begun later out client last in_range leased stand begins polling asks =
    let around = around_at settings before event in
    let slots = (arrived_over settings before event words (slots_before settings before)).slots in
    let begun_held : begun.held ≡ held_before settings before = ap (λ (e : Emitter). e.held) begins ∙ leased.held in
    let begun_hardware : begun.hardware ≡ settings.hardware = ap (λ (e : Emitter). e.hardware) begins ∙ leased.hardware in
    let N : Table → Type 0 = λ t. TableAgrees settings (event ∷ events_of before) t in
    let table = subst N (sym (ap (λ (e : Emitter). e.neighbors) begins)) leased.neighbors in
    let hops = knows settings before event begun begun_hardware begun_held (ap (λ (e : Emitter). e.at) begins ∙ leased.at) table in
    let numbers : begun.numbers ≡ mid.numbers = ap (λ (e : Emitter). e.numbers) begins ∙ leased.numbers in
    let leaves = polls around slots event.at client last begun later in_range
    (subst (λ list. StandAs (servers_before settings before) slots client list) (sym numbers) stand)
    (sym (ap address_in begun_held)) hops.hops polling in
    let is_later = leaves.later_is in
    let later_held : later.held ≡ held_before settings before = ap (λ (e : Emitter). e.held) is_later ∙ begun_held in
    let later_hardware : later.hardware ≡ settings.hardware = ap (λ (e : Emitter). e.hardware) is_later ∙ begun_hardware in
    let unknown = (looks_at settings before event words).unknown in
    let asked_is = dhcp_asked (held_before settings before) (known_hop settings before event) (named_message settings before event words) in
    let later_refused : later.refused ≡ asked_after unknown None =
    ap (λ (e : Emitter). e.refused) is_later ∙ ap (λ (e : Emitter). asked_after unknown e.refused) begins in
    let later_hop : refused_hop later ≡ hop_of_unknown (held_before settings before) unknown =
    ap (λ held. hop_of_refused held later.refused) later_held ∙ ap (hop_of_refused (held_before settings before)) later_refused
    ∙ unknown_is (held_before settings before) unknown in
    let request = not_asked asked_is (hop_of_unknown (held_before settings before) unknown) in
    let request_is : request_sent later.hardware later.held (not_asked (refused_hop asked) (refused_hop later))
    ≡ request_sent settings.hardware (held_before settings before) request =
    ap (λ hardware. request_sent hardware later.held (not_asked (refused_hop asked) (refused_hop later))) later_hardware
    ∙ ap (λ held. request_sent settings.hardware held (not_asked (refused_hop asked) (refused_hop later))) later_held
    ∙ ap (λ one. request_sent settings.hardware (held_before settings before) (not_asked one (refused_hop later))) leased.asks
    ∙ ap (λ other. request_sent settings.hardware (held_before settings before) (not_asked asked_is other)) later_hop in
    let begun_sent : begun.sent ≡ asked.sent = ap (λ (e : Emitter). e.sent) begins in
    let dns = listed_append settings _ _ leaves.sent _ (leaves.frames settings (sym begun_hardware))
    (requests_listed settings (held_before settings before) request) in
    let all = listed_append settings _ _ asked.sent _ leased.frames dns in
    let is_sent : out.sent ≡ asked.sent ++ (leaves.sent ++ request_sent settings.hardware (held_before settings before) request) =
    ap (λ (e : Emitter). e.sent) asks
    ∙ ap (λ l. l ++ request_sent later.hardware later.held (not_asked (refused_hop asked) (refused_hop later)))
    (ap (λ (e : Emitter). e.sent) is_later ∙ ap (λ l. l ++ leaves.sent) begun_sent)
    ∙ ap (λ l. (asked.sent ++ leaves.sent) ++ l) request_is
    ∙ append_assoc asked.sent leaves.sent (request_sent settings.hardware (held_before settings before) request) in
    record {
      hardware = ap (λ (e : Emitter). e.hardware) asks ∙ later_hardware;
      held = ap (λ (e : Emitter). e.held) asks ∙ later_held;
      neighbors = subst N (sym (ap (λ (e : Emitter). e.neighbors) asks ∙ ap (λ (e : Emitter). e.neighbors) is_later)) table;
      stand = subst (λ list. StandAs (servers_before settings before) (looks_at settings before event words).slots last list)
          (sym (ap (λ (e : Emitter). e.numbers) asks)) leaves.stand;
      frames = subst (λ list. AreListed settings (frames_of settings before event words) list) (sym is_sent) all;
    }
