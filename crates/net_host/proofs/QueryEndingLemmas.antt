-- A dispatch leaves a DNS client that a host can dispatch again, and dispatches end.
use Rattle.std.proofs.Common.{◌≡◌, ℕ, ◌<◌, true, List, map, length, None, ℤ, pos, Ok, refl, sym, ◌∙◌, ap, ap₂, subst}
use Rattle.dns_client.specs.Client.{Client, hop_limit_of}
use Rattle.dns_client.specs.Looks.{Walk, Quiet, Sends, look, walk, message_for, Dispatched}
use Rattle.dns_client.specs.Slots.{Slots, least_due}
use Rattle.phy_layers.specs.PcapBytes.{IsCapturable, epoch_micros}
use Rattle.host_model.specs.Queries.{address_in}
use Rattle.host_model.specs.QueryLooks.{Around}
use Rattle.host_model.specs.QuerySlots.{Slot, is_any_due}
use Rattle.host_model.specs.Script.{time_limit}
use Rattle.net_host.specs.declared.emitter.Emitter.{Emitter}
use Rattle.net_host.specs.QueryEmitter.{source_for, TakesQuery, RefusesQuery}
use Rattle.net_host.specs.QueryPolling.{is_reached, DispatchesQueries}
use Rattle.net_host.specs.QueryReady.{AreStanding}
use Rattle.net_host.specs.QueryStanding.{standing_in}
use Rattle.net_host.proofs.PollingLemmas.{instant_is, in_range}
use Rattle.net_host.proofs.QueryDueLemmas.{reached_is}
use Rattle.net_host.proofs.QuerySegments.{Segment, segment}
use Rattle.net_host.proofs.QueryWalkLemmas.{walk_of, walk_is, IsSegment, segment_is}
use Rattle.net_host.specs.QueryEmitter.{number_at, query_sent}
use Rattle.net_host.specs.Report.{AreCapturable}
use Rattle.net_host.proofs.SmallLemmas.{small_push}
use Rattle.net_host.proofs.QueryOpenLemmas.{open_slots, calls_left, opens, left_by, fewer, lower, left_is, held_stays}

-- a client that was dispatched at a time of a script, and is asked to be again
pub record IsDispatched (now : ℤ) (client next : Client) (out mid : Emitter) : Type 0 where
  pub standing : AreStanding next
  pub fewer : calls_left now next mid < calls_left now client out

pub dispatched_once : (now : ℤ) (client next : Client) (out mid : Emitter) → IsCapturable now → AreStanding client
    → is_reached (least_due client.slots) now ≡ true → DispatchesQueries now (Ok tt) client next out mid → IsDispatched now client next out mid
dispatched_once now client next out mid time standing due done =
    let at : ℕ = epoch_micros now in
    let is_now : now ≡ pos at = instant_is now time in
    let small : at < time_limit = in_range now time in
    let slots : List Slot = standing.slots in
    let around : Around = record { servers = client.servers; from = address_in out.held; hop = λ to. None } in
    let seg : Segment = segment around at slots in
    let is : IsSegment around out.held refl at small slots seg = segment_is around out.held refl at small slots in
    let walks : walk (look (source_for out.held) client.servers now) client.slots ≡ walk_of seg =
    ap (λ n. walk (look (source_for out.held) client.servers n) client.slots) is_now
    ∙ ap (walk (look (source_for out.held) client.servers (pos at))) standing.slots_are ∙ walk_is around out.held refl at small slots in
    let ended : Dispatched TakesQuery RefusesQuery (hop_limit_of client) (walk_of seg) (Ok tt) next.slots out mid =
    subst (λ w. Dispatched TakesQuery RefusesQuery (hop_limit_of client) w (Ok tt) next.slots out mid) walks done.walks in
    let left : List Slot = left_by around out.held refl at small seg in
    let left_are : next.slots ≡ map standing_in left = left_is around out.held refl at small slots seg next out mid (hop_limit_of client) is ended in
    let reached : is_any_due at slots ≡ true = sym (reached_is at slots) ∙ ap₂ (λ s n. is_reached (least_due s) n) (sym standing.slots_are) (sym is_now) ∙ due in
    let before : calls_left now client out ≡ opens around out.held refl at small slots =
    ap (λ n. open_slots (look (source_for out.held) client.servers n) n client.slots) is_now
    ∙ ap (open_slots (look (source_for out.held) client.servers (pos at)) (pos at)) standing.slots_are in
    let after : calls_left now next mid ≡ opens around out.held refl at small left =
    ap (λ h. open_slots (look (source_for h) next.servers now) now next.slots) (held_stays around out.held refl at small seg next out mid (hop_limit_of client) ended)
    ∙ ap (λ (c : Client). open_slots (look (source_for out.held) c.servers now) now next.slots) done.others
    ∙ ap (λ n. open_slots (look (source_for out.held) client.servers n) n next.slots) is_now
    ∙ ap (open_slots (look (source_for out.held) client.servers (pos at)) (pos at)) left_are in
    record {
      standing = record { slots = left; slots_are = left_are };
      fewer = rw (before, after) (fewer around out.held refl at small slots seg is (lower around out.held refl at small slots) reached);
    }

-- what was sent stays small enough for a capture
query_small : (hop_limit : ℕ) (w : Walk) (slots : Slots) (out mid : Emitter) → Dispatched TakesQuery RefusesQuery hop_limit w (Ok tt) slots out mid
    → AreCapturable out.sent → AreCapturable mid.sent
query_small hop_limit (Quiet left) slots out mid done small = subst (λ (e : Emitter). AreCapturable e.sent) (sym done.2) small
query_small hop_limit (Sends front slot request from to before after rest) slots out mid done small =
    let take : TakesQuery out mid (message_for (record { slot = length front; place = before.place; from = from; to = to; hop_limit = hop_limit }) request) = done.0.ok in
    subst (λ (e : Emitter). AreCapturable e.sent) (sym take.listed)
    (small_push out.sent (query_sent (number_at out.numbers (length front)) before.place take.frame) small take.within)

pub dispatched_small : (now : ℤ) (client next : Client) (out mid : Emitter) → DispatchesQueries now (Ok tt) client next out mid
    → AreCapturable out.sent → AreCapturable mid.sent
dispatched_small now client next out mid done =
    query_small (hop_limit_of client) (walk (look (source_for out.held) client.servers now) client.slots) next.slots out mid done.walks
