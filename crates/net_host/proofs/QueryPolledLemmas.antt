-- Polling does what the looks of an event do: a dispatch moves slots from the rest to those that are settled.
use Rattle.std.proofs.Common.{◌≡◌, ℕ, ◌<◌, true, false, List, [], ◌∷◌, ◌++◌, map, length, Option, Some, ℤ, pos, Result, Ok, Err, refl, sym, ◌∙◌, ap, ap₂, subst, append-nil, append_assoc}
use Rattle.std.proofs.lemmas.List.{map-append}
use Rattle.net_wire.specs.declared.address.IpAddress.{IpAddress}
use Rattle.net_wire.specs.declared.error.EmitError.{EmitError}
use Rattle.net_wire.specs.declared.error.EmitError.TheVariants.{Unresolved}
use Rattle.net_wire.specs.Datagram.{IsSentFrame}
use Rattle.dns_client.specs.Client.{Client}
use Rattle.dns_client.specs.Looks.{behind, Dispatched}
use Rattle.dns_client.specs.Slots.{Slots, least_due}
use Rattle.phy_layers.specs.PcapBytes.{IsCapturable, epoch_micros}
use Rattle.host_model.specs.declared.held.Held.{Held}
use Rattle.host_model.specs.Frames.{query_datagram}
use Rattle.host_model.specs.Queries.{address_in}
use Rattle.host_model.specs.QueryLooks.{Around, Looks, looks_from, named_then}
use Rattle.host_model.specs.QuerySlots.{Query, Slot, Live, is_any_due}
use Rattle.host_model.specs.Script.{time_limit}
use Rattle.net_host.specs.declared.emitter.Emitter.{Emitter}
use Rattle.net_host.specs.declared.report.Sent.{Sent}
use Rattle.net_host.specs.Emitter.{hop_by}
use Rattle.net_host.specs.QueryEmitter.{query_sent, TakesQuery, RefusesQuery}
use Rattle.net_host.specs.QueryLeaving.{LeavesLooks, PollsAsLooks}
use Rattle.net_host.specs.QueryPolling.{is_reached, PolledQueries, IsQuiet, GoesOn, Waits}
use Rattle.net_host.specs.QueryStanding.{StandAs, standing_in, number_in}
use Rattle.net_host.proofs.PollingLemmas.{instant_is, in_range}
use Rattle.net_host.proofs.QueryLookLemmas.{turn_in, IsNamed}
use Rattle.net_host.proofs.QueryPlaceLemmas.{regrouped, mapped, mapped_in, numbered, number_is}
use Rattle.net_host.proofs.QuerySegments.{Segment, Ends, Reaches, segment, with_front, looks_of, looks_are, looks_begin, looks_none}
use Rattle.net_host.proofs.QueryWalkLemmas.{walk_of, IsSegment, segment_is, none_due, settled_both}
use Rattle.net_host.proofs.QueryDispatchLemmas.{SendsAsk, message_of, address_of, took, Stands, Leaves, reached, quiet, dispatched, stand_after, moved, joined}

module _ (around : Around) (held : Option Held) (from_is : around.from ≡ address_in held) (at : ℕ) (small : at < time_limit) where
  abbrev StandsHere : List Slot → List Slot → Client → Emitter → Type 0
  StandsHere front rest client out = Stands around held from_is at small front rest client out

  abbrev LeavesHere : List Slot → Looks → Emitter → Client → Emitter → Type 0
  LeavesHere front looks out last later = Leaves around held from_is at small front looks out last later

  abbrev Goes : Client → Client → Emitter → Emitter → Type 0
  Goes next last mid later = (front rest : List Slot) → StandsHere front rest next mid → LeavesHere front (looks_from around at false rest) mid last later

  abbrev Ended : List Slot → Segment → Result (Unit {0}) EmitError → Client → Emitter → Emitter → Type 0
  Ended front seg result next out mid =
      Dispatched TakesQuery RefusesQuery 64 (behind (map standing_in front) (walk_of seg)) result next.slots out mid

  module _ (front rest : List Slot) (client next : Client) (out : Emitter) (stands : StandsHere front rest client out)
      (others : next ≡ record client { slots = next.slots }) where
    -- the numbers stay, of a query that is left in a slot as well
    same_numbers : (passed : List Slot) (slot : Slot) (left : Query) (after : List Slot) → left.number ≡ number_in slot
        → map number_in passed ++ number_in slot ∷ map number_in after ≡ map number_in rest
        → (map number_in front ++ map number_in passed) ++ left.number ∷ map number_in after ≡ map number_in (front ++ rest)
    same_numbers passed slot left after same are =
        ap (λ n. (map number_in front ++ map number_in passed) ++ n ∷ map number_in after) same
        ∙ append_assoc (map number_in front) (map number_in passed) (number_in slot ∷ map number_in after)
        ∙ ap (λ more. map number_in front ++ more) are ∙ sym (map-append number_in front rest)

    went_on : (last : Client) (mid later : Emitter) (seg : Segment) → IsSegment around held from_is at small rest seg
        → Ended front seg (Ok tt) next out mid → Goes next last mid later → LeavesHere front (looks_of around at seg) out last later
    went_on last mid later (Ends left) is done more =
        let stand : StandAs around.servers (front ++ left) next out.numbers = stand_after around held from_is at small (front ++ rest) (front ++ left) client next out.numbers stands.stand others
        (done.1 ∙ sym (map-append standing_in front left)) (numbered front left rest is.1) in
        subst (λ looks. LeavesHere front looks out last later) (looks_none around at left (none_due around held from_is at small left is.0))
        (subst (λ (e : Emitter). LeavesHere front (looks_from around at false left) e last later) done.2
        (more front left (moved around held from_is at small front rest front left client next out mid out.sent stands done.2 stands.settled stand)))
    went_on last mid later (Reaches passed slot ask refused sent after) is done more =
        let named : IsNamed around held from_is at small slot ask refused sent = is.1 in
        let F : Slots = map standing_in front in
        let N : List ℕ = map number_in front in
        let now : List Slot = (front ++ passed) ++ Live sent ∷ [] in
        let stand : StandAs around.servers (now ++ after) next out.numbers = stand_after around held from_is at small (front ++ rest) (now ++ after) client next out.numbers stands.stand others
        (done.1 ∙ ap (λ s. (F ++ map standing_in passed) ++ s ∷ map standing_in after) named.sent_is ∙ sym (mapped standing_in front passed (Live sent) after))
        (mapped number_in front passed (Live sent) after ∙ same_numbers passed slot sent after named.sent_number is.2) in
        let numbers : out.numbers ≡ (N ++ map number_in passed) ++ number_in slot ∷ map number_in after =
        stands.stand.numbers_are ∙ map-append number_in front rest ∙ ap (λ more. N ++ more) (sym is.2)
        ∙ sym (append_assoc N (map number_in passed) (number_in slot ∷ map number_in after)) in
        let sends : SendsAsk ask out mid = took (length (F ++ map standing_in passed)) (turn_in refused).place ask out mid
        (number_is front passed slot (map number_in after) out.numbers numbers ∙ sym named.query) named.place done.0.ok in
        let one : Sent = query_sent ask.query ask.place sends.frame in
        let next_looks : Looks = looks_from around at false after in
        let gone : LeavesHere now next_looks mid last later = more now after (moved around held from_is at small front rest now after client next out mid (out.sent ++ one ∷ []) stands sends.mid_is
        (settled_both around held from_is at small (front ++ passed) (Live sent ∷ []) (settled_both around held from_is at small front passed stands.settled is.0) (named.settled, tt)) stand) in
        subst (λ hop. LeavesHere front (with_front passed (named_then hop ask refused sent after next_looks)) out last later) (sym (sym (stands.hop_is ask.to) ∙ sends.known))
        (record {
          stand = subst (λ slots. StandAs around.servers slots last later.numbers) (regrouped front passed (Live sent) next_looks.slots) gone.stand;
          sent = one ∷ gone.sent;
          frames = λ settings hardware. (
            (sends.frame, refl, subst (λ h. IsSentFrame h sends.hop 64 (query_datagram ask) sends.frame) (sym hardware) sends.carries),
            gone.frames settings (hardware ∙ sym (ap (λ (e : Emitter). e.hardware) sends.mid_is)),
          );
          later_is = joined out mid later (one ∷ []) gone.sent next_looks.unknown sends.mid_is gone.later_is;
        })

    waited : (later : Emitter) (seg : Segment) → IsSegment around held from_is at small rest seg
        → Ended front seg (Err Unresolved) next out later → LeavesHere front (looks_of around at seg) out next later
    waited later (Ends left) is done = absurd (cc done.0)
    waited later (Reaches passed slot ask refused sent after) is done =
        let named : IsNamed around held from_is at small slot ask refused sent = is.1 in
        let F : Slots = map standing_in front in
        let left : List Slot = front ++ (passed ++ Live refused ∷ after) in
        let not_sent : RefusesQuery out later (message_of (length (F ++ map standing_in passed)) (turn_in refused).place ask) = done.0.unresolved refl in
        let to_is : ask.to ≡ not_sent.to = ap (address_of ask.to) not_sent.destination in
        let stand : StandAs around.servers left next out.numbers = stand_after around held from_is at small (front ++ rest) left client next out.numbers stands.stand others
        (done.2 ∙ ap (λ s. (F ++ map standing_in passed) ++ s ∷ map standing_in after) named.refused_is ∙ sym (mapped_in standing_in front passed (Live refused) after))
        (mapped_in number_in front passed (Live refused) after ∙ same_numbers passed slot refused after named.refused_number is.2) in
        subst (λ hop. LeavesHere front (with_front passed (named_then hop ask refused sent after (looks_from around at false after))) out next later)
        (sym (sym (stands.hop_is ask.to) ∙ ap (hop_by out) to_is ∙ not_sent.unknown))
        (record {
          stand = subst (λ (e : Emitter). StandAs around.servers left next e.numbers) (sym not_sent.noted) stand;
          sent = [];
          frames = λ settings hardware. tt;
          later_is = not_sent.noted ∙ ap₂ (λ (s : List Sent) to. record out { sent = s; refused = Some to }) (sym (append-nil out.sent)) (sym to_is);
        })

  polled_on : (now : ℤ) (client last : Client) (out later : Emitter) → PolledQueries now client out last later → now ≡ pos at → Goes client last out later
  polled_on now client last out later (IsQuiet _ _ _ early) is_now front rest stands =
      quiet around held from_is at small front rest client out stands (ap (is_reached (least_due client.slots)) (sym is_now) ∙ early)
  polled_on now client last out later (GoesOn _ _ next _ _ mid _ due done more) is_now front rest stands =
      let begins : is_any_due at rest ≡ true = sym (reached around held from_is at small front rest client out stands) ∙ ap (is_reached (least_due client.slots)) (sym is_now) ∙ due in
      subst (λ looks. LeavesHere front looks out last later) (sym (looks_begin around at rest begins ∙ looks_are around at rest))
      (went_on front rest client next out stands done.others last mid later (segment around at rest) (segment_is around held from_is at small rest)
      (dispatched around held from_is at small front rest now (Ok tt) client next out mid stands is_now done) (polled_on now next last mid later more is_now))
  polled_on now client last out later (Waits _ _ _ _ _ due done) is_now front rest stands =
      let begins : is_any_due at rest ≡ true = sym (reached around held from_is at small front rest client out stands) ∙ ap (is_reached (least_due client.slots)) (sym is_now) ∙ due in
      subst (λ looks. LeavesHere front looks out last later) (sym (looks_begin around at rest begins ∙ looks_are around at rest))
      (waited front rest client last out stands done.others later (segment around at rest) (segment_is around held from_is at small rest)
      (dispatched around held from_is at small front rest now (Err Unresolved) client last out later stands is_now done))

pub polled_is : PollsAsLooks
polled_is around slots at client last out later small stand from_is hop_is polled =
    polled_on around out.held from_is at small (pos at) client last out later polled refl [] slots
    (record { settled = tt; stand = stand; held_is = refl; hop_is = hop_is })

-- so the queries of a history stand in the client again, and the emitter has more frames alone
pub polled_leaves : (servers : List IpAddress) (slots : List Slot) (now : ℤ) (client last : Client) (out later : Emitter) → IsCapturable now
    → StandAs servers slots client out.numbers → PolledQueries now client out last later
    → (left : Looks) × LeavesLooks servers left out last later
polled_leaves servers slots now client last out later time stand polled =
    let around : Around = record { servers = servers; from = address_in out.held; hop = hop_by out } in (
      looks_from around (epoch_micros now) false slots,
      polled_is around slots (epoch_micros now) client last out later (in_range now time) stand refl (λ to. refl)
          (subst (λ n. PolledQueries n client out last later) (instant_is now time) polled),
    )
