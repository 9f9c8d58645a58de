-- Slots that are due or send at a look: each dispatch leaves fewer.
use Rattle.std.proofs.Common.{◌≡◌, ℕ, ◌+◌, ◌<◌, ◌≤◌, ◌||◌, Bool, true, false, if◌then◌else◌, List, [], ◌∷◌, ◌++◌, map, Option, ℤ, pos, Ok, refl, sym, ◌∙◌, ap, ap₂, arith}
use Rattle.std.specs.Prelude.{⊤}
use Rattle.std.proofs.lemmas.Bool.{or_left, or_right}
use Rattle.std.proofs.lemmas.List.{map-append}
use Rattle.dns_client.specs.declared.query.DnsQuery.{DnsQuery}
use Rattle.dns_client.specs.Client.{Client}
use Rattle.dns_client.specs.Looks.{Choice, Walk, Quiet, Sends, look, walk, Dispatched}
use Rattle.dns_client.specs.Slots.{Slots, due_of}
use Rattle.host_model.specs.declared.held.Held.{Held}
use Rattle.host_model.specs.Queries.{address_in}
use Rattle.host_model.specs.QueryLooks.{Around, Seen, Kept, Named, seen_at}
use Rattle.host_model.specs.QuerySlots.{Slot, Live, is_due, is_any_due}
use Rattle.host_model.specs.Script.{time_limit}
use Rattle.net_host.specs.declared.emitter.Emitter.{Emitter}
use Rattle.net_host.specs.QueryEmitter.{source_for, TakesQuery, RefusesQuery}
use Rattle.net_host.specs.QueryPolling.{is_reached}
use Rattle.net_host.specs.QueryStanding.{standing_in}
use Rattle.net_host.proofs.QueryDueLemmas.{due_is}
use Rattle.net_host.proofs.QueryLookLemmas.{seen_walk, choice, IsSettled, looks_as}
use Rattle.net_host.proofs.QuerySegments.{Segment, Ends, Reaches, segment_on, segment}
use Rattle.net_host.proofs.QueryWalkLemmas.{walk_of, AreSettled, IsSegment}

abbrev is_sending : Walk → Bool
is_sending (Quiet slots) = false
is_sending (Sends front slot request from to before after rest) = true

-- slots that are due, or send at a look
abbrev is_open : (Option DnsQuery → Choice) → ℤ → Option DnsQuery → Bool
is_open plan now slot = is_reached (due_of slot) now || is_sending (walk plan (slot ∷ []))

abbrev pub open_slots : (Option DnsQuery → Choice) → ℤ → Slots → ℕ
open_slots plan now [] = 0
open_slots plan now (slot ∷ slots) = (if is_open plan now slot then 1 else 0) + open_slots plan now slots

abbrev pub calls_left : ℤ → Client → Emitter → ℕ
calls_left now client out = open_slots (look (source_for out.held) client.servers now) now client.slots

open_both : (plan : Option DnsQuery → Choice) (now : ℤ) (front rest : Slots)
    → open_slots plan now (front ++ rest) ≡ open_slots plan now front + open_slots plan now rest
open_both plan now [] rest = omega arith
open_both plan now (slot ∷ front) rest = omega (arith, open_both plan now front rest)

module _ (around : Around) (held : Option Held) (from_is : around.from ≡ address_in held) (at : ℕ) (small : at < time_limit) where
  abbrev open_in : Slot → Bool
  open_in slot = is_open (choice around held from_is at small) (pos at) (standing_in slot)

  abbrev pub opens : List Slot → ℕ
  opens slots = open_slots (choice around held from_is at small) (pos at) (map standing_in slots)

  closed : (slot : Slot) → IsSettled around held from_is at small slot → open_in slot ≡ false
  closed slot settled =
      ap₂ (λ one other. one || other) (due_is at slot ∙ settled.quiet) (ap is_sending (settled.again [] (Quiet [])))

  all_closed : (slots : List Slot) → AreSettled around held from_is at small slots → opens slots ≡ 0
  all_closed [] settled = refl
  all_closed (slot ∷ slots) settled =
      ap₂ (λ (b : Bool) n. (if b then 1 else 0) + n) (closed slot settled.0) (all_closed slots settled.1)

  more_open : (slot : Slot) (slots : List Slot) → open_in slot ≡ true → opens slots < opens (slot ∷ slots)
  more_open slot slots is =
      let one : opens (slot ∷ slots) ≡ 1 + opens slots = ap (λ (b : Bool). (if b then 1 else 0) + opens slots) is in
      omega arith

  no_fewer : (slot : Slot) (slots : List Slot) → opens slots ≤ opens (slot ∷ slots)
  no_fewer slot slots = omega arith

  -- what is due is open,
  due_open : (slots : List Slot) → is_any_due at slots ≡ true → 0 < opens slots
  due_open [] due = absurd (cc due)
  due_open (slot ∷ slots) due = by (is_due at slot) refl (λ is. due_open slots is)
    where
      by : (now : Bool) → is_due at slot ≡ now → (is_any_due at slots ≡ true → 0 < opens slots) → 0 < opens (slot ∷ slots)
      by true is more = omega (arith, more_open slot slots (or_left _ _ (due_is at slot ∙ is)))
      by false is more = omega (arith, more (sym (ap (λ b. b || is_any_due at slots) is) ∙ due), no_fewer slot slots)

  -- and so is what sends
  abbrev IsLower : List Slot → Segment → Type 0
  IsLower slots (Ends left) = ⊤
  IsLower slots (Reaches passed slot ask refused sent rest) = opens rest < opens slots

  lower_with : (slot : Slot) (slots : List Slot) (next : Segment) (seen : Seen)
      → is_sending (walk (choice around held from_is at small) (standing_in slot ∷ [])) ≡ is_sending (seen_walk (standing_in slot) [] (Quiet []) seen)
      → IsLower slots next → IsLower (slot ∷ slots) (segment_on slot slots next seen)
  lower_with slot slots (Ends left) (Kept kept) sends more = tt
  lower_with slot slots (Reaches passed named ask refused sent rest) (Kept kept) sends more = omega (arith, more, no_fewer slot slots)
  lower_with slot slots next (Named ask refused sent) sends more = more_open slot slots (or_right _ _ sends)

  pub lower : (slots : List Slot) → IsLower slots (segment around at slots)
  lower [] = tt
  lower (slot ∷ slots) =
      lower_with slot slots (segment around at slots) (seen_at around at slot)
      (ap is_sending ((looks_as around held from_is at small slot).walk_is [] (Quiet []))) (lower slots)

  -- what a dispatch leaves
  abbrev pub left_by : Segment → List Slot
  left_by (Ends left) = left
  left_by (Reaches passed slot ask refused sent rest) = passed ++ Live sent ∷ rest

  pub fewer : (slots : List Slot) (seg : Segment) → IsSegment around held from_is at small slots seg → IsLower slots seg → is_any_due at slots ≡ true
      → opens (left_by seg) < opens slots
  fewer slots (Ends left) is low due = omega (arith, all_closed left is.0, due_open slots due)
  fewer slots (Reaches passed slot ask refused sent rest) is low due =
      let plan : Option DnsQuery → Choice = choice around held from_is at small in
      let parts : opens (passed ++ Live sent ∷ rest) ≡ opens passed + opens (Live sent ∷ rest) =
      ap (open_slots plan (pos at)) (map-append standing_in passed (Live sent ∷ rest))
      ∙ open_both plan (pos at) (map standing_in passed) (map standing_in (Live sent ∷ rest)) in
      let asked : opens (Live sent ∷ rest) ≡ 0 + opens rest =
      ap (λ (b : Bool). (if b then 1 else 0) + opens rest) (closed (Live sent) is.1.settled) in
      omega (arith, all_closed passed is.0)

  -- a dispatch that was not refused
  abbrev Ended : Segment → Client → Emitter → Emitter → ℕ → Type 0
  Ended seg next out mid hop_limit = Dispatched TakesQuery RefusesQuery hop_limit (walk_of seg) (Ok tt) next.slots out mid

  pub left_is : (slots : List Slot) (seg : Segment) (next : Client) (out mid : Emitter) (hop_limit : ℕ) → IsSegment around held from_is at small slots seg
      → Ended seg next out mid hop_limit → next.slots ≡ map standing_in (left_by seg)
  left_is slots (Ends left) next out mid hop_limit is done = done.1
  left_is slots (Reaches passed slot ask refused sent rest) next out mid hop_limit is done =
      done.1 ∙ ap (λ s. map standing_in passed ++ s ∷ map standing_in rest) is.1.sent_is ∙ sym (map-append standing_in passed (Live sent ∷ rest))

  pub held_stays : (seg : Segment) (next : Client) (out mid : Emitter) (hop_limit : ℕ) → Ended seg next out mid hop_limit → mid.held ≡ out.held
  held_stays (Ends left) next out mid hop_limit done = ap (λ (e : Emitter). e.held) done.2
  held_stays (Reaches passed slot ask refused sent rest) next out mid hop_limit done = ap (λ (e : Emitter). e.held) done.0.ok.listed
