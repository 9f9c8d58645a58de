-- A dispatch walks over the slots as the looks of the history do, and leaves what it passed.
use Rattle.std.proofs.Common.{◌≡◌, ℕ, ◌<◌, ◌||◌, false, List, [], ◌∷◌, ◌++◌, map, Option, refl, ◌∙◌, ap, ap₂}
use Rattle.std.specs.List.{AllByRecursion}
use Rattle.net_wire.specs.declared.address.IpAddress.TheVariants as ip
use Rattle.dns_client.specs.Looks.{Walk, Quiet, Sends, behind, walk}
use Rattle.dns_client.proofs.WalkLemmas.{behind-behind}
use Rattle.host_model.specs.declared.held.Held.{Held}
use Rattle.host_model.specs.Queries.{address_in}
use Rattle.host_model.specs.QueryLooks.{Around, Seen, Kept, Named, seen_at}
use Rattle.host_model.specs.QuerySlots.{Slot, is_any_due}
use Rattle.host_model.specs.Script.{time_limit}
use Rattle.net_host.specs.QueryStanding.{standing_in, number_in}
use Rattle.net_host.proofs.QueryLookLemmas.{turn_in, seen_walk, choice, IsSettled, IsNamed, IsSeen, looks_as}
use Rattle.net_host.proofs.QuerySegments.{Segment, Ends, Reaches, behind_kept, segment_on, segment}

abbrev pub walk_of : Segment → Walk
walk_of (Ends left) = Quiet (map standing_in left)
walk_of (Reaches passed slot ask refused sent rest) =
    Sends (map standing_in passed) (standing_in slot) ask.request (ip.Ipv4 ask.from) (ip.Ipv4 ask.to) (turn_in refused) (turn_in sent)
    (map standing_in rest)

walk_behind_kept : (kept : Slot) (next : Segment) → behind (standing_in kept ∷ []) (walk_of next) ≡ walk_of (behind_kept kept next)
walk_behind_kept kept (Ends left) = refl
walk_behind_kept kept (Reaches passed slot ask refused sent rest) = refl

walk_on_seen : (slot : Slot) (slots : List Slot) (next : Segment) (seen : Seen)
    → seen_walk (standing_in slot) (map standing_in slots) (walk_of next) seen ≡ walk_of (segment_on slot slots next seen)
walk_on_seen slot slots next (Kept kept) = walk_behind_kept kept next
walk_on_seen slot slots next (Named ask refused sent) = refl

behind_nothing : (w : Walk) → w ≡ behind [] w
behind_nothing (Quiet slots) = refl
behind_nothing (Sends passed slot request from to before after rest) = refl

module _ (around : Around) (held : Option Held) (from_is : around.from ≡ address_in held) (at : ℕ) (small : at < time_limit) where
  abbrev pub walked : List Slot → Walk
  walked slots = walk (choice around held from_is at small) (map standing_in slots)

  pub walk_is : (slots : List Slot) → walked slots ≡ walk_of (segment around at slots)
  walk_is [] = refl
  walk_is (slot ∷ slots) =
      (looks_as around held from_is at small slot).walk_is (map standing_in slots) (walked slots)
      ∙ ap (λ w. seen_walk (standing_in slot) (map standing_in slots) w (seen_at around at slot)) (walk_is slots)
      ∙ walk_on_seen slot slots (segment around at slots) (seen_at around at slot)

  -- slots that further looks leave, and that are not due
  abbrev pub AreSettled : List Slot → Type 0
  AreSettled slots = AllByRecursion (IsSettled around held from_is at small) slots

  abbrev pub IsSegment : List Slot → Segment → Type 0
  IsSegment slots (Ends left) = AreSettled left × (map number_in left ≡ map number_in slots)
  IsSegment slots (Reaches passed slot ask refused sent rest) =
      AreSettled passed × IsNamed around held from_is at small slot ask refused sent
      × (map number_in passed ++ number_in slot ∷ map number_in rest ≡ map number_in slots)

  segment_with : (slot : Slot) (slots : List Slot) (next : Segment) (seen : Seen)
      → IsSegment slots next → IsSeen around held from_is at small slot seen → IsSegment (slot ∷ slots) (segment_on slot slots next seen)
  segment_with slot slots (Ends left) (Kept kept) more here =
      ((here.0, more.0), ap₂ (λ number numbers. number ∷ numbers) here.1 more.1)
  segment_with slot slots (Reaches passed named ask refused sent rest) (Kept kept) more here =
      ((here.0, more.0), more.1, ap₂ (λ number numbers. number ∷ numbers) here.1 more.2)
  segment_with slot slots next (Named ask refused sent) more here = (tt, here, refl)

  pub segment_is : (slots : List Slot) → IsSegment slots (segment around at slots)
  segment_is [] = (tt, refl)
  segment_is (slot ∷ slots) =
      segment_with slot slots (segment around at slots) (seen_at around at slot) (segment_is slots)
      (looks_as around held from_is at small slot).seen_is

  pub walk_behind : (front rest : List Slot) → AreSettled front → walked (front ++ rest) ≡ behind (map standing_in front) (walked rest)
  walk_behind [] rest settled = behind_nothing (walked rest)
  walk_behind (slot ∷ front) rest settled =
      settled.0.again (map standing_in (front ++ rest)) (walked (front ++ rest))
      ∙ ap (behind (standing_in slot ∷ [])) (walk_behind front rest settled.1)
      ∙ behind-behind (standing_in slot ∷ []) (map standing_in front) (walked rest)

  pub due_behind : (front rest : List Slot) → AreSettled front → is_any_due at (front ++ rest) ≡ is_any_due at rest
  due_behind [] rest settled = refl
  due_behind (slot ∷ front) rest settled =
      ap₂ (λ one other. one || other) settled.0.quiet (due_behind front rest settled.1)

  pub none_due : (slots : List Slot) → AreSettled slots → is_any_due at slots ≡ false
  none_due [] settled = refl
  none_due (slot ∷ slots) settled = ap₂ (λ one other. one || other) settled.0.quiet (none_due slots settled.1)

  pub settled_both : (front more : List Slot) → AreSettled front → AreSettled more → AreSettled (front ++ more)
  settled_both [] more settled others = others
  settled_both (slot ∷ front) more settled others = (settled.0, settled_both front more settled.1 others)
