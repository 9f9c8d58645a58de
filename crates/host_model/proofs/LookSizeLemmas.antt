-- What the looks at the queries lead to fits a frame.
use Rattle.std.proofs.Common.{ℕ, Bool, true, false, List, [], ◌∷◌, Option, Some, None}
use Rattle.std.specs.Prelude.{◌||◌}
use Rattle.std.specs.List.{AllByRecursion}
use Rattle.std.proofs.lemmas.Bool.{cond_both}
use Rattle.net_wire.specs.declared.address.EthernetAddress.{EthernetAddress}
use Rattle.net_wire.specs.Arrival.{IsSendable}
use Rattle.host_model.specs.declared.words.EventWords.{EventWords}
use Rattle.host_model.specs.Frames.{query_datagram}
use Rattle.host_model.specs.History.{Entry}
use Rattle.host_model.specs.Queries.{around_at, arrived_over, looks_at, looks_over, query_count, servers_before, slots_before}
use Rattle.host_model.specs.QueryLooks.{Around, Ask, SentAsk, Looks, Seen, Kept, Named, looks_from, named_then, no_looks, seen_at, seen_then}
use Rattle.host_model.specs.QuerySlots.{Query, Slot, is_any_due}
use Rattle.host_model.specs.Script.{Event}
use Rattle.host_model.specs.Settings.{Settings}
use Rattle.host_model.specs.Sizes.{HasSix}
use Rattle.host_model.proofs.AddressSizeLemmas.{HasFourIn}
use Rattle.host_model.proofs.AnchorSizeLemmas.{HasSixIn}
use Rattle.host_model.proofs.SeenSizeLemmas.{FitsAround, FitsSeen, around_fits, slot_fits}
use Rattle.host_model.proofs.QuerySizeLemmas.{FitSlots, all_freed_fit, arrived_fits, none_fit}

abbrev pub FitsAsk : SentAsk → Type 0
FitsAsk sent = HasSix sent.hop × IsSendable (query_datagram sent.ask)

pub record FitsLooks (looks : Looks) : Type 0 where
  pub slots : FitSlots looks.slots
  pub asks : AllByRecursion FitsAsk looks.asks
  pub unknown : HasFourIn looks.unknown

named_fits : (found : Option EthernetAddress) (ask : Ask) (refused sent : Query) (slots : List Slot)
    (next : Looks) → HasSixIn found → FitsSeen (Named ask refused sent) → FitSlots slots → FitsLooks next
    → FitsLooks (named_then found ask refused sent slots next)
named_fits None ask refused sent slots next six fits fit next_fits =
    record { slots = (fits.1, fit); asks = tt; unknown = fits.0.destination }
named_fits (Some hop) ask refused sent slots next six fits fit next_fits = record {
  slots = (fits.2, next_fits.slots);
  asks = ((six, fits.0), next_fits.asks);
  unknown = next_fits.unknown;
}

module _ (around : Around) (at : ℕ) (fits : FitsAround around) where
  then_fits : (seen : Seen) (slots : List Slot) (next : Bool → Looks) → FitsSeen seen → FitSlots slots
      → ((passed : Bool) → FitsLooks (next passed)) → FitsLooks (seen_then around.hop seen slots next)
  then_fits (Kept slot) slots next seen fit next_fits = record {
    slots = (seen, (next_fits true).slots);
    asks = (next_fits true).asks;
    unknown = (next_fits true).unknown;
  }
  then_fits (Named ask refused sent) slots next seen fit next_fits =
      named_fits (around.hop ask.to) ask refused sent slots (next false) (fits.hop ask.to) seen fit
      (next_fits false)

  from_fits : (slots : List Slot) → FitSlots slots → (passed : Bool)
      → FitsLooks (looks_from around at passed slots)
  from_fits [] fit passed = record { slots = tt; asks = tt; unknown = tt }
  from_fits (slot ∷ slots) fit passed =
      let next : Bool → Looks = λ passed. looks_from around at passed slots in
      cond_both (passed || is_any_due at (slot ∷ slots))
      (seen_then around.hop (seen_at around at slot) slots next) (no_looks (slot ∷ slots)) FitsLooks
      (λ due. then_fits (seen_at around at slot) slots next (slot_fits around at slot fits fit.0) fit.1
      (from_fits slots fit.1))
      (λ early. record { slots = fit; asks = tt; unknown = tt })

over_fits : (settings : Settings) (before : List Entry) (event : Event) (words : EventWords)
    (slots : List Slot) → FitSlots slots → FitsLooks (looks_over settings before event words slots)
over_fits settings before event words slots fit =
    from_fits (around_at settings before event) event.at (around_fits settings before event)
    (arrived_over settings before event words slots).slots
    (arrived_fits settings (servers_before settings before) (query_count before) event.arrival words slots fit)
    false

before_fit : (settings : Settings) (before : List Entry) → FitSlots (slots_before settings before)
before_fit settings [] = none_fit
before_fit settings (entry ∷ before) =
    let looks : Looks =
    looks_over settings before entry.event entry.words (slots_before settings before) in
    all_freed_fit looks.slots
    (over_fits settings before entry.event entry.words (slots_before settings before)
    (before_fit settings before)).slots

pub looks_fit : (settings : Settings) (before : List Entry) (event : Event) (words : EventWords)
    → FitsLooks (looks_at settings before event words)
looks_fit settings before event words =
    over_fits settings before event words (slots_before settings before) (before_fit settings before)
