-- There are always as many slots as at first.
use Rattle.std.proofs.Common.{◌≡◌, ℕ, suc, false, List, [], ◌∷◌, length, refl, ◌∙◌, ap, arith}
use Rattle.std.specs.Prelude.{map}
use Rattle.host_model.specs.History.{Entry}
use Rattle.host_model.specs.Queries.{around_at, arrived_over, looks_at, query_count, servers_before, slots_before}
use Rattle.host_model.specs.QueryEnds.{AreSlotsKept}
use Rattle.host_model.specs.QueryLooks.{Looks, SentAsk}
use Rattle.host_model.specs.QuerySlots.{Query, Slot, freed}
use Rattle.host_model.specs.QueryStart.{Begun}
use Rattle.host_model.specs.Settings.{Settings}
use Rattle.host_model.proofs.QueryArrivalLemmas.{Arrived, Heard, Refuses, Starts, Ended, NoMore, Same, EndsOne, Put, Here, There, arrives}
use Rattle.host_model.proofs.QueryLineLemmas.{one_waits, waits_is}
use Rattle.host_model.proofs.QueryWalkLemmas.{Asks, Keeps, Rest, Walked, walks}

walked_len : (at : ℕ) (old new : List Slot) (asks : List SentAsk) → Walked at old new asks → length new ≡ length old
walked_len at old new asks (Rest slots) = refl
walked_len at old new asks (Keeps slot left more rest later leaves walked) = ap suc (walked_len at more rest later walked)
walked_len at old new asks (Asks query from to hop more rest later due walked) =
    ap suc (walked_len at more rest later walked)

ended_len : (old new : List Slot) → Ended old new → length new ≡ length old
ended_len old new NoMore = refl
ended_len old new (Same slot more rest ended) = ap suc (ended_len more rest ended)
ended_len old new (EndsOne query addresses more rest ended) = ap suc (ended_len more rest ended)

put_len : (query : Query) (old new : List Slot) → Put query old new → length new ≡ length old
put_len query old new (Here slots) = refl
put_len query old new (There slot more rest put) = ap suc (put_len query more rest put)

arrived_len : (here : ℕ) (old : List Slot) (count : ℕ) (begun : Begun) → Arrived here old count begun
    → length begun.slots ≡ length old
arrived_len here old count begun (Heard new ended) = ended_len old new ended
arrived_len here old count begun (Refuses fault) = refl
arrived_len here old count begun (Starts query new is none put) = put_len query old new put

freed_len : (slots : List Slot) → length (map freed slots) ≡ length slots
freed_len [] = refl
freed_len (slot ∷ slots) = ap suc (freed_len slots)

sixteen : (settings : Settings) (entries : List Entry) → length (slots_before settings entries) ≡ 16
sixteen settings [] = refl
sixteen settings (entry ∷ before) =
    let slots : List Slot = slots_before settings before in
    let begun : Begun = arrived_over settings before entry.event entry.words slots in
    let looks : Looks = looks_at settings before entry.event entry.words in
    freed_len looks.slots
    ∙ walked_len entry.event.at begun.slots looks.slots looks.asks
    (walks (around_at settings before entry.event) entry.event.at begun.slots false)
    ∙ arrived_len (query_count before) slots (query_count (entry ∷ before)) begun
    (arrives settings (servers_before settings before) (query_count before) entry.event.arrival entry.words slots)
    ∙ sixteen settings before

pub slots_kept : (settings : Settings) (entries : List Entry) → AreSlotsKept settings entries
slots_kept settings entries = record {
  sixteen = sixteen settings entries;
  distinct = λ number.
      omega (arith, one_waits number settings entries, waits_is number (slots_before settings entries));
}
