-- So do the queries, and what is listed.
use Rattle.std.proofs.Common.{◌≡◌, List, [], ◌∷◌, ◌++◌, map, refl, ap, ap₂, ◌∙◌}
use Rattle.std.proofs.Math.Path.{fun_ext}
use Rattle.host_model.specs.declared.words.EventWords.{EventWords}
use Rattle.host_model.specs.Script.{Event}
use Rattle.host_model.specs.Settings.{Settings}
use Rattle.host_model.specs.History.{Entry}
use Rattle.host_model.specs.Frames.{frames_of, lease_frames, query_frames}
use Rattle.host_model.specs.Neighbor.{known_hop}
use Rattle.host_model.specs.Queries.{arrived_over, counted, lines_at, looks_at, looks_over, query_count, servers_before, servers_under, slots_before}
use Rattle.host_model.specs.QuerySlots.{Slot, freed}
use Rattle.host_model.proofs.Alike.{AreAlike}
use Rattle.host_model.proofs.ForeignLemmas.{same_anchor, same_held, same_hop, same_message}

module _ (settings : Settings) (before : List Entry) (one other : Entry)
    (alike : AreAlike settings before one other) where
  pub same_servers : (newer : List Entry)
      → servers_before settings (newer ++ one ∷ before) ≡ servers_before settings (newer ++ other ∷ before)
  same_servers newer = ap servers_under (same_anchor settings before one other alike newer)

  pub same_count : (newer : List Entry)
      → query_count (newer ++ one ∷ before) ≡ query_count (newer ++ other ∷ before)
  same_count [] = alike.count
  same_count (entry ∷ newer) = ap (counted entry.event.arrival) (same_count newer)

  same_hops : (newer : List Entry) (event : Event)
      → known_hop settings (newer ++ one ∷ before) event ≡ known_hop settings (newer ++ other ∷ before) event
  same_hops newer event =
      fun_ext (λ destination. same_hop settings before one other alike newer event destination)

  same_arrived : (newer : List Entry) (event : Event) (words : EventWords) (slots : List Slot)
      → arrived_over settings (newer ++ one ∷ before) event words slots
      ≡ arrived_over settings (newer ++ other ∷ before) event words slots
  same_arrived newer event words slots = rw (same_servers newer, same_count newer) refl

  same_over : (newer : List Entry) (event : Event) (words : EventWords) (slots : List Slot)
      → looks_over settings (newer ++ one ∷ before) event words slots
      ≡ looks_over settings (newer ++ other ∷ before) event words slots
  same_over newer event words slots =
      rw (
        same_servers newer,
        same_count newer,
        same_held settings before one other alike newer,
        same_hops newer event,
      )
      refl

  pub same_slots : (newer : List Entry)
      → slots_before settings (newer ++ one ∷ before) ≡ slots_before settings (newer ++ other ∷ before)
  same_slots [] = alike.slots
  same_slots (entry ∷ newer) =
      ap (λ looks. map freed looks.slots)
      (same_over newer entry.event entry.words (slots_before settings (newer ++ one ∷ before))
      ∙ ap (looks_over settings (newer ++ other ∷ before) entry.event entry.words) (same_slots newer))

  same_looks : (newer : List Entry) (event : Event) (words : EventWords)
      → looks_at settings (newer ++ one ∷ before) event words
      ≡ looks_at settings (newer ++ other ∷ before) event words
  same_looks newer event words =
      same_over newer event words (slots_before settings (newer ++ one ∷ before))
      ∙ ap (looks_over settings (newer ++ other ∷ before) event words) (same_slots newer)

  pub same_lines : (newer : List Entry) (event : Event) (words : EventWords)
      → lines_at settings (newer ++ one ∷ before) event words
      ≡ lines_at settings (newer ++ other ∷ before) event words
  same_lines newer event words =
      rw (same_looks newer event words, same_slots newer, same_arrived newer event words _, same_count newer)
      refl

  same_lease : (newer : List Entry) (event : Event) (words : EventWords)
      → lease_frames settings (newer ++ one ∷ before) event words
      ≡ lease_frames settings (newer ++ other ∷ before) event words
  same_lease newer event words =
      rw (
        same_held settings before one other alike newer,
        same_hops newer event,
        same_message settings before one other alike newer event words,
      )
      refl

  same_queries : (newer : List Entry) (event : Event) (words : EventWords)
      → query_frames settings (newer ++ one ∷ before) event words
      ≡ query_frames settings (newer ++ other ∷ before) event words
  same_queries newer event words =
      rw (
        same_looks newer event words,
        same_held settings before one other alike newer,
        same_hops newer event,
        same_message settings before one other alike newer event words,
      )
      refl

  pub same_frames : (newer : List Entry) (event : Event) (words : EventWords)
      → frames_of settings (newer ++ one ∷ before) event words
      ≡ frames_of settings (newer ++ other ∷ before) event words
  same_frames newer event words =
      ap₂ (λ lease queries. lease ++ queries) (same_lease newer event words) (same_queries newer event words)
