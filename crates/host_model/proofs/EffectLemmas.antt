-- A frame that tells nothing has the effect of a tick, and so has every event behind it.
use Rattle.std.proofs.Common.{◌≡◌, ℕ, List, [], ◌∷◌, ◌++◌, length, refl, ap, ap₂, ◌∙◌}
use Rattle.host_model.specs.declared.words.EventWords.{EventWords}
use Rattle.host_model.specs.Script.{Tick, Frame, Event}
use Rattle.host_model.specs.Settings.{Settings}
use Rattle.host_model.specs.History.{Entry}
use Rattle.host_model.specs.Chronicle.{entry_at, entry_of, history_from, words_at}
use Rattle.host_model.specs.Foreign.{Effect, IsForeign, effect_of, effects_from}
use Rattle.host_model.proofs.Alike.{AreAlike, IsIdle}
use Rattle.host_model.proofs.ForeignEventLemmas.{alike, idle_of, leaves_frames, leaves_lines}
use Rattle.host_model.proofs.ForeignLemmas.{same_anchor, same_entry, same_length}
use Rattle.host_model.proofs.ForeignQueryLemmas.{same_frames, same_lines}

module _ (settings : Settings) (before : List Entry) (one other : Entry)
    (alike : AreAlike settings before one other) where
  same_effect : (newer : List Entry) (entry : Entry)
      → effect_of settings (newer ++ one ∷ before) entry ≡ effect_of settings (newer ++ other ∷ before) entry
  same_effect newer entry =
      rw (
        same_frames settings before one other alike newer entry.event entry.words,
        same_lines settings before one other alike newer entry.event entry.words,
        same_anchor settings before one other alike (entry ∷ newer),
      )
      refl

  pub later_effects : (words : List ℕ) (newer : List Entry) (events : List Event)
      → effects_from settings words (newer ++ one ∷ before) events
      ≡ effects_from settings words (newer ++ other ∷ before) events
  later_effects words newer [] = refl
  later_effects words newer (event ∷ events) =
      let entry : Entry = entry_at settings words (newer ++ other ∷ before) event in
      let same : entry_at settings words (newer ++ one ∷ before) event ≡ entry =
      same_entry settings before one other alike newer event (words_at words (length (newer ++ one ∷ before)))
      ∙ ap (λ place. entry_of settings (newer ++ other ∷ before) event (words_at words place))
      (same_length settings before one other alike newer) in
      let with_entry : Entry → List Effect =
      λ own. effect_of settings (newer ++ one ∷ before) own
      ∷ effects_from settings words (own ∷ newer ++ one ∷ before) events in
      ap with_entry same
      ∙ ap₂ (λ effect more. effect ∷ more) (same_effect newer entry)
      (later_effects words (entry ∷ newer) events)

-- with a tick in place of such a frame, behind any entries
pub changes_nothing : (settings : Settings) (words : List ℕ) (before : List Entry) (later : List Event) (at : ℕ)
    (bytes : List ℕ) → IsIdle settings before at bytes
    → effects_from settings words before (record { at = at; arrival = Frame bytes } ∷ later)
    ≡ effects_from settings words before (record { at = at; arrival = Tick } ∷ later)
changes_nothing settings words before later at bytes idle =
    let own : EventWords = words_at words (length before) in
    let one : Entry = entry_of settings before (record { at = at; arrival = Frame bytes }) own in
    let other : Entry = entry_of settings before (record { at = at; arrival = Tick }) own in
    let like : AreAlike settings before one other = alike settings before at bytes idle own in
    let same : effect_of settings before one ≡ effect_of settings before other =
    rw (
      like.sent,
      leaves_frames settings before at bytes idle own,
      leaves_lines settings before at bytes idle own,
      like.anchor,
    )
    refl in
    ap₂ (λ effect more. effect ∷ more) same (later_effects settings before one other like words [] later)

pub nothing_changes : (settings : Settings) (words : List ℕ) (before : List Entry)
    (earlier later : List Event) (at : ℕ) (bytes : List ℕ)
    → IsForeign settings (history_from settings words before earlier) bytes
    → effects_from settings words before (earlier ++ record { at = at; arrival = Frame bytes } ∷ later)
    ≡ effects_from settings words before (earlier ++ record { at = at; arrival = Tick } ∷ later)
nothing_changes settings words before [] later at bytes foreign =
    changes_nothing settings words before later at bytes (idle_of settings before at bytes foreign)
nothing_changes settings words before (event ∷ earlier) later at bytes foreign =
    ap (λ more. effect_of settings before (entry_at settings words before event) ∷ more)
    (nothing_changes settings words (entry_at settings words before event ∷ before) earlier later at bytes
    foreign)
