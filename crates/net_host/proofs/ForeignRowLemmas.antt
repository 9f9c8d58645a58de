-- Rows of the same effects say the same.
use Rattle.std.proofs.Common.{◌≡◌, ℕ, List, [], ◌∷◌, ◌++◌, pos, subst, sym, ◌∙◌}
use Rattle.std.specs.List.{AllByRecursion}
use Rattle.host_model.specs.Foreign.{Effect, IsForeign, effects_from}
use Rattle.host_model.specs.Chronicle.{entry_at, history}
use Rattle.host_model.specs.History.{Entry}
use Rattle.host_model.specs.Script.{Tick, Frame, Event}
use Rattle.host_model.specs.Settings.{Settings}
use Rattle.host_model.specs.Sizes.{FitsFrame}
use Rattle.host_model.proofs.EffectLemmas.{nothing_changes}
use Rattle.host_model.proofs.ListedSizeLemmas.{frames_fit}
use Rattle.net_host.specs.declared.report.Row.{Row}
use Rattle.net_host.specs.Config.{CanRun}
use Rattle.net_host.specs.ForeignRows.{AllSayTheSame}
use Rattle.net_host.specs.Listed.{AreListed}
use Rattle.net_host.specs.ListedCut.{HasWidths}
use Rattle.net_host.specs.Rows.{AreRows, AreRowsFrom}
use Rattle.net_host.proofs.CutLemmas.{one_listing}

-- what a row says of an effect
pub record Says (settings : Settings) (effect : Effect) (row : Row) : Type 0 where
  pub time : row.at ≡ pos effect.at
  pub lease : row.lease ≡ effect.leased
  pub sent : AreListed settings effect.frames row.sent
  pub lines : row.lines ≡ effect.lines
  pub fits : AllByRecursion FitsFrame effect.frames

abbrev pub AllSay : Settings → List Effect → List Row → Type 0
AllSay settings [] [] = Unit {0}
AllSay settings [] (row ∷ rows) = ⊥
AllSay settings (effect ∷ effects) [] = ⊥
AllSay settings (effect ∷ effects) (row ∷ rows) = Says settings effect row × AllSay settings effects rows

pub rows_say : (settings : Settings) → HasWidths settings → CanRun settings → (words : List ℕ)
    (before : List Entry) (events : List Event) (rows : List Row)
    → AreRowsFrom settings words before events rows
    → AllSay settings (effects_from settings words before events) rows
rows_say settings widths can words before [] [] are = tt
rows_say settings widths can words before [] (row ∷ rows) are = are
rows_say settings widths can words before (event ∷ events) [] are = are
rows_say settings widths can words before (event ∷ events) (row ∷ rows) are =
    let entry : Entry = entry_at settings words before event in (
      record {
        time = are.0.time;
        lease = are.0.lease;
        sent = are.0.sent;
        lines = are.0.lines;
        fits = frames_fit settings widths.hardware can.writable before event entry.words;
      },
      rows_say settings widths can words (entry ∷ before) events rows are.1,
    )

pub say_the_same : (settings : Settings) (effects : List Effect) (rows others : List Row)
    → AllSay settings effects rows → AllSay settings effects others → AllSayTheSame rows others
say_the_same settings [] [] [] say also_say = tt
say_the_same settings [] [] (other ∷ others) say also_say = also_say
say_the_same settings [] (row ∷ rows) others say also_say = absurd say
say_the_same settings (effect ∷ effects) [] others say also_say = absurd say
say_the_same settings (effect ∷ effects) (row ∷ rows) [] say also_say = also_say
say_the_same settings (effect ∷ effects) (row ∷ rows) (other ∷ others) say also_say = (
  record {
    time = say.0.time ∙ sym also_say.0.time;
    lease = say.0.lease ∙ sym also_say.0.lease;
    sent = one_listing settings effect.frames row.sent other.sent say.0.fits say.0.sent also_say.0.sent;
    lines = say.0.lines ∙ sym also_say.0.lines;
  },
  say_the_same settings effects rows others say.1 also_say.1,
)

pub rows_stay : (settings : Settings) → HasWidths settings → CanRun settings
    → (words : List ℕ) (earlier later : List Event) (at : ℕ) (bytes : List ℕ)
    → IsForeign settings (history settings words earlier) bytes
    → (rows others : List Row)
    → AreRows settings words (earlier ++ record { at = at; arrival = Frame bytes } ∷ later) rows
    → AreRows settings words (earlier ++ record { at = at; arrival = Tick } ∷ later) others
    → AllSayTheSame rows others
rows_stay settings widths can words earlier later at bytes foreign rows others are also_are =
    let framed : List Event = earlier ++ record { at = at; arrival = Frame bytes } ∷ later in
    let ticked : List Event = earlier ++ record { at = at; arrival = Tick } ∷ later in
    let say = rows_say settings widths can words [] framed rows are in
    let also_say = rows_say settings widths can words [] ticked others also_are in
    say_the_same settings (effects_from settings words [] ticked) rows others
    (subst (λ effects. AllSay settings effects rows)
    (nothing_changes settings words [] earlier later at bytes foreign) say)
    also_say
