-- Frames that are not for the host change no time, no lease and no frame of any row.
use Rattle.std.specs.Prelude.{◌≡◌, ℕ, List, [], ◌∷◌, ◌++◌}
use Rattle.host_model.specs.Chronicle.{history}
use Rattle.host_model.specs.Foreign.{IsForeign}
use Rattle.host_model.specs.Script.{Tick, Frame, Event}
use Rattle.host_model.specs.Settings.{Settings}
use Rattle.net_host.specs.declared.report.Row.{Row}
use Rattle.net_host.specs.Config.{CanRun}
use Rattle.net_host.specs.ListedCut.{HasWidths}
use Rattle.net_host.specs.Rows.{AreRows}

-- Two rows say the same, be it of different kinds: when it was, what is leased, which frames were sent, and what
-- became of queries.
pub record SayTheSame (one other : Row) : Type 0 where
  pub time : one.at ≡ other.at
  pub lease : one.lease ≡ other.lease
  pub sent : one.sent ≡ other.sent
  pub lines : one.lines ≡ other.lines

-- one for one, in their order
abbrev pub AllSayTheSame : List Row → List Row → Type 0
AllSayTheSame [] [] = Unit {0}
AllSayTheSame [] (other ∷ others) = ⊥
AllSayTheSame (row ∷ rows) [] = ⊥
AllSayTheSame (row ∷ rows) (other ∷ others) = SayTheSame row other × AllSayTheSame rows others

-- With a tick at its time in place of a foreign frame, every row of a script says the same, each frame byte
-- for byte.
abbrev pub ForeignFramesChangeNoRow : Type 0
ForeignFramesChangeNoRow = (settings : Settings) → HasWidths settings → CanRun settings
    → (words : List ℕ) (earlier later : List Event) (at : ℕ) (bytes : List ℕ)
    → IsForeign settings (history settings words earlier) bytes
    → (rows others : List Row)
    → AreRows settings words (earlier ++ record { at = at; arrival = Frame bytes } ∷ later) rows
    → AreRows settings words (earlier ++ record { at = at; arrival = Tick } ∷ later) others
    → AllSayTheSame rows others
