-- Frames that are ignored change no row but their own, which they give its kind and its note, and no record of a capture but their
-- own.
use Rattle.std.specs.Prelude.{◌≡◌, ℕ, List, [], ◌∷◌}
use Rattle.host_model.specs.Script.{Event}
use Rattle.host_model.specs.Settings.{Settings}
use Rattle.frame_verdict.specs.Ignored.{AreTicked}
use Rattle.net_host.specs.declared.report.Row.{Row}
use Rattle.net_host.specs.Captured.{run_capture}
use Rattle.net_host.specs.Config.{CanRun}
use Rattle.net_host.specs.ForeignRows.{SayTheSame}
use Rattle.net_host.specs.ListedCut.{HasWidths}
use Rattle.net_host.specs.Rows.{AreRows}

-- the row of an event and that of another in its place: they say the same, and where the event is itself they are the same
pub record IsRowInPlace (event other : Event) (row also : Row) : Type 0 where
  pub says : SayTheSame row also
  pub own : other ≡ event → also ≡ row

-- one for one, in their order
abbrev pub AreRowsInPlace : List Event → List Event → List Row → List Row → Type 0
AreRowsInPlace [] [] [] [] = Unit {0}
AreRowsInPlace (event ∷ events) (other ∷ others) (row ∷ rows) (also ∷ more) =
    IsRowInPlace event other row also × AreRowsInPlace events others rows more
AreRowsInPlace events others rows more = ⊥

-- With ticks at their times in place of some of the frames of a script that are ignored, or of all, each row of another event is the
-- same and that of a tick says the same. The capture has the records of the rows as they were, and none of those frames.
abbrev pub IgnoredFramesChangeNoRow : Type 0
IgnoredFramesChangeNoRow = (settings : Settings) → HasWidths settings → CanRun settings
    → (words : List ℕ) (events others : List Event) → AreTicked settings words events others
    → (rows more : List Row) → AreRows settings words events rows → AreRows settings words others more
    → AreRowsInPlace events others rows more × (run_capture others more ≡ run_capture others rows)
