-- What a row says of an entry.
use Rattle.std.specs.Prelude.{◌≡◌, List, [], ◌∷◌, length}
use Rattle.capture_explain.specs.Capture.{CaptureEntry}
use Rattle.capture_explain.specs.Dissected.{IsDissection}
use Rattle.capture_explain.specs.declared.dissecting.Dissection.{Dissection}
use Rattle.capture_explain.specs.declared.explanation.ExplainRow.{ExplainRow}

-- what it says of the bytes of the frame
abbrev pub dissection_of : ExplainRow → Dissection
dissection_of row =
    record { parts = row.parts; stop = row.stop; agree = row.agree; ah = row.ah; esp = row.esp }

-- the four numbers of the entry, and the dissection of its frame
pub record IsRowOf (entry : CaptureEntry) (row : ExplainRow) : Type 0 where
  pub secs_are : row.secs ≡ entry.secs
  pub micros_are : row.micros ≡ entry.micros
  pub captured_is : row.captured ≡ length entry.frame
  pub length_is : row.length ≡ entry.told
  pub dissected : IsDissection entry.frame (dissection_of row)

-- a row for each entry, in order
abbrev pub AreRowsOf : List CaptureEntry → List ExplainRow → Type 0
AreRowsOf [] rows = rows ≡ []
AreRowsOf (entry ∷ entries) [] = ⊥
AreRowsOf (entry ∷ entries) (row ∷ rows) = IsRowOf entry row × AreRowsOf entries rows

abbrev pub TellsRows : List ExplainRow → List CaptureEntry → Type 0
TellsRows rows entries = AreRowsOf entries rows
