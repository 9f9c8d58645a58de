-- The row of an event.
use Rattle.std.proofs.Common.{◌≡◌, ℕ, ℤ, pos, List, [], ◌∷◌, ◌++◌, Option, refl, ◌≤ℤ◌, negsuc, arith}
use Rattle.std.proofs.lemmas.Int.{ints}
use Rattle.phy_layers.specs.PcapBytes.{epoch_micros}
use Rattle.lease_server.specs.Holdings.{Call}
use Rattle.lease_server.specs.State.{ServerState}
use Rattle.lease_server.specs.Values.{Values}
use Rattle.script_reader.specs.declared.script.ScriptEvent.{ScriptEvent}
use Rattle.script_reader.specs.Reading.{arrival_of}
use Rattle.server_run.specs.declared.answering.Given.{Given}
use Rattle.server_run.specs.declared.report.ServeRow.{ServeRow}
use Rattle.server_run.specs.Asking.{asked_at}
use Rattle.server_run.specs.Rows.{frame_of, new_row}
use Rattle.server_run.specs.Serving.{AnswersAsked, PlacesRow, standing}

-- a moment that is not before moment 0 has its microseconds
pub epoch_is : (at : ℤ) → pos 0 ≤ℤ at → at ≡ pos (epoch_micros at)
epoch_is (pos micros) from = refl
epoch_is (negsuc before) from = absurd (omega (arith, ints, from))

-- the row of an event, placed and then filled in
abbrev pub place_row : (values : Values) (calls : List Call) (at : ℤ) (event : ScriptEvent) (server_old server_new : ServerState)
    (captured_old captured_new : Option (List ℕ)) (report_old begun report_new : List ServeRow) (arrived : Option (List ℕ)) (given : Given)
    → at ≡ pos (epoch_micros at) → begun ≡ report_old ++ new_row at arrived ∷ []
    → ((rows : List ServeRow) (row : ServeRow) → begun ≡ rows ++ row ∷ []
    → report_new ≡ rows ++ record row { answered = given.answered; sent = given.sent } ∷ [])
    → arrived ≡ frame_of (arrival_of event)
    → AnswersAsked values calls (epoch_micros at) (asked_at values (arrival_of event)) given server_new
    → PlacesRow values calls at event (standing server_old captured_old report_old) (standing server_new captured_new report_new)
place_row values calls at event server_old server_new captured_old captured_new report_old begun report_new arrived given is_time begins fills is_arrived answers = record {
  row = record { at = at; arrived = arrived; answered = given.answered; sent = given.sent };
  placed = fills report_old (new_row at arrived) begins;
  row_of = record { time = is_time; arrived = is_arrived; answered = answers.answered; sent = answers.sent };
  agrees = answers.agrees;
}
