-- Rows of events, and of ticks in place of those whose frames are ignored.
use Rattle.std.proofs.Common.{◌≡◌, ℕ, List, [], ◌∷◌, ◌++◌, Option, Some, None, pos, refl, ap, ap₂, subst, sym, ◌∙◌}
use Rattle.std.specs.Prelude.{length}
use Rattle.ether_ip.proofs.CutPacketLemmas.{one_packet}
use Rattle.ether_lax.specs.Notes.{IsNoteOf, note_of_layout}
use Rattle.ether_lax.specs.Steps.{begins_with}
use Rattle.ether_lax.specs.declared.note.FrameNote.{FrameNote}
use Rattle.ether_link.specs.declared.layout.PartKind.TheVariants.{Ethernet2}
use Rattle.host_model.specs.Chronicle.{entry_at}
use Rattle.host_model.specs.Foreign.{effects_from}
use Rattle.host_model.specs.History.{Entry}
use Rattle.host_model.specs.Script.{Arrival, Tick, Reset, Frame, Query, Event}
use Rattle.host_model.specs.Settings.{Settings}
use Rattle.frame_verdict.specs.Ignored.{AreTicked}
use Rattle.frame_verdict.proofs.TickedLemmas.{changes_none}
use Rattle.phy_layers.specs.PcapBytes.{global_header}
use Rattle.net_host.specs.declared.report.Row.{Row}
use Rattle.net_host.specs.Captured.{event_records, records, run_capture}
use Rattle.net_host.specs.Config.{CanRun}
use Rattle.net_host.specs.ForeignRows.{AllSayTheSame, SayTheSame}
use Rattle.net_host.specs.IgnoredRows.{AreRowsInPlace, IsRowInPlace}
use Rattle.net_host.specs.ListedCut.{HasWidths}
use Rattle.net_host.specs.Rows.{AreRows, AreRowsFrom, IsNoteFor, IsRowOf, kind_of}
use Rattle.net_host.proofs.ForeignRowLemmas.{AllSay, rows_say, say_the_same}

-- a frame has one note
one_note : (frame : List ℕ) (one other : FrameNote) → IsNoteOf frame one → IsNoteOf frame other → one ≡ other
one_note frame one other is also =
    let same = (one_packet frame (begins_with Ethernet2) 0 (length frame)).unique is.places also.places is.stop also.stop
    is.layout also.layout in
    is.is ∙ ap₂ (note_of_layout frame) same.0 same.1 ∙ sym also.is

-- and so has what an event brings
note_for : (arrival : Arrival) (one other : Option FrameNote) → IsNoteFor arrival one → IsNoteFor arrival other
    → one ≡ other
note_for Tick one other is also = is ∙ sym also
note_for Reset one other is also = is ∙ sym also
note_for (Query type_ name) one other is also = is ∙ sym also
note_for (Frame bytes) one other is also =
    is.1 ∙ ap Some (one_note bytes is.0 also.0 is.2 also.2) ∙ sym also.1

-- what a row says of its event alone
pub record IsOf (event : Event) (row : Row) : Type 0 where
  pub kind : row.kind ≡ kind_of event.arrival
  pub note : IsNoteFor event.arrival row.note

abbrev AreOf : List Event → List Row → Type 0
AreOf [] [] = Unit {0}
AreOf [] (row ∷ rows) = ⊥
AreOf (event ∷ events) [] = ⊥
AreOf (event ∷ events) (row ∷ rows) = IsOf event row × AreOf events rows

are_of : (settings : Settings) (words : List ℕ) (before : List Entry) (events : List Event) (rows : List Row)
    → AreRowsFrom settings words before events rows → AreOf events rows
are_of settings words before [] [] are = tt
are_of settings words before [] (row ∷ rows) are = are
are_of settings words before (event ∷ events) [] are = are
are_of settings words before (event ∷ events) (row ∷ rows) are = (
  record { kind = are.0.kind; note = are.0.note },
  are_of settings words (entry_at settings words before event ∷ before) events rows are.1,
)

same_row : (event : Event) (row also : Row) → IsOf event row → IsOf event also → SayTheSame row also → also ≡ row
same_row event row also is also_is says =
    rw (
      sym says.time,
      sym says.lease,
      sym says.sent,
      sym says.lines,
      also_is.kind ∙ sym is.kind,
      note_for event.arrival also.note row.note also_is.note is.note,
    )
    refl

in_place : (event other : Event) (row also : Row) → IsOf event row → IsOf other also → SayTheSame row also
    → IsRowInPlace event other row also
in_place event other row also is also_is says = record {
  says = says;
  own = λ same. same_row event row also is (subst (λ own. IsOf own also) same also_is) says;
}

all_in_place : (events others : List Event) (rows more : List Row) → AreOf events rows → AreOf others more
    → AllSayTheSame rows more → AreRowsInPlace events others rows more
all_in_place [] [] [] [] are also_are say = tt
all_in_place (event ∷ events) (other ∷ others) (row ∷ rows) (also ∷ more) are also_are say = (
  in_place event other row also are.0 also_are.0 say.0,
  all_in_place events others rows more are.1 also_are.1 say.1,
)
all_in_place [] (other ∷ others) [] (also ∷ more) are also_are say = absurd say
all_in_place (event ∷ events) [] (row ∷ rows) [] are also_are say = absurd say
all_in_place [] others (row ∷ rows) more are also_are say = absurd are
all_in_place (event ∷ events) others [] more are also_are say = absurd are
all_in_place events [] rows (also ∷ more) are also_are say = absurd also_are
all_in_place events (other ∷ others) rows [] are also_are say = absurd also_are

same_records : (others : List Event) (rows more : List Row) → AllSayTheSame rows more
    → records others more ≡ records others rows
same_records [] rows more say = refl
same_records (other ∷ others) [] [] say = refl
same_records (other ∷ others) [] (also ∷ more) say = absurd say
same_records (other ∷ others) (row ∷ rows) [] say = absurd say
same_records (other ∷ others) (row ∷ rows) (also ∷ more) say =
    rw (say.0.sent, same_records others rows more say.1) refl

pub rows_stay : (settings : Settings) → HasWidths settings → CanRun settings
    → (words : List ℕ) (events others : List Event) → AreTicked settings words events others
    → (rows more : List Row) → AreRows settings words events rows → AreRows settings words others more
    → AreRowsInPlace events others rows more × (run_capture others more ≡ run_capture others rows)
rows_stay settings widths can words events others ticked rows more are also_are =
    let say = rows_say settings widths can words [] events rows are in
    let also_say = rows_say settings widths can words [] others more also_are in
    let same : AllSayTheSame rows more =
    say_the_same settings (effects_from settings words [] others) rows more
    (subst (λ effects. AllSay settings effects rows) (changes_none settings words events others ticked).0 say)
    also_say in (
      all_in_place events others rows more (are_of settings words [] events rows are)
          (are_of settings words [] others more also_are) same,
      ap (λ records. global_header 1 ++ records) (same_records others rows more same),
    )
