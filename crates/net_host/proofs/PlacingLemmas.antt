-- The row of an event.
use Rattle.std.proofs.Common.{◌≡◌, ℕ, ℤ, pos, List, [], ◌∷◌, ◌++◌, length, Option, ap, subst, ◌∙◌, refl}
use Rattle.phy_layers.specs.PcapBytes.{epoch_micros}
use Rattle.ether_lax.specs.declared.note.FrameNote.{FrameNote}
use Rattle.net_wire.specs.declared.address.Ipv4Cidr.{Ipv4Cidr}
use Rattle.host_model.specs.declared.words.EventWords.{EventWords}
use Rattle.host_model.specs.Script.{Event}
use Rattle.host_model.specs.Settings.{Settings}
use Rattle.host_model.specs.History.{Entry}
use Rattle.host_model.specs.Frames.{frames_of}
use Rattle.host_model.specs.Lease.{held_before}
use Rattle.host_model.specs.Named.{named_message}
use Rattle.host_model.specs.Queries.{lines_at}
use Rattle.host_model.specs.Neighbor.{known_hop, told_by}
use Rattle.host_model.specs.Chronicle.{entry_at, entry_of, words_at}
use Rattle.net_host.specs.declared.host.Handled.{Handled}
use Rattle.net_host.specs.declared.host.Host.{Host}
use Rattle.net_host.specs.declared.report.Kind.{Kind}
use Rattle.net_host.specs.declared.report.Row.{Row}
use Rattle.script_reader.specs.declared.script.ScriptEvent.{ScriptEvent}
use Rattle.net_host.specs.Agreement.{AgreesWithHistory}
use Rattle.net_host.specs.Handling.{HandlesEvent}
use Rattle.script_reader.specs.Reading.{arrival_of, event_at}
use Rattle.net_host.specs.Report.{new_row}
use Rattle.net_host.specs.Rows.{kind_of, IsNoteFor, IsRowOf}
use Rattle.net_host.specs.Listed.{AreListed}
use Rattle.net_host.specs.Config.{CanRun}
use Rattle.net_host.specs.Taking.{Standing, standing, PlacesRow}
use Rattle.net_host.proofs.MarkedLemmas.{all_marked}

-- the row of an event, placed and then filled in
abbrev pub place_row : (at : ℤ) (event : ScriptEvent) (words : EventWords) (host_old host_new : Host) (captured_old captured_new : Option (List ℕ))
    (report_old begun report_new : List Row) (kind : Kind) (note : Option FrameNote) (lease : Option Ipv4Cidr) (handled : Handled)
    → begun ≡ report_old ++ new_row at kind note lease ∷ []
    → ((rows : List Row) (row : Row) → begun ≡ rows ++ row ∷ []
    → report_new ≡ rows ++ record row { lease = handled.lease; sent = handled.sent; lines = handled.lines } ∷ [])
    → kind ≡ kind_of (arrival_of event) → IsNoteFor (arrival_of event) note → HandlesEvent at event words host_old host_new handled
    → PlacesRow at event words (standing host_old captured_old report_old) (standing host_new captured_new report_new)
place_row at event words host_old host_new captured_old captured_new report_old begun report_new kind note lease handled begins fills is_kind is_note handles = record {
  row = record { at = at; kind = kind; note = note; lease = handled.lease; sent = handled.sent; lines = handled.lines };
  placed = fills report_old (new_row at kind note lease) begins;
  time = refl;
  kind = is_kind;
  note = is_note;
  handles = handles;
}

-- the row that an event placed is the row of its entry, and the host agrees with that
pub record Placed (settings : Settings) (words : List ℕ) (before : List Entry) (event : Event) (row : Row) (host : Host) : Type 0 where
  pub row_of : IsRowOf settings before (entry_at settings words before event) row
  pub agrees : AgreesWithHistory settings (entry_at settings words before event ∷ before) host

pub placed : (settings : Settings) (words : List ℕ) (before : List Entry) (at : ℤ) (event : ScriptEvent) (drawn : EventWords) (old new : Standing)
    (places : PlacesRow at event drawn old new)
    → at ≡ pos (epoch_micros at) → CanRun settings → AgreesWithHistory settings before old.host → drawn ≡ words_at words (length before)
    → Placed settings words before (event_at at event) places.row new.host
placed settings words before at event drawn old new places is_time can agrees are_drawn =
    let handled = places.handles settings before can agrees in
    let is_entry : entry_of settings before (event_at at event) drawn ≡ entry_at settings words before (event_at at event) =
    ap (entry_of settings before (event_at at event)) are_drawn in
    let P : Entry → Type 0 = λ entry. AgreesWithHistory settings (entry ∷ before) new.host in
    let Q : Entry → Type 0 = λ entry. AreListed settings (frames_of settings before entry.event entry.words) places.row.sent in
    let L : Entry → Type 0 = λ entry. places.row.lines ≡ lines_at settings before entry.event entry.words in
    let sent = subst Q is_entry handled.frames in
    let e = event_at at event in
    record {
      row_of = record {
        time = places.time ∙ is_time;
        kind = places.kind;
        note = places.note;
        lease = handled.lease;
        sent = sent;
        dhcp = all_marked settings (held_before settings before) (told_by settings e.arrival) (known_hop settings before e)
            (named_message settings before e (words_at words (length before))) _ _ places.row.sent sent;
        lines = subst L is_entry handled.lines;
      };
      agrees = subst P is_entry handled.agrees;
    }

-- the row that a host gives itself
pub row_is : (settings : Settings) (before : List Entry) (at : ℤ) (event : ScriptEvent) (words : EventWords) (old new : Host) (kind : Kind)
    (noted : Option FrameNote) (handled : Handled)
    → at ≡ pos (epoch_micros at) → kind ≡ kind_of (arrival_of event) → IsNoteFor (arrival_of event) noted
    → HandlesEvent at event words old new handled → CanRun settings → AgreesWithHistory settings before old
    → IsRowOf settings before (entry_of settings before (event_at at event) words)
    (record { at = at; kind = kind; note = noted; lease = handled.lease; sent = handled.sent; lines = handled.lines })
row_is settings before at event words old new kind noted handled is_time is_kind is_note handles can agrees =
    let answers = handles settings before can agrees in
    let e = event_at at event in
    record {
      time = is_time;
      kind = is_kind;
      note = is_note;
      lease = answers.lease;
      sent = answers.frames;
      dhcp = all_marked settings (held_before settings before) (told_by settings e.arrival) (known_hop settings before e)
          (named_message settings before e words) _ _ handled.sent answers.frames;
      lines = answers.lines;
    }
