-- What a report says of the events of a run.
use Rattle.std.specs.Prelude.{◌≡◌, ℕ, List, [], ◌∷◌, length, Option, Some, None, pos}
use Rattle.ether_lax.specs.Notes.{IsNoteOf}
use Rattle.ether_lax.specs.declared.note.FrameNote.{FrameNote}
use Rattle.host_model.specs.Script.{Arrival, Tick, Reset, Frame, Query, Event}
use Rattle.host_model.specs.Settings.{Settings}
use Rattle.host_model.specs.Frames.{frames_of}
use Rattle.host_model.specs.History.{Entry}
use Rattle.host_model.specs.Anchor.{anchor_at}
use Rattle.host_model.specs.Chronicle.{entry_at}
use Rattle.host_model.specs.Lease.{leased_under}
use Rattle.host_model.specs.Queries.{lines_at}
use Rattle.net_host.specs.declared.report.Kind.{Kind}
use Rattle.net_host.specs.declared.report.Kind.TheVariants as kind
use Rattle.net_host.specs.declared.report.Row.{Row}
use Rattle.net_host.specs.Listed.{AreFramesOf, AreListed, dhcp_frames}

-- the kind of an event
abbrev pub kind_of : Arrival → Kind
kind_of Tick = kind.Tick
kind_of Reset = kind.Reset
kind_of (Frame bytes) = kind.Frame (length bytes)
kind_of (Query type_ name) = kind.Query

-- a note on what an event brings: that of its frame, where it brings one
abbrev pub IsNoteFor : Arrival → Option FrameNote → Type 0
IsNoteFor Tick note = note ≡ None
IsNoteFor Reset note = note ≡ None
IsNoteFor (Query type_ name) note = note ≡ None
IsNoteFor (Frame bytes) note = (found : FrameNote) × (note ≡ Some found) × IsNoteOf bytes found

-- The row of an event whose entry is this one: its time and kind, the note of the frame that arrived, if one
-- did, the address that is leased after it, and the frames that are sent in it, in their order; those that are
-- marked as the DHCP client's are the one frame of its message, or there is none; and what became of queries.
pub record IsRowOf (settings : Settings) (before : List Entry) (entry : Entry) (row : Row) : Type 0 where
  pub time : row.at ≡ pos entry.event.at
  pub kind : row.kind ≡ kind_of entry.event.arrival
  pub note : IsNoteFor entry.event.arrival row.note
  pub lease : row.lease ≡ leased_under (anchor_at settings before entry.event)
  pub sent : AreListed settings (frames_of settings before entry.event entry.words) row.sent
  pub dhcp : AreFramesOf settings entry.sent (dhcp_frames row.sent)
  pub lines : row.lines ≡ lines_at settings before entry.event entry.words

-- The rows are those of the events, one each, behind the entries `before`.
abbrev pub AreRowsFrom : Settings → List ℕ → List Entry → List Event → List Row → Type 0
AreRowsFrom settings words before [] [] = Unit {0}
AreRowsFrom settings words before [] (row ∷ rows) = ⊥
AreRowsFrom settings words before (event ∷ events) [] = ⊥
AreRowsFrom settings words before (event ∷ events) (row ∷ rows) =
    IsRowOf settings before (entry_at settings words before event) row
    × AreRowsFrom settings words (entry_at settings words before event ∷ before) events rows

-- the rows are those of a run's events
abbrev pub AreRows : Settings → List ℕ → List Event → List Row → Type 0
AreRows settings words events rows = AreRowsFrom settings words [] events rows
