-- Frames that are ignored do what ticks do.
use Rattle.std.specs.Prelude.{◌≡◌, ◌⊎◌, ℕ, ⊤, List, [], ◌∷◌, ◌++◌, Option, Some, None}
use Rattle.host_model.specs.Chronicle.{entry_at, history}
use Rattle.host_model.specs.Foreign.{effects}
use Rattle.host_model.specs.History.{Entry}
use Rattle.host_model.specs.Script.{Arrival, Tick, Reset, Frame, Query, Event}
use Rattle.host_model.specs.Settings.{Settings}
use Rattle.frame_verdict.specs.declared.verdict.Reason.{Reason}
use Rattle.frame_verdict.specs.declared.verdict.Verdict.{Verdict}
use Rattle.frame_verdict.specs.declared.verdict.Verdict.TheVariants.{Ignored}
use Rattle.frame_verdict.specs.Leaving.{LeaveTheSame}
use Rattle.frame_verdict.specs.Verdict.{verdict_of}

abbrev pub tick_at : ℕ → Event
tick_at at = record { at = at; arrival = Tick }

abbrev pub frame_at : ℕ → List ℕ → Event
frame_at at bytes = record { at = at; arrival = Frame bytes }

-- an event brings a frame that is ignored behind these entries
pub record IsIgnored (settings : Settings) (before : List Entry) (event : Event) : Type 0 where
  pub bytes : List ℕ
  pub why : Reason
  pub frame : event.arrival ≡ Frame bytes
  pub verdict : verdict_of settings before bytes ≡ Ignored why

-- Events, and others in their place: each is itself, or a tick in place of a frame that is ignored.
abbrev pub AreTickedFrom : Settings → List ℕ → List Entry → List Event → List Event → Type 0
AreTickedFrom settings words before [] [] = ⊤
AreTickedFrom settings words before [] (other ∷ others) = ⊥
AreTickedFrom settings words before (event ∷ events) [] = ⊥
AreTickedFrom settings words before (event ∷ events) (other ∷ others) =
    ((other ≡ event) ⊎ ((other ≡ tick_at event.at) × IsIgnored settings before event))
    × AreTickedFrom settings words (entry_at settings words before event ∷ before) events others

abbrev pub AreTicked : Settings → List ℕ → List Event → List Event → Type 0
AreTicked settings words events others = AreTickedFrom settings words [] events others

-- the verdict on what an event brings, if it brings a frame
abbrev pub verdict_on : Settings → List Entry → Arrival → Option Verdict
verdict_on settings before Tick = None
verdict_on settings before Reset = None
verdict_on settings before (Frame bytes) = Some (verdict_of settings before bytes)
verdict_on settings before (Query type_ name) = None

-- the verdicts on the frames of events, in their order
abbrev pub verdicts_from : Settings → List ℕ → List Entry → List Event → List (Option Verdict)
verdicts_from settings words before [] = []
verdicts_from settings words before (event ∷ events) =
    verdict_on settings before event.arrival
    ∷ verdicts_from settings words (entry_at settings words before event ∷ before) events

abbrev pub verdicts : Settings → List ℕ → List Event → List (Option Verdict)
verdicts settings words events = verdicts_from settings words [] events

-- Two lists of verdicts are the same, but for those on frames that are ignored and have no verdict in the other one.
abbrev pub AreSameButIgnored : List (Option Verdict) → List (Option Verdict) → Type 0
AreSameButIgnored [] [] = ⊤
AreSameButIgnored [] (other ∷ others) = ⊥
AreSameButIgnored (one ∷ more) [] = ⊥
AreSameButIgnored (one ∷ more) (other ∷ others) =
    ((other ≡ one) ⊎ ((other ≡ None) × ((why : Reason) × (one ≡ Some (Ignored why)))))
    × AreSameButIgnored more others

-- With ticks at their times in place of some of the frames of a script that are ignored, or of all, every event has the same
-- effect, every frame that is left has the same verdict, and what comes next meets the same host.
abbrev pub IgnoredFramesChangeNothing : Type 0
IgnoredFramesChangeNothing = (settings : Settings) (words : List ℕ) (events others : List Event)
    → AreTicked settings words events others
    → (effects settings words events ≡ effects settings words others)
    × AreSameButIgnored (verdicts settings words events) (verdicts settings words others)
    × LeaveTheSame settings (history settings words events) (history settings words others)

-- one frame alone
abbrev pub OneIgnoredFrameIsTicked : Type 0
OneIgnoredFrameIsTicked =
    (settings : Settings) (words : List ℕ) (earlier later : List Event) (at : ℕ) (bytes : List ℕ) (why : Reason)
    → verdict_of settings (history settings words earlier) bytes ≡ Ignored why
    → AreTicked settings words (earlier ++ frame_at at bytes ∷ later) (earlier ++ tick_at at ∷ later)

-- a script with a tick in place of each frame that is ignored
abbrev pub ticked_by : Verdict → Event → Event
ticked_by (Ignored why) event = tick_at event.at
ticked_by other event = event

abbrev pub ticked_event : Settings → List Entry → Event → Arrival → Event
ticked_event settings before event (Frame bytes) = ticked_by (verdict_of settings before bytes) event
ticked_event settings before event other = event

abbrev pub ticked_from : Settings → List ℕ → List Entry → List Event → List Event
ticked_from settings words before [] = []
ticked_from settings words before (event ∷ events) =
    ticked_event settings before event event.arrival
    ∷ ticked_from settings words (entry_at settings words before event ∷ before) events

-- all at once
abbrev pub AllIgnoredFramesAreTicked : Type 0
AllIgnoredFramesAreTicked = (settings : Settings) (words : List ℕ) (events : List Event)
    → AreTicked settings words events (ticked_from settings words [] events)
