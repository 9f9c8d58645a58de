-- The row is that of the event, and an event is refused just where the events so far need all places.
use Rattle.std.proofs.Common.{◌≡◌, ◌≤◌, ℤ, true, false, List, Option, Some, ap, sym, refl, ◌∙◌}
use Rattle.std.proofs.lemmas.Result.{err_from_is_err_and}
use Rattle.net_wire.specs.declared.arp.ArpRepr.{ArpRepr}
use Rattle.phy_layers.specs.PcapBytes.{epoch_micros}
use Rattle.script_reader.specs.declared.script.ScriptEvent.{ScriptEvent}
use Rattle.host_model.specs.History.{Entry}
use Rattle.host_model.specs.Neighbor.{told_by, told_to}
use Rattle.host_model.specs.Script.{Arrival}
use Rattle.host_model.specs.Settings.{Settings}
use Rattle.script_reader.specs.Reading.{arrival_of, event_at}
use Rattle.net_host.specs.declared.host.Host.{Host}
use Rattle.net_host.specs.Agreement.{AgreesWithHistory}
use Rattle.net_host.specs.Crowding.{IsCrowded}
use Rattle.net_host.specs.Moments.{IsFrom}
use Rattle.net_host.specs.Neighbors.{pair_count, place_count, place_for}
use Rattle.net_host.proofs.CrowdedLemmas.{crowded_refused, refused_crowded, since_from}
use Rattle.net_host.specs.Stepping.{entries_with}
use Rattle.net_host.proofs.PlacingLemmas.{row_is}
use Rattle.net_host.proofs.PollingLemmas.{instant_is}
use Rattle.net_host.proofs.host.Host.handle.Goals as goal

pub returns-clause-row : goal.returns-clause-row
returns-clause-row c = λ settings before can agrees.
    row_is settings before c.args.at c.args.event c.args.words c.args.self.now c.answer.new.self c.kind_of-kind.result c.note_for-note.result
    c.in_ok-handled.handled (instant_is c.args.at c.requires.time) c.kind_of-kind.ensures c.note_for-note.ensures
    c.in_ok-handled.ensures.value can agrees

pub returns-clause-agrees : goal.returns-clause-agrees
unfolding entries_with
returns-clause-agrees c = λ settings before can agrees. (c.in_ok-handled.ensures.value settings before can agrees).agrees

-- the station that an event tells of is the same for the host and for the history
told_alike : (settings : Settings) (before : List Entry) (host : Host) (arrival : Arrival) → AgreesWithHistory settings before host
    → told_by settings arrival ≡ told_to host.out.hardware arrival
told_alike settings before host arrival agrees = ap (λ hardware. told_to hardware arrival) (sym agrees.hardware)

-- what an event tells of, as the host reads it, and the events so far
abbrev told_here : Host → ScriptEvent → Option ArpRepr
told_here host event = told_to host.out.hardware (arrival_of event)

refused : (settings : Settings) (before : List Entry) (host : Host) (at : ℤ) (event : ScriptEvent) → AgreesWithHistory settings before host
    → IsFrom host.last at → place_for (told_here host event) (epoch_micros at) host.out.neighbors ≡ false
    → IsCrowded settings before (event_at at event) (place_count host.out.neighbors)
refused settings before host at event agrees order none =
    refused_crowded settings before (event_at at event) host.out.neighbors agrees.neighbors (since_from before host.last at agrees.last order)
    (told_here host event) (told_alike settings before host (arrival_of event) agrees) none

not_refused : (settings : Settings) (before : List Entry) (host : Host) (at : ℤ) (event : ScriptEvent) → AgreesWithHistory settings before host
    → IsFrom host.last at → place_for (told_here host event) (epoch_micros at) host.out.neighbors ≡ true
    → ((arp : ArpRepr) → told_here host event ≡ Some arp → pair_count host.out.neighbors ≤ place_count host.out.neighbors)
    → IsCrowded settings before (event_at at event) (place_count host.out.neighbors) → ⊥
not_refused settings before host at event agrees order place within crowded =
    let alike = told_alike settings before host (arrival_of event) agrees in
    let none = crowded_refused settings before (event_at at event) host.out.neighbors agrees.neighbors (since_from before host.last at agrees.last order)
    (told_here host event) alike (within crowded.told (sym alike ∙ crowded.tells)) crowded in
    let clash : true ≡ false = sym place ∙ none in
    cc

pub returns-then-not-has_place-clause-full : goal.returns-then-not-has_place-clause-full
returns-then-not-has_place-clause-full c = λ settings before agrees. (
  (λ is. refused settings before c.args.self.now c.args.at c.args.event agrees c.requires.order (sym c.if-not-has_place.ensures.value)),
  (λ crowded. refl),
)

pub returns-in_err-handled-clause-full : goal.returns-in_err-handled-clause-full
returns-in_err-handled-clause-full c = λ settings before agrees. (
  (λ is. absurd (let memory = err_from_is_err_and c.from_residual.result c.from_residual.ensures.1 in
      let clash = rw (memory.1, memory.2) at is in cc)),
  (λ crowded. absurd (not_refused settings before c.args.self.now c.args.at c.args.event agrees c.requires.order
      (sym c.if-not-has_place.ensures.value) c.if-not-has_place.ensures.within crowded)),
)

pub returns-clause-full : goal.returns-clause-full
returns-clause-full c = λ settings before agrees. (
  (λ is. absurd (cc)),
  (λ crowded. absurd (not_refused settings before c.args.self.now c.args.at c.args.event agrees c.requires.order
      (sym c.if-not-has_place.ensures.value) c.if-not-has_place.ensures.within crowded)),
)
