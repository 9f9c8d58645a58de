-- What one event does to a host.
use Rattle.std.specs.Prelude.{◌≡◌, ◌<◌, ℤ, true, List, ◌∷◌}
use Rattle.phy_layers.specs.PcapBytes.{epoch_micros}
use Rattle.dns_client.specs.Client.{client_of}
use Rattle.host_model.specs.declared.words.EventWords.{EventWords}
use Rattle.host_model.specs.Settings.{Settings}
use Rattle.host_model.specs.History.{Entry}
use Rattle.host_model.specs.Anchor.{anchor_at}
use Rattle.host_model.specs.Chronicle.{entry_of}
use Rattle.host_model.specs.Frames.{frames_of}
use Rattle.host_model.specs.Lease.{leased_under}
use Rattle.host_model.specs.Neighbor.{told_to}
use Rattle.host_model.specs.Script.{Arrival}
use Rattle.host_model.specs.Queries.{lines_at}
use Rattle.net_host.specs.declared.host.Handled.{Handled}
use Rattle.net_host.specs.declared.host.Host.{Host}
use Rattle.script_reader.specs.declared.script.ScriptEvent.{ScriptEvent}
use Rattle.net_host.specs.Agreement.{AgreesWithHistory}
use Rattle.net_host.specs.Config.{CanRun}
use Rattle.script_reader.specs.Reading.{event_at}
use Rattle.net_host.specs.Listed.{AreListed}
use Rattle.net_host.specs.Moments.{IsFrom}
use Rattle.net_host.specs.Neighbors.{HasRoom, place_for}
use Rattle.net_host.specs.Polling.{IsReady}
use Rattle.net_host.specs.QueryPolling.{AreLent}
use Rattle.net_host.specs.QueryReady.{HoldsQueries}

-- A history that the host agrees with before the event: it agrees with that and the event's entry after it,
-- whose frames were sent, and gives the address that is leased then.
pub record Answers (settings : Settings) (before : List Entry) (at : ℤ) (event : ScriptEvent) (words : EventWords) (new : Host)
    (handled : Handled) : Type 0 where
  pub agrees : AgreesWithHistory settings (entry_of settings before (event_at at event) words ∷ before) new
  pub lease : handled.lease ≡ leased_under (anchor_at settings before (event_at at event))
  pub frames : AreListed settings (frames_of settings before (event_at at event) words) handled.sent
  pub lines : handled.lines ≡ lines_at settings before (event_at at event) words

-- what a host relies on in itself between two events, whatever comes
pub record CanMeet (host : Host) : Type 0 where
  pub ready : IsReady host.dhcp host.ip_mtu
  pub lent : AreLent (client_of host.dns)
  pub holds : HoldsQueries host

-- what a host relies on in itself: its clients are ready, its table has an empty place, and its queries count on
pub record CanHandle (host : Host) : Type 0 where
  pub ready : IsReady host.dhcp host.ip_mtu
  pub lent : AreLent (client_of host.dns)
  pub holds : HoldsQueries host
  pub few : host.queries < 10000
  pub room : HasRoom host.out.neighbors

-- and where an event comes: there is a place for the station that it tells of, and it is not before the last one
pub record CanTake (at : ℤ) (arrival : Arrival) (host : Host) : Type 0 where
  pub ready : IsReady host.dhcp host.ip_mtu
  pub lent : AreLent (client_of host.dns)
  pub holds : HoldsQueries host
  pub few : host.queries < 10000
  pub place : place_for (told_to host.out.hardware arrival) (epoch_micros at) host.out.neighbors ≡ true
  pub order : IsFrom host.last at

-- whatever the history is that the host agrees with
abbrev pub HandlesEvent : ℤ → ScriptEvent → EventWords → Host → Host → Handled → Type 0
HandlesEvent at event words old new handled = (settings : Settings) (before : List Entry) → CanRun settings
    → AgreesWithHistory settings before old → Answers settings before at event words new handled
