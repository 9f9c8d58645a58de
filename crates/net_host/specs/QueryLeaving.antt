-- What the looks of an event leave of a host's DNS client and of its emitter.
use Rattle.std.specs.Prelude.{◌≡◌, ℕ, ◌<◌, List, ◌++◌, map, false, pos}
use Rattle.net_wire.specs.declared.address.IpAddress.{IpAddress}
use Rattle.net_wire.specs.declared.address.Ipv4Address.{Ipv4Address}
use Rattle.dns_client.specs.Client.{Client}
use Rattle.host_model.specs.Frames.{Dns}
use Rattle.host_model.specs.Queries.{address_in}
use Rattle.host_model.specs.QueryLooks.{Around, Looks, looks_from}
use Rattle.host_model.specs.QuerySlots.{Slot}
use Rattle.host_model.specs.QueryTurns.{asked_after}
use Rattle.host_model.specs.Script.{time_limit}
use Rattle.host_model.specs.Settings.{Settings}
use Rattle.net_host.specs.declared.emitter.Emitter.{Emitter}
use Rattle.net_host.specs.declared.report.Sent.{Sent}
use Rattle.net_host.specs.Emitter.{hop_by}
use Rattle.net_host.specs.Listed.{AreListed}
use Rattle.net_host.specs.QueryPolling.{PolledQueries}
use Rattle.net_host.specs.QueryStanding.{StandAs}

-- The queries stand in the client as the looks leave them. The emitter sent their messages, one for one, and
-- notes where one was to go whose hop is not known.
pub record LeavesLooks (servers : List IpAddress) (looks : Looks) (out : Emitter) (last : Client)
    (later : Emitter) : Type 0 where
  pub stand : StandAs servers looks.slots last later.numbers
  pub sent : List Sent
  pub frames : (settings : Settings) → settings.hardware ≡ out.hardware
      → AreListed settings (map Dns looks.asks) sent
  pub later_is : later ≡ record out {
    sent = out.sent ++ sent;
    refused = asked_after looks.unknown out.refused;
  }

-- Polling does what the looks of an event do: with the servers of the client, the held address of the emitter
-- and the hops that it knows.
abbrev pub PollsAsLooks : Type 0
PollsAsLooks = (around : Around) (slots : List Slot) (at : ℕ) (client last : Client) (out later : Emitter)
    → at < time_limit
    → StandAs around.servers slots client out.numbers
    → around.from ≡ address_in out.held
    → ((to : Ipv4Address) → hop_by out to ≡ around.hop to)
    → PolledQueries (pos at) client out last later
    → LeavesLooks around.servers (looks_from around at false slots) out last later
