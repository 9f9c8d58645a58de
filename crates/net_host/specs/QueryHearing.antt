-- What a host's queries hear of an event.
use Rattle.std.specs.Prelude.{◌≡◌, ℕ, List, Option}
use Rattle.std.specs.Option.{option_map}
use Rattle.net_wire.specs.declared.address.IpAddress.{IpAddress}
use Rattle.dns_client.specs.declared.error.StartQueryError.{StartQueryError}
use Rattle.dns_client.specs.Client.{client_of}
use Rattle.host_model.specs.declared.query_line.Outcome.TheVariants.{Refused}
use Rattle.host_model.specs.declared.query_line.QueryLine.{QueryLine}
use Rattle.host_model.specs.declared.words.EventWords.{EventWords}
use Rattle.host_model.specs.Queries.{counted, arrived_with}
use Rattle.host_model.specs.QueryLines.{line_of}
use Rattle.host_model.specs.QuerySlots.{Slot}
use Rattle.host_model.specs.QueryStart.{Begun}
use Rattle.host_model.specs.Script.{Arrival}
use Rattle.host_model.specs.Settings.{Settings}
use Rattle.net_host.specs.declared.host.Host.{Host}
use Rattle.net_host.specs.QueryStanding.{StandAs}

-- the line of a query that is refused
abbrev pub line_for : ℕ → Option StartQueryError → Option QueryLine
line_for number refused = option_map (λ fault. line_of number (Refused fault)) refused

-- Queries that stand in the host before an event has arrived stand in it as that leaves them.
pub record Hears (begun : Begun) (servers : List IpAddress) (number : ℕ) (new : Host)
    (refused : Option QueryLine) : Type 0 where
  pub stand : StandAs servers begun.slots (client_of new.dns) new.out.numbers
  pub line : refused ≡ line_for number begun.refused

pub record HearsQueries (arrival : Arrival) (words : EventWords) (old new : Host) (refused : Option QueryLine)
    : Type 0 where
  pub counts : new.queries ≡ counted arrival old.queries
  pub hears : (settings : Settings) (servers : List IpAddress) (slots : List Slot)
      → settings.hardware ≡ old.out.hardware → settings.client ≡ old.dhcp.settings
      → StandAs servers slots (client_of old.dns) old.out.numbers
      → Hears (arrived_with settings servers old.queries arrival words slots) servers old.queries new refused
