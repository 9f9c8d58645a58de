-- Queries that stand in a host stand in it while it takes an event in, whichever they are.
use Rattle.std.proofs.Common.{◌≡◌, ℤ, List, Option, None, sym, subst, refl}
use Rattle.dns_client.specs.Client.{Client, client_of}
use Rattle.host_model.specs.declared.query_line.QueryLine.{QueryLine}
use Rattle.host_model.specs.declared.words.EventWords.{EventWords}
use Rattle.host_model.specs.Queries.{arrived_with}
use Rattle.host_model.specs.QueryLooks.{Looks}
use Rattle.host_model.specs.QuerySlots.{Slot}
use Rattle.host_model.specs.Script.{Arrival}
use Rattle.host_model.specs.Settings.{Settings}
use Rattle.phy_layers.specs.PcapBytes.{IsCapturable}
use Rattle.net_host.specs.declared.emitter.Emitter.{Emitter}
use Rattle.net_host.specs.declared.host.Host.{Host}
use Rattle.net_host.specs.QueryHearing.{HearsQueries}
use Rattle.net_host.specs.QueryLeaving.{LeavesLooks}
use Rattle.net_host.specs.QueryPolling.{PolledQueries}
use Rattle.net_host.specs.QueryReady.{HoldsQueries}
use Rattle.net_host.specs.QueryStanding.{StandAs}
use Rattle.net_host.proofs.QueryPolledLemmas.{polled_leaves}

module _ (old heard : Host) (begun : Emitter) (arrival : Arrival) (words : EventWords) (refused : Option QueryLine)
    (holds : HoldsQueries old) (numbers_are : begun.numbers ≡ old.out.numbers)
    (hears : HearsQueries arrival words (record old { out = begun }) heard refused) where
  abbrev told : Settings
  told = record { hardware = begun.hardware; ip_mtu = 0; client = old.dhcp.settings }

  abbrev pub heard_slots : List Slot
  heard_slots = (arrived_with told holds.servers old.queries arrival words holds.slots).slots

  -- once what arrived is heard
  pub heard_stand : StandAs holds.servers heard_slots (client_of heard.dns) heard.out.numbers
  heard_stand =
      (hears.hears told holds.servers holds.slots refl refl
      (subst (λ numbers. StandAs holds.servers holds.slots (client_of old.dns) numbers)
      (sym numbers_are) holds.stand)).stand

  -- and once they were polled
  pub polled_stand : (now : ℤ) (last : Client) (asked later : Emitter) → IsCapturable now
      → asked.numbers ≡ heard.out.numbers
      → PolledQueries now (client_of heard.dns) (record asked { refused = None }) last later
      → (left : Looks) × LeavesLooks holds.servers left (record asked { refused = None }) last later
  polled_stand now last asked later time numbers polled =
      polled_leaves holds.servers heard_slots now (client_of heard.dns) last (record asked { refused = None }) later time
      (subst (λ list. StandAs holds.servers heard_slots (client_of heard.dns) list) (sym numbers) heard_stand) polled
