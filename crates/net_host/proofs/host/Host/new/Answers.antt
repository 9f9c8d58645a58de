-- A host that has seen nothing agrees with no event.
use Rattle.std.proofs.Common.{List, [], None, ◌∙◌, ap, refl, sym, subst}
use Rattle.std.specs.Option.{is_some}
use Rattle.net_wire.specs.declared.address.IpAddress.{IpAddress}
use Rattle.dhcp_client.specs.Client.{new_client}
use Rattle.host_model.specs.Anchor.{Loss}
use Rattle.host_model.specs.QuerySlots.{no_queries}
use Rattle.net_host.specs.Neighbors.{Table}
use Rattle.net_host.specs.Following.{AgreesUnder}
use Rattle.net_host.proofs.NeighborLemmas.{none_agrees}
use Rattle.net_host.proofs.ReadyLemmas.{new_ready}
use Rattle.net_host.proofs.HoldingLemmas.{new_agrees}
use Rattle.net_host.proofs.host.Host.new.Goals as goal

pub with_config-requires : goal.with_config-requires
with_config-requires c = c.client.ensures.parameters

pub returns-clause-agrees : goal.returns-clause-agrees
returns-clause-agrees c =
    let none = ap (λ client. client.servers) c.new.ensures.value in
    record {
      hardware = c.hardware.ensures.value;
      ip_mtu = c.ip_mtu.ensures;
      last = refl;
      held = refl;
      neighbors = none_agrees c.args.config.now c.new-neighbors.result (ap (λ (t : Table). t.stations) c.new-neighbors.ensures);
      dhcp = subst (λ (servers : List IpAddress).
          AgreesUnder c.args.config.now [] (Loss 0) (record { held = None; servers = servers }) c.with_config.result) (sym none)
          (new_agrees c.args.config.now c.with_config.result (c.with_config.ensures ∙ ap new_client c.client.ensures.value));
      queries = record {
        stand = record {
          servers_are = none;
          slots_are = ap (λ client. client.slots) c.new.ensures.value ∙ c.requires.slots;
          numbers_are = refl;
          no_hop_limit = ap (λ client. client.hop_limit) c.new.ensures.value;
        };
        count_is = refl;
      };
    }

pub returns-clause-can : goal.returns-clause-can
returns-clause-can c = record {
  ready = new_ready c.args.config.now c.with_config.result c.ip_mtu.result (c.with_config.ensures ∙ ap new_client c.client.ensures.value)
      c.ip_mtu.ensures c.hardware.ensures.runs;
  lent = ap (λ client. is_some client.storage) c.new.ensures.value;
  holds = record {
    servers = [];
    slots = no_queries;
    stand = record {
      servers_are = ap (λ client. client.servers) c.new.ensures.value;
      slots_are = ap (λ client. client.slots) c.new.ensures.value ∙ c.requires.slots;
      numbers_are = refl;
      no_hop_limit = ap (λ client. client.hop_limit) c.new.ensures.value;
    };
  };
}
