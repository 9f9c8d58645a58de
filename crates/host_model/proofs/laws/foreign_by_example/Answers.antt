use Rattle.std.proofs.Common.{refl}
use Rattle.std.proofs.lemmas.Bool.{true≢false}
use Rattle.net_wire.specs.Datagram.{pseudo_header}
use Rattle.host_model.proofs.laws.foreign_by_example.Goals as goal

pub returns : goal.returns
unfolding pseudo_header
returns c = record {
  empty = record { no_arp = refl; no_dhcp = refl; no_dns = refl };
  other_station = record { no_arp = refl; no_dhcp = refl; no_dns = refl };
  other_station_too = record { no_arp = refl; no_dhcp = refl; no_dns = refl };
  other_client = record { no_arp = refl; no_dhcp = refl; no_dns = refl };
  other_server = record { no_arp = refl; no_dhcp = refl; no_dns = refl };
  name_server = record { no_arp = refl; no_dhcp = refl; no_dns = refl };
  other_operation = record { no_arp = refl; no_dhcp = refl; no_dns = refl };
  same_ports = λ foreign. absurd (true≢false foreign.no_dhcp);
  multicast = λ foreign. absurd (true≢false foreign.no_dns);
  acknowledges = λ foreign. absurd (true≢false foreign.no_dhcp);
  tells = λ foreign. (let clash = foreign.no_arp in cc);
}
