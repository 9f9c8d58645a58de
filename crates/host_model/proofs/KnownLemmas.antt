-- The two ways in which the hop of a destination is known.
use Rattle.std.proofs.Common.{◌≡◌, ◌⊎◌, inl, inr, ⊎_elim, false, List, ◌∷◌, Option, Some, None, refl, sym, ap, ◌∙◌}
use Rattle.std.proofs.lemmas.Bool.{true≢false}
use Rattle.net_wire.specs.declared.address.EthernetAddress.{EthernetAddress}
use Rattle.net_wire.specs.declared.address.Ipv4Address.{Ipv4Address}
use Rattle.dhcp_client.specs.Hearing.{same_address}
use Rattle.dhcp_client.specs.Messages.{limited_broadcast}
use Rattle.host_model.specs.Script.{Event}
use Rattle.host_model.specs.Settings.{Settings}
use Rattle.host_model.specs.History.{Entry}
use Rattle.host_model.specs.Lease.{held_before}
use Rattle.host_model.specs.Neighbor.{ethernet_broadcast, events_of, hop_address, known_at, known_hop}
use Rattle.host_model.specs.Hops.{IsToAll, IsByNeighbor}
use Rattle.host_model.proofs.HopLemmas.{by_test, one_address, itself, hop_neighbors, neighbor_hops}

module _ (settings : Settings) (before : List Entry) (event : Event)
    (destination : Ipv4Address) (hardware : EthernetAddress) where
  by_station : (address : Option Ipv4Address)
      → hop_address (held_before settings before) destination ≡ address
      → same_address destination limited_broadcast ≡ false
      → known_at settings (event ∷ events_of before) event.at address ≡ Some hardware
      → IsByNeighbor settings before event destination hardware
  by_station None next other is = absurd (cc)
  by_station (Some address) next other is = record {
    other = λ same. true≢false (sym (itself _ _ same) ∙ other);
    address = address;
    next = next;
    neighbor = hop_neighbors settings address event.at hardware (event ∷ events_of before) is;
  }

  pub known_ways : known_hop settings before event destination ≡ Some hardware
      → IsToAll destination hardware ⊎ IsByNeighbor settings before event destination hardware
  known_ways is = by_test (same_address destination limited_broadcast)
      (λ all.
      let one : Some ethernet_broadcast ≡ Some hardware = sym (rw all refl) ∙ is in
      let broadcast : hardware ≡ ethernet_broadcast = cc in
      inl (record { destination_is = one_address _ _ all; hardware_is = broadcast }))
      (λ other. inr (by_station (hop_address (held_before settings before) destination) refl other
      (sym (rw other refl) ∙ is)))

  to_all : IsToAll destination hardware → known_hop settings before event destination ≡ Some hardware
  to_all is = rw (itself _ _ is.destination_is) (ap Some (sym is.hardware_is))

  by_neighbor : IsByNeighbor settings before event destination hardware
      → known_hop settings before event destination ≡ Some hardware
  by_neighbor is = by_test (same_address destination limited_broadcast)
      (λ all. absurd (is.other (one_address _ _ all)))
      (λ other. rw other (ap (known_at settings (event ∷ events_of before) event.at) is.next
      ∙ neighbor_hops settings is.address event.at hardware (event ∷ events_of before) is.neighbor))

  pub ways_known : IsToAll destination hardware ⊎ IsByNeighbor settings before event destination hardware
      → known_hop settings before event destination ≡ Some hardware
  ways_known ways = ⊎_elim to_all by_neighbor ways
