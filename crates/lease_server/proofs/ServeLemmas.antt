-- The fields of a server through the calls that change them.
use Rattle.std.proofs.Common.{◌≡◌, ◌↔◌, ◌<◌, Bool, true, cond, List, length, set, Option, Some, None, IsTrue, refl, sym, ap, ◌∙◌, subst, arith}
use Rattle.std.specs.Option.{option_map}
use Rattle.std.specs.Result.{IfErr, OnOk}
use Rattle.std.specs.declared.result.Result.{Result}
use Rattle.managed.specs.declared.error.InsertError.{InsertError}
use Rattle.managed.specs.declared.map.ManagedMap.{ManagedMap}
use Rattle.managed.proofs.LiveLemmas.{found_handed}
use Rattle.managed.specs.declared.slot_key.SlotKey.{SlotKey}
use Rattle.managed.specs.declared.slot_map.SlotMap.{SlotMap}
use Rattle.managed.specs.SlotMap.{elements_of, places_of}
use Rattle.managed.specs.SlotTable.{SlotUse, IsLiveKey, IsFullTable, key_handed_out, place_handed_out, handed_out}
use Rattle.managed.specs.SortedMap.{value_at, with_pair, inserted, pairs, IsRefusal, IsSortedMap, KeepsStorage}
use Rattle.net_wire.specs.declared.address.EthernetAddress.{EthernetAddress}
use Rattle.lease_server.specs.declared.lease.Lease.{Lease}
use Rattle.lease_server.specs.declared.server.Server.TheInside.{Inside}
use Rattle.lease_server.specs.Inside.{IsServing, state_inside}
use Rattle.lease_server.specs.Values.{values_of, number_of}
use Rattle.lease_server.specs.Holdings.{same_hardware}
use Rattle.lease_server.specs.Replies.{is_of_range}
use Rattle.lease_server.specs.State.{Held, ServerState, hardware_cmp, held_of}
use Rattle.lease_server.specs.Holders.{Keys, held_under, holders_in, stores, has_number}
use Rattle.lease_server.proofs.HolderLemmas.{sorted_keys, found_under}
use Rattle.lease_server.proofs.PutLemmas.{Puts, prolongs, puts_in, put_in, place_below, takes_pair, inserts}
use Rattle.lease_server.proofs.RoomLemmas.{admits, has_room, not_full}
use Rattle.lease_server.proofs.TestLemmas.{in_range, true_false}

module _ (server : Inside) (serving : IsServing server) (state : ServerState) (view_is : state_inside server ≡ state) (lease : Lease)
    (within : is_of_range state.values lease.address ≡ true)
    (alone : (other : EthernetAddress) → stores state.holders other (number_of lease.address) ≡ true → other ≡ lease.client) where
  abbrev keys : Keys
  keys = pairs server.clients

  abbrev leases : List Lease
  leases = elements_of server.leases

  in_it : is_of_range (values_of server.values) lease.address ≡ true
  in_it = ap (λ (s : ServerState). is_of_range s.values lease.address) view_is ∙ within

  of_nobody : (other : EthernetAddress) → stores (holders_in keys leases) other (number_of lease.address) ≡ true → other ≡ lease.client
  of_nobody other has = alone other (sym (ap (λ (s : ServerState). stores s.holders other (number_of lease.address)) view_is) ∙ has)

  -- ---- the client has a place
  module _ (key : SlotKey) (found : value_at hardware_cmp keys lease.client ≡ Some key) (new : SlotMap Lease) (done : Bool)
      (live : IsTrue done ↔ IsLiveKey (places_of server.leases) key)
      (written : IsTrue done → elements_of new ≡ set leases key.place lease) (others : places_of new ≡ places_of server.leases) where
    puts : Puts (values_of server.values) keys keys leases (places_of server.leases) (places_of server.leases) lease.client key lease
    puts = prolongs (values_of server.values) keys leases (places_of server.leases) lease.client key lease serving.holders found
        (place_below (values_of server.values) keys leases (places_of server.leases) lease.client key serving.holders found) refl in_it of_nobody

    is_written : elements_of new ≡ set leases key.place lease
    is_written = written (live.1 (serving.holders.live lease.client key found))

    pub prolongs_server : IsServing (record server { leases = new })
    prolongs_server = record {
      checked = serving.checked;
      sorted = serving.sorted;
      places = serving.places;
      holders = puts_in (values_of server.values) keys keys leases (places_of server.leases) (places_of server.leases) lease.client key lease puts
          keys (elements_of new) refl is_written (places_of new) others;
    }

    pub prolonged_server : (other : EthernetAddress) → value_at hardware_cmp (holders_in keys (elements_of new)) other
        ≡ cond (same_hardware lease.client other) (Some (held_of lease)) (value_at hardware_cmp state.holders other)
    prolonged_server other =
        put_in (values_of server.values) keys keys leases (places_of server.leases) (places_of server.leases) lease.client key lease puts
        keys (elements_of new) refl is_written other
        ∙ ap (λ (s : ServerState). cond (same_hardware lease.client other) (Some (held_of lease)) (value_at hardware_cmp s.holders other)) view_is

  -- ---- the client has none
  module _ (none : value_at hardware_cmp keys lease.client ≡ None) where
    of_none : (other : EthernetAddress) → stores (holders_in keys leases) other (number_of lease.address) ≡ true → ⊥
    of_none other has = true_false (stores (holders_in keys leases) other (number_of lease.address)) has
        (ap (λ (c : EthernetAddress). stores (holders_in keys leases) c (number_of lease.address)) (of_nobody other has)
        ∙ ap (λ (o : Option Held). has_number o (number_of lease.address)) (found_under keys leases lease.client ∙ ap (option_map (held_under leases)) none))

    pub room : length keys < server.values.count
    room = has_room (values_of server.values) keys leases (places_of server.leases) serving.holders (number_of lease.address)
        (in_range (values_of server.values) lease.address in_it) of_none
        (sorted_keys server.clients server.values.count serving.sorted serving.places)

    pub never_full : IsFullTable (places_of server.leases) → ⊥
    never_full full = not_full (values_of server.values) keys leases (places_of server.leases) serving.holders room full

    module _ (key : SlotKey) (key_is : key ≡ key_handed_out (places_of server.leases)) (place : key.place < (places_of server.leases).capacity)
        (handed : SlotMap Lease) (handed_places : places_of handed ≡ handed_out (places_of server.leases)) (handed_elements : elements_of handed ≡ leases)
        (new : SlotMap Lease) (done : Bool) (live : IsTrue done ↔ IsLiveKey (places_of handed) key)
        (written : IsTrue done → elements_of new ≡ set (elements_of handed) key.place lease) (others : places_of new ≡ places_of handed)
        (map : ManagedMap EthernetAddress SlotKey) (result : Result (Option SlotKey) (InsertError EthernetAddress SlotKey))
        (cause : IfErr result (IsRefusal hardware_cmp server.clients lease.client key))
        (inserts_it : OnOk result (pairs map ≡ inserted hardware_cmp server.clients lease.client key))
        (sorted : IsSortedMap hardware_cmp map) (keeps : KeepsStorage server.clients map) where
      new_place : place_handed_out (places_of server.leases) < length leases
      new_place = omega (arith, place, ap (λ (k : SlotKey). k.place) key_is, serving.holders.size, serving.holders.room)

      admitted : Puts (values_of server.values) keys (with_pair hardware_cmp keys lease.client (key_handed_out (places_of server.leases))) leases
          (places_of server.leases) (handed_out (places_of server.leases)) lease.client (key_handed_out (places_of server.leases)) lease
      admitted = admits (values_of server.values) keys leases (places_of server.leases) lease.client lease serving.holders none room new_place refl in_it of_nobody

      is_live : IsLiveKey (places_of handed) key
      is_live =
          let P : SlotUse → Type 0 = λ t. IsLiveKey t key in
          let Q : SlotKey → Type 0 = λ k. IsLiveKey (handed_out (places_of server.leases)) k in
          subst P (sym handed_places) (subst Q (sym key_is) (found_handed (places_of server.leases) serving.holders.sound))

      keys_are : pairs map ≡ with_pair hardware_cmp keys lease.client (key_handed_out (places_of server.leases))
      keys_are =
          inserts server.clients server.values.count lease.client key result serving.places room cause inserts_it
          ∙ takes_pair server.clients server.values.count lease.client key serving.places
          ∙ ap (with_pair hardware_cmp keys lease.client) key_is

      leases_are : elements_of new ≡ set leases (key_handed_out (places_of server.leases)).place lease
      leases_are =
          written (live.1 is_live) ∙ ap (λ (l : List Lease). set l key.place lease) handed_elements
          ∙ ap (λ (k : SlotKey). set leases k.place lease) key_is

      pub admits_server : IsServing (record server { clients = map; leases = new })
      admits_server = record {
        checked = serving.checked;
        sorted = sorted;
        places = keeps.1 ∙ serving.places;
        holders = puts_in (values_of server.values) keys (with_pair hardware_cmp keys lease.client (key_handed_out (places_of server.leases))) leases
            (places_of server.leases) (handed_out (places_of server.leases)) lease.client (key_handed_out (places_of server.leases)) lease admitted
            (pairs map) (elements_of new) keys_are leases_are (places_of new) (others ∙ handed_places);
      }

      pub admitted_server : (other : EthernetAddress) → value_at hardware_cmp (holders_in (pairs map) (elements_of new)) other
          ≡ cond (same_hardware lease.client other) (Some (held_of lease)) (value_at hardware_cmp state.holders other)
      admitted_server other =
          put_in (values_of server.values) keys (with_pair hardware_cmp keys lease.client (key_handed_out (places_of server.leases))) leases
          (places_of server.leases) (handed_out (places_of server.leases)) lease.client (key_handed_out (places_of server.leases)) lease admitted
          (pairs map) (elements_of new) keys_are leases_are other
          ∙ ap (λ (s : ServerState). cond (same_hardware lease.client other) (Some (held_of lease)) (value_at hardware_cmp s.holders other)) view_is
