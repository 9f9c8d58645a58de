-- What lies at the place of a client, and what is held.
use Rattle.std.proofs.Common.{◌≡◌, ℕ, ◌≤◌, true, List, [], ◌∷◌, length, Option, Some, None, IsSome, IfSome, slice_get, refl, sym, ap, ◌∙◌, subst, arith, Bor, ◌↔◌}
use Rattle.std.specs.Option.{option_map, option_copied}
use Rattle.std.specs.List.{AllByRecursion}
use Rattle.std.specs.List.Sorted.{IsStrictlySortedBy}
use Rattle.std.specs.Cmp.{IsTotalOrder}
use Rattle.std.specs.BTreeMap.{is_at}
use Rattle.std.specs.Map.{keys_of}
use Rattle.std.specs.Ordering.{is_eq}
use Rattle.std.specs.declared.cmp.Ordering.TheVariants.{Less}
use Rattle.std.proofs.lemmas.Cmp.{on_total, nat_list_cmp_total, eq_by_cmp_equiv}
use Rattle.std.proofs.lemmas.Option.{get_or_from_slice_get}
use Rattle.std.proofs.lemmas.Map.Made.{lookup-map_values}
use Rattle.managed.specs.declared.slot_key.SlotKey.{SlotKey}
use Rattle.managed.specs.SortedMap.{value_at, pairs, filled, IsVacant, IsPacked, IsSortedPlaces, IsSortedMap, capacity}
use Rattle.managed.specs.declared.map.ManagedMap.{ManagedMap}
use Rattle.managed.specs.declared.map.ManagedMap.TheVariants.{Borrowed, Owned}
use Rattle.managed.specs.SlotTable.{SlotUse, unused, IsLiveKey}
use Rattle.managed.specs.SlotMap.{elements_of, places_of, IsWhole}
use Rattle.lease_server.specs.Inside.{IsServing}
use Rattle.lease_server.specs.declared.server.Server.TheInside.{Inside}
use Rattle.managed.proofs.OrderLemmas.{flip_less}
use Rattle.net_wire.specs.declared.address.EthernetAddress.{EthernetAddress}
use Rattle.lease_server.specs.declared.lease.Lease.{Lease}
use Rattle.lease_server.specs.State.{Holders, hardware_cmp, ServerState, new_server}
use Rattle.lease_server.specs.Values.{Values}
use Rattle.lease_server.proofs.TestLemmas.{none_some}
use Rattle.lease_server.specs.Holders.{AreHolders, Keys, lease_at, held_under, holders_in, no_lease}

pub hardware_order : IsTotalOrder hardware_cmp
hardware_order = on_total (λ (address : EthernetAddress). address.0) nat_list_cmp_total

module _ (keys : Keys) (leases : List Lease) (client : EthernetAddress) where
  pub found_under : value_at hardware_cmp (holders_in keys leases) client ≡ option_map (held_under leases) (value_at hardware_cmp keys client)
  found_under = lookup-map_values (held_under leases) (is_at (hardware_cmp client)) keys

  pub finds_none : value_at hardware_cmp keys client ≡ None → None ≡ value_at hardware_cmp (holders_in keys leases) client
  finds_none none = sym (found_under ∙ ap (option_map (held_under leases)) none)

  pub finds_some : (key : SlotKey) → value_at hardware_cmp keys client ≡ Some key
      → value_at hardware_cmp (holders_in keys leases) client ≡ Some (held_under leases key)
  finds_some key some = found_under ∙ ap (option_map (held_under leases)) some

-- what a table gives of a key that is in it
pub lies_at : (found : Option (Bor Lease)) (leases : List Lease) (place : ℕ) → IsSome found
    → IfSome found (λ lease. Some lease.now ≡ slice_get leases place) → option_copied found ≡ Some (lease_at leases place)
lies_at None leases place some value = absurd (cc)
lies_at (Some lease) leases place some value = ap Some (sym (get_or_from_slice_get leases place lease.now no_lease (sym value)))

-- ---- the pairs of a sorted list, each found by its own key
same_key : (key : EthernetAddress) → is_eq (hardware_cmp key key) ≡ true
same_key key = (eq_by_cmp_equiv hardware_order).refl key

own_behind : {V : Type 0} (first : EthernetAddress × V) (rest all : List (EthernetAddress × V))
    → AllByRecursion (λ key. hardware_cmp first.0 key ≡ Less) (keys_of rest)
    → AllByRecursion (λ pair. value_at hardware_cmp all pair.0 ≡ Some pair.1) rest
    → AllByRecursion (λ pair. value_at hardware_cmp (first ∷ all) pair.0 ≡ Some pair.1) rest
own_behind first [] all less own = tt
own_behind first (pair ∷ rest) all less own =
    (rw (flip_less hardware_order first.0 pair.0 less.0) own.0, own_behind first rest all less.1 own.1)

pub own_pairs : {V : Type 0} (pairs : List (EthernetAddress × V)) → IsStrictlySortedBy hardware_cmp (keys_of pairs)
    → AllByRecursion (λ pair. value_at hardware_cmp pairs pair.0 ≡ Some pair.1) pairs
unfolding IsStrictlySortedBy
own_pairs [] sorted = tt
own_pairs (pair ∷ rest) sorted =
    (rw (same_key pair.0) refl, own_behind pair rest rest sorted.0 (own_pairs rest sorted.1))

-- ---- no client yet
pub vacant_pairs : {X : Type 0} (places : List (Option X)) → IsVacant places → filled places ≡ []
vacant_pairs [] vacant = refl
vacant_pairs (None ∷ places) vacant = refl
vacant_pairs (Some x ∷ places) vacant = absurd vacant

pub vacant_packed : {X : Type 0} (places : List (Option X)) → IsVacant places → IsPacked places
vacant_packed [] vacant = tt
vacant_packed (None ∷ places) vacant = vacant
vacant_packed (Some x ∷ places) vacant = absurd vacant

pub no_holders : (values : Values) (keys : Keys) (leases : List Lease) (table : SlotUse) → keys ≡ [] → table ≡ unused values.count
    → values.count ≤ length leases → AreHolders values keys leases table
no_holders values keys leases table none is room =
    let P : Keys → Type 0 = λ k. AreHolders values k leases table in
    let Q : SlotUse → Type 0 = λ t. AreHolders values [] leases t in
    subst P (sym none) (subst Q (sym is) (record {
      sound = tt;
      size = refl;
      room = room;
      begun = omega arith;
      counted = omega arith;
      live = λ client key found. absurd (none_some key found);
      mine = λ client key found. absurd (none_some key found);
      placed = λ client key found. absurd (none_some key found);
      apart = λ one other key its found its_found. absurd (none_some key found);
    }))

-- what the table of a server gives of a client's key
pub lies_in : (server : Inside) → IsServing server → (client : EthernetAddress) (key : SlotKey) (found : Option (Bor Lease))
    → value_at hardware_cmp (pairs server.clients) client ≡ Some key
    → (IsWhole server.leases → (IsSome found ↔ IsLiveKey (places_of server.leases) key))
    → IfSome found (λ lease. Some lease.now ≡ slice_get (elements_of server.leases) key.place)
    → option_copied found ≡ Some (lease_at (elements_of server.leases) key.place)
lies_in server serving client key found is live value =
    let whole : IsWhole server.leases = omega (arith, serving.holders.size, serving.holders.room) in
    lies_at found (elements_of server.leases) key.place ((live whole).1 (serving.holders.live client key is)) value

none_sorted : IsStrictlySortedBy hardware_cmp []
unfolding IsStrictlySortedBy
none_sorted = tt

pub sorted_vacant : {V : Type 0} (places : List (Option (EthernetAddress × V))) → IsVacant places → IsSortedPlaces hardware_cmp places
sorted_vacant {V = V} places vacant =
    let P : List (EthernetAddress × V) → Type 0 = λ es. IsStrictlySortedBy hardware_cmp (keys_of es) in
    (vacant_packed places vacant, subst P (sym (vacant_pairs places vacant)) none_sorted)

pub begins : (values : Values) (keys : Keys) (leases : List Lease) → keys ≡ []
    → ◌≡◌ {A = ServerState} (record { values = values; holders = holders_in keys leases; last = 0 }) (new_server values)
begins values keys leases none = ap (λ (holders : Holders). let s : ServerState = record { values = values; holders = holders; last = 0 } in s) (ap (λ (k : Keys). holders_in k leases) none)

-- the keys of a map over places rise
pub sorted_keys : {V : Type 0} (map : ManagedMap EthernetAddress V) (count : ℕ) → IsSortedMap hardware_cmp map → capacity map ≡ Some count
    → IsStrictlySortedBy hardware_cmp (keys_of (pairs map))
sorted_keys (Borrowed places) count sorted is = sorted.1
sorted_keys (Owned tree) count sorted is = absurd (none_some count is)
