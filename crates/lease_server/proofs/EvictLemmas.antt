-- A client is taken out.
use Rattle.std.proofs.Common.{◌≡◌, ℕ, ◌+◌, Bool, true, false, cond, List, [], ◌∷◌, length, Option, Some, None, IsSome, refl, sym, ap, ◌∙◌, subst, arith, length-set, rules}
use Rattle.std.specs.Map.{remove_entry, keys_of, lookup}
use Rattle.std.specs.Option.{option_map}
use Rattle.std.specs.BTreeMap.{is_at}
use Rattle.std.specs.List.Sorted.{IsStrictlySortedBy}
use Rattle.std.proofs.lemmas.Cmp.{eq_by_cmp_equiv}
use Rattle.std.proofs.lemmas.Map.{lookup-remove_entry}
use Rattle.std.proofs.lemmas.Map.Keys.{IsDistinct-from_sorted}
use Rattle.managed.specs.declared.slot_key.SlotKey.{SlotKey}
use Rattle.managed.specs.SlotTable.{SlotUse, generation_at, freed_at}
use Rattle.managed.specs.SortedMap.{value_at}
use Rattle.managed.proofs.LiveLemmas.{sound_freed, kept}
use Rattle.managed.proofs.OrderLemmas.{by_test}
use Rattle.net_wire.specs.declared.address.EthernetAddress.{EthernetAddress}
use Rattle.lease_server.specs.declared.lease.Lease.{Lease}
use Rattle.lease_server.specs.Values.{Values}
use Rattle.lease_server.specs.Holdings.{same_hardware}
use Rattle.lease_server.specs.State.{Held, hardware_cmp}
use Rattle.lease_server.specs.Holders.{AreHolders, Keys, lease_at, held_under, holders_in}
use Rattle.lease_server.proofs.HolderLemmas.{hardware_order, found_under}
use Rattle.lease_server.proofs.TestLemmas.{keys_tie, same_client, none_some, itself, true_false}

pub removed : (keys : Keys) (client other : EthernetAddress) → IsStrictlySortedBy hardware_cmp (keys_of keys)
    → value_at hardware_cmp (remove_entry (is_at (hardware_cmp client)) keys) other
    ≡ cond (same_hardware client other) None (value_at hardware_cmp keys other)
removed keys client other sorted =
    lookup-remove_entry (eq_by_cmp_equiv hardware_order) (is_at (hardware_cmp client))
    (λ one its found. (eq_by_cmp_equiv hardware_order).congr client one its found)
    other keys (IsDistinct-from_sorted hardware_cmp (keys_of keys) sorted)
    ∙ rw (keys_tie client other) refl

one_less : {V : Type 0} (test : EthernetAddress → Bool) (pairs : List (EthernetAddress × V)) (value : V)
    → lookup test pairs ≡ Some value → length (remove_entry test pairs) + 1 ≡ length pairs
one_less test [] value found = absurd (none_some value found)
one_less test (pair ∷ rest) value found = by_test (test pair.0)
    (λ hit. rw hit (omega arith))
    (λ miss. let behind : lookup test rest ≡ Some value = rw miss at found in rw miss (omega (arith, one_less test rest value behind)))

kept_out : (same : Bool) (found : Option SlotKey) (key : SlotKey) → cond same None found ≡ Some key → (same ≡ false) × (found ≡ Some key)
kept_out true found key is = absurd (none_some key is)
kept_out false found key is = (refl, is)

none_mapped : {X Y : Type 0} (f : X → Y) (b : Bool) (o : Option X) → option_map f (cond b None o) ≡ cond b None (option_map f o)
none_mapped f true o = refl
none_mapped f false o = refl

pub apart_places : (values : Values) (keys : Keys) (leases : List Lease) (table : SlotUse) (client : EthernetAddress) (key : SlotKey)
    (other : EthernetAddress) (its : SlotKey) → AreHolders values keys leases table
    → value_at hardware_cmp keys client ≡ Some key → value_at hardware_cmp keys other ≡ Some its
    → same_hardware client other ≡ false → its.place ≡ key.place → ⊥
apart_places values keys leases table client key other its holders found its_found differs shared =
    let one : other ≡ client = sym (holders.mine other its its_found) ∙ ap (λ (place : ℕ). (lease_at leases place).client) shared ∙ holders.mine client key found in
    true_false (same_hardware client other) (ap (λ (o : EthernetAddress). same_hardware client o) one ∙ itself client) differs

pub some_is : (o : Option ℕ) (x : ℕ) → o ≡ Some x → IsSome o
some_is None x is = absurd (none_some x is)
some_is (Some y) x is = search rules

module _ (values : Values) (keys : Keys) (leases : List Lease) (table : SlotUse) (client : EthernetAddress) (key : SlotKey) where
  abbrev rest : Keys
  rest = remove_entry (is_at (hardware_cmp client)) keys

  pub evicts : IsStrictlySortedBy hardware_cmp (keys_of keys) → AreHolders values keys leases table
      → value_at hardware_cmp keys client ≡ Some key → AreHolders values rest leases (freed_at table key.place)
  evicts sorted holders found =
      let was = λ (other : EthernetAddress) (its : SlotKey) (is : value_at hardware_cmp rest other ≡ Some its).
      kept_out (same_hardware client other) (value_at hardware_cmp keys other) its (sym (removed keys client other sorted) ∙ is) in
      record {
        sound = sound_freed table key.place holders.sound (some_is _ key.generation (holders.live client key found));
        size = holders.size;
        room = holders.room;
        begun = omega (arith, length-set table.generations key.place None, holders.begun);
        counted = omega (arith, length-set table.generations key.place None, holders.counted, one_less (is_at (hardware_cmp client)) keys key found);
        live = λ other its is. kept table its (Some key.place ∷ []) holders.sound
            (some_is (generation_at table key.place) key.generation (holders.live client key found), tt)
            (apart_places values keys leases table client key other its holders found (was other its is).1 (was other its is).0, tt)
            (holders.live other its (was other its is).1);
        mine = λ other its is. holders.mine other its (was other its is).1;
        placed = λ other its is. holders.placed other its (was other its is).1;
        apart = λ one other its third is third_is. holders.apart one other its third (was one its is).1 (was other third third_is).1;
      }

  pub evicted : (other : EthernetAddress) → IsStrictlySortedBy hardware_cmp (keys_of keys)
      → value_at hardware_cmp (holders_in rest leases) other
      ≡ cond (same_hardware client other) None (value_at hardware_cmp (holders_in keys leases) other)
  evicted other sorted =
      found_under rest leases other
      ∙ ap (option_map (held_under leases)) (removed keys client other sorted)
      ∙ none_mapped (held_under leases) (same_hardware client other) (value_at hardware_cmp keys other)
      ∙ ap (λ (o : Option Held). cond (same_hardware client other) None o) (sym (found_under keys leases other))

  -- with what the calls leave
  module _ (new_keys : Keys) (new_leases : List Lease) (new_table : SlotUse) (sorted : IsStrictlySortedBy hardware_cmp (keys_of keys))
      (keys_are : new_keys ≡ remove_entry (is_at (hardware_cmp client)) keys) (leases_are : new_leases ≡ leases) where
    pub evicts_in : new_table ≡ freed_at table key.place → AreHolders values keys leases table → value_at hardware_cmp keys client ≡ Some key
        → AreHolders values new_keys new_leases new_table
    evicts_in table_is holders found =
        let P : Keys → Type 0 = λ k. AreHolders values k new_leases new_table in
        let Q : List Lease → Type 0 = λ l. AreHolders values rest l new_table in
        let R : SlotUse → Type 0 = λ t. AreHolders values rest leases t in
        subst P (sym keys_are) (subst Q (sym leases_are) (subst R (sym table_is) (evicts sorted holders found)))

    pub evicted_in : (other : EthernetAddress) → value_at hardware_cmp (holders_in new_keys new_leases) other
        ≡ cond (same_hardware client other) None (value_at hardware_cmp (holders_in keys leases) other)
    evicted_in other =
        ap (λ (k : Keys). value_at hardware_cmp (holders_in k new_leases) other) keys_are
        ∙ ap (λ (l : List Lease). value_at hardware_cmp (holders_in rest l) other) leases_are
        ∙ evicted other sorted

-- nothing is to be taken out
pub not_there : (keys : Keys) (leases : List Lease) (client : EthernetAddress) → value_at hardware_cmp keys client ≡ None → (other : EthernetAddress)
    → value_at hardware_cmp (holders_in keys leases) other ≡ cond (same_hardware client other) None (value_at hardware_cmp (holders_in keys leases) other)
not_there keys leases client none other = by_test (same_hardware client other)
    (λ hit. rw hit (found_under keys leases other ∙ ap (option_map (held_under leases)) (ap (value_at hardware_cmp keys) (sym (same_client client other hit)) ∙ none)))
    (λ miss. rw miss refl)
