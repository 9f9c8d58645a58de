-- A client is given a place, or another lease in its own.
use Rattle.std.proofs.Common.{◌≡◌, ◌≢◌, ℕ, zero, suc, ◌+◌, ◌<◌, ◌≤◌, Bool, true, false, cond, List, [], ◌∷◌, length, get_or, set, Option, Some, None, refl, sym, ap, ◌∙◌, subst, arith, length-set, get_or-set_other, get_or-set_same}
use Rattle.std.specs.Option.{option_map}
use Rattle.std.specs.Result.{IfErr, OnOk}
use Rattle.std.specs.declared.result.Result.{Result}
use Rattle.std.proofs.lemmas.Bool.{eq-eqb}
use Rattle.managed.specs.declared.slot_key.SlotKey.{SlotKey}
use Rattle.managed.specs.declared.map.ManagedMap.{ManagedMap}
use Rattle.managed.specs.declared.map.ManagedMap.TheVariants.{Borrowed, Owned}
use Rattle.managed.specs.SlotTable.{SlotUse, IsSoundUse, generation_at}
use Rattle.managed.specs.SortedMap.{value_at, with_pair, inserted, pairs, capacity, IsRefusal}
use Rattle.managed.specs.declared.error.InsertError.{InsertError}
use Rattle.managed.specs.declared.error.InsertError.TheVariants.{Full, NoMemory}
use Rattle.std.specs.declared.result.Result.TheVariants.{Ok, Err}
use Rattle.managed.proofs.OrderLemmas.{by_test}
use Rattle.net_wire.specs.declared.address.EthernetAddress.{EthernetAddress}
use Rattle.lease_server.specs.declared.lease.Lease.{Lease}
use Rattle.lease_server.specs.Values.{Values, number_of}
use Rattle.lease_server.specs.Holdings.{same_hardware}
use Rattle.lease_server.specs.Replies.{is_of_range}
use Rattle.lease_server.specs.State.{Held, hardware_cmp, held_of}
use Rattle.lease_server.specs.Holders.{AreHolders, Keys, lease_at, held_under, holders_in, no_lease, stores, has_number}
use Rattle.lease_server.proofs.EvictLemmas.{apart_places}
use Rattle.lease_server.proofs.HolderLemmas.{found_under, finds_some}
use Rattle.lease_server.proofs.TestLemmas.{same_client, none_some}

-- What is known where a client is given a lease under a key: the keys and the places afterwards, and that no
-- other client has that place or that address.
pub record Puts (values : Values) (keys new_keys : Keys) (leases : List Lease) (table new_table : SlotUse) (client : EthernetAddress) (key : SlotKey) (lease : Lease) : Type 0 where
  pub old : AreHolders values keys leases table
  pub sound : IsSoundUse new_table
  pub size : new_table.capacity ≡ values.count
  pub begun : length new_table.generations ≤ values.count
  pub counted : length new_keys + length new_table.freed ≡ length new_table.generations
  pub finds : (other : EthernetAddress) → value_at hardware_cmp new_keys other
      ≡ cond (same_hardware client other) (Some key) (value_at hardware_cmp keys other)
  pub live : generation_at new_table key.place ≡ Some key.generation
  pub others : (other : EthernetAddress) (its : SlotKey) → value_at hardware_cmp keys other ≡ Some its
      → same_hardware client other ≡ false → generation_at new_table its.place ≡ Some its.generation
  pub places : (other : EthernetAddress) (its : SlotKey) → value_at hardware_cmp keys other ≡ Some its
      → same_hardware client other ≡ false → its.place ≢ key.place
  pub within : key.place < length leases
  pub whose : lease.client ≡ client
  pub range : is_of_range values lease.address ≡ true
  pub alone : (other : EthernetAddress) → stores (holders_in keys leases) other (number_of lease.address) ≡ true → other ≡ client

pub stored : (keys : Keys) (leases : List Lease) (other : EthernetAddress) (its : SlotKey) (number : ℕ)
    → value_at hardware_cmp keys other ≡ Some its → number_of (lease_at leases its.place).address ≡ number
    → stores (holders_in keys leases) other number ≡ true
stored keys leases other its number found same =
    ap (λ (o : Option Held). has_number o number) (finds_some keys leases other its found)
    ∙ eq-eqb (number_of (lease_at leases its.place).address) number same

same_some : {X : Type 0} (x y : X) → Some x ≡ Some y → x ≡ y
same_some x y same = cc

module _ (values : Values) (keys new_keys : Keys) (leases : List Lease) (table new_table : SlotUse) (client : EthernetAddress) (key : SlotKey) (lease : Lease)
    (p : Puts values keys new_keys leases table new_table client key lease) where
  abbrev new_leases : List Lease
  new_leases = set leases key.place lease

  here : lease_at new_leases key.place ≡ lease
  here = get_or-set_same leases key.place lease no_lease p.within

  there : (place : ℕ) → place ≢ key.place → lease_at new_leases place ≡ lease_at leases place
  there place apart = rw get_or-set_other refl

  by_found : {P : Type 0} (other : EthernetAddress) (its : SlotKey) → value_at hardware_cmp new_keys other ≡ Some its
      → (client ≡ other → key ≡ its → P) → (same_hardware client other ≡ false → value_at hardware_cmp keys other ≡ Some its → P) → P
  by_found other its is mine others = by_test (same_hardware client other)
      (λ hit. mine (same_client client other hit)
      (same_some key its (sym (p.finds other ∙ ap (λ (b : Bool). cond b (Some key) (value_at hardware_cmp keys other)) hit) ∙ is)))
      (λ miss. others miss (sym (p.finds other ∙ ap (λ (b : Bool). cond b (Some key) (value_at hardware_cmp keys other)) miss) ∙ is))

  beside : (other : EthernetAddress) (its : SlotKey) → same_hardware client other ≡ false → value_at hardware_cmp keys other ≡ Some its
      → lease_at new_leases its.place ≡ lease_at leases its.place
  beside other its miss was = there its.place (p.places other its was miss)

  under : (its : SlotKey) → key ≡ its → lease_at new_leases its.place ≡ lease
  under its same = ap (λ (k : SlotKey). lease_at new_leases k.place) (sym same) ∙ here

  taken_twice : (other : EthernetAddress) (its : SlotKey) → same_hardware client other ≡ false → value_at hardware_cmp keys other ≡ Some its
      → number_of (lease_at new_leases its.place).address ≡ number_of lease.address → other ≡ client
  taken_twice other its miss was same = p.alone other
      (stored keys leases other its (number_of lease.address) was
      (sym (ap (λ (l : Lease). number_of l.address) (beside other its miss was)) ∙ same))

  pub put_holders : AreHolders values new_keys new_leases new_table
  put_holders = record {
    sound = p.sound;
    size = p.size;
    room = omega (arith, p.old.room, length-set leases key.place lease);
    begun = p.begun;
    counted = p.counted;
    live = λ other its is. by_found other its is
        (λ same k. let Q : SlotKey → Type 0 = λ k. generation_at new_table k.place ≡ Some k.generation in subst Q k p.live)
        (λ miss was. p.others other its was miss);
    mine = λ other its is. by_found other its is
        (λ same k. ap (λ (l : Lease). l.client) (under its k) ∙ p.whose ∙ same)
        (λ miss was. ap (λ (l : Lease). l.client) (beside other its miss was) ∙ p.old.mine other its was);
    placed = λ other its is. by_found other its is
        (λ same k. ap (λ (l : Lease). is_of_range values l.address) (under its k) ∙ p.range)
        (λ miss was. ap (λ (l : Lease). is_of_range values l.address) (beside other its miss was) ∙ p.old.placed other its was);
    apart = λ one other its third is third_is alike. by_found one its is
        (λ same k. by_found other third third_is
        (λ same_too k_too. sym same ∙ same_too)
        (λ miss was. sym same ∙ sym (taken_twice other third miss was (sym alike ∙ ap (λ (l : Lease). number_of l.address) (under its k)))))
        (λ miss was. by_found other third third_is
        (λ same k. taken_twice one its miss was (alike ∙ ap (λ (l : Lease). number_of l.address) (under third k)) ∙ same)
        (λ no_too was_too. p.old.apart one other its third was was_too
        (sym (ap (λ (l : Lease). number_of l.address) (beside one its miss was)) ∙ alike ∙ ap (λ (l : Lease). number_of l.address) (beside other third no_too was_too))));
  }

  other_kept : (other : EthernetAddress) (o : Option SlotKey) → value_at hardware_cmp keys other ≡ o → same_hardware client other ≡ false
      → option_map (held_under new_leases) o ≡ option_map (held_under leases) o
  other_kept other None is miss = refl
  other_kept other (Some its) is miss = ap (λ (l : Lease). Some (held_of l)) (beside other its miss is)

  pub put_found : (other : EthernetAddress) → value_at hardware_cmp (holders_in new_keys new_leases) other
      ≡ cond (same_hardware client other) (Some (held_of lease)) (value_at hardware_cmp (holders_in keys leases) other)
  put_found other =
      found_under new_keys new_leases other ∙ ap (option_map (held_under new_leases)) (p.finds other)
      ∙ by_test (same_hardware client other)
      (λ hit. rw hit (ap (λ (l : Lease). Some (held_of l)) here))
      (λ miss. rw miss (other_kept other (value_at hardware_cmp keys other) refl miss ∙ sym (found_under keys leases other)))

-- ---- another lease in the client's own place
pub prolongs : (values : Values) (keys : Keys) (leases : List Lease) (table : SlotUse) (client : EthernetAddress) (key : SlotKey) (lease : Lease)
    → AreHolders values keys leases table → value_at hardware_cmp keys client ≡ Some key → key.place < length leases → lease.client ≡ client
    → is_of_range values lease.address ≡ true
    → ((other : EthernetAddress) → stores (holders_in keys leases) other (number_of lease.address) ≡ true → other ≡ client)
    → Puts values keys keys leases table table client key lease
prolongs values keys leases table client key lease holders found within whose range alone = record {
  old = holders;
  sound = holders.sound;
  size = holders.size;
  begun = holders.begun;
  counted = holders.counted;
  finds = λ other. by_test (same_hardware client other)
      (λ hit. rw hit (ap (value_at hardware_cmp keys) (sym (same_client client other hit)) ∙ found))
      (λ miss. rw miss refl);
  live = holders.live client key found;
  others = λ other its was miss. holders.live other its was;
  places = λ other its was miss. apart_places values keys leases table client key other its holders found was miss;
  within = within;
  whose = whose;
  range = range;
  alone = alone;
}

-- ---- with what the calls leave
module _ (values : Values) (keys new_keys : Keys) (leases : List Lease) (table new_table : SlotUse) (client : EthernetAddress) (key : SlotKey) (lease : Lease)
    (p : Puts values keys new_keys leases table new_table client key lease)
    (left_keys : Keys) (left_leases : List Lease) (keys_are : left_keys ≡ new_keys) (leases_are : left_leases ≡ set leases key.place lease) where
  pub puts_in : (left_table : SlotUse) → left_table ≡ new_table → AreHolders values left_keys left_leases left_table
  puts_in left_table table_is =
      let P : Keys → Type 0 = λ k. AreHolders values k left_leases left_table in
      let Q : List Lease → Type 0 = λ l. AreHolders values new_keys l left_table in
      let R : SlotUse → Type 0 = λ t. AreHolders values new_keys (set leases key.place lease) t in
      subst P (sym keys_are) (subst Q (sym leases_are) (subst R (sym table_is)
      (put_holders values keys new_keys leases table new_table client key lease p)))

  pub put_in : (other : EthernetAddress) → value_at hardware_cmp (holders_in left_keys left_leases) other
      ≡ cond (same_hardware client other) (Some (held_of lease)) (value_at hardware_cmp (holders_in keys leases) other)
  put_in other =
      ap (λ (k : Keys). value_at hardware_cmp (holders_in k left_leases) other) keys_are
      ∙ ap (λ (l : List Lease). value_at hardware_cmp (holders_in new_keys l) other) leases_are
      ∙ put_found values keys new_keys leases table new_table client key lease p other

-- ---- a place in use lies among the leases
used_below : (xs : List (Option ℕ)) (place generation : ℕ) → get_or xs place None ≡ Some generation → place < length xs
used_below [] place generation is = absurd (none_some generation is)
used_below (x ∷ xs) zero generation is = omega arith
used_below (x ∷ xs) (suc place) generation is = omega (arith, used_below xs place generation is)

pub place_below : (values : Values) (keys : Keys) (leases : List Lease) (table : SlotUse) (client : EthernetAddress) (key : SlotKey)
    → AreHolders values keys leases table → value_at hardware_cmp keys client ≡ Some key → key.place < length leases
place_below values keys leases table client key holders found =
    omega (arith, used_below table.generations key.place key.generation (holders.live client key found), holders.begun, holders.room)

-- ---- lent places take a pair where there are fewer than places
pub takes_pair : (clients : ManagedMap EthernetAddress SlotKey) (count : ℕ) (client : EthernetAddress) (key : SlotKey)
    → capacity clients ≡ Some count → inserted hardware_cmp clients client key ≡ with_pair hardware_cmp (pairs clients) client key
takes_pair (Borrowed places) count client key is = refl
takes_pair (Owned tree) count client key is = absurd (none_some count is)

never_refused : (clients : ManagedMap EthernetAddress SlotKey) (count : ℕ) (client : EthernetAddress) (key : SlotKey) (error : InsertError EthernetAddress SlotKey)
    → capacity clients ≡ Some count → length (pairs clients) < count → IsRefusal hardware_cmp clients client key error → ⊥
never_refused (Borrowed places) count client key (Full k v) is room refusal = absurd (omega (arith, same_some (length places.now) count is, refusal.0, room))
never_refused (Owned tree) count client key (Full k v) is room refusal = none_some count is
never_refused clients count client key NoMemory is room refusal = none_some count (sym refusal.0 ∙ is)

pub inserts : {P : Type 0} (clients : ManagedMap EthernetAddress SlotKey) (count : ℕ) (client : EthernetAddress) (key : SlotKey)
    (result : Result (Option SlotKey) (InsertError EthernetAddress SlotKey))
    → capacity clients ≡ Some count → length (pairs clients) < count
    → IfErr result (IsRefusal hardware_cmp clients client key) → OnOk result P → P
inserts clients count client key (Ok old) is room cause done = done
inserts clients count client key (Err error) is room cause done = absurd (never_refused clients count client key error is room cause)
