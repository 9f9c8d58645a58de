-- A table refuses a station exactly where the events say that all its places are needed.
use Rattle.std.proofs.Common.{◌≡◌, ℕ, ◌+◌, ◌≤◌, ◌==◌, List, [], ◌∷◌, length, Option, Some, None, Bool, true, false, refl, sym, ap, subst, ◌∙◌, arith, ℤ}
use Rattle.std.specs.Cmp.Lexicographic.{texts_ties}
use Rattle.std.specs.BTreeMap.{is_at}
use Rattle.std.specs.List.{AllByRecursion, IsDistinct, list_any}
use Rattle.std.specs.List.Sorted.{IsStrictlySortedBy}
use Rattle.std.specs.Map.{keys_of, lookup, remove_entry}
use Rattle.std.specs.Option.{IsSome, is_some, option_map}
use Rattle.std.specs.Ordering.{eq_by_cmp, is_eq}
use Rattle.std.proofs.lemmas.Bool.Decides.{nat_tests}
use Rattle.std.proofs.lemmas.Map.Entries.{length-keys_of}
use Rattle.std.proofs.lemmas.Map.Keys.{IsDistinct-from_sorted}
use Rattle.std.proofs.lemmas.Map.Steps.{length-le_from_keys}
use Rattle.managed.specs.SortedMap.{value_at}
use Rattle.managed.proofs.OrderLemmas.{all_map, by_test, flip_less}
use Rattle.net_wire.specs.declared.address.Ipv4Address.{Ipv4Address}
use Rattle.net_wire.specs.declared.arp.ArpRepr.{ArpRepr}
use Rattle.dhcp_client.specs.Hearing.{same_address}
use Rattle.host_model.proofs.HopLemmas.{one_address}
use Rattle.host_model.specs.declared.neighbor.Neighbor.{Neighbor}
use Rattle.host_model.specs.History.{Entry}
use Rattle.host_model.specs.Neighbor.{events_of, known_at, neighbor_in, told_by}
use Rattle.host_model.specs.Script.{Event}
use Rattle.host_model.specs.Settings.{Settings}
use Rattle.phy_layers.specs.PcapBytes.{epoch_micros}
use Rattle.net_host.specs.Crowding.{AreKnown, IsCrowded}
use Rattle.net_host.specs.Moments.{IsFrom, last_moment}
use Rattle.net_host.specs.Neighbors.{Table, TableAgrees, HasRoom, IsSince, address_cmp, first_old, is_believed, is_ready, neighbor_with}
use Rattle.net_host.specs.Neighbors.{pair_count, place_count, place_for, still}
use Rattle.net_host.proofs.NeighborLemmas.{address_laws, address_order, hop_still, old_found, old_still, removed_found}

-- no event came later than an instant that is not before the last one
pub since_from : (before : List Entry) (last : Option ℤ) (at : ℤ) → last ≡ last_moment before → IsFrom last at
    → IsSince (events_of before) (epoch_micros at)
since_from [] last at is from = tt
since_from (entry ∷ before) last at is from = rw is at from

-- two tests that answer alike tell the same keys apart
distinct_by : {K : Type 0} (one other : K → K → Bool) (same : (x y : K) → one x y ≡ other x y) (keys : List K)
    → IsDistinct one keys → IsDistinct other keys
unfolding IsDistinct
distinct_by one other same [] apart = tt
distinct_by one other same (key ∷ keys) apart =
    (all_map (λ y is. sym (same key y) ∙ is) keys apart.0, distinct_by one other same keys apart.1)

alike : (one other : Ipv4Address) → same_address one other ≡ eq_by_cmp address_cmp one other
alike one other = texts_ties one.0 other.0

among : (P : Ipv4Address → Type 0) (address : Ipv4Address) (addresses : List Ipv4Address) → AllByRecursion P addresses
    → list_any (eq_by_cmp address_cmp address) addresses ≡ true → P address
among P address [] all is = absurd (cc)
among P address (one ∷ addresses) all is = by_test (eq_by_cmp address_cmp address one)
    (λ hit. subst P (sym (one_address address one (alike address one ∙ hit))) all.0)
    (λ miss. among P address addresses all.1 (rw miss at is))

shorter : (test : Ipv4Address → Bool) (neighbor : Neighbor) (stations : List (Ipv4Address × Neighbor)) → lookup test stations ≡ Some neighbor
    → length (remove_entry test stations) + 1 ≡ length stations
shorter test neighbor [] is = absurd (cc)
shorter test neighbor (station ∷ stations) is = by_test (test station.0)
    (λ hit. rw hit (omega arith))
    (λ miss. rw miss (omega (arith, shorter test neighbor stations (rw miss at is))))

some_of : {X Y : Type 0} (f : X → Y) (one : Option X) → IsSome one → IsSome (option_map f one)
some_of f None some = some
some_of f (Some x) some = refl

of_some : {X Y : Type 0} (f : X → Y) (one : Option X) → IsSome (option_map f one) → IsSome one
of_some f None some = some
of_some f (Some x) some = refl

some_still : (at : ℕ) (known : Option Neighbor) → IsSome (still at known) → IsSome known
some_still at None some = some
some_still at (Some neighbor) some = refl

none_some : {X : Type 0} (one : Option X) → one ≡ None → IsSome one → ⊥
none_some None is some = cc
none_some (Some x) is some = cc

-- each station is believed where none is old
both : {X : Type 0} {P Q R : X → Type 0} (f : (x : X) → P x → Q x → R x) (xs : List X) → AllByRecursion P xs → AllByRecursion Q xs
    → AllByRecursion R xs
both f [] all more = tt
both f (x ∷ xs) all more = (f x all.0 more.0, both f xs all.1 more.1)

young : (at : ℕ) (stations : List (Ipv4Address × Neighbor)) → IsStrictlySortedBy address_cmp (keys_of stations)
    → is_some (first_old at stations) ≡ false
    → AllByRecursion (λ address. IsSome (still at (value_at address_cmp stations address))) (keys_of stations)
unfolding IsStrictlySortedBy
young at [] sorted none = tt
young at (station ∷ stations) sorted none = by_test (is_believed at station.1)
    (λ hit. (
      rw (address_laws.refl station.0, hit) refl,
      both {R = λ address. IsSome (still at (value_at address_cmp (station ∷ stations) address))} (λ address less some. rw (flip_less address_order station.0 address less) some) (keys_of stations) sorted.0
          (young at stations sorted.1 (rw hit at none)),
    ))
    (λ miss. absurd (let clash : true ≡ false = rw miss at none in cc))

module _ (settings : Settings) (events : List Event) (at : ℕ) (table : Table) (agrees : TableAgrees settings events table)
    (since : IsSince events at) where
  -- what is known of an address is what the table has of it, while that is believed
  pub known_is : (address : Ipv4Address)
      → known_at settings events at (Some address) ≡ option_map (λ neighbor. neighbor.hardware) (still at (neighbor_with table address))
  known_is address =
      hop_still at (neighbor_in settings events address)
      ∙ ap (option_map (λ (neighbor : Neighbor). neighbor.hardware)) (sym (agrees.finds address at since))

  known_there : (address : Ipv4Address) → IsSome (known_at settings events at (Some address)) → IsSome (still at (neighbor_with table address))
  known_there address some =
      of_some (λ (neighbor : Neighbor). neighbor.hardware) (still at (neighbor_with table address)) (subst IsSome (known_is address) some)

  -- the stations that are known have places
  pub all_fit : {count : ℕ} → AreKnown settings events at count → count ≤ pair_count table
  all_fit {count} known =
      let fit = length-le_from_keys address_laws known.addresses table.stations
      (distinct_by same_address (eq_by_cmp address_cmp) alike known.addresses known.different)
      (λ address is. some_still at (neighbor_with table address)
      (known_there address (among (λ one. IsSome (known_at settings events at (Some one))) address known.addresses known.known is))) in
      omega (arith, fit, known.many)

  -- and also beside one that is not believed any more
  beside : (places : ℕ) (old : Ipv4Address) (neighbor : Neighbor) → neighbor_with table old ≡ Some neighbor
      → is_believed at neighbor ≡ false → pair_count table ≤ places → AreKnown settings events at places → ⊥
  beside places old neighbor here past within known =
      let removed = remove_entry (is_at (address_cmp old)) table.stations in
      let less = shorter (is_at (address_cmp old)) neighbor table.stations here in
      let fit = length-le_from_keys address_laws known.addresses removed
      (distinct_by same_address (eq_by_cmp address_cmp) alike known.addresses known.different)
      (λ address is.
      let some = known_there address (among (λ one. IsSome (known_at settings events at (Some one))) address known.addresses known.known is) in
      subst IsSome (sym (removed_found old address table.stations agrees.sorted))
      (by_test (is_eq (address_cmp old address))
      (λ hit.
      let same : old ≡ address = one_address old address (alike old address ∙ hit) in
      let gone : still at (neighbor_with table address) ≡ None =
      ap (still at) (subst (λ key. neighbor_with table key ≡ Some neighbor) same here) ∙ old_still at at neighbor (omega arith) past in
      absurd (none_some (still at (neighbor_with table address)) gone some))
      (λ miss. rw miss (some_still at (neighbor_with table address) some)))) in
      omega (arith, less, fit, within, known.many)

-- a table without an old station, all of whose places are taken
pub all_known : (settings : Settings) (events : List Event) (at : ℕ) (table : Table) → TableAgrees settings events table
    → IsSince events at → is_some (first_old at table.stations) ≡ false → table.places ≤ length table.stations
    → AreKnown settings events at table.places
all_known settings events at table agrees since no_old full = record {
  addresses = keys_of table.stations;
  many = omega (arith, full, length-keys_of table.stations);
  different = distinct_by (eq_by_cmp address_cmp) same_address (λ x y. sym (alike x y)) (keys_of table.stations)
      (IsDistinct-from_sorted address_cmp (keys_of table.stations) agrees.sorted);
  known = all_map (λ one some. subst IsSome (sym (known_is settings events at table agrees since one))
      (some_of (λ (neighbor : Neighbor). neighbor.hardware) (still at (neighbor_with table one)) some))
      (keys_of table.stations) (young at table.stations agrees.sorted no_old);
}

none_of : {X : Type 0} (one : Option X) → is_some one ≡ false → one ≡ None
none_of None absent = refl
none_of (Some x) absent = absurd (cc)

some_is : {X : Type 0} (one : Option X) → is_some one ≡ true → (x : X) × (one ≡ Some x)
some_is None there = absurd (cc)
some_is (Some x) there = (x, refl)

full_apart : (one other : ℕ) → (one == other) ≡ false → one ≤ other → other ≤ one → ⊥
full_apart one other apart up down = grind (arith, nat_tests)

module _ (settings : Settings) (before : List Entry) (event : Event) (table : Table)
    (agrees : TableAgrees settings (events_of before) table) (since : IsSince (events_of before) event.at) where
  -- the table refuses a station: it is not known, and as many others are as there are places
  pub refused_crowded : (told : Option ArpRepr) → told_by settings event.arrival ≡ told → place_for told event.at table ≡ false
      → IsCrowded settings before event (place_count table)
  refused_crowded None tells full = absurd (cc)
  refused_crowded (Some arp) tells full = by_test (is_ready arp.source_protocol_addr table)
      (λ ready. absurd (let clash : true ≡ false = rw ready at full in cc))
      (λ unready. by_test (length table.stations == table.places)
      (λ all.
      let absent : is_some (neighbor_with table arp.source_protocol_addr) ≡ false = rw all at unready in
      let none = none_of (neighbor_with table arp.source_protocol_addr) absent in
      let count : table.places ≤ length table.stations = grind (arith, nat_tests) in
      record {
        told = arp;
        tells = tells;
        unknown = known_is settings (events_of before) event.at table agrees since arp.source_protocol_addr
            ∙ ap (λ known. option_map (λ (neighbor : Neighbor). neighbor.hardware) (still event.at known)) none;
        others = all_known settings (events_of before) event.at table agrees since (rw unready at full) count;
      })
      (λ free. absurd (let clash : true ≡ false = rw free at unready in cc)))

  unknown_old : (address : Ipv4Address) (neighbor : Neighbor)
      → known_at settings (events_of before) event.at (Some address) ≡ None → neighbor_with table address ≡ Some neighbor
      → is_believed event.at neighbor ≡ false
  unknown_old address neighbor unknown here = by_test (is_believed event.at neighbor)
      (λ hit.
      let known : option_map (λ (neighbor : Neighbor). neighbor.hardware) (still event.at (Some neighbor)) ≡ None =
      ap (λ known. option_map (λ (neighbor : Neighbor). neighbor.hardware) (still event.at known)) (sym here)
      ∙ sym (known_is settings (events_of before) event.at table agrees since address) ∙ unknown in
      absurd (let clash : Some neighbor.hardware ≡ None = rw hit at known in cc))
      (λ miss. miss)

  -- and where that is so it refuses it
  pub crowded_refused : (told : Option ArpRepr) → told_by settings event.arrival ≡ told → pair_count table ≤ place_count table
      → IsCrowded settings before event (place_count table) → place_for told event.at table ≡ false
  crowded_refused None tells within crowded = absurd (let clash : None ≡ Some crowded.told = sym tells ∙ crowded.tells in cc)
  crowded_refused (Some arp) tells within crowded =
      let same : Some arp ≡ Some crowded.told = sym tells ∙ crowded.tells in
      let one : crowded.told ≡ arp = cc in
      let address = arp.source_protocol_addr in
      let unknown : known_at settings (events_of before) event.at (Some address) ≡ None =
      subst (λ (told : ArpRepr). known_at settings (events_of before) event.at (Some told.source_protocol_addr) ≡ None) one crowded.unknown in
      let over : (old : Ipv4Address) (neighbor : Neighbor) → neighbor_with table old ≡ Some neighbor
      → is_believed event.at neighbor ≡ false → ⊥ = λ old neighbor here past.
      beside settings (events_of before) event.at table agrees since table.places old neighbor here past within crowded.others in
      let fit = all_fit settings (events_of before) event.at table agrees since crowded.others in
      by_test (is_ready address table)
      (λ ready. by_test (length table.stations == table.places)
      (λ all.
      let there = some_is (neighbor_with table address) (rw all at ready) in
      absurd (over address there.0 there.1 (unknown_old address there.0 unknown there.1)))
      (λ free. absurd (full_apart (length table.stations) table.places free within fit)))
      (λ unready. by_test (is_some (first_old event.at table.stations))
      (λ some.
      let old = some_is (first_old event.at table.stations) some in
      let found = old_found event.at old.0 table.stations agrees.sorted old.1 in
      absurd (over old.0 found.0 found.1 found.2))
      (λ none. rw (unready, none) refl))

-- where a place is free no station is refused
pub free_place : (told : Option ArpRepr) (at : ℕ) (table : Table) → place_for told at table ≡ false → HasRoom table → ⊥
free_place None at table none room = cc
free_place (Some arp) at table none room = by_test (length table.stations == table.places)
    (λ all. let count : length table.stations ≡ table.places = grind (arith, nat_tests) in omega (arith, count, room))
    (λ free. let ready : is_ready arp.source_protocol_addr table ≡ true = rw free refl in
    let clash : true ≡ false = rw ready at none in cc)

pub room_place : (told : Option ArpRepr) (at : ℕ) (table : Table) → HasRoom table → place_for told at table ≡ true
room_place told at table room = by_test (place_for told at table) (λ hit. hit) (λ miss. absurd (free_place told at table miss room))
