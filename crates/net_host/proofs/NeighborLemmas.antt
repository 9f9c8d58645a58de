-- The table finds what the events told, as far as it is believed.
use Rattle.std.proofs.Common.{◌≡◌, ℕ, ◌+◌, ◌≤◌, ◌==◌, List, [], ◌∷◌, length, Option, Some, None, refl, ap, ◌∙◌, sym, subst, arith}
use Rattle.std.proofs.Common.{Bool, true, false, cond}
use Rattle.std.specs.Cmp.{IsTotalOrder, IsEquivalence}
use Rattle.std.specs.declared.cmp.Ordering.TheVariants.{Less}
use Rattle.std.specs.BTreeMap.{is_at}
use Rattle.std.specs.List.{AllByRecursion}
use Rattle.std.specs.List.Sorted.{IsStrictlySortedBy}
use Rattle.std.specs.Map.{keys_of, remove_entry}
use Rattle.std.specs.Option.{is_some, option_map}
use Rattle.std.specs.Ordering.{eq_by_cmp, is_eq}
use Rattle.std.proofs.lemmas.Bool.Decides.{nat_tests}
use Rattle.std.proofs.lemmas.Cmp.{eq_by_cmp_equiv}
use Rattle.std.proofs.lemmas.Map.{lookup-remove_entry}
use Rattle.std.proofs.lemmas.Map.Keys.{IsDistinct-from_sorted}
use Rattle.std.specs.Cmp.Lexicographic.{texts_ties}
use Rattle.std.proofs.lemmas.Cmp.{on_total, nat_list_cmp_total}
use Rattle.managed.specs.declared.error.InsertError.{InsertError}
use Rattle.managed.specs.declared.error.InsertError.TheVariants.{Full, NoMemory}
use Rattle.managed.specs.declared.map.ManagedMap.{ManagedMap}
use Rattle.managed.specs.declared.map.ManagedMap.TheVariants.{Borrowed, Owned}
use Rattle.managed.specs.SortedMap.{filled, value_at, with_pair, IsRefusal}
use Rattle.managed.proofs.FoundLemmas.{sorted_removed, sorted_with_pair}
use Rattle.managed.proofs.LawLemmas.{value-with_pair}
use Rattle.managed.proofs.OrderLemmas.{by_ordering, by_test, flip_less}
use Rattle.dhcp_client.specs.Hearing.{same_address}
use Rattle.host_model.proofs.HopLemmas.{one_address}
use Rattle.net_wire.specs.declared.address.Ipv4Address.{Ipv4Address}
use Rattle.net_wire.specs.declared.arp.ArpRepr.{ArpRepr}
use Rattle.host_model.specs.declared.neighbor.Neighbor.{Neighbor}
use Rattle.host_model.specs.Script.{Event}
use Rattle.host_model.specs.Settings.{Settings}
use Rattle.host_model.specs.Neighbor.{hop_of, neighbor_in, or_told, told_by}
use Rattle.net_host.specs.Neighbors.{Table, TableAgrees, IsSince, address_cmp, first_old, has_place, is_believed, is_ready, learned, neighbor_with}
use Rattle.net_host.specs.NeighborPlaces.{table_in, IsTable}
use Rattle.net_host.specs.Neighbors.{no_pairs, pair_count, place_count, still, table_after, told_at, with_room, without}

pub address_order : IsTotalOrder address_cmp
address_order = on_total (λ (address : Ipv4Address). address.0) nat_list_cmp_total

pub address_laws : IsEquivalence (eq_by_cmp address_cmp)
address_laws = eq_by_cmp_equiv address_order

-- the station that told is found by what it told, and each other one as before
found_by : (table : Table) (arp : ArpRepr) (at : ℕ) (address : Ipv4Address)
    → neighbor_with (learned arp at table) address
    ≡ or_told address at (Some arp) (neighbor_with (with_room arp.source_protocol_addr at table) address)
found_by table arp at address =
    value-with_pair address_order arp.source_protocol_addr (told_at at arp) address
    (with_room arp.source_protocol_addr at table).stations
    ∙ rw (texts_ties arp.source_protocol_addr.0 address.0) refl

pub longer : (key : Ipv4Address) (value : Neighbor) (stations : List (Ipv4Address × Neighbor))
    → length (with_pair address_cmp stations key value) ≤ length stations + 1
longer key value [] = omega arith
longer key value (station ∷ stations) = by_ordering (address_cmp key station.0)
    (λ less. rw less (omega arith))
    (λ same. rw same (omega arith))
    (λ greater. rw greater (omega (arith, longer key value stations)))

-- without one station there are no more
fewer : (old : Option Ipv4Address) (table : Table) → pair_count (without old table) ≤ pair_count table
fewer None table = omega arith
fewer (Some address) table = no_longer (is_at (address_cmp address)) table.stations
  where
    no_longer : (test : Ipv4Address → Bool) (stations : List (Ipv4Address × Neighbor)) → length (remove_entry test stations) ≤ length stations
    no_longer test [] = omega arith
    no_longer test (station ∷ stations) = by_test (test station.0)
        (λ hit. rw hit (omega arith))
        (λ miss. rw miss (omega (arith, no_longer test stations)))

with_room_fewer : (address : Ipv4Address) (at : ℕ) (table : Table) → pair_count (with_room address at table) ≤ pair_count table
with_room_fewer address at table = by_test (is_ready address table)
    (λ ready. rw ready (omega arith))
    (λ full. rw full (fewer (first_old at table.stations) table))

-- whoever gives a place up leaves it
without_places : (old : Option Ipv4Address) (table : Table) → place_count (without old table) ≡ place_count table
without_places None table = refl
without_places (Some address) table = refl

pub learned_places : (arp : ArpRepr) (at : ℕ) (table : Table) → place_count (learned arp at table) ≡ place_count table
learned_places arp at table = by_test (is_ready arp.source_protocol_addr table)
    (λ ready. rw ready refl)
    (λ full. rw full (without_places (first_old at table.stations) table))

-- a packet brings one station more at most
pub one_more : (arp : ArpRepr) (at : ℕ) (table : Table)
    → pair_count (learned arp at table) ≤ pair_count table + 1
one_more arp at table =
    omega (
      arith,
      longer arp.source_protocol_addr (told_at at arp) (with_room arp.source_protocol_addr at table).stations,
      with_room_fewer arp.source_protocol_addr at table,
    )

-- what is believed is what a hop is made of
pub hop_still : (at : ℕ) (known : Option Neighbor) → hop_of at known ≡ option_map (λ neighbor. neighbor.hardware) (still at known)
hop_still at None = refl
hop_still at (Some neighbor) = by_test (is_believed at neighbor)
    (λ hit. rw hit refl)
    (λ miss. rw miss refl)

-- what is not believed is not believed later
later_old : (at later : ℕ) (neighbor : Neighbor) → at ≤ later → is_believed at neighbor ≡ false → is_believed later neighbor ≡ false
later_old at later neighbor on old = grind (arith, nat_tests)

pub old_still : (at later : ℕ) (neighbor : Neighbor) → at ≤ later → is_believed at neighbor ≡ false → still later (Some neighbor) ≡ None
old_still at later neighbor on old = rw (later_old at later neighbor on old) refl

-- of the first station that is not believed any more the table says so
old_all : (P : Ipv4Address → Type 0) (at : ℕ) (address : Ipv4Address) (stations : List (Ipv4Address × Neighbor))
    → AllByRecursion P (keys_of stations) → first_old at stations ≡ Some address → P address
old_all P at address [] all is = absurd (cc)
old_all P at address (station ∷ stations) all is = by_test (is_believed at station.1)
    (λ hit. old_all P at address stations all.1 (rw hit at is))
    (λ miss. let same : Some station.0 ≡ Some address = rw miss at is in
    let one : station.0 ≡ address = cc in subst P one all.0)

pub old_found : (at : ℕ) (address : Ipv4Address) (stations : List (Ipv4Address × Neighbor))
    → IsStrictlySortedBy address_cmp (keys_of stations) → first_old at stations ≡ Some address
    → (neighbor : Neighbor) × (value_at address_cmp stations address ≡ Some neighbor) × (is_believed at neighbor ≡ false)
unfolding IsStrictlySortedBy
old_found at address [] sorted is = absurd (cc)
old_found at address (station ∷ stations) sorted is = by_test (is_believed at station.1)
    (λ hit.
    let rest : first_old at stations ≡ Some address = rw hit at is in
    let found = old_found at address stations sorted.1 rest in
    let less : address_cmp station.0 address ≡ Less = old_all (λ key. address_cmp station.0 key ≡ Less) at address stations sorted.0 rest in
    (found.0, rw (flip_less address_order station.0 address less) found.1, found.2))
    (λ miss.
    let same : Some station.0 ≡ Some address = rw miss at is in
    let one : station.0 ≡ address = cc in (
      station.1,
      subst (λ key. value_at address_cmp (station ∷ stations) key ≡ Some station.1) one
          (rw (address_laws.refl station.0) refl),
      miss,
    ))

-- a station that gives its place up is not found any more, and each other one as before
pub removed_found : (address other : Ipv4Address) (stations : List (Ipv4Address × Neighbor))
    → IsStrictlySortedBy address_cmp (keys_of stations)
    → value_at address_cmp (remove_entry (is_at (address_cmp address)) stations) other
    ≡ cond (is_eq (address_cmp address other)) None (value_at address_cmp stations other)
removed_found address other stations sorted =
    lookup-remove_entry address_laws (is_at (address_cmp address)) (λ x y hit. address_laws.congr address x y hit) other stations
    (IsDistinct-from_sorted address_cmp (keys_of stations) sorted)

without_still : (at later : ℕ) (old : Option Ipv4Address) (table : Table) (address : Ipv4Address) → at ≤ later
    → IsStrictlySortedBy address_cmp (keys_of table.stations) → first_old at table.stations ≡ old
    → still later (neighbor_with (without old table) address) ≡ still later (neighbor_with table address)
without_still at later None table address on sorted is = refl
without_still at later (Some old) table address on sorted is = by_test (is_eq (address_cmp old address))
    (λ hit.
    let found = old_found at old table.stations sorted is in
    let same : old ≡ address = one_address old address (texts_ties old.0 address.0 ∙ hit) in
    let here : neighbor_with table address ≡ Some found.0 = subst (λ key. neighbor_with table key ≡ Some found.0) same found.1 in
    let gone : cond (is_eq (address_cmp old address)) None (neighbor_with table address) ≡ None = rw hit refl in
    ap (still later) (removed_found old address table.stations sorted ∙ gone)
    ∙ sym (ap (still later) here ∙ old_still at later found.0 on found.2))
    (λ miss.
    let kept : cond (is_eq (address_cmp old address)) None (neighbor_with table address) ≡ neighbor_with table address = rw miss refl in
    ap (still later) (removed_found old address table.stations sorted ∙ kept))

-- whoever gives a place up is not believed any more
pub with_room_still : (at later : ℕ) (station : Ipv4Address) (table : Table) (address : Ipv4Address) → at ≤ later
    → IsStrictlySortedBy address_cmp (keys_of table.stations)
    → still later (neighbor_with (with_room station at table) address) ≡ still later (neighbor_with table address)
with_room_still at later station table address on sorted = by_test (is_ready station table)
    (λ ready. rw ready refl)
    (λ full. rw full (without_still at later (first_old at table.stations) table address on sorted refl))

without_sorted : (old : Option Ipv4Address) (table : Table) → IsStrictlySortedBy address_cmp (keys_of table.stations)
    → IsStrictlySortedBy address_cmp (keys_of (without old table).stations)
without_sorted None table sorted = sorted
without_sorted (Some old) table sorted = sorted_removed address_cmp (is_at (address_cmp old)) table.stations sorted

with_room_sorted : (station : Ipv4Address) (at : ℕ) (table : Table) → IsStrictlySortedBy address_cmp (keys_of table.stations)
    → IsStrictlySortedBy address_cmp (keys_of (with_room station at table).stations)
with_room_sorted station at table sorted = by_test (is_ready station table)
    (λ ready. rw ready sorted)
    (λ full. rw full (without_sorted (first_old at table.stations) table sorted))

-- an old station that gives its place up leaves one station less
old_shorter : (at : ℕ) (old : Ipv4Address) (stations : List (Ipv4Address × Neighbor)) → first_old at stations ≡ Some old
    → length (remove_entry (is_at (address_cmp old)) stations) + 1 ≡ length stations
old_shorter at old [] is = absurd (cc)
old_shorter at old (station ∷ stations) is = by_test (is_eq (address_cmp old station.0))
    (λ hit. rw hit (omega arith))
    (λ miss. by_test (is_believed at station.1)
    (λ young. rw miss (omega (arith, old_shorter at old stations (rw young at is))))
    (λ past.
    let same : Some station.0 ≡ Some old = rw past at is in
    let one : old ≡ station.0 = cc in
    let clash : true ≡ false = sym (address_laws.refl station.0) ∙ subst (λ key. is_eq (address_cmp key station.0) ≡ false) one miss in
    absurd (cc)))

differ : (one other less : ℕ) → (one == other) ≡ true → less + 1 ≡ one → (less == other) ≡ false
differ one other less same next = grind (arith, nat_tests)

left_ready : (address : Ipv4Address) (at : ℕ) (old : Option Ipv4Address) (table : Table) → first_old at table.stations ≡ old
    → is_some old ≡ true → (length table.stations == table.places) ≡ true → is_ready address (without old table) ≡ true
left_ready address at None table is some full = absurd (cc)
left_ready address at (Some old) table is some full =
    rw (differ (length table.stations) table.places (length (remove_entry (is_at (address_cmp old)) table.stations)) full
    (old_shorter at old table.stations is)) refl

-- where there is a place a station may be put down
pub made_ready : (address : Ipv4Address) (at : ℕ) (table : Table) → has_place address at table ≡ true
    → is_ready address (with_room address at table) ≡ true
made_ready address at table place = by_test (is_ready address table)
    (λ ready. rw ready ready)
    (λ unready. rw unready (by_test (length table.stations == table.places)
    (λ full. left_ready address at (first_old at table.stations) table refl (rw unready at place) full)
    (λ free. absurd (let clash : true ≡ false = rw free at unready in cc))))

-- then no map refuses it
pub never_refused : (address : Ipv4Address) (neighbor : Neighbor) (map : ManagedMap Ipv4Address Neighbor) (error : InsertError Ipv4Address Neighbor)
    → IsTable map → is_ready address (table_in map) ≡ true → IsRefusal address_cmp map address neighbor error → ⊥
never_refused address neighbor (Owned tree) error table ready refused = table
never_refused address neighbor (Borrowed places) NoMemory table ready refused = absurd (cc)
never_refused address neighbor (Borrowed places) (Full key value) table ready refused =
    by_test (length (filled places.now) == length places.now)
    (λ full.
    let none : is_some (value_at address_cmp (filled places.now) address) ≡ true = rw full at ready in
    let clash : false ≡ true = rw refused.1 at none in
    cc)
    (λ free. let apart : (length (filled places.now) == length places.now) ≡ true = grind (arith, nat_tests, refused.0) in
    let clash : true ≡ false = sym apart ∙ free in cc)

-- a table without stations is that of no event
pub none_agrees : (settings : Settings) (table : Table) → no_pairs table → TableAgrees settings [] table
unfolding IsStrictlySortedBy
none_agrees settings table none = record { finds = λ address at since. rw none refl; sorted = rw none tt }

-- what a packet told is as believed as what was known, where that was
told_still : (later at : ℕ) (address : Ipv4Address) (arp : ArpRepr) (known other : Option Neighbor)
    → still later known ≡ still later other
    → still later (or_told address at (Some arp) known) ≡ still later (or_told address at (Some arp) other)
told_still later at address arp known other same = by_test (same_address arp.source_protocol_addr address)
    (λ hit. rw hit refl)
    (λ miss. rw miss same)

pub since_later : (events : List Event) (at later : ℕ) → IsSince events at → at ≤ later → IsSince events later
since_later [] at later since on = tt
since_later (event ∷ events) at later since on = omega (arith, since, on)

module _ (settings : Settings) (event : Event) (events : List Event) (table : Table) (since : IsSince events event.at) where
  -- an event that tells of a station
  pub told_agrees : (arp : ArpRepr) → told_by settings event.arrival ≡ Some arp
      → TableAgrees settings events table
      → TableAgrees settings (event ∷ events) (learned arp event.at table)
  told_agrees arp told agrees = record {
    finds = λ address at on. rw told (ap (still at) (found_by table arp event.at address)
        ∙ told_still at event.at address arp (neighbor_with (with_room arp.source_protocol_addr event.at table) address)
        (neighbor_in settings events address)
        (with_room_still event.at at arp.source_protocol_addr table address on agrees.sorted
        ∙ agrees.finds address at (since_later events event.at at since on)));
    sorted = sorted_with_pair address_order (with_room arp.source_protocol_addr event.at table).stations arp.source_protocol_addr (told_at event.at arp)
        (with_room_sorted arp.source_protocol_addr event.at table agrees.sorted);
  }

  -- and one that tells nothing
  pub untold_agrees : told_by settings event.arrival ≡ None → TableAgrees settings events table
      → TableAgrees settings (event ∷ events) table
  untold_agrees told agrees =
      record { finds = λ address at on. rw told (agrees.finds address at (since_later events event.at at since on)); sorted = agrees.sorted }

  learned_by : (told : Option ArpRepr) → told_by settings event.arrival ≡ told
      → TableAgrees settings events table
      → TableAgrees settings (event ∷ events) (table_after told event.at table)
  learned_by None is agrees = untold_agrees is agrees
  learned_by (Some arp) is agrees = told_agrees arp is agrees

  -- the table after an event
  pub learned_agrees : TableAgrees settings events table
      → TableAgrees settings (event ∷ events) (table_after (told_by settings event.arrival) event.at table)
  learned_agrees agrees = learned_by (told_by settings event.arrival) refl agrees
