-- A client without a place finds one where an address is had by nobody.
use Rattle.std.proofs.Common.{◌≡◌, ℕ, suc, ◌+◌, ◌-◌, ◌<◌, ◌≤◌, Bool, true, false, cond, List, [], ◌∷◌, length, map, get_or, Option, Some, None, IsSome, refl, sym, ap, ◌∙◌, arith, length-set, length-append, nat_eq, ◌||◌}
use Rattle.std.specs.List.{list_any, AllByRecursion, IsDistinct}
use Rattle.std.specs.List.Sorted.{IsStrictlySortedBy}
use Rattle.std.specs.Map.{keys_of}
use Rattle.std.specs.Ordering.{is_eq}
use Rattle.std.specs.declared.cmp.Ordering.TheVariants.{Less}
use Rattle.std.proofs.lemmas.Bool.{eqb-true, ne_eqb}
use Rattle.std.proofs.lemmas.Map.Steps.{length-le_from_distinct_below}
use Rattle.managed.specs.declared.slot_key.SlotKey.{SlotKey}
use Rattle.managed.specs.SlotTable.{SlotUse, AreFree, IsFullTable, handed_out, key_handed_out, place_handed_out, taken_generations, still_free}
use Rattle.managed.specs.SortedMap.{value_at, with_pair}
use Rattle.managed.proofs.LawLemmas.{value-with_pair}
use Rattle.managed.proofs.LiveLemmas.{sound_handed, found_handed, not_handed, kept}
use Rattle.managed.proofs.OrderLemmas.{by_test, by_ordering}
use Rattle.net_wire.specs.declared.address.EthernetAddress.{EthernetAddress}
use Rattle.lease_server.specs.declared.lease.Lease.{Lease}
use Rattle.lease_server.specs.Values.{Values, number_of, first_number}
use Rattle.lease_server.specs.Holdings.{same_hardware}
use Rattle.lease_server.specs.Replies.{is_of_range}
use Rattle.lease_server.specs.State.{hardware_cmp}
use Rattle.lease_server.specs.Holders.{AreHolders, Keys, lease_at, holders_in, stores}
use Rattle.lease_server.proofs.HolderLemmas.{hardware_order, own_pairs}
use Rattle.lease_server.proofs.PutLemmas.{Puts, stored}
use Rattle.lease_server.proofs.TestLemmas.{InRange, in_range, keys_tie, none_some, itself, true_false}

-- ---- no more clients than addresses
-- the place of a client's address in the range
abbrev place_in : Values → List Lease → EthernetAddress × SlotKey → ℕ
place_in values leases pair = number_of (lease_at leases pair.1.place).address - first_number values

as_long : {X Y : Type 0} (f : X → Y) (xs : List X) → length (map f xs) ≡ length xs
as_long f [] = refl
as_long f (x ∷ xs) = ap suc (as_long f xs)

abbrev Own : Keys → Keys → Type 0
Own keys pairs = AllByRecursion (λ pair. value_at hardware_cmp keys pair.0 ≡ Some pair.1) pairs

less_apart : (one other : EthernetAddress) → hardware_cmp one other ≡ Less → one ≡ other → ⊥
less_apart one other less same =
    let equal : is_eq (hardware_cmp one other) ≡ true = keys_tie one other ∙ ap (λ (o : EthernetAddress). same_hardware one o) (sym same) ∙ itself one in
    true_false (is_eq (hardware_cmp one other)) equal (ap is_eq less)

module _ (values : Values) (keys : Keys) (leases : List Lease) (table : SlotUse) (holders : AreHolders values keys leases table) where
  ranged : (pair : EthernetAddress × SlotKey) → value_at hardware_cmp keys pair.0 ≡ Some pair.1
      → InRange values (number_of (lease_at leases pair.1.place).address)
  ranged pair own = in_range values (lease_at leases pair.1.place).address (holders.placed pair.0 pair.1 own)

  apart_from : (pair : EthernetAddress × SlotKey) (rest : Keys) → value_at hardware_cmp keys pair.0 ≡ Some pair.1 → Own keys rest
      → AllByRecursion (λ key. hardware_cmp pair.0 key ≡ Less) (keys_of rest)
      → AllByRecursion (λ place. nat_eq (place_in values leases pair) place ≡ false) (map (place_in values leases) rest)
  apart_from pair [] own owns less = tt
  apart_from pair (next ∷ rest) own owns less = (
    ne_eqb (place_in values leases pair) (place_in values leases next) (λ same.
        less_apart pair.0 next.0 less.0 (holders.apart pair.0 next.0 pair.1 next.1 own owns.0
        (omega (arith, same, (ranged pair own).from, (ranged next owns.0).from)))),
    apart_from pair rest own owns.1 less.1,
  )

  distinct : (pairs : Keys) → IsStrictlySortedBy hardware_cmp (keys_of pairs) → Own keys pairs → IsDistinct nat_eq (map (place_in values leases) pairs)
  unfolding IsStrictlySortedBy IsDistinct
  distinct [] sorted owns = tt
  distinct (pair ∷ rest) sorted owns = (apart_from pair rest owns.0 owns.1 sorted.0, distinct rest sorted.1 owns.1)

  below : (pairs : Keys) → Own keys pairs → (q : ℕ) → list_any (nat_eq q) (map (place_in values leases) pairs) ≡ true → q < values.count
  below [] owns q is = absurd (true_false false is refl)
  below (pair ∷ rest) owns q is = by_test (nat_eq q (place_in values leases pair))
      (λ hit. let same = eqb-true q (place_in values leases pair) hit in
      let range = ranged pair owns.0 in omega (arith, same, range.from, range.below))
      (λ miss. below rest owns.1 q (sym (ap (λ (b : Bool). b || list_any (nat_eq q) (map (place_in values leases) rest)) miss) ∙ is))

  module _ (number : ℕ) (range : InRange values number)
      (free : (other : EthernetAddress) → stores (holders_in keys leases) other number ≡ true → ⊥) where
    unlike : (pairs : Keys) → Own keys pairs → AllByRecursion (λ place. nat_eq (number - first_number values) place ≡ false) (map (place_in values leases) pairs)
    unlike [] owns = tt
    unlike (pair ∷ rest) owns = (
      ne_eqb (number - first_number values) (place_in values leases pair) (λ same.
          free pair.0 (stored keys leases pair.0 pair.1 number owns.0
          (omega (arith, same, range.from, (ranged pair owns.0).from)))),
      unlike rest owns.1,
    )

    all_distinct : IsStrictlySortedBy hardware_cmp (keys_of keys) → IsDistinct nat_eq ((number - first_number values) ∷ map (place_in values leases) keys)
    unfolding IsDistinct
    all_distinct sorted = (unlike keys (own_pairs keys sorted), distinct keys sorted (own_pairs keys sorted))

    all_below : IsStrictlySortedBy hardware_cmp (keys_of keys) → (q : ℕ)
        → list_any (nat_eq q) ((number - first_number values) ∷ map (place_in values leases) keys) ≡ true → q < values.count
    all_below sorted q is = by_test (nat_eq q (number - first_number values))
        (λ hit. let same = eqb-true q (number - first_number values) hit in omega (arith, same, range.from, range.below))
        (λ miss. below keys (own_pairs keys sorted) q (sym (ap (λ (b : Bool). b || list_any (nat_eq q) (map (place_in values leases) keys)) miss) ∙ is))

    pub has_room : IsStrictlySortedBy hardware_cmp (keys_of keys) → length keys < values.count
    has_room sorted =
        let few : length ((number - first_number values) ∷ map (place_in values leases) keys) ≤ values.count
        = length-le_from_distinct_below ((number - first_number values) ∷ map (place_in values leases) keys) values.count (all_distinct sorted) (all_below sorted) in
        omega (arith, few, as_long (place_in values leases) keys)

-- ---- a place is free
past : (xs : List (Option ℕ)) → get_or xs (length xs) None ≡ None
past [] = refl
past (x ∷ xs) = past xs

is_some_none : (o : Option ℕ) → IsSome o → o ≡ None → ⊥
is_some_none None some none = absurd (cc)
is_some_none (Some x) some none = absurd (cc)

not_full_by : (generations : List (Option ℕ)) (freed : List ℕ) (clients capacity : ℕ) → AreFree generations freed
    → clients + length freed ≡ length generations → length generations ≤ capacity → clients < capacity
    → ((place : ℕ) → place < capacity → IsSome (get_or generations place None)) → ⊥
not_full_by generations [] clients capacity free counted begun room full =
    is_some_none (get_or generations (length generations) None) (full (length generations) (omega arith)) (past generations)
not_full_by generations (place ∷ rest) clients capacity free counted begun room full =
    is_some_none (get_or generations place None) (full place (omega (arith, free.0, begun))) free.1

pub not_full : (values : Values) (keys : Keys) (leases : List Lease) (table : SlotUse) → AreHolders values keys leases table
    → length keys < values.count → IsFullTable table → ⊥
not_full values keys leases table holders room full =
    not_full_by table.generations table.freed (length keys) table.capacity holders.sound holders.counted
    (omega (arith, holders.begun, holders.size)) (omega (arith, room, holders.size)) full

-- ---- a place is handed out to a client
longer_taken : (freed : List ℕ) (generations : List (Option ℕ)) (generation : ℕ)
    → length (taken_generations freed generations generation) + length freed ≡ length generations + 1 + length (still_free freed)
longer_taken [] generations generation = omega (arith, length-append generations (Some generation ∷ []))
longer_taken (place ∷ rest) generations generation = omega (arith, length-set generations place (Some generation))

same_length : (freed : List ℕ) (generations : List (Option ℕ)) (generation clients count : ℕ) → clients + length freed ≡ length generations → clients < count
    → length generations ≤ count → length (taken_generations freed generations generation) ≤ count
same_length [] generations generation clients count counted room begun = omega (arith, length-append generations (Some generation ∷ []))
same_length (place ∷ rest) generations generation clients count counted room begun = omega (arith, length-set generations place (Some generation))

one_longer : (keys : Keys) (client : EthernetAddress) (key : SlotKey) → value_at hardware_cmp keys client ≡ None
    → length (with_pair hardware_cmp keys client key) ≡ length keys + 1
one_longer [] client key none = omega arith
one_longer (pair ∷ rest) client key none = by_ordering (hardware_cmp client pair.0)
    (λ less. rw less (omega arith))
    (λ same. absurd (none_some pair.1 (sym none ∙ ap (λ (b : Bool). cond b (Some pair.1) (value_at hardware_cmp rest client)) (ap is_eq same))))
    (λ greater. rw greater (omega (
      arith,
      one_longer rest client key
          (sym (ap (λ (b : Bool). cond b (Some pair.1) (value_at hardware_cmp rest client)) (ap is_eq greater)) ∙ none),
    )))

pub admits : (values : Values) (keys : Keys) (leases : List Lease) (table : SlotUse) (client : EthernetAddress) (lease : Lease)
    → AreHolders values keys leases table → value_at hardware_cmp keys client ≡ None → length keys < values.count
    → place_handed_out table < length leases → lease.client ≡ client → is_of_range values lease.address ≡ true
    → ((other : EthernetAddress) → stores (holders_in keys leases) other (number_of lease.address) ≡ true → other ≡ client)
    → Puts values keys (with_pair hardware_cmp keys client (key_handed_out table)) leases table (handed_out table) client (key_handed_out table) lease
admits values keys leases table client lease holders none room within whose range alone = record {
  old = holders;
  sound = sound_handed table holders.sound;
  size = holders.size;
  begun = same_length table.freed table.generations table.next_generation (length keys) values.count holders.counted room holders.begun;
  counted = omega (arith, one_longer keys client (key_handed_out table) none, longer_taken table.freed table.generations table.next_generation, holders.counted);
  finds = λ other. value-with_pair hardware_order client (key_handed_out table) other keys ∙ rw (keys_tie client other) refl;
  live = found_handed table holders.sound;
  others = λ other its was miss. kept table its (None ∷ []) holders.sound tt tt (holders.live other its was);
  places = λ other its was miss same. not_handed table its holders.sound (holders.live other its was) (sym same);
  within = within;
  whose = whose;
  range = range;
  alone = alone;
}
