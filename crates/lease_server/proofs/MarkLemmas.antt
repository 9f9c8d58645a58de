-- One walk over the clients marks what is held.
use Rattle.std.proofs.Common.{◌≡◌, ◌≢◌, ℕ, zero, suc, ◌+◌, ◌-◌, ◌<◌, ◌≤◌, Bool, true, false, cond, ◌||◌, List, [], ◌∷◌, length, map, get_or, Option, Some, None, refl, sym, ap, ◌∙◌, subst, arith, nat_lt, nat_eq, get_or-set_other, get_or-set_same, replicate, slice_get}
use Rattle.std.specs.Option.{option_map}
use Rattle.std.specs.Ordering.{is_eq}
use Rattle.std.specs.Map.{keys_of}
use Rattle.std.specs.List.Sorted.{IsStrictlySortedBy}
use Rattle.std.proofs.lemmas.Option.{get_or_from_slice_get}
use Rattle.lease_server.specs.Replies.{is_of_range}
use Rattle.std.specs.List.{list_any, AllByRecursion}
use Rattle.std.proofs.lemmas.Bool.{eqb-true, eqb-false, eq-eqb, ne_eqb}
use Rattle.managed.specs.declared.slot_key.SlotKey.{SlotKey}
use Rattle.managed.specs.SlotTable.{SlotUse}
use Rattle.managed.specs.SortedMap.{value_at}
use Rattle.managed.proofs.OrderLemmas.{by_test}
use Rattle.net_wire.specs.declared.address.EthernetAddress.{EthernetAddress}
use Rattle.lease_server.specs.declared.lease.Lease.{Lease}
use Rattle.lease_server.specs.Values.{Values, number_of, first_number, refused}
use Rattle.lease_server.specs.Holdings.{holds_number}
use Rattle.lease_server.specs.State.{Held, Holders, held_of, held_at, hardware_cmp, holding, is_taken, micros_of}
use Rattle.lease_server.specs.Holders.{AreHolders, Keys, lease_at, held_under, holders_in, marked, no_lease, stores, has_number}
use Rattle.lease_server.proofs.HolderLemmas.{finds_some, found_under, own_pairs}
use Rattle.lease_server.proofs.TestLemmas.{InRange, in_range, or_true, count_parts, true_false}

any_map : {X Y : Type 0} (test : Y → Bool) (f : X → Y) (xs : List X) → list_any test (map f xs) ≡ list_any (λ x. test (f x)) xs
any_map test f [] = refl
any_map test f (x ∷ xs) = ap (λ (rest : Bool). test (f x) || rest) (any_map test f xs)

-- some client of a list holds the address with a number
abbrev pub any_holds : Holders → ℕ → Keys → ℕ → Bool
any_holds holders at keys number = list_any (λ pair. holds_number (holding holders pair.0 at) number) keys

-- the marks so far, with the clients that are left
pub record AreMarked (values : Values) (keys : Keys) (holders : Holders) (at : ℕ) (taken : List Bool) (left : Keys) : Type 0 where
  pub own : AllByRecursion (λ pair. value_at hardware_cmp keys pair.0 ≡ Some pair.1) left
  pub marks : (place : ℕ) → place < values.count
      → is_taken holders at (first_number values + place) ≡ (get_or taken place false || any_holds holders at left (first_number values + place))

unmarked : (n place : ℕ) → get_or (replicate n false) place false ≡ false
unmarked zero place = refl
unmarked (suc n) zero = refl
unmarked (suc n) (suc place) = unmarked n place

pub none_marked : (values : Values) (keys : Keys) (leases : List Lease) (at n : ℕ)
    → AllByRecursion (λ pair. value_at hardware_cmp keys pair.0 ≡ Some pair.1) keys
    → AreMarked values keys (holders_in keys leases) at (replicate n false) keys
none_marked values keys leases at n own = record {
  own = own;
  marks = λ place below. any_map (λ holder. holds_number (holding (holders_in keys leases) holder.0 at) (first_number values + place))
      (λ pair. (pair.0, held_under leases pair.1)) keys
      ∙ ap (λ (mark : Bool). mark || any_holds (holders_in keys leases) at keys (first_number values + place)) (sym (unmarked n place));
}

-- a mark is set where its lease is held
set_mark : (taken : List Bool) (first at place number : ℕ) (lease : Lease) (rest : Bool)
    → first ≤ number_of lease.address → number_of lease.address < first + length taken → place < length taken
    → (get_or taken place false || (holds_number (held_at at (Some (held_of lease))) (first + place) || rest))
    ≡ (get_or (marked taken first at lease) place false || rest)
set_mark taken first at place number lease rest from within below = by_test (nat_lt at (micros_of lease.until))
    (λ held. rw held (by_test (nat_eq (number_of lease.address) (first + place))
    (λ same. let here : place ≡ number_of lease.address - first = omega (arith, eqb-true (number_of lease.address) (first + place) same) in
    rw (same, ← here, get_or-set_same taken place true false below) (or_true (get_or taken place false) rest))
    (λ other. let apart : place ≢ number_of lease.address - first = λ is. eqb-false (number_of lease.address) (first + place) other (omega arith) in
    rw (other, get_or-set_other) refl)))
    (λ ended. rw ended refl)

pub marks_one : (values : Values) (keys : Keys) (leases : List Lease) (table : SlotUse) (at : ℕ) (taken : List Bool) (pair : EthernetAddress × SlotKey) (left : Keys)
    → refused values ≡ None → AreHolders values keys leases table → length taken ≡ 1000
    → AreMarked values keys (holders_in keys leases) at taken (pair ∷ left)
    → AreMarked values keys (holders_in keys leases) at (marked taken (first_number values) at (lease_at leases pair.1.place)) left
marks_one values keys leases table at taken pair left checked holders long before =
    let place_of = in_range values (lease_at leases pair.1.place).address (holders.placed pair.0 pair.1 before.own.0) in
    let count = count_parts values checked in
    record {
      own = before.own.1;
      marks = λ place below. before.marks place below
          ∙ rw (finds_some keys leases pair.0 pair.1 before.own.0)
          (set_mark taken (first_number values) at place 0 (lease_at leases pair.1.place) (any_holds (holders_in keys leases) at left (first_number values + place))
          place_of.from (omega (arith, place_of.below, count.few)) (omega (arith, count.few)));
    }

-- ---- a pair that a walk comes to, and what the table gives of its key
module _ (values : Values) (keys : Keys) (leases : List Lease) (table : SlotUse) (at : ℕ) (taken : List Bool)
    (left : Keys) (pair : EthernetAddress × SlotKey) (rest : Keys) (lease : Lease)
    (checked : refused values ≡ None) (holders : AreHolders values keys leases table)
    (comes : left ≡ pair ∷ rest) (lies : Some lease ≡ slice_get leases pair.1.place) where
  lies_there : lease_at leases pair.1.place ≡ lease
  lies_there = get_or_from_slice_get leases pair.1.place lease no_lease (sym lies)

  pub lease_within : AllByRecursion (λ pair. value_at hardware_cmp keys pair.0 ≡ Some pair.1) left → InRange values (number_of lease.address)
  lease_within own =
      let P : Keys → Type 0 = λ k. AllByRecursion (λ pair. value_at hardware_cmp keys pair.0 ≡ Some pair.1) k in
      let here = subst P comes own in
      in_range values lease.address (sym (ap (λ (l : Lease). is_of_range values l.address) lies_there) ∙ holders.placed pair.0 pair.1 here.0)

  pub marks_next : (first : ℕ) (new : List Bool) → first ≡ first_number values → length taken ≡ 1000 → AreMarked values keys (holders_in keys leases) at taken left
      → new ≡ marked taken first at lease → AreMarked values keys (holders_in keys leases) at new rest
  marks_next first new begins long before is =
      let P : Keys → Type 0 = λ k. AreMarked values keys (holders_in keys leases) at taken k in
      let Q : List Bool → Type 0 = λ t. AreMarked values keys (holders_in keys leases) at t rest in
      subst Q (ap (λ (l : Lease). marked taken (first_number values) at l) lies_there ∙ ap (λ (n : ℕ). marked taken n at lease) (sym begins) ∙ sym is)
      (marks_one values keys leases table at taken pair rest checked holders long (subst P comes before))

-- ---- the client that has an address
pub record AreLeft (keys : Keys) (leases : List Lease) (number : ℕ) (left : Keys) : Type 0 where
  pub own : AllByRecursion (λ pair. value_at hardware_cmp keys pair.0 ≡ Some pair.1) left
  pub finds : (client : EthernetAddress) → stores (holders_in keys leases) client number ≡ true
      → has_number (option_map (held_under leases) (value_at hardware_cmp left client)) number ≡ true

pub all_left : (keys : Keys) (leases : List Lease) (number : ℕ) → IsStrictlySortedBy hardware_cmp (keys_of keys)
    → AreLeft keys leases number keys
all_left keys leases number sorted = record {
  own = own_pairs keys sorted;
  finds = λ client is. ap (λ (o : Option Held). has_number o number) (sym (found_under keys leases client)) ∙ is;
}

pub left_none : (keys : Keys) (leases : List Lease) (number : ℕ) (left : Keys) → left ≡ [] → AreLeft keys leases number left
    → (client : EthernetAddress) → stores (holders_in keys leases) client number ≡ false
left_none keys leases number left none before client = by_test (stores (holders_in keys leases) client number)
    (λ hit. absurd (true_false (has_number (option_map (held_under leases) (value_at hardware_cmp left client)) number)
    (before.finds client hit) (ap (λ (k : Keys). has_number (option_map (held_under leases) (value_at hardware_cmp k client)) number) none)))
    (λ miss. miss)

passed_over : (leases : List Lease) (number : ℕ) (client : EthernetAddress) (pair : EthernetAddress × SlotKey) (rest : Keys) (same : Bool)
    → nat_eq (number_of (lease_at leases pair.1.place).address) number ≡ false
    → has_number (option_map (held_under leases) (cond same (Some pair.1) (value_at hardware_cmp rest client))) number ≡ true
    → has_number (option_map (held_under leases) (value_at hardware_cmp rest client)) number ≡ true
passed_over leases number client pair rest true other is = absurd (true_false (nat_eq (number_of (lease_at leases pair.1.place).address) number) is other)
passed_over leases number client pair rest false other is = is

module _ (keys : Keys) (leases : List Lease) (number : ℕ) (left : Keys) (pair : EthernetAddress × SlotKey) (rest : Keys) (lease : Lease)
    (comes : left ≡ pair ∷ rest) (lies : Some lease ≡ slice_get leases pair.1.place) (before : AreLeft keys leases number left) where
  lies_here : lease_at leases pair.1.place ≡ lease
  lies_here = get_or_from_slice_get leases pair.1.place lease no_lease (sym lies)

  pub left_next : (number_of lease.address ≡ number → ⊥) → AreLeft keys leases number rest
  left_next other =
      let P : Keys → Type 0 = λ k. AreLeft keys leases number k in
      let here = subst P comes before in
      record {
        own = here.own.1;
        finds = λ client is. passed_over leases number client pair rest (is_eq (hardware_cmp client pair.0))
            (ne_eqb (number_of (lease_at leases pair.1.place).address) number (λ same. other (sym (ap (λ (l : Lease). number_of l.address) lies_here) ∙ same)))
            (here.finds client is);
      }

  pub left_found : number_of lease.address ≡ number → stores (holders_in keys leases) pair.0 number ≡ true
  left_found same =
      let P : Keys → Type 0 = λ k. AreLeft keys leases number k in
      let here = subst P comes before in
      ap (λ (o : Option Held). has_number o number) (finds_some keys leases pair.0 pair.1 here.own.0)
      ∙ eq-eqb (number_of (lease_at leases pair.1.place).address) number (ap (λ (l : Lease). number_of l.address) lies_here ∙ same)

pub left_from : (keys : Keys) (leases : List Lease) (number : ℕ) (left : Keys) → left ≡ keys → IsStrictlySortedBy hardware_cmp (keys_of keys)
    → AreLeft keys leases number left
left_from keys leases number left is sorted = let P : Keys → Type 0 = λ k. AreLeft keys leases number k in subst P (sym is) (all_left keys leases number sorted)

pub none_from : (values : Values) (keys : Keys) (leases : List Lease) (at : ℕ) (left : Keys) → left ≡ keys → IsStrictlySortedBy hardware_cmp (keys_of keys)
    → AreMarked values keys (holders_in keys leases) at (replicate 1000 false) left
none_from values keys leases at left is sorted =
    let P : Keys → Type 0 = λ k. AreMarked values keys (holders_in keys leases) at (replicate 1000 false) k in
    subst P (sym is) (none_marked values keys leases at 1000 (own_pairs keys sorted))
