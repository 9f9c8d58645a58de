-- Tests of numbers and addresses, and what values that are not refused meet.
use Rattle.std.proofs.Common.{◌≡◌, ℕ, ◌+◌, ◌<◌, ◌≤◌, Bool, true, false, cond, not, ◌||◌, ◌&&◌, List, [], ◌∷◌, Option, Some, None, refl, sym, ap, nat_eq, nat_le, ◌==◌, if◌then◌else◌}
use Rattle.std.specs.Cmp.Lexicographic.{pointwise, texts_ties}
use Rattle.std.specs.Ordering.{is_eq}
use Rattle.std.proofs.lemmas.Bool.{ltb-true, leb-true, eqb-true, lt-ltb, le-leb}
use Rattle.std.proofs.lemmas.Cmp.{nat_list_eq_equiv}
use Rattle.net_wire.specs.declared.address.EthernetAddress.{EthernetAddress}
use Rattle.net_wire.specs.declared.address.Ipv4Address.{Ipv4Address}
use Rattle.lease_server.specs.declared.values.ServerError.{ServerError}
use Rattle.lease_server.specs.declared.values.ServerError.TheVariants as error
use Rattle.net_wire.specs.Arrival.{is_group}
use Rattle.net_wire.specs.Unicast.{is_unicast}
use Rattle.lease_server.specs.Values.{Values, number_of, first_number, refused, is_count, is_range, is_prefix, is_router, are_usable, are_unicast}
use Rattle.lease_server.specs.Holdings.{same_hardware}
use Rattle.lease_server.specs.Replies.{is_of_range}
use Rattle.lease_server.specs.State.{hardware_cmp}

pub and_first : (a b : Bool) → a && b ≡ true → a ≡ true
and_first true b both = refl
and_first false b both = absurd (cc)

pub and_second : (a b : Bool) → a && b ≡ true → b ≡ true
and_second true b both = both
and_second false b both = absurd (cc)

pub or_true : (a b : Bool) → (a || (true || b)) ≡ (true || b)
or_true true b = refl
or_true false b = refl

pub none_some : {X : Type 0} (x : X) → None ≡ Some x → ⊥
none_some x clash = absurd (cc)

pub true_false : (b : Bool) → b ≡ true → b ≡ false → ⊥
true_false b hit miss = absurd (cc)

-- ---- addresses of the link
pub same_lists : (xs ys : List ℕ) → pointwise nat_eq xs ys ≡ true → xs ≡ ys
same_lists [] [] same = refl
same_lists [] (y ∷ ys) same = absurd (cc)
same_lists (x ∷ xs) [] same = absurd (cc)
same_lists (x ∷ xs) (y ∷ ys) same =
    let head : x ≡ y = eqb-true x y (and_first (nat_eq x y) (pointwise nat_eq xs ys) same) in
    let tail : xs ≡ ys = same_lists xs ys (and_second (nat_eq x y) (pointwise nat_eq xs ys) same) in
    cc

pub same_client : (one other : EthernetAddress) → same_hardware one other ≡ true → one ≡ other
same_client one other same = let f : List ℕ → EthernetAddress = λ bytes. record { 0 = bytes } in ap f (same_lists one.0 other.0 same)

pub itself : (client : EthernetAddress) → same_hardware client client ≡ true
itself client = nat_list_eq_equiv.refl client.0

pub keys_tie : (one other : EthernetAddress) → is_eq (hardware_cmp one other) ≡ same_hardware one other
keys_tie one other = sym (texts_ties one.0 other.0)

-- ---- the range
pub record InRange (values : Values) (number : ℕ) : Type 0 where
  pub from : first_number values ≤ number
  pub below : number < first_number values + values.count

pub in_range : (values : Values) (address : Ipv4Address) → is_of_range values address ≡ true → InRange values (number_of address)
in_range values address is = record {
  from = leb-true (first_number values) (number_of address) (and_first _ _ is);
  below = ltb-true (number_of address) (first_number values + values.count) (and_second (nat_le (first_number values) (number_of address)) _ is);
}

pub of_range : (values : Values) (address : Ipv4Address) → InRange values (number_of address) → is_of_range values address ≡ true
of_range values address is =
    rw (le-leb (first_number values) (number_of address) is.from, lt-ltb (number_of address) (first_number values + values.count) is.below) refl

-- ---- values that are not refused
passes : (test : Bool) (error : ServerError) (rest : Option ServerError) → cond test (Some error) rest ≡ None → rest ≡ None
passes true error rest none = absurd (none_some error (sym none))
passes false error rest none = none

passed : (test : Bool) (error : ServerError) (rest : Option ServerError) → cond test (Some error) rest ≡ None → test ≡ false
passed true error rest none = absurd (none_some error (sym none))
passed false error rest none = refl

not_not : (test : Bool) → not test ≡ false → test ≡ true
not_not true is = refl
not_not false is = absurd (cc)

pub record IsAccepted (values : Values) : Type 0 where
  pub prefix : is_prefix values.prefix_len ≡ true
  pub range : is_range values ≡ true
  pub lease : (values.lease_secs == 0) ≡ false
  pub servers : are_unicast values.dns_servers ≡ true

abbrev after_router : Values → Option ServerError
after_router values = if not (are_unicast values.dns_servers) then Some error.Dns else None

abbrev after_lease : Values → Option ServerError
after_lease values = if not (is_router values.router) then Some error.Router else after_router values

abbrev after_range : Values → Option ServerError
after_range values = if values.lease_secs == 0 then Some error.Lease else after_lease values

abbrev after_prefix : Values → Option ServerError
after_prefix values = if not (is_range values) then Some error.Range else after_range values

abbrev after_address : Values → Option ServerError
after_address values = if not (is_prefix values.prefix_len) then Some error.Prefix else after_prefix values

abbrev after_hardware : Values → Option ServerError
after_hardware values = if not (is_unicast values.address) then Some error.Address else after_address values

pub accepted : (values : Values) → refused values ≡ None → IsAccepted values
accepted values none =
    let second = passes (is_group values.hardware.0) error.Hardware (after_hardware values) none in
    let third = passes (not (is_unicast values.address)) error.Address (after_address values) second in
    let fourth = passes (not (is_prefix values.prefix_len)) error.Prefix (after_prefix values) third in
    let fifth = passes (not (is_range values)) error.Range (after_range values) fourth in
    let sixth = passes (values.lease_secs == 0) error.Lease (after_lease values) fifth in
    let seventh = passes (not (is_router values.router)) error.Router (after_router values) sixth in
    record {
      prefix = not_not (is_prefix values.prefix_len) (passed (not (is_prefix values.prefix_len)) error.Prefix (after_prefix values) third);
      range = not_not (is_range values) (passed (not (is_range values)) error.Range (after_range values) fourth);
      lease = passed (values.lease_secs == 0) error.Lease (after_lease values) fifth;
      servers = not_not (are_unicast values.dns_servers) (passed (not (are_unicast values.dns_servers)) error.Dns None seventh);
    }

pub record HasCount (values : Values) : Type 0 where
  pub some : 1 ≤ values.count
  pub few : values.count ≤ 1000
  pub fits : first_number values + values.count ≤ 4294967296

pub count_parts : (values : Values) → refused values ≡ None → HasCount values
count_parts values none =
    let count : is_count values ≡ true = and_first (is_count values) (are_usable values (first_number values) values.count) (accepted values none).range in
    let front = and_first (nat_le 1 values.count && nat_le values.count 1000) (nat_le (first_number values + values.count) 4294967296) count in
    record {
      some = leb-true 1 values.count (and_first (nat_le 1 values.count) (nat_le values.count 1000) front);
      few = leb-true values.count 1000 (and_second (nat_le 1 values.count) (nat_le values.count 1000) front);
      fits = leb-true (first_number values + values.count) 4294967296 (and_second (nat_le 1 values.count && nat_le values.count 1000) _ count);
    }
