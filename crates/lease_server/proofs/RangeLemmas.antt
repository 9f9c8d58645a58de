-- Walks along the range and along the name servers.
use Rattle.std.proofs.Common.{◌≡◌, ℕ, suc, ◌+◌, ◌-◌, ◌<◌, ◌≤◌, ◌&&◌, Bool, true, false, cond, List, drop, length, get_or, Some, None, refl, sym, ap, ◌∙◌, arith, drop-cons, add-one}
use Rattle.net_wire.specs.declared.address.Ipv4Address.{Ipv4Address}
use Rattle.net_wire.specs.Unicast.{is_unicast}
use Rattle.lease_server.specs.Values.{Values, address_of, is_usable, are_usable, are_unicast}
use Rattle.lease_server.specs.Replies.{first_free}

one_behind : (first place : ℕ) → first + place + 1 ≡ first + (place + 1)
one_behind first place = omega arith

one_less : (place count : ℕ) → place < count → count - place ≡ suc (count - (place + 1))
one_less place count below = omega arith

usable_false : (values : Values) (number count : ℕ) (test : Bool) → test ≡ false → test && are_usable values number count ≡ false
usable_false values number count test is = rw is refl

usable_true : (values : Values) (number count : ℕ) (test : Bool) → test ≡ true → test && are_usable values number count ≡ are_usable values number count
usable_true values number count test is = rw is refl

pub usable_here : (values : Values) (first place count : ℕ) → place < count → is_usable values (first + place) ≡ false
    → are_usable values (first + place) (count - place) ≡ false
usable_here values first place count below not =
    ap (are_usable values (first + place)) (one_less place count below)
    ∙ usable_false values (first + place + 1) (count - (place + 1)) (is_usable values (first + place)) not

pub usable_later : (values : Values) (first place count : ℕ) → place < count → is_usable values (first + place) ≡ true
    → are_usable values (first + place) (count - place) ≡ are_usable values (first + (place + 1)) (count - (place + 1))
usable_later values first place count below is =
    ap (are_usable values (first + place)) (one_less place count below)
    ∙ usable_true values (first + place + 1) (count - (place + 1)) (is_usable values (first + place)) is
    ∙ ap (λ (n : ℕ). are_usable values n (count - (place + 1))) (one_behind first place)

free_true : (taken : ℕ → Bool) (number count : ℕ) (test : Bool) → test ≡ true
    → cond test (first_free taken (number + 1) count) (Some (address_of number)) ≡ first_free taken (number + 1) count
free_true taken number count test is = rw is refl

free_false : (taken : ℕ → Bool) (number count : ℕ) (test : Bool) → test ≡ false
    → cond test (first_free taken (number + 1) count) (Some (address_of number)) ≡ Some (address_of number)
free_false taken number count test is = rw is refl

pub free_here : (taken : ℕ → Bool) (first place count : ℕ) → place < count → taken (first + place) ≡ false
    → first_free taken (first + place) (count - place) ≡ Some (address_of (first + place))
free_here taken first place count below free =
    ap (first_free taken (first + place)) (one_less place count below)
    ∙ free_false taken (first + place) (count - (place + 1)) (taken (first + place)) free

pub free_later : (taken : ℕ → Bool) (first place count : ℕ) → place < count → taken (first + place) ≡ true
    → first_free taken (first + place) (count - place) ≡ first_free taken (first + (place + 1)) (count - (place + 1))
free_later taken first place count below is =
    ap (first_free taken (first + place)) (one_less place count below)
    ∙ free_true taken (first + place) (count - (place + 1)) (taken (first + place)) is
    ∙ ap (λ (n : ℕ). first_free taken n (count - (place + 1))) (one_behind first place)

unicast_and : (test : Bool) (rest : List Ipv4Address) → test ≡ true → test && are_unicast rest ≡ are_unicast rest
unicast_and test rest is = rw is refl

unicast_not : (test : Bool) (rest : List Ipv4Address) → test ≡ false → test && are_unicast rest ≡ false
unicast_not test rest is = rw is refl

pub unicast_later : (servers : List Ipv4Address) (i : ℕ) (server : Ipv4Address) → i < length servers → is_unicast (get_or servers i server) ≡ true
    → are_unicast (drop i servers) ≡ are_unicast (drop (i + 1) servers)
unicast_later servers i server below is =
    ap are_unicast (drop-cons servers i server below) ∙ unicast_and (is_unicast (get_or servers i server)) (drop (suc i) servers) is
    ∙ ap (λ (n : ℕ). are_unicast (drop n servers)) (sym (add-one i))

pub unicast_here : (servers : List Ipv4Address) (i : ℕ) (server : Ipv4Address) → i < length servers → is_unicast (get_or servers i server) ≡ false
    → are_unicast (drop i servers) ≡ false
unicast_here servers i server below is =
    ap are_unicast (drop-cons servers i server below) ∙ unicast_not (is_unicast (get_or servers i server)) (drop (suc i) servers) is

pub none_left : (taken : ℕ → Bool) (number place count : ℕ) → count ≤ place → first_free taken number (count - place) ≡ None
none_left taken number place count past = let none : count - place ≡ 0 = omega arith in ap (first_free taken number) none

pub whole_range : (taken : ℕ → Bool) (first count : ℕ) → first_free taken first count ≡ first_free taken (first + 0) (count - 0)
whole_range taken first count =
    let front : first ≡ first + 0 = omega arith in
    let all : count ≡ count - 0 = omega arith in
    ap (λ (n : ℕ). first_free taken n count) front ∙ ap (first_free taken (first + 0)) all
