-- Configurations that compare as equal give a host the same to hold.
use Rattle.std.proofs.Common.{◌≡◌, ℕ, true, List, [], ◌∷◌, Option, Some, None, ◌&&◌, ap, ap₂, ◌∙◌, refl}
use Rattle.std.proofs.lemmas.Bool.{and_parts, eqb-true, false≢true}
use Rattle.std.specs.Cmp.Lexicographic.{pointwise}
use Rattle.std.proofs.lemmas.Slice.Eq.{bytes_eq-Decides}
use Rattle.net_wire.specs.declared.address.Ipv4Address.{Ipv4Address}
use Rattle.net_wire.specs.declared.address.Ipv4Cidr.{Ipv4Cidr}
use Rattle.dhcp_client.specs.declared.state.Lease.{Lease}
use Rattle.dhcp_client.specs.Heard.{Granted, cidr_with}
use Rattle.dhcp_client.specs.Hearing.{same_address, same_router, same_cidr, is_same_config}
use Rattle.host_model.specs.declared.held.Held.{Held}
use Rattle.host_model.specs.Lease.{held_of}

address_is : (one other : Ipv4Address) → same_address one other ≡ true → one ≡ other
address_is one other same =
    ap (λ (bytes : List ℕ). (let address : Ipv4Address = record { 0 = bytes } in address))
    ((bytes_eq-Decides one.0 other.0).0 same)

router_is : (one other : Option Ipv4Address) → same_router one other ≡ true → one ≡ other
router_is None None same = refl
router_is None (Some other) same = absurd (false≢true same)
router_is (Some one) None same = absurd (false≢true same)
router_is (Some one) (Some other) same =
    ap (λ (address : Ipv4Address). Some address) (address_is one other same)

cidr_is : (one other : Ipv4Cidr) → same_cidr one other ≡ true → one ≡ other
cidr_is one other same =
    let parts = and_parts (same_address one.address other.address) _ same in
    let address : one.address ≡ other.address = address_is one.address other.address parts.0 in
    let prefix : one.prefix_len ≡ other.prefix_len = eqb-true one.prefix_len other.prefix_len parts.1 in
    ap (λ (a : Ipv4Address). cidr_with a one.prefix_len) address
    ∙ ap (λ (n : ℕ). cidr_with other.address n) prefix

abbrev pub held_with : Ipv4Cidr → Option Ipv4Address → Held
held_with address router = record { address = address; router = router }

-- a lease whose configuration is that which is granted
pub held_is : (lease : Lease) (servers : List Ipv4Address) (granted : Granted)
    → is_same_config lease servers granted ≡ true → held_with lease.address lease.router ≡ held_of granted
held_is lease servers granted same =
    let same_place = same_cidr lease.address granted.address in
    let same_way = same_router lease.router granted.router in
    let both = and_parts same_place same_way (and_parts (same_place && same_way) _ same).0 in
    let address : lease.address ≡ granted.address = cidr_is lease.address granted.address both.0 in
    let router : lease.router ≡ granted.router = router_is lease.router granted.router both.1 in
    ap (λ (a : Ipv4Cidr). held_with a lease.router) address
    ∙ ap (λ (r : Option Ipv4Address). held_with granted.address r) router

same_list : (one other : List Ipv4Address) → pointwise same_address one other ≡ true → one ≡ other
same_list [] [] same = refl
same_list [] (address ∷ other) same = absurd (false≢true same)
same_list (address ∷ one) [] same = absurd (false≢true same)
same_list (first ∷ one) (second ∷ other) same =
    let parts = and_parts (same_address first second) (pointwise same_address one other) same in
    ap₂ (λ (address : Ipv4Address) (more : List Ipv4Address). address ∷ more) (address_is first second parts.0) (same_list one other parts.1)

-- and the same name servers
pub servers_are : (lease : Lease) (servers : List Ipv4Address) (granted : Granted)
    → is_same_config lease servers granted ≡ true → servers ≡ granted.dns_servers
servers_are lease servers granted same =
    same_list servers granted.dns_servers
    (and_parts (same_cidr lease.address granted.address && same_router lease.router granted.router)
    (pointwise same_address servers granted.dns_servers) same).1
