-- The values of options that were written are of right lengths, and are read again.
use Rattle.std.proofs.Common.{◌≡◌, ℕ, ◌<◌, ◌^◌, ◌%◌, List, [], ◌∷◌, ◌++◌, length, take, get_or, ap, sym, ◌∙◌, refl, arith, subst, ◌*◌, length-append, Option, Some, None, true, ltb, eqb}
use Rattle.std.specs.List.{AllByRecursion, flat_map}
use Rattle.std.specs.Prelude.{IfSome, option_map}
use Rattle.std.specs.Int.{to_be_bytes, w16, w32}
use Rattle.std.proofs.lemmas.Nat.{from_be_bytes-to_be_bytes_2, from_be_bytes-to_be_bytes_4}
use Rattle.std.proofs.lemmas.Bool.{lt-ltb, eq-eqb}
use Rattle.std.proofs.lemmas.List.{take_all}
use Rattle.net_wire.specs.declared.address.EthernetAddress.{EthernetAddress}
use Rattle.net_wire.specs.declared.address.Ipv4Address.{Ipv4Address}
use Rattle.net_wire.specs.DhcpBytes.{address_option, number16_option, number32_option, bytes_option, addresses_option, identifier_option}
use Rattle.net_wire.specs.DhcpOptions.{is_right}
use Rattle.net_wire.specs.DhcpRead.{address_in, address_with, hardware_with, identifier_in, number16_in, number32_in, unicast_in, with_unicast}
use Rattle.net_wire.specs.DhcpReadBack.{AreNameServers, HasFour}
use Rattle.net_wire.specs.Unicast.{is_unicast}
use Rattle.net_wire.proofs.SentArrivesLemmas.{four_cells, six_cells}

-- the bytes of a value
abbrev pub address_value : Option Ipv4Address → Option (List ℕ)
address_value value = option_map (λ address. address.0) value

abbrev pub identifier_value : Option EthernetAddress → Option (List ℕ)
identifier_value value = option_map (λ address. 1 ∷ address.0) value

abbrev pub number16_value : Option ℕ → Option (List ℕ)
number16_value value = option_map (λ number. to_be_bytes w16 number) value

abbrev pub number32_value : Option ℕ → Option (List ℕ)
number32_value value = option_map (λ number. to_be_bytes w32 number) value

abbrev pub addresses_value : Option (List Ipv4Address) → Option (List ℕ)
addresses_value value = option_map (λ addresses. flat_map (λ address. address.0) addresses) value

-- each option is that of its value's bytes
pub address_is : (kind : ℕ) (value : Option Ipv4Address) → address_option kind value ≡ bytes_option kind (address_value value)
address_is kind None = refl
address_is kind (Some address) = refl

pub identifier_is : (kind : ℕ) (value : Option EthernetAddress) → identifier_option kind value ≡ bytes_option kind (identifier_value value)
identifier_is kind None = refl
identifier_is kind (Some address) = refl

pub number16_is : (kind : ℕ) (value : Option ℕ) → number16_option kind value ≡ bytes_option kind (number16_value value)
number16_is kind None = refl
number16_is kind (Some number) = refl

pub number32_is : (kind : ℕ) (value : Option ℕ) → number32_option kind value ≡ bytes_option kind (number32_value value)
number32_is kind None = refl
number32_is kind (Some number) = refl

pub addresses_is : (kind : ℕ) (value : Option (List Ipv4Address)) → addresses_option kind value ≡ bytes_option kind (addresses_value value)
addresses_is kind None = refl
addresses_is kind (Some addresses) = refl

-- right lengths
abbrev pub IsRightFour : ℕ → Type 0
IsRightFour kind = (a b c d : ℕ) → is_right kind (a ∷ b ∷ c ∷ d ∷ []) ≡ true

pub address_right : (kind : ℕ) (value : Option Ipv4Address) → IsRightFour kind → IfSome value HasFour
    → IfSome (address_value value) (λ bytes. is_right kind bytes ≡ true)
address_right kind None right four = tt
address_right kind (Some address) right four =
    let P : List ℕ → Type 0 = λ bytes. is_right kind bytes ≡ true in
    subst P (sym (four_cells address.0 four)) (right (get_or address.0 0 0) (get_or address.0 1 0) (get_or address.0 2 0) (get_or address.0 3 0))

pub number32_right : (kind : ℕ) (value : Option ℕ) → IsRightFour kind → IfSome (number32_value value) (λ bytes. is_right kind bytes ≡ true)
number32_right kind None right = tt
number32_right kind (Some number) right =
    let bytes = to_be_bytes w32 number in
    right (get_or bytes 0 0) (get_or bytes 1 0) (get_or bytes 2 0) (get_or bytes 3 0)

pub number16_right : (value : Option ℕ) → IfSome (number16_value value) (λ bytes. is_right 57 bytes ≡ true)
number16_right None = tt
number16_right (Some number) = refl

pub identifier_right : (value : Option EthernetAddress) → IfSome value (λ address. length address.0 ≡ 6)
    → IfSome (identifier_value value) (λ bytes. is_right 61 bytes ≡ true)
identifier_right None six = tt
identifier_right (Some address) six = rw (six_cells address.0 six) refl

pub list_right : (value : Option (List ℕ)) → IfSome value (λ list. 0 < length list) → IfSome value (λ bytes. is_right 55 bytes ≡ true)
list_right None some = tt
list_right (Some list) some = lt-ltb 0 (length list) some

-- one to three addresses
servers_len : (servers : List Ipv4Address) → AllByRecursion (λ server. HasFour server × (is_unicast server ≡ true)) servers
    → length (flat_map (λ server. server.0) servers) ≡ 4 * length servers
servers_len [] each = refl
servers_len (server ∷ servers) each =
    omega (arith, length-append server.0 (flat_map (λ server. server.0) servers), servers_len servers each.1, each.0.0)

pub servers_right : (value : Option (List Ipv4Address)) → IfSome value AreNameServers
    → IfSome (addresses_value value) (λ bytes. is_right 6 bytes ≡ true)
servers_right None are = tt
servers_right (Some servers) are =
    let n = length (flat_map (λ server. server.0) servers) in
    let len = servers_len servers are.each in
    let some : ltb 0 n ≡ true = lt-ltb 0 n (omega (arith, len, are.some)) in
    let fours : eqb (n % 4) 0 ≡ true = eq-eqb (n % 4) 0 (omega (arith, len)) in
    rw (some, fours) refl

-- values are read again
pub address_read : (value : Option Ipv4Address) → IfSome value HasFour → address_in (address_value value) ≡ value
address_read None four = refl
address_read (Some address) four =
    let P : List ℕ → Type 0 = λ bytes. address_in (Some bytes) ≡ Some (address_with bytes) in
    subst P (sym (four_cells address.0 four)) refl

pub identifier_read : (value : Option EthernetAddress) → IfSome value (λ address. length address.0 ≡ 6) → identifier_in (identifier_value value) ≡ value
identifier_read None six = refl
identifier_read (Some address) six =
    let P : List ℕ → Type 0 = λ bytes. identifier_in (Some (1 ∷ bytes)) ≡ Some (hardware_with bytes) in
    subst P (sym (six_cells address.0 six)) refl

pub number16_read : (value : Option ℕ) → IfSome value (λ number. number < 2 ^ 16) → number16_in (number16_value value) ≡ value
number16_read None small = refl
number16_read (Some number) small = ap (λ n. Some n) (from_be_bytes-to_be_bytes_2 number small)

pub number32_read : (value : Option ℕ) → IfSome value (λ number. number < 2 ^ 32) → number32_in (number32_value value) ≡ value
number32_read None small = refl
number32_read (Some number) small = ap (λ n. Some n) (from_be_bytes-to_be_bytes_4 number small)

servers_in : (servers : List Ipv4Address) → AllByRecursion (λ server. HasFour server × (is_unicast server ≡ true)) servers
    → unicast_in (flat_map (λ server. server.0) servers) ≡ servers
servers_in [] each = refl
servers_in (server ∷ servers) each =
    let P : List ℕ → Type 0 = λ bytes. unicast_in (bytes ++ flat_map (λ server. server.0) servers)
    ≡ with_unicast (address_with bytes) (unicast_in (flat_map (λ server. server.0) servers)) in
    let front = subst P (sym (four_cells server.0 each.0.0)) refl in
    front ∙ rw each.0.1 (ap (λ more. server ∷ more) (servers_in servers each.1))

pub servers_read : (value : Option (List Ipv4Address)) → IfSome value AreNameServers
    → option_map (λ bytes. take 3 (unicast_in bytes)) (addresses_value value) ≡ value
servers_read None are = refl
servers_read (Some servers) are = ap (λ l. Some l) (ap (take 3) (servers_in servers are.each) ∙ take_all 3 servers are.few)
