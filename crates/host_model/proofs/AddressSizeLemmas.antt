-- Addresses of four bytes among bytes.
use Rattle.std.proofs.Common.{◌≡◌, ℕ, zero, suc, ◌+◌, ◌-◌, ◌≤◌, List, [], ◌∷◌, Option, Some, None, length, take, drop, refl, arith}
use Rattle.std.specs.List.{AllByRecursion}
use Rattle.std.specs.Option.{option_map}
use Rattle.std.specs.Prelude.{⊤}
use Rattle.std.proofs.lemmas.Bool.{cond_both}
use Rattle.std.proofs.lemmas.List.{length-take-le, length-drop}
use Rattle.wire_base.specs.Bytes.{bytes_between}
use Rattle.net_wire.specs.declared.address.Ipv4Address.{Ipv4Address}
use Rattle.net_wire.specs.DhcpRead.{address_at, address_in, address_with, unicast_in}
use Rattle.net_wire.specs.DhcpReadBack.{HasFour}
use Rattle.net_wire.specs.Unicast.{is_unicast}
use Rattle.dhcp_client.specs.Heard.{servers_in}

pub length-between : (bytes : List ℕ) (start end : ℕ) → start ≤ end → end ≤ length bytes
    → length (bytes_between start end bytes) ≡ end - start
length-between bytes start end forth within =
    length-take-le (end - start) (drop start bytes) (omega (arith, length-drop start bytes, forth, within))

pub four_at : (bytes : List ℕ) (at : ℕ) → at + 4 ≤ length bytes → HasFour (address_at bytes at)
four_at bytes at within = omega (arith, length-between bytes at (at + 4) (omega arith) within)

-- an address that is read has four bytes, if one is
abbrev pub HasFourIn : Option Ipv4Address → Type 0
HasFourIn None = ⊤
HasFourIn (Some address) = HasFour address

pub four_in : (found : Option (List ℕ)) → HasFourIn (address_in found)
four_in None = tt
four_in (Some []) = tt
four_in (Some (a ∷ [])) = tt
four_in (Some (a ∷ b ∷ [])) = tt
four_in (Some (a ∷ b ∷ c ∷ [])) = tt
four_in (Some (a ∷ b ∷ c ∷ d ∷ more)) = refl

-- so do each of a list
abbrev pub HaveFour : List Ipv4Address → Type 0
HaveFour addresses = AllByRecursion HasFour addresses

unicast_fours : (bytes : List ℕ) → HaveFour (unicast_in bytes)
unicast_fours [] = tt
unicast_fours (a ∷ []) = tt
unicast_fours (a ∷ b ∷ []) = tt
unicast_fours (a ∷ b ∷ c ∷ []) = tt
unicast_fours (a ∷ b ∷ c ∷ d ∷ more) =
    let address : Ipv4Address = address_with (a ∷ b ∷ c ∷ d ∷ []) in
    cond_both (is_unicast address) (address ∷ unicast_in more) (unicast_in more) HaveFour
    (λ host. (refl, unicast_fours more)) (λ other. unicast_fours more)

pub take_fours : (count : ℕ) (addresses : List Ipv4Address) → HaveFour addresses
    → HaveFour (take count addresses)
take_fours zero addresses fours = tt
take_fours (suc count) [] fours = tt
take_fours (suc count) (address ∷ addresses) fours = (fours.0, take_fours count addresses fours.1)

pub servers_fours : (found : Option (List ℕ))
    → HaveFour (servers_in (option_map (λ servers. take 3 (unicast_in servers)) found))
servers_fours None = tt
servers_fours (Some bytes) = take_fours 3 (unicast_in bytes) (unicast_fours bytes)
