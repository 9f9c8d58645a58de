-- The first three addresses of single hosts.
use Rattle.std.proofs.Common.{◌≡◌, ℕ, ◌<◌, ◌≤◌, List, [], ◌∷◌, ◌++◌, length, take, drop, ap, sym, ◌∙◌, refl, arith, append_assoc, append-nil, true, false}
use Rattle.std.proofs.lemmas.List.{take-append-le, take_all}
use Rattle.wire_base.specs.Bytes.{bytes_between}
use Rattle.net_wire.specs.declared.address.Ipv4Address.{Ipv4Address}
use Rattle.net_wire.specs.DhcpRead.{address_with, unicast_in, with_unicast}
use Rattle.net_wire.specs.Unicast.{is_unicast}

-- one address more
pub address_here : (bytes : List ℕ) → 4 ≤ length bytes → unicast_in bytes ≡ with_unicast (address_with (bytes_between 0 4 bytes)) (unicast_in (drop 4 bytes))
address_here (a ∷ b ∷ c ∷ d ∷ more) long = refl
address_here (a ∷ b ∷ c ∷ []) short = absurd (omega arith)
address_here (a ∷ b ∷ []) short = absurd (omega arith)
address_here (a ∷ []) short = absurd (omega arith)
address_here [] short = absurd (omega arith)

pub no_address : (bytes : List ℕ) → length bytes < 4 → unicast_in bytes ≡ []
no_address (a ∷ b ∷ c ∷ d ∷ more) long = absurd (omega arith)
no_address (a ∷ b ∷ c ∷ []) short = refl
no_address (a ∷ b ∷ []) short = refl
no_address (a ∷ []) short = refl
no_address [] short = refl

pub listed : (servers more : List Ipv4Address) (address : Ipv4Address) → is_unicast address ≡ true
    → take 3 ((servers ++ address ∷ []) ++ more) ≡ take 3 (servers ++ with_unicast address more)
listed servers more address is = rw is (ap (take 3) (append_assoc servers (address ∷ []) more))

pub passed : (servers more : List Ipv4Address) (address : Ipv4Address) → is_unicast address ≡ false
    → take 3 (servers ++ more) ≡ take 3 (servers ++ with_unicast address more)
passed servers more address is = rw is refl

-- three are as many as there may be
pub full : (servers more others : List Ipv4Address) → 3 ≤ length servers → take 3 (servers ++ more) ≡ take 3 (servers ++ others)
full servers more others three = take-append-le 3 servers more three ∙ sym (take-append-le 3 servers others three)

pub ended : (servers rest : List Ipv4Address) → length servers ≤ 3 → rest ≡ [] → take 3 (servers ++ rest) ≡ servers
ended servers rest few none = ap (λ l. take 3 (servers ++ l)) none ∙ ap (take 3) (append-nil servers) ∙ take_all 3 servers few
