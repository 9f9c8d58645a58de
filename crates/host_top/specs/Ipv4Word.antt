-- An IPv4 address as people write it: four decimal numbers, joined by points (RFC 6943, section 3.1.1).
use Rattle.std.specs.Prelude.{◌≡◌, ℕ, ◌≤◌, ◌==◌, List, [], ◌∷◌, ◌++◌, length, if◌then◌else◌}
use Rattle.std.specs.List.{AllZip}
use Rattle.net_wire.specs.declared.address.Ipv4Address.{Ipv4Address}
use Rattle.host_top.specs.Word.{IsNumberWord}

-- one to three decimal digits, at most 255
pub record IsOctetWord (word : List ℕ) (octet : ℕ) : Type 0 where
  pub writes : IsNumberWord 10 3 word octet
  pub limit : octet ≤ 255

-- with more bytes in front of the first piece
abbrev pub put_front : List ℕ → List (List ℕ) → List (List ℕ)
put_front front [] = front ∷ []
put_front front (piece ∷ more) = (front ++ piece) ∷ more

-- what stands between the points of a word
abbrev pub pieces : List ℕ → List (List ℕ)
pieces [] = [] ∷ []
pieces (byte ∷ more) = if byte == 46 then [] ∷ pieces more else put_front (byte ∷ []) (pieces more)

-- four octets, joined by points
pub record IsIpv4Word (word : List ℕ) (address : Ipv4Address) : Type 0 where
  pub four : length (pieces word) ≡ 4
  pub octets : AllZip IsOctetWord (pieces word) address.0
