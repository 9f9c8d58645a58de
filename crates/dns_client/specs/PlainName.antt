-- Names as they are asked for: labels alone (RFC 1035, section 3.1).
use Rattle.std.specs.Prelude.{ℕ, ◌==◌, List, [], ◌∷◌, ◌++◌, length, Option, None, option_and_then, if◌then◌else◌}
use Rattle.net_wire.specs.DnsName.{name_at, name_len}

-- the bytes of a name: each label behind its length, and a zero byte
abbrev pub wire_bytes : List (List ℕ) → List ℕ
wire_bytes [] = 0 ∷ []
wire_bytes (label ∷ labels) = length label ∷ label ++ wire_bytes labels

-- the name of bytes that are one whole name with no pointer
abbrev pub plain_name : List ℕ → Option (List (List ℕ))
plain_name bytes =
    option_and_then (λ len. if len == length bytes then name_at [] bytes else None) (name_len bytes)
