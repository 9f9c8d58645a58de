-- What both versions of ICMP have in common: type and code, and echo messages (RFC 792, "Echo or Echo Reply
-- Message"; RFC 4443, sections 4.1 and 4.2).
use Rattle.std.specs.Prelude.{ℕ, ◌==◌, Bool, ◌&&◌, List, slice_index}
use Rattle.wire_base.specs.Bytes.{be16_at}
use Rattle.ether_ip.specs.declared.transport.icmp_echo.IcmpEchoHeader.{IcmpEchoHeader}

-- the message has this type and this code
abbrev pub icmp_is : ℕ → ℕ → List ℕ → Bool
icmp_is type code bytes = (slice_index bytes 0 == type) && (slice_index bytes 1 == code)

-- the fields of an echo message after its checksum
abbrev pub icmp_echo : List ℕ → IcmpEchoHeader
icmp_echo bytes = record { id = be16_at bytes 4; seq = be16_at bytes 6 }
