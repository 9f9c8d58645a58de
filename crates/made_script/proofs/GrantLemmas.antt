-- What the server grants has 274 bytes, and can be written.
use Rattle.std.proofs.Common.{◌≡◌, ℕ, length, refl, arith}
use Rattle.net_wire.specs.declared.dhcp.DhcpMessageType.{DhcpMessageType}
use Rattle.net_wire.specs.DhcpBytes.{header_bytes, options_bytes, message_bytes, IsWritable}
use Rattle.made_script.specs.Server.{grant}

pub grant_size : (message_type : DhcpMessageType) (id : ℕ) → length (message_bytes (grant message_type id)) ≡ 274
unfolding header_bytes options_bytes message_bytes
grant_size message_type id = refl

pub grant_writable : (message_type : DhcpMessageType) (id : ℕ) → IsWritable (grant message_type id)
grant_writable message_type id = record { request_list = tt; options = tt; size = omega (arith, grant_size message_type id) }
