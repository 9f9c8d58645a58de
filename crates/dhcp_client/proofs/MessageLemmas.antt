-- How long the client's messages are, and that they can be written.
use Rattle.std.proofs.Common.{◌≡◌, ℕ, ◌+◌, ◌-◌, ◌≤◌, ◌<◌, List, [], ◌∷◌, ◌++◌, length, arith, length-append}
use Rattle.std.specs.Prelude.{Option, Some}
use Rattle.std.specs.List.{AllByRecursion}
use Rattle.net_wire.specs.declared.address.EthernetAddress.{EthernetAddress}
use Rattle.net_wire.specs.DhcpBytes.{message_bytes, header_bytes, options_bytes, additional_bytes, address_option, option_bytes, identifier_option, number16_option, type_number, bytes_option, IsWritable, IsWritableOption}
use Rattle.net_wire.specs.DhcpMessage.{OptionValue}
use Rattle.net_wire.specs.declared.address.Ipv4Address.{Ipv4Address}
use Rattle.net_wire.specs.declared.dhcp.DhcpMessageType.{DhcpMessageType}
use Rattle.dhcp_client.specs.Messages.{client_message}

length-five : (a b c d e : List ℕ) → length (a ++ b ++ c ++ d ++ e) ≡ length a + length b + length c + length d + length e
length-five a b c d e = simp length-append

length-header : (kind : DhcpMessageType) (address : Ipv4Address) (server requested : Option Ipv4Address) (hardware : EthernetAddress) (mtu id : ℕ)
    (parameters : List ℕ) (options : List OptionValue) → length hardware.0 ≡ 6 → length address.0 ≡ 4
    → length (header_bytes (client_message kind address server requested hardware mtu parameters options id)) ≡ 240
unfolding header_bytes
length-header kind address server requested hardware mtu id parameters options six four =
    simp length-append (omega (arith, six, four))

length-parts : (a b c d e f g h i j k l m n : List ℕ)
    → length (a ++ b ++ c ++ d ++ e ++ f ++ g ++ h ++ i ++ j ++ k ++ l ++ m ++ n)
    ≡ length a + length b + length c + length d + length e + length f + length g + length h + length i + length j
    + length k + length l + length m + length n
length-parts a b c d e f g h i j k l m n = simp length-append

length-options : (kind : DhcpMessageType) (address : Ipv4Address) (server requested : Option Ipv4Address) (hardware : EthernetAddress) (mtu id : ℕ)
    (parameters : List ℕ) (options : List OptionValue) → length hardware.0 ≡ 6
    → length (options_bytes (client_message kind address server requested hardware mtu parameters options id))
    ≡ 19 + length (address_option 54 server) + length (address_option 50 requested) + length parameters + length (additional_bytes options)
unfolding options_bytes
length-options kind address server requested hardware mtu id parameters options six =
    let parts = length-parts (option_bytes 53 (type_number kind ∷ [])) (identifier_option 61 (Some hardware)) (address_option 54 server) [] []
    (address_option 50 requested) (number16_option 57 (Some (mtu - 68))) [] [] [] (bytes_option 55 (Some parameters)) [] (additional_bytes options) (255 ∷ []) in
    omega (arith, parts, six)

-- how many bytes a message has
pub length-message : (kind : DhcpMessageType) (address : Ipv4Address) (server requested : Option Ipv4Address) (hardware : EthernetAddress) (mtu id : ℕ)
    (parameters : List ℕ) (options : List OptionValue) → length hardware.0 ≡ 6 → length address.0 ≡ 4
    → length (message_bytes (client_message kind address server requested hardware mtu parameters options id))
    ≡ 259 + length (address_option 54 server) + length (address_option 50 requested) + length parameters + length (additional_bytes options)
unfolding message_bytes
length-message kind address server requested hardware mtu id parameters options six four =
    let message = client_message kind address server requested hardware mtu parameters options id in
    omega (
      arith,
      length-append (header_bytes message) (options_bytes message),
      length-header kind address server requested hardware mtu id parameters options six four,
      length-options kind address server requested hardware mtu id parameters options six,
    )

pub message_is_writable : (kind : DhcpMessageType) (address : Ipv4Address) (server requested : Option Ipv4Address) (hardware : EthernetAddress) (mtu id : ℕ)
    (parameters : List ℕ) (options : List OptionValue) → length hardware.0 ≡ 6 → length address.0 ≡ 4
    → (0 < length parameters) × (length parameters ≤ 255) → AllByRecursion IsWritableOption options
    → 259 + length (address_option 54 server) + length (address_option 50 requested) + length parameters + length (additional_bytes options) ≤ 65507
    → IsWritable (client_message kind address server requested hardware mtu parameters options id)
message_is_writable kind address server requested hardware mtu id parameters options six four listed good small = record {
  request_list = listed;
  options = good;
  size = omega (arith, length-message kind address server requested hardware mtu id parameters options six four);
}
