-- The bytes of a DHCP message (RFC 2131, section 2, figure 1; options by RFC 2132), in this host's profile:
-- each option once in one order, no overload, no padding.
use Rattle.std.specs.Prelude.{ℕ, ◌+◌, ◌<◌, ◌≤◌, ◌||◌, ◌==◌, Bool, List, [], ◌∷◌, ◌++◌, Option, Some, None}
use Rattle.std.specs.Prelude.{length, replicate, IfSome, if◌then◌else◌}
use Rattle.std.specs.List.{flat_map, AllByRecursion}
use Rattle.std.specs.Int.{to_be_bytes, w16, w32}
use Rattle.net_wire.specs.declared.address.EthernetAddress.{EthernetAddress}
use Rattle.net_wire.specs.declared.address.Ipv4Address.{Ipv4Address}
use Rattle.net_wire.specs.declared.dhcp.DhcpMessageType.{DhcpMessageType}
use Rattle.net_wire.specs.declared.dhcp.DhcpMessageType.TheVariants.{Discover, Offer, Request, Decline}
use Rattle.net_wire.specs.declared.dhcp.DhcpMessageType.TheVariants.{Ack, Nak, Release, Inform, Unknown}
use Rattle.net_wire.specs.DhcpMessage.{Message, OptionValue}

-- the number of a message type (RFC 2132, section 9.6)
abbrev pub type_number : DhcpMessageType → ℕ
type_number Discover = 1
type_number Offer = 2
type_number Request = 3
type_number Decline = 4
type_number Ack = 5
type_number Nak = 6
type_number Release = 7
type_number Inform = 8
type_number (Unknown number) = number

-- the op by the number of the type: 2, BOOTREPLY, for an offer, an acknowledgement and a refusal, else 1,
-- BOOTREQUEST
abbrev pub op_of : ℕ → ℕ
op_of number = if number == 2 || number == 5 || number == 6 then 2 else 1

-- the flags: the highest bit asks the server to broadcast its replies (RFC 2131, figure 2)
abbrev pub flags_of : Bool → ℕ
flags_of broadcast = if broadcast then 0x8000 else 0

-- the fixed part, up to the magic cookie (RFC 2131, section 3): hardware type 1, address length 6, no hops,
-- sname or file
unfoldable pub header_bytes : Message → List ℕ
header_bytes m =
    op_of (type_number m.message_type) ∷ 1 ∷ 6 ∷ 0 ∷ [] ++ to_be_bytes w32 m.transaction_id
    ++ to_be_bytes w16 m.secs ++ to_be_bytes w16 (flags_of m.broadcast)
    ++ m.client_ip.0 ++ m.your_ip.0 ++ m.server_ip.0 ++ m.relay_agent_ip.0
    ++ m.client_hardware_address.0 ++ replicate (10 + 64 + 128) 0 ++ 0x63 ∷ 0x82 ∷ 0x53 ∷ 0x63 ∷ []

-- an option: kind, length, bytes (RFC 2132, section 2)
abbrev pub option_bytes : ℕ → List ℕ → List ℕ
option_bytes kind bytes = kind ∷ length bytes ∷ bytes

-- the option of a kind where its value is there: an address, numbers, bytes, a list of addresses, a hardware
-- address behind its type (RFC 2132, section 9.14)
abbrev pub address_option : ℕ → Option Ipv4Address → List ℕ
address_option kind None = []
address_option kind (Some address) = option_bytes kind address.0

abbrev pub number16_option : ℕ → Option ℕ → List ℕ
number16_option kind None = []
number16_option kind (Some number) = option_bytes kind (to_be_bytes w16 number)

abbrev pub number32_option : ℕ → Option ℕ → List ℕ
number32_option kind None = []
number32_option kind (Some number) = option_bytes kind (to_be_bytes w32 number)

abbrev pub bytes_option : ℕ → Option (List ℕ) → List ℕ
bytes_option kind None = []
bytes_option kind (Some bytes) = option_bytes kind bytes

abbrev pub addresses_option : ℕ → Option (List Ipv4Address) → List ℕ
addresses_option kind None = []
addresses_option kind (Some addresses) = option_bytes kind (flat_map (λ address. address.0) addresses)

abbrev pub identifier_option : ℕ → Option EthernetAddress → List ℕ
identifier_option kind None = []
identifier_option kind (Some address) = option_bytes kind (1 ∷ address.0)

-- the caller's options
abbrev pub additional_bytes : List OptionValue → List ℕ
additional_bytes options = flat_map (λ option. option_bytes option.kind option.bytes) options

-- The options, in the order in which they are written: message type, client identifier, server identifier,
-- router, subnet mask, requested address, greatest message size, lease, renewal and rebinding times,
-- parameter request list, name servers, the caller's, end.
unfoldable pub options_bytes : Message → List ℕ
options_bytes m =
    option_bytes 53 (type_number m.message_type ∷ []) ++ identifier_option 61 m.client_identifier
    ++ address_option 54 m.server_identifier ++ address_option 3 m.router ++ address_option 1 m.subnet_mask
    ++ address_option 50 m.requested_ip ++ number16_option 57 m.max_size
    ++ number32_option 51 m.lease_duration ++ number32_option 58 m.renew_duration
    ++ number32_option 59 m.rebind_duration
    ++ bytes_option 55 m.parameter_request_list ++ addresses_option 6 m.dns_servers
    ++ additional_bytes m.additional_options ++ 255 ∷ []

-- the whole message
unfoldable pub message_bytes : Message → List ℕ
message_bytes m = header_bytes m ++ options_bytes m

-- an option that can be written: neither padding nor the end, and a length of one byte
abbrev pub IsWritableOption : OptionValue → Type 0
IsWritableOption option = (0 < option.kind) × (option.kind < 255) × (length option.bytes ≤ 255)

-- A message that can be written: a request list of one byte or more with a length of one byte, options that
-- can be written, and bytes that fit a UDP datagram in IPv4.
pub record IsWritable (m : Message) : Type 0 where
  pub request_list : IfSome m.parameter_request_list (λ list. (0 < length list) × (length list ≤ 255))
  pub options : AllByRecursion IsWritableOption m.additional_options
  pub size : length (message_bytes m) ≤ 65507
