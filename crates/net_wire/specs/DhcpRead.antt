-- The DHCP message that bytes are (RFC 2131, section 2, figure 1; options by RFC 2132): in each kind, the
-- last option of a right length counts. The fields sname and file are not read, nor options that stand there
-- by overload.
use Rattle.std.specs.Prelude.{ℕ, ◌+◌, ◌&&◌, ◌==◌, Bool, nat_le, List, [], ◌∷◌, length, take, drop}
use Rattle.std.specs.Prelude.{slice_index, Option, Some, None, if◌then◌else◌}
use Rattle.std.specs.Option.{option_map}
use Rattle.std.specs.Int.{from_be_bytes, w16, w32}
use Rattle.wire_base.specs.Bytes.{bytes_between, be16_at, be32_at, flag_at}
use Rattle.net_wire.specs.declared.address.EthernetAddress.{EthernetAddress}
use Rattle.net_wire.specs.declared.address.Ipv4Address.{Ipv4Address}
use Rattle.net_wire.specs.declared.dhcp.DhcpMessageType.{DhcpMessageType}
use Rattle.net_wire.specs.declared.dhcp.DhcpMessageType.TheVariants.{Discover, Offer, Request, Decline}
use Rattle.net_wire.specs.declared.dhcp.DhcpMessageType.TheVariants.{Ack, Nak, Release, Inform, Unknown}
use Rattle.net_wire.specs.DhcpBytes.{op_of}
use Rattle.net_wire.specs.DhcpMessage.{Message}
use Rattle.net_wire.specs.DhcpOptions.{Item, items_of, last_of}
use Rattle.net_wire.specs.Unicast.{is_unicast}

-- the type that a number names (RFC 2132, section 9.6)
abbrev pub type_of_number : ℕ → DhcpMessageType
type_of_number number =
    if number == 1 then Discover
    else if number == 2 then Offer
    else if number == 3 then Request
    else if number == 4 then Decline
    else if number == 5 then Ack
    else if number == 6 then Nak
    else if number == 7 then Release
    else if number == 8 then Inform
    else Unknown number

-- an address
abbrev pub address_with : List ℕ → Ipv4Address
address_with bytes = record { 0 = bytes }

abbrev pub hardware_with : List ℕ → EthernetAddress
hardware_with bytes = record { 0 = bytes }

-- the address that stands at a place
abbrev pub address_at : List ℕ → ℕ → Ipv4Address
address_at bytes at = address_with (bytes_between at (at + 4) bytes)

-- what the bytes of an option are: a byte, numbers, the first address, the hardware address behind its type
abbrev pub byte_in : Option (List ℕ) → Option ℕ
byte_in (Some (first ∷ more)) = Some first
byte_in other = None

abbrev pub number16_in : Option (List ℕ) → Option ℕ
number16_in (Some (a ∷ b ∷ more)) = Some (from_be_bytes w16 (a ∷ b ∷ []))
number16_in other = None

abbrev pub number32_in : Option (List ℕ) → Option ℕ
number32_in (Some (a ∷ b ∷ c ∷ d ∷ more)) = Some (from_be_bytes w32 (a ∷ b ∷ c ∷ d ∷ []))
number32_in other = None

abbrev pub address_in : Option (List ℕ) → Option Ipv4Address
address_in (Some (a ∷ b ∷ c ∷ d ∷ more)) = Some (address_with (a ∷ b ∷ c ∷ d ∷ []))
address_in other = None

abbrev pub identifier_in : Option (List ℕ) → Option EthernetAddress
identifier_in (Some (kind ∷ a ∷ b ∷ c ∷ d ∷ e ∷ f ∷ more)) = Some (hardware_with (a ∷ b ∷ c ∷ d ∷ e ∷ f ∷ []))
identifier_in other = None

-- the addresses of single hosts among addresses one behind another
abbrev pub with_unicast : Ipv4Address → List Ipv4Address → List Ipv4Address
with_unicast address more = if is_unicast address then address ∷ more else more

abbrev pub unicast_in : List ℕ → List Ipv4Address
unicast_in (a ∷ b ∷ c ∷ d ∷ more) = with_unicast (address_with (a ∷ b ∷ c ∷ d ∷ [])) (unicast_in more)
unicast_in other = []

-- The fixed part: 240 bytes, hardware type 1 with addresses of 6 bytes, and the magic cookie (RFC 2131,
-- section 3).
abbrev pub is_header : List ℕ → Bool
is_header bytes =
    nat_le 240 (length bytes) && (slice_index bytes 1 == 1) && (slice_index bytes 2 == 6)
    && (be32_at bytes 236 == 0x63825363)

-- the message of bytes with these options and this type
abbrev pub message_with : List ℕ → List Item → ℕ → Message
message_with bytes items number = record {
  message_type = type_of_number number;
  transaction_id = be32_at bytes 4;
  secs = be16_at bytes 8;
  broadcast = flag_at bytes 10 7;
  client_ip = address_at bytes 12;
  your_ip = address_at bytes 16;
  server_ip = address_at bytes 20;
  relay_agent_ip = address_at bytes 24;
  client_hardware_address = hardware_with (bytes_between 28 34 bytes);
  client_identifier = identifier_in (last_of 61 items);
  server_identifier = address_in (last_of 54 items);
  router = address_in (last_of 3 items);
  subnet_mask = address_in (last_of 1 items);
  requested_ip = address_in (last_of 50 items);
  max_size = number16_in (last_of 57 items);
  lease_duration = number32_in (last_of 51 items);
  renew_duration = number32_in (last_of 58 items);
  rebind_duration = number32_in (last_of 59 items);
  parameter_request_list = last_of 55 items;
  dns_servers = option_map (λ servers. take 3 (unicast_in servers)) (last_of 6 items);
  additional_options = [];
}

-- a message has a type, and the op that is written for it
abbrev pub message_of_type : List ℕ → List Item → Option ℕ → Option Message
message_of_type bytes items None = None
message_of_type bytes items (Some number) =
    if slice_index bytes 0 == op_of number then Some (message_with bytes items number) else None

abbrev pub message_of_items : List ℕ → List Item → Option Message
message_of_items bytes items = message_of_type bytes items (byte_in (last_of 53 items))

-- the message that the bytes are, if they are one
abbrev pub message_at : List ℕ → Option Message
message_at bytes = if is_header bytes then message_of_items bytes (items_of (drop 240 bytes)) else None
