-- What a server is told, without where its lists lie in memory, and which values are refused.
use Rattle.std.specs.Prelude.{ℕ, ◌+◌, ◌-◌, ◌/◌, ◌^◌, ◌&&◌, ◌==◌, zero, suc, Bool, true, not, nat_le, List, Option, Some, None, if◌then◌else◌, [], ◌∷◌}
use Rattle.std.specs.Int.{from_be_bytes, to_be_bytes, w32}
use Rattle.net_wire.specs.declared.address.EthernetAddress.{EthernetAddress}
use Rattle.net_wire.specs.declared.address.Ipv4Address.{Ipv4Address}
use Rattle.net_wire.specs.Arrival.{is_group}
use Rattle.net_wire.specs.Unicast.{is_unicast}
use Rattle.lease_server.specs.declared.values.ServerValues.{ServerValues}
use Rattle.lease_server.specs.declared.values.ServerError.{ServerError}
use Rattle.lease_server.specs.declared.values.ServerError.TheVariants as error

-- the server's own addresses and the length of its subnet's prefix; the first address of the range and how
-- many there are; the lease in seconds; what else a client is told
pub record Values : Type 0 where
  pub hardware : EthernetAddress
  pub address : Ipv4Address
  pub prefix_len : ℕ
  pub first : Ipv4Address
  pub count : ℕ
  pub lease_secs : ℕ
  pub router : Option Ipv4Address
  pub dns_servers : List Ipv4Address

abbrev pub values_of : ServerValues → Values
values_of values = record {
  hardware = values.hardware;
  address = values.address;
  prefix_len = values.prefix_len;
  first = values.first;
  count = values.count;
  lease_secs = values.lease_secs;
  router = values.router;
  dns_servers = values.dns_servers.items;
}

-- the number that an address is, and back (RFC 791, appendix B)
abbrev pub number_of : Ipv4Address → ℕ
number_of address = from_be_bytes w32 address.0

abbrev pub address_of : ℕ → Ipv4Address
address_of number = record { 0 = to_be_bytes w32 number }

-- the number of the first address of the range
abbrev pub first_number : Values → ℕ
first_number values = number_of values.first

-- the number of the subnet with a prefix that an address is in (RFC 4632, section 3.1)
abbrev pub subnet_of : ℕ → ℕ → ℕ
subnet_of prefix_len number = number / 2 ^ (32 - prefix_len)

-- an address that may be given: of one host, not the server's, of the server's subnet
abbrev pub is_usable : Values → ℕ → Bool
is_usable values number =
    is_unicast (address_of number) && not (number == number_of values.address)
    && (subnet_of values.prefix_len number == subnet_of values.prefix_len (number_of values.address))

-- the addresses from a number on may be given
abbrev pub are_usable : Values → ℕ → ℕ → Bool
are_usable values number zero = true
are_usable values number (suc count) = is_usable values number && are_usable values (number + 1) count

-- from 1 to 1,000 addresses, up to 255.255.255.255
abbrev pub is_count : Values → Bool
is_count values =
    nat_le 1 values.count && nat_le values.count 1000 && nat_le (first_number values + values.count) 4294967296

abbrev pub is_range : Values → Bool
is_range values = is_count values && are_usable values (first_number values) values.count

abbrev pub is_prefix : ℕ → Bool
is_prefix prefix_len = nat_le 1 prefix_len && nat_le prefix_len 30

abbrev pub is_router : Option Ipv4Address → Bool
is_router None = true
is_router (Some address) = is_unicast address

abbrev pub are_unicast : List Ipv4Address → Bool
are_unicast [] = true
are_unicast (address ∷ rest) = is_unicast address && are_unicast rest

-- the first value that is refused
abbrev pub refused : Values → Option ServerError
refused values =
    if is_group values.hardware.0 then Some error.Hardware
    else if not (is_unicast values.address) then Some error.Address
    else if not (is_prefix values.prefix_len) then Some error.Prefix
    else if not (is_range values) then Some error.Range
    else if values.lease_secs == 0 then Some error.Lease
    else if not (is_router values.router) then Some error.Router
    else if not (are_unicast values.dns_servers) then Some error.Dns
    else None
