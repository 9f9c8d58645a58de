-- Reading a DHCP message that was written (RFC 2131, section 2; RFC 2132).
use Rattle.std.specs.Prelude.{◌≡◌, ℕ, ◌^◌, ◌<◌, ◌≤◌, ◌||◌, ◌==◌, Bool, true, false, List, []}
use Rattle.std.specs.Prelude.{length, Some, IfSome}
use Rattle.std.specs.List.{AllByRecursion}
use Rattle.net_wire.specs.declared.address.Ipv4Address.{Ipv4Address}
use Rattle.net_wire.specs.DhcpBytes.{IsWritableOption, message_bytes, type_number}
use Rattle.net_wire.specs.DhcpMessage.{Message, OptionValue}
use Rattle.net_wire.specs.DhcpRead.{message_at, type_of_number}
use Rattle.net_wire.specs.Unicast.{is_unicast}

-- the kinds of options that reading knows
abbrev pub is_known : ℕ → Bool
is_known kind =
    kind == 53 || kind == 61 || kind == 54 || kind == 3 || kind == 1 || kind == 50 || kind == 57 || kind == 51
    || kind == 58 || kind == 59 || kind == 55 || kind == 6

-- an option of the caller that can be written, and that reading passes over
abbrev pub IsPassedOver : OptionValue → Type 0
IsPassedOver option = IsWritableOption option × (is_known option.kind ≡ false)

abbrev pub HasFour : Ipv4Address → Type 0
HasFour address = length address.0 ≡ 4

-- from one to three addresses, each of one host
pub record AreNameServers (servers : List Ipv4Address) : Type 0 where
  pub some : 0 < length servers
  pub few : length servers ≤ 3
  pub each : AllByRecursion (λ server. HasFour server × (is_unicast server ≡ true)) servers

-- A message that a client or a server writes so that it is read again: numbers and addresses as wide as their
-- fields; a type that is not a number where it has a name; a request list with bytes in it; name servers that
-- reading keeps; and options of the caller that reading passes over.
pub record IsReadable (m : Message) : Type 0 where
  pub message_type : type_of_number (type_number m.message_type) ≡ m.message_type
  pub transaction_id : m.transaction_id < 2 ^ 32
  pub secs : m.secs < 2 ^ 16
  pub client_ip : HasFour m.client_ip
  pub your_ip : HasFour m.your_ip
  pub server_ip : HasFour m.server_ip
  pub relay_agent_ip : HasFour m.relay_agent_ip
  pub client_hardware_address : length m.client_hardware_address.0 ≡ 6
  pub client_identifier : IfSome m.client_identifier (λ address. length address.0 ≡ 6)
  pub server_identifier : IfSome m.server_identifier HasFour
  pub router : IfSome m.router HasFour
  pub subnet_mask : IfSome m.subnet_mask HasFour
  pub requested_ip : IfSome m.requested_ip HasFour
  pub max_size : IfSome m.max_size (λ size. size < 2 ^ 16)
  pub lease_duration : IfSome m.lease_duration (λ seconds. seconds < 2 ^ 32)
  pub renew_duration : IfSome m.renew_duration (λ seconds. seconds < 2 ^ 32)
  pub rebind_duration : IfSome m.rebind_duration (λ seconds. seconds < 2 ^ 32)
  pub parameter_request_list : IfSome m.parameter_request_list (λ list. 0 < length list)
  pub dns_servers : IfSome m.dns_servers AreNameServers
  pub additional_options : AllByRecursion IsPassedOver m.additional_options

-- what is written is read again, but for the options of the caller, which read as nothing
abbrev pub ReadsWritten : Type 0
ReadsWritten = (m : Message) → IsReadable m
    → message_at (message_bytes m) ≡ Some (record m { additional_options = [] })
