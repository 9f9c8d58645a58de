-- The message of a reply is read again.
use Rattle.std.proofs.Common.{◌≡◌, ℕ, ◌≤◌, ◌^◌, ◌-◌, true, List, [], ◌∷◌, length, Some, None, IfSome, refl, subst, arith, lit<}
use Rattle.std.specs.List.{AllByRecursion}
use Rattle.net_wire.specs.declared.address.Ipv4Address.{Ipv4Address}
use Rattle.net_wire.specs.declared.dhcp.DhcpMessageType.{DhcpMessageType}
use Rattle.net_wire.specs.declared.dhcp.DhcpMessageType.TheVariants as kind
use Rattle.net_wire.specs.DhcpBytes.{message_bytes, type_number}
use Rattle.net_wire.specs.DhcpMessage.{Message}
use Rattle.net_wire.specs.DhcpRead.{message_at, type_of_number}
use Rattle.net_wire.specs.DhcpReadBack.{AreNameServers, HasFour, IsReadable}
use Rattle.net_wire.specs.Unicast.{is_unicast}
use Rattle.net_wire.proofs.DhcpReadBackLemmas.{reads_written}
use Rattle.lease_server.specs.declared.reply.Reply.TheVariants as reply
use Rattle.lease_server.specs.Values.{Values, address_of, refused, are_unicast}
use Rattle.lease_server.specs.Messages.{AreWide, IsWideRequest, ReadsReplies, granting, listed, refusing}
use Rattle.lease_server.proofs.TestLemmas.{accepted, and_first, and_second, none_some}

four_of : (number : ℕ) → HasFour (address_of number)
four_of number = refl

servers_each : (servers : List Ipv4Address) → are_unicast servers ≡ true → AllByRecursion HasFour servers
    → AllByRecursion (λ server. HasFour server × (is_unicast server ≡ true)) servers
servers_each [] unicast each = tt
servers_each (server ∷ rest) unicast each =
    ((each.0, and_first (is_unicast server) (are_unicast rest) unicast), servers_each rest (and_second (is_unicast server) (are_unicast rest) unicast) each.1)

name_servers : (servers : List Ipv4Address) → are_unicast servers ≡ true → length servers ≤ 3 → AllByRecursion HasFour servers
    → IfSome (listed servers) AreNameServers
name_servers [] unicast few each = tt
name_servers (server ∷ rest) unicast few each = record { some = omega arith; few = few; each = servers_each (server ∷ rest) unicast each }

module _ (values : Values) (request : Message) (checked : refused values ≡ None) (wide : AreWide values) (asked : IsWideRequest request) where
  refusing_readable : IsReadable (refusing values request)
  refusing_readable = record {
    message_type = refl;
    transaction_id = asked.transaction_id;
    secs = lit< tt;
    client_ip = refl;
    your_ip = refl;
    server_ip = refl;
    relay_agent_ip = refl;
    client_hardware_address = asked.client;
    client_identifier = tt;
    server_identifier = wide.address;
    router = tt;
    subnet_mask = tt;
    requested_ip = tt;
    max_size = tt;
    lease_duration = tt;
    renew_duration = tt;
    rebind_duration = tt;
    parameter_request_list = tt;
    dns_servers = tt;
    additional_options = tt;
  }

  granting_readable : (type : DhcpMessageType) (address : Ipv4Address) → type_of_number (type_number type) ≡ type → HasFour address
      → IsReadable (granting values request type address)
  granting_readable type address named four = record {
    message_type = named;
    transaction_id = asked.transaction_id;
    secs = lit< tt;
    client_ip = refl;
    your_ip = four;
    server_ip = refl;
    relay_agent_ip = refl;
    client_hardware_address = asked.client;
    client_identifier = tt;
    server_identifier = wide.address;
    router = wide.router;
    subnet_mask = four_of (2 ^ 32 - 2 ^ (32 - values.prefix_len));
    requested_ip = tt;
    max_size = tt;
    lease_duration = wide.lease;
    renew_duration = tt;
    rebind_duration = tt;
    parameter_request_list = tt;
    dns_servers = name_servers values.dns_servers (accepted values checked).servers wide.few wide.each;
    additional_options = tt;
  }

same_message : (one other : Message) → Some one ≡ Some other → one ≡ other
same_message one other same = cc

read_as : (sent message : Message) → message_at (message_bytes sent) ≡ Some sent → Some sent ≡ Some message → message_at (message_bytes message) ≡ Some message
read_as sent message read same =
    let P : Message → Type 0 = λ m. message_at (message_bytes m) ≡ Some m in
    subst P (same_message sent message same) read

pub reads_replies : ReadsReplies
reads_replies values request (reply.Offer address) message checked wide asked four is =
    read_as (granting values request kind.Offer address) message
    (reads_written (granting values request kind.Offer address) (granting_readable values request checked wide asked kind.Offer address refl four)) is
reads_replies values request (reply.Ack address) message checked wide asked four is =
    read_as (granting values request kind.Ack address) message
    (reads_written (granting values request kind.Ack address) (granting_readable values request checked wide asked kind.Ack address refl four)) is
reads_replies values request reply.Nak message checked wide asked four is =
    read_as (refusing values request) message (reads_written (refusing values request) (refusing_readable values request checked wide asked)) is
reads_replies values request (reply.Silent why) message checked wide asked four is = absurd (none_some message is)
