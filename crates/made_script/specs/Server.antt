-- What the server of a made script sends: one DHCP server, router and name server, which gives one host one
-- address.
use Rattle.std.specs.Prelude.{ℕ, false, List, [], ◌∷◌, ◌++◌, Some, None, codes, replicate}
use Rattle.std.specs.Int.{to_be_bytes, w16}
use Rattle.net_wire.specs.declared.address.EthernetAddress.{EthernetAddress}
use Rattle.net_wire.specs.declared.address.Ipv4Address.{Ipv4Address}
use Rattle.net_wire.specs.declared.arp.ArpRepr.{ArpRepr}
use Rattle.net_wire.specs.declared.dhcp.DhcpMessageType.{DhcpMessageType}
use Rattle.net_wire.specs.Arp.{arp_frame_bytes}
use Rattle.net_wire.specs.Datagram.{Datagram, IsSentFrame}
use Rattle.net_wire.specs.DhcpBytes.{message_bytes}
use Rattle.net_wire.specs.DhcpMessage.{Message}
use Rattle.net_wire.specs.DnsMessage.{type_number}
use Rattle.net_wire.specs.declared.dns.dns_type.DnsType.TheVariants.{A}
use Rattle.dns_client.specs.Waiting.{RequestValue}
use Rattle.host_model.specs.declared.words.EventWords.{EventWords}
use Rattle.host_model.specs.Neighbor.{ethernet_broadcast}
use Rattle.host_model.specs.QueryStart.{request_for}

-- 02:00:00:00:00:01 and 02:00:00:00:00:02
abbrev pub host_station : EthernetAddress
host_station = record { 0 = 2 ∷ 0 ∷ 0 ∷ 0 ∷ 0 ∷ 1 ∷ [] }

abbrev pub server_station : EthernetAddress
server_station = record { 0 = 2 ∷ 0 ∷ 0 ∷ 0 ∷ 0 ∷ 2 ∷ [] }

-- 10.0.0.1 is the server, 10.0.0.10 the host
abbrev pub ten : ℕ → Ipv4Address
ten last = record { 0 = 10 ∷ 0 ∷ 0 ∷ last ∷ [] }

abbrev pub address_of : ℕ → Ipv4Address
address_of byte = record { 0 = replicate 4 byte }

-- a datagram of the server to all hosts of the link (RFC 919, section 7)
abbrev pub datagram_to_all : ℕ → ℕ → List ℕ → Datagram
datagram_to_all source_port destination_port payload = record {
  source = ten 1;
  destination = address_of 255;
  source_port = source_port;
  destination_port = destination_port;
  payload = payload;
}

-- the frame of it, to all stations
abbrev pub IsFromServer : Datagram → List ℕ → Type 0
IsFromServer datagram frame = IsSentFrame server_station ethernet_broadcast 64 datagram frame

-- What the server grants in an offer or an acknowledgement (RFC 2131, section 4.3.1 and table 3; options of RFC
-- 2132): 10.0.0.10 for 1000 seconds on a network of 24 bits, with itself as router and name server.
abbrev pub grant : DhcpMessageType → ℕ → Message
grant message_type id = record {
  message_type = message_type;
  transaction_id = id;
  secs = 0;
  broadcast = false;
  client_ip = address_of 0;
  your_ip = ten 10;
  server_ip = address_of 0;
  relay_agent_ip = address_of 0;
  client_hardware_address = host_station;
  client_identifier = None;
  server_identifier = Some (ten 1);
  router = Some (ten 1);
  subnet_mask = Some (record { 0 = 255 ∷ 255 ∷ 255 ∷ 0 ∷ [] });
  requested_ip = None;
  max_size = None;
  lease_duration = Some 1000;
  renew_duration = None;
  rebind_duration = None;
  parameter_request_list = None;
  dns_servers = Some (ten 1 ∷ []);
  additional_options = [];
}

-- from port 67 to port 68 (RFC 2131, section 4.1)
abbrev pub grant_datagram : DhcpMessageType → ℕ → Datagram
grant_datagram message_type id = datagram_to_all 67 68 (message_bytes (grant message_type id))

-- the ARP reply of the server to the host (RFC 826)
abbrev pub told : ArpRepr
told = record {
  operation = 2;
  source_hardware_addr = server_station;
  source_protocol_addr = ten 1;
  target_hardware_addr = host_station;
  target_protocol_addr = ten 10;
}

abbrev pub told_frame : List ℕ
told_frame = arp_frame_bytes server_station host_station told

-- what the host asks for by the words of an event, which give the id and the port
abbrev pub asked_name : List ℕ
asked_name = codes "test.example"

abbrev pub request_by : EventWords → RequestValue
request_by words = request_for A asked_name words

-- The response to a request (RFC 1035, section 4.1). Its header says: a response without a fault, recursion was
-- desired and is available, one question and one answer. The question is that of the request. The answer has the
-- name at the offset 12, which is that of the question, for 60 seconds the address 10.0.0.99.
unfoldable pub response_bytes : RequestValue → List ℕ
response_bytes request =
    to_be_bytes w16 request.id ++ 0x81 ∷ 0x80 ∷ 0 ∷ 1 ∷ 0 ∷ 1 ∷ 0 ∷ 0 ∷ 0 ∷ 0 ∷ []
    ++ request.name ++ to_be_bytes w16 (type_number request.type_) ++ 0 ∷ 1 ∷ []
    ++ 0xC0 ∷ 12 ∷ 0 ∷ 1 ∷ 0 ∷ 1 ∷ 0 ∷ 0 ∷ 0 ∷ 60 ∷ 0 ∷ 4 ∷ (ten 99).0

-- from port 53 to the port of the request (RFC 1035, section 4.2.1)
abbrev pub response_datagram : RequestValue → Datagram
response_datagram request = datagram_to_all 53 request.port (response_bytes request)
