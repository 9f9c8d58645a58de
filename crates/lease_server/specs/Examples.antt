-- Closed examples of replies and holdings over a range of one address and of two.
use Rattle.std.specs.Prelude.{◌≡◌, ℕ, false, List, [], ◌∷◌, Option, Some, None}
use Rattle.net_wire.specs.declared.address.EthernetAddress.{EthernetAddress}
use Rattle.net_wire.specs.declared.address.Ipv4Address.{Ipv4Address}
use Rattle.net_wire.specs.declared.dhcp.DhcpMessageType.{DhcpMessageType}
use Rattle.net_wire.specs.declared.dhcp.DhcpMessageType.TheVariants as kind
use Rattle.net_wire.specs.DhcpMessage.{Message}
use Rattle.lease_server.specs.declared.reply.Reply.{Reply}
use Rattle.lease_server.specs.declared.reply.Reply.TheVariants as reply
use Rattle.lease_server.specs.declared.reply.Silence.TheVariants as silence
use Rattle.lease_server.specs.Calls.{call_for}
use Rattle.lease_server.specs.Holdings.{Call, held_by}
use Rattle.lease_server.specs.Messages.{no_address}
use Rattle.lease_server.specs.Values.{Values}

-- 192.168.1.HOST, and a client of the link
abbrev pub host : ℕ → Ipv4Address
host last = record { 0 = 192 ∷ 168 ∷ 1 ∷ last ∷ [] }

abbrev pub client : ℕ → EthernetAddress
client last = record { 0 = 2 ∷ 2 ∷ 2 ∷ 2 ∷ 2 ∷ last ∷ [] }

-- the server 192.168.1.1 with so many addresses from 192.168.1.42 on, for 1000 s
abbrev pub range_of : ℕ → Values
range_of count = record {
  hardware = record { 0 = 2 ∷ 0 ∷ 0 ∷ 0 ∷ 0 ∷ 1 ∷ [] };
  address = host 1;
  prefix_len = 24;
  first = host 42;
  count = count;
  lease_secs = 1000;
  router = None;
  dns_servers = [];
}

-- a message of a client, with its own address, option 50 and option 54
abbrev pub from : ℕ → DhcpMessageType → Ipv4Address → Option Ipv4Address → Option Ipv4Address → Message
from last type own requested server = record {
  message_type = type;
  transaction_id = 7;
  secs = 0;
  broadcast = false;
  client_ip = own;
  your_ip = no_address;
  server_ip = no_address;
  relay_agent_ip = no_address;
  client_hardware_address = client last;
  client_identifier = None;
  server_identifier = server;
  router = None;
  subnet_mask = None;
  requested_ip = requested;
  max_size = None;
  lease_duration = None;
  renew_duration = None;
  rebind_duration = None;
  parameter_request_list = None;
  dns_servers = None;
  additional_options = [];
}

abbrev pub discover : ℕ → Message
discover last = from last kind.Discover no_address None None

abbrev pub select : ℕ → ℕ → ℕ → Message
select last address server = from last kind.Request no_address (Some (host address)) (Some (host server))

abbrev pub renew : ℕ → ℕ → Message
renew last address = from last kind.Request (host address) None None

abbrev pub release : ℕ → ℕ → Message
release last address = from last kind.Release (host address) None None

-- the calls once a message more came
abbrev pub after : ℕ → List Call → ℕ → Message → List Call
after count calls now message = call_for (range_of count) calls now message ∷ calls

abbrev pub reply_at : ℕ → List Call → ℕ → Message → Reply
reply_at count calls now message = (call_for (range_of count) calls now message).reply

-- client 2 was offered the address at 0; then it asked for it at 1 s
abbrev pub offered : ℕ → List Call
offered count = after count [] 0 (discover 2)

abbrev pub acknowledged : ℕ → List Call
acknowledged count = after count (offered count) 1000000 (select 2 42 1)

-- an offer ends after 60 s, at its instant
pub record OffersByExample : Type 0 where
  pub first : reply_at 1 [] 0 (discover 2) ≡ reply.Offer (host 42)
  pub full : reply_at 1 (offered 1) 59999999 (discover 3) ≡ reply.Silent silence.Full
  pub lapsed : reply_at 1 (offered 1) 60000000 (discover 3) ≡ reply.Offer (host 42)
  pub late : reply_at 1 (after 1 (offered 1) 60000000 (discover 3)) 60000000 (select 2 42 1) ≡ reply.Nak
  pub held : held_by (range_of 1) (offered 1) (client 2) 59999999 ≡ Some (host 42)
  pub ended : held_by (range_of 1) (offered 1) (client 2) 60000000 ≡ None
  pub again : reply_at 2 (offered 2) 1000000 (discover 2) ≡ reply.Offer (host 42)
  pub lowest : reply_at 2 (offered 2) 1000000 (discover 3) ≡ reply.Offer (host 43)

-- a lease ends 1000 s after its acknowledgement, at its instant, and an offer does not make it shorter
pub record LeasesByExample : Type 0 where
  pub granted : reply_at 1 (offered 1) 1000000 (select 2 42 1) ≡ reply.Ack (host 42)
  pub full : reply_at 1 (acknowledged 1) 1000999999 (discover 3) ≡ reply.Silent silence.Full
  pub lapsed : reply_at 1 (acknowledged 1) 1001000000 (discover 3) ≡ reply.Offer (host 42)
  pub kept : held_by (range_of 1) (after 1 (acknowledged 1) 2000000 (discover 2)) (client 2) 1000999999 ≡ Some (host 42)
  pub kept_end : held_by (range_of 1) (after 1 (acknowledged 1) 2000000 (discover 2)) (client 2) 1001000000 ≡ None

-- the other rows
pub record RowsByExample : Type 0 where
  pub other : reply_at 1 (offered 1) 1000000 (select 2 42 9) ≡ reply.Silent silence.Other
  pub wrong : reply_at 2 (offered 2) 1000000 (select 2 43 1) ≡ reply.Nak
  pub renewed : reply_at 1 (acknowledged 1) 2000000 (renew 2 42) ≡ reply.Ack (host 42)
  pub foreign : reply_at 1 (acknowledged 1) 2000000 (renew 2 99) ≡ reply.Silent silence.Foreign
  pub unheld : reply_at 2 (acknowledged 2) 2000000 (renew 2 43) ≡ reply.Nak
  pub absent : reply_at 1 (acknowledged 1) 2000000 (from 2 kind.Request no_address None None) ≡ reply.Silent silence.Foreign
  pub released : reply_at 1 (acknowledged 1) 2000000 (release 2 42) ≡ reply.Silent silence.Released
  pub stale : reply_at 1 (acknowledged 1) 2000000 (release 3 42) ≡ reply.Silent silence.Stale
  pub free_at_once : reply_at 1 (after 1 (acknowledged 1) 2000000 (release 2 42)) 2000000 (discover 3) ≡ reply.Offer (host 42)
  pub not_freed : reply_at 1 (after 1 (acknowledged 1) 2000000 (release 3 42)) 2000000 (discover 3) ≡ reply.Silent silence.Full
  pub unwanted : reply_at 1 [] 0 (from 2 kind.Inform no_address None None) ≡ reply.Silent silence.Unwanted
  pub declined : reply_at 1 [] 0 (from 2 kind.Decline no_address None None) ≡ reply.Silent silence.Unwanted
