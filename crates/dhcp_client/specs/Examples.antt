-- Closed examples of what a mask is, which messages count, and what is planned when.
use Rattle.std.specs.Prelude.{◌≡◌, ℕ, pos, false, true, [], ◌∷◌, Some, None, replicate}
use Rattle.net_wire.specs.declared.address.EthernetAddress.{EthernetAddress}
use Rattle.net_wire.specs.declared.address.Ipv4Address.{Ipv4Address}
use Rattle.net_wire.specs.declared.dhcp.DhcpMessageType.{DhcpMessageType}
use Rattle.net_wire.specs.declared.dhcp.DhcpMessageType.TheVariants.{Offer, Ack, Nak}
use Rattle.net_wire.specs.declared.error.Context.{Context}
use Rattle.net_wire.specs.DhcpMessage.{Message}
use Rattle.dhcp_client.specs.declared.state.ClientState.{ClientState}
use Rattle.dhcp_client.specs.declared.state.ClientState.TheVariants.{Discovering, Requesting, Renewing}
use Rattle.dhcp_client.specs.declared.state.Lease.{Lease}
use Rattle.dhcp_client.specs.declared.state.ServerInfo.{ServerInfo}
use Rattle.dhcp_client.specs.Client.{Client, new_client}
use Rattle.dhcp_client.specs.Config.{ClientSettings, default_settings}
use Rattle.dhcp_client.specs.Heard.{prefix_of, server_with, cidr_with}
use Rattle.dhcp_client.specs.Hearing.{after_message, laid_over}
use Rattle.dhcp_client.specs.Messages.{client_message, unspecified, limited_broadcast}
use Rattle.dhcp_client.specs.Plan.{Plan, Wait, Restart, Send, plan_in}

-- 192.168.1.HOST, and the masks 255.255.255.0, 0.0.0.0 and 255.0.255.0
abbrev pub host : ℕ → Ipv4Address
host last = record { 0 = 192 ∷ 168 ∷ 1 ∷ last ∷ [] }

abbrev pub mask_with : ℕ → ℕ → ℕ → Ipv4Address
mask_with second third fourth = record { 0 = 255 ∷ second ∷ third ∷ fourth ∷ [] }

pub record MasksByExample : Type 0 where
  pub three : prefix_of (mask_with 255 255 0) ≡ Some 24
  pub ten : prefix_of (mask_with 192 0 0) ≡ Some 10
  pub none : prefix_of unspecified ≡ Some 0
  pub all : prefix_of limited_broadcast ≡ Some 32
  pub hole : prefix_of (mask_with 0 255 0) ≡ None
  pub odd : prefix_of (mask_with 255 255 1) ≡ None

abbrev pub hardware : EthernetAddress
hardware = record { 0 = replicate 6 2 }

abbrev pub at : ℕ → Context
at micros = record { now = pos micros; hardware_addr = hardware; ip_mtu = 1500 }

-- a message of the server 192.168.1.1 that gives 192.168.1.42 for 1000 s
abbrev pub reply : DhcpMessageType → ℕ → Ipv4Address → Message
reply kind id mask = record (client_message kind unspecified (Some (host 1)) None hardware 1500 [] [] id) {
  your_ip = host 42;
  subnet_mask = Some mask;
  lease_duration = Some 1000;
}

abbrev pub leasing_server : ServerInfo
leasing_server = server_with (host 1) (host 1)

abbrev pub discovering : ClientSettings → Client
discovering settings = new_client settings

abbrev pub requesting : ClientSettings → Client
requesting settings = record (new_client settings) { state = Requesting (pos 0) 0 leasing_server (host 42) }

-- the state after a message from an address at moment 7
abbrev pub hearing : Client → ℕ → Message → ClientState
hearing client source message = (after_message client (at 7) (host source) [] (Some message)).state

abbrev pub obeying : ClientSettings
obeying = default_settings

abbrev pub ignoring : ClientSettings
ignoring = record default_settings { ignore_naks = true }

abbrev pub good : Ipv4Address
good = mask_with 255 255 0

abbrev pub lease_from : ℕ → ℕ → ℕ → Lease
lease_from renew rebind end = record {
  server = leasing_server;
  address = cidr_with (host 42) 24;
  router = None;
  renew_at = pos renew;
  rebind_at = pos rebind;
  rebinding = false;
  expires_at = pos end;
}

pub record MessagesByExample : Type 0 where
  pub offer : hearing (discovering obeying) 1 (reply Offer 1 good)
      ≡ Requesting (pos 7) 0 leasing_server (host 42)
  pub other_id : hearing (discovering obeying) 1 (reply Offer 2 good) ≡ Discovering (pos 0)
  pub anonymous : hearing (discovering obeying) 1 (record (reply Offer 1 good) { server_identifier = None })
      ≡ Discovering (pos 0)
  pub foreign : hearing (discovering obeying) 1
      (record (reply Offer 1 good) { client_hardware_address = record { 0 = replicate 6 3 } })
      ≡ Discovering (pos 0)
  pub second_offer : hearing (requesting obeying) 2 (record (reply Offer 1 good) { your_ip = host 43 })
      ≡ Requesting (pos 0) 0 leasing_server (host 42)
  pub ack : hearing (requesting obeying) 1 (reply Ack 1 good)
      ≡ Renewing (lease_from 500000007 875000007 1000000007)
  pub other_server : hearing (requesting obeying) 9 (reply Ack 1 good)
      ≡ Renewing (lease_from 500000007 875000007 1000000007)
  pub hole : hearing (requesting obeying) 1 (reply Ack 1 (mask_with 0 255 0))
      ≡ Requesting (pos 0) 0 leasing_server (host 42)
  pub early_ack : hearing (discovering obeying) 1 (reply Ack 1 good) ≡ Discovering (pos 0)
  pub refusal : hearing (requesting obeying) 1 (reply Nak 1 good) ≡ Discovering (pos 0)
  pub ignored : hearing (requesting ignoring) 1 (reply Nak 1 good)
      ≡ Requesting (pos 0) 0 leasing_server (host 42)
  pub kept : laid_over (1 ∷ 2 ∷ []) (7 ∷ 8 ∷ 9 ∷ []) ≡ 1 ∷ 2 ∷ 9 ∷ []
  pub no_room : laid_over (1 ∷ 2 ∷ []) (7 ∷ []) ≡ 7 ∷ []

-- to where a plan sends, with which id, and the state once that is taken
pub data Sent : Type 0 where
  Nothing : Sent
  Anew : Sent
  To : Ipv4Address → ℕ → ClientState → Sent

abbrev pub sent_by : Plan → Sent
sent_by Wait = Nothing
sent_by Restart = Anew
sent_by (Send outgoing before after) = To outgoing.ip.dst_addr outgoing.message.transaction_id after

-- a client whose last id is 5, where the word is 9
abbrev pub planning : ClientState → ℕ → Sent
planning state micros = sent_by (plan_in state default_settings 5 (at micros) 9)

abbrev pub asking : ℕ → ℕ → ClientState
asking micros retry = Requesting (pos micros) retry leasing_server (host 42)

abbrev pub leased : ℕ → ClientState
leased renew = Renewing (lease_from renew 875000000 1000000000)

abbrev pub asking_all : ℕ → ClientState
asking_all rebind = Renewing (record (lease_from 500000000 rebind 1000000000) { rebinding = true })

pub record PlansByExample : Type 0 where
  pub discover : planning (Discovering (pos 0)) 3 ≡ To limited_broadcast 9 (Discovering (pos 10000003))
  pub early : planning (Discovering (pos 4)) 3 ≡ Nothing
  pub first : planning (asking 0 0) 0 ≡ To limited_broadcast 5 (asking 5000000 1)
  pub second : planning (asking 5000000 1) 5000000 ≡ To limited_broadcast 5 (asking 10000000 2)
  pub third : planning (asking 10000000 2) 10000000 ≡ To limited_broadcast 5 (asking 20000000 3)
  pub given_up : planning (asking 50000000 5) 50000000 ≡ Anew
  pub waiting : planning (leased 500000000) 499999999 ≡ Nothing
  pub renewal : planning (leased 500000000) 500000000 ≡ To (host 1) 9 (leased 687500000)
  pub least : planning (leased 781250000) 781250000 ≡ To (host 1) 9 (leased 841250000)
  pub last_renewal : planning (leased 841250000) 874999999 ≡ To (host 1) 9 (leased 875000000)
  pub rebound : planning (leased 500000000) 875000000 ≡ To limited_broadcast 9 (asking_all 937500000)
  pub past_end : planning (asking_all 997500000) 997500000 ≡ To limited_broadcast 9 (asking_all 1057500000)
  pub over : planning (asking_all 1057500000) 1000000000 ≡ Anew
