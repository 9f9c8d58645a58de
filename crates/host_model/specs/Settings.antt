-- What a host is told once, before its first event.
use Rattle.std.specs.Prelude.{ℕ}
use Rattle.net_wire.specs.declared.address.EthernetAddress.{EthernetAddress}
use Rattle.dhcp_client.specs.Config.{ClientSettings}

-- its hardware address; the longest IPv4 datagram of its link in bytes; what its DHCP client is told
pub record Settings : Type 0 where
  pub hardware : EthernetAddress
  pub ip_mtu : ℕ
  pub client : ClientSettings
