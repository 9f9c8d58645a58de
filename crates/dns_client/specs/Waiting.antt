-- What a query that waits is seen as.
use Rattle.std.specs.Prelude.{ℕ, List}
use Rattle.net_wire.specs.declared.dns.dns_type.DnsType.{DnsType}
use Rattle.dns_client.specs.declared.query.MulticastDns.{MulticastDns}
use Rattle.dns_client.specs.declared.query.Turn.{Turn}

-- what a query asks for: the bytes of a plain name, a type, whether by mDNS; and by which id and port its
-- answer is known
pub record RequestValue : Type 0 where
  pub name : List ℕ
  pub type_ : DnsType
  pub mdns : MulticastDns
  pub id : ℕ
  pub port : ℕ

-- and how far it has come
pub record Waiting : Type 0 where
  pub request : RequestValue
  pub turn : Turn
