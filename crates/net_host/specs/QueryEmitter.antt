-- What the host's emitter does with the message of a query.
use Rattle.std.specs.Prelude.{◌≡◌, ℕ, ◌<◌, ◌^◌, List, [], ◌∷◌, ◌++◌, length, Option, Some, None, slice_index_or}
use Rattle.std.specs.Option.{option_map}
use Rattle.net_wire.specs.declared.address.EthernetAddress.{EthernetAddress}
use Rattle.net_wire.specs.declared.address.IpAddress.{IpAddress}
use Rattle.net_wire.specs.declared.address.IpAddress.TheVariants as ip
use Rattle.net_wire.specs.declared.address.Ipv4Address.{Ipv4Address}
use Rattle.net_wire.specs.Datagram.{Datagram, IsSentFrame}
use Rattle.dns_client.specs.Emit.{Outgoing}
use Rattle.host_model.specs.declared.held.Held.{Held}
use Rattle.net_host.specs.declared.emitter.Emitter.{Emitter}
use Rattle.net_host.specs.declared.report.Mark.TheVariants.{Dns}
use Rattle.net_host.specs.declared.report.Sent.{Sent}
use Rattle.net_host.specs.Emitter.{hop_by}

-- the address that datagrams to a destination go from: the held one, and none for IPv6
abbrev pub source_for : Option Held → IpAddress → Option IpAddress
source_for held (ip.Ipv4 to) = option_map (λ held. ip.Ipv4 held.address.address) held
source_for held (ip.Ipv6 to) = None

-- the number of the query in a slot
abbrev pub number_at : List ℕ → ℕ → ℕ
number_at numbers slot = slice_index_or numbers slot 0

-- the datagram of a message between two addresses
abbrev pub datagram_with : Ipv4Address → Ipv4Address → Outgoing → Datagram
datagram_with from to outgoing = record {
  source = from;
  destination = to;
  source_port = outgoing.udp.src_port;
  destination_port = outgoing.udp.dst_port;
  payload = outgoing.payload;
}

-- a frame of a query, marked as such
abbrev pub query_sent : ℕ → ℕ → List ℕ → Sent
query_sent query place frame = record { mark = Dns query place; frame = frame }

-- The hop of the message is known, and the list of sent frames grew by the one frame that carries the message
-- to it.
pub record TakesQuery (old new : Emitter) (outgoing : Outgoing) : Type 0 where
  pub from : Ipv4Address
  pub to : Ipv4Address
  pub source : outgoing.ip.src_addr ≡ ip.Ipv4 from
  pub destination : outgoing.ip.dst_addr ≡ ip.Ipv4 to
  pub hop : EthernetAddress
  pub frame : List ℕ
  pub known : hop_by old to ≡ Some hop
  pub carries : IsSentFrame old.hardware hop outgoing.ip.hop_limit (datagram_with from to outgoing) frame
  pub within : length frame < 2 ^ 32
  pub listed : new ≡ record old {
    sent = old.sent ++ query_sent (number_at old.numbers outgoing.slot) outgoing.place frame ∷ [];
  }

-- the hop of the message is not known, which is noted, and all else stays
pub record RefusesQuery (old new : Emitter) (outgoing : Outgoing) : Type 0 where
  pub to : Ipv4Address
  pub destination : outgoing.ip.dst_addr ≡ ip.Ipv4 to
  pub unknown : hop_by old to ≡ None
  pub noted : new ≡ record old { refused = Some to }
