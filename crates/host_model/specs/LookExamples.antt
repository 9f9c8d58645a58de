-- Closed examples of looks at queries, one for each rule that a slip would change.
use Rattle.std.specs.Prelude.{◌≡◌, ℕ, ◌*◌, Bool, true, false, List, [], ◌∷◌, Some, None, map, replicate, drop, ◌++◌}
use Rattle.std.specs.List.{range_with_len}
use Rattle.net_wire.specs.declared.address.IpAddress.{IpAddress}
use Rattle.net_wire.specs.declared.address.IpAddress.TheVariants as ip
use Rattle.net_wire.specs.declared.address.Ipv4Address.{Ipv4Address}
use Rattle.net_wire.specs.DhcpRead.{address_with}
use Rattle.dns_client.specs.declared.query.MulticastDns.{MulticastDns}
use Rattle.dns_client.specs.declared.query.MulticastDns.TheVariants.{Disabled, Enabled}
use Rattle.dns_client.specs.QueryExamples.{request}
use Rattle.host_model.specs.HopExamples.{station}
use Rattle.host_model.specs.QueryLines.{lines_of}
use Rattle.host_model.specs.QueryLooks.{Around, Looks, looks_from}
use Rattle.host_model.specs.QuerySlots.{Query, Slot, Live, freed}
use Rattle.host_model.specs.QueryTurns.{Look}
use Rattle.host_model.specs.ServerFrames.{host}

abbrev pub address : ℕ → Ipv4Address
address last = address_with (host last)

abbrev pub server : ℕ → IpAddress
server last = ip.Ipv4 (address last)

-- a host 192.168.1.42 with these servers, whose hops are all known
abbrev pub among : List IpAddress → Around
among servers = record { servers = servers; from = Some (address 42); hop = λ to. Some (station 4) }

abbrev pub one_server : Around
one_server = among (server 53 ∷ [])

abbrev pub two_servers : Around
two_servers = among (server 53 ∷ server 54 ∷ [])

-- a server without an address
abbrev pub unspecified : Around
unspecified = among (ip.Ipv4 (record { 0 = replicate 4 0 }) ∷ [])

-- a query for the name `a` with these looks, and one that was not looked at
abbrev pub query_by : MulticastDns → ℕ → List Look → Query
query_by mdns number looks = record { number = number; request = request mdns; looks = looks }

abbrev pub new : ℕ → Slot
new number = Live (query_by Disabled number [])

-- what looks lead to: the messages, by query and place, and the queries that end
pub record Row : Type 0 where
  pub sent : List (ℕ × ℕ)
  pub ended : List ℕ

abbrev pub row_of : Looks → Row
row_of looks = record {
  sent = map (λ sent. (sent.ask.query, sent.ask.place)) looks.asks;
  ended = map (λ line. line.query) (lines_of looks.slots);
}

-- at each of these seconds; `passed` says that the first slot is looked at whether one is due or not
abbrev pub rows : Around → Bool → List Slot → List ℕ → List Row
rows around passed slots [] = []
rows around passed slots (seconds ∷ later) =
    let looks = looks_from around (seconds * 1000000) passed slots in
    row_of looks ∷ rows around passed (map freed looks.slots) later

-- the rows of query 0: nothing, a message to a place, its end
abbrev pub quiet : Row
quiet = record { sent = []; ended = [] }

abbrev pub asks : ℕ → Row
asks place = record { sent = (0, place) ∷ []; ended = [] }

abbrev pub ends : Row
ends = record { sent = []; ended = 0 ∷ [] }

-- Messages go out at once and 1, 2 and 4 seconds after the one before. A look more than ten seconds after a
-- turn began goes on to the next place. In the host no look is made before the due, 8 seconds after the
-- fourth message.
pub record TurnsByExample : Type 0 where
  pub looked_at : rows one_server true (new 0 ∷ []) (0 ∷ 1 ∷ 3 ∷ 7 ∷ 10 ∷ 11 ∷ [])
      ≡ asks 0 ∷ asks 0 ∷ asks 0 ∷ asks 0 ∷ quiet ∷ ends ∷ []
  pub each_second : rows one_server false (new 0 ∷ []) (range_with_len 0 17)
      ≡ asks 0 ∷ asks 0 ∷ quiet ∷ asks 0 ∷ replicate 3 quiet ++ asks 0 ∷ replicate 7 quiet ++ ends ∷ quiet
      ∷ []
  pub next_server : rows two_servers true (new 0 ∷ []) (0 ∷ 10 ∷ 11 ∷ 12 ∷ 21 ∷ 22 ∷ [])
      ≡ asks 0 ∷ asks 0 ∷ asks 1 ∷ asks 1 ∷ asks 1 ∷ ends ∷ []
  pub each_second_next : drop 8 (rows two_servers false (new 0 ∷ []) (range_with_len 0 17))
      ≡ replicate 7 quiet ++ asks 1 ∷ asks 1 ∷ []

-- what a first look at a query leads to
abbrev pub first : Around → MulticastDns → Row
first around mdns = row_of (looks_from around 0 false (Live (query_by mdns 0 []) ∷ []))

-- A query ends where there is no server, none with an address, no address to send from, or none of IPv6, to
-- which mDNS asks first.
pub record EndsByExample : Type 0 where
  pub no_server : first (among []) Disabled ≡ ends
  pub no_address : first unspecified Disabled ≡ ends
  pub no_source : first (record one_server { from = None }) Disabled ≡ ends
  pub by_mdns : first one_server Enabled ≡ ends
