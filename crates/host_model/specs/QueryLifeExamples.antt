-- Closed examples of queries in the life of a host: frames and lines of whole histories. Sums were worked out
-- apart.
use Rattle.std.specs.Prelude.{◌≡◌, ℕ, ◌+◌, List, [], ◌∷◌, ◌++◌, Some, None, codes, count_by, drop, length, replicate}
use Rattle.std.specs.Int.{to_be_bytes, w16}
use Rattle.net_wire.specs.DhcpRead.{hardware_with}
use Rattle.net_wire.specs.declared.dns.dns_type.DnsType.TheVariants as dns
use Rattle.dns_client.specs.declared.error.StartQueryError.TheVariants.{InvalidName, NoFreeSlot}
use Rattle.dns_client.specs.declared.query.MulticastDns.TheVariants.{Disabled}
use Rattle.dns_client.specs.Examples.{ipv4}
use Rattle.dns_client.specs.QueryExamples.{answer, request, response}
use Rattle.host_model.specs.declared.query_line.Outcome.TheVariants.{Answered, Failed, Refused}
use Rattle.host_model.specs.declared.query_line.QueryLine.{QueryLine}
use Rattle.host_model.specs.Chronicle.{words_at}
use Rattle.host_model.specs.Examples.{example_settings, reset, tick}
use Rattle.host_model.specs.Frames.{Listed, ArpRequest, Dns, request_for}
use Rattle.host_model.specs.History.{Entry}
use Rattle.host_model.specs.Lease.{held_of}
use Rattle.host_model.specs.LifeExamples.{leasing}
use Rattle.host_model.specs.Lives.{frame, frames, granted, life, life_words}
use Rattle.host_model.specs.LookExamples.{address}
use Rattle.host_model.specs.Neighbor.{ethernet_broadcast}
use Rattle.host_model.specs.Queries.{lines_at}
use Rattle.host_model.specs.QueryEnds.{all_lines}
use Rattle.host_model.specs.QueryLines.{line_of}
use Rattle.host_model.specs.QuerySends.{all_asks, is_to_place, last_asked}
use Rattle.host_model.specs.Script.{Query, Event}
use Rattle.host_model.specs.ServerFrames.{arp_with, frame_with, host, station}

-- a query for the address of a name
abbrev pub query : ℕ → List ℕ → Event
query at name = record { at = at; arrival = Query dns.A name }

-- the lines of an event that follows on others
abbrev pub lines : List Event → Event → List QueryLine
lines before event = lines_at example_settings (life before) event (words_at life_words (length before))

-- the station that the name server, 192.168.1.53, says it has, and its frame
abbrev pub name_station : List ℕ
name_station = 2 ∷ replicate 4 0 ++ 53 ∷ []

abbrev pub name_reply : List ℕ
name_reply = arp_with 2 name_station (host 53) station (host 42)

-- its response of 35 bytes to a port, without a UDP checksum: the address 192.0.2.9
abbrev pub name_response : ℕ → List ℕ
name_response port =
    frame_with (0x08 ∷ 0 ∷ [])
    (0x45 ∷ 0 ∷ 0 ∷ 63 ∷ 0 ∷ 0 ∷ 0 ∷ 0 ∷ 64 ∷ 17 ∷ 0xF6 ∷ 0xFE ∷ [] ++ host 53 ++ host 42 ++ 0 ∷ 53 ∷ []
    ++ to_be_bytes w16 port ++ 0 ∷ 43 ∷ 0 ∷ 0 ∷ [] ++ response 0 97 answer)

abbrev pub asks_for_server : List Listed
asks_for_server =
    ArpRequest ethernet_broadcast (request_for example_settings.hardware (held_of granted) (address 53)) ∷ []

-- the message of query 0, which the event at a place asked for
abbrev pub message_at : ℕ → List Listed
message_at place = Dns (record {
  ask = record {
    query = 0;
    place = 0;
    from = address 42;
    to = address 53;
    request = record (request Disabled) { port = 1025 + place };
  };
  hop = hardware_with name_station;
}) ∷ []

-- a lease, and then a query at 1 s
abbrev pub asking : List Event
asking = leasing ++ query 1000000 (codes "a") ∷ []

-- and the reply to the ARP request
abbrev pub told : List Event
told = asking ++ frame 1100000 name_reply ∷ []

-- The event of the query asks for the hop, the event that tells it sends, and the response ends the query,
-- once.
pub record AnswersQuery : Type 0 where
  pub asks : frames leasing (query 1000000 (codes "a")) ≡ asks_for_server
  pub sends : frames asking (frame 1100000 name_reply) ≡ message_at 3
  pub answers : lines told (frame 1200000 (name_response 1028))
      ≡ line_of 0 (Answered (record { items = ipv4 9 ∷ [] })) ∷ []
  pub once : lines (told ++ frame 1200000 (name_response 1028) ∷ []) (frame 1300000 (name_response 1028)) ≡ []
  pub not_before : lines asking (frame 1050000 (name_response 1028)) ≡ []
  pub sends_again : frames told (tick 2100000) ≡ message_at 3

-- a query of an event at 0, when the station of the server is known; its messages, without a response
abbrev pub asked : List Event
asked = leasing ++ frame 0 name_reply ∷ query 0 (codes "a") ∷ []

abbrev pub unanswered : List Event
unanswered = asked ++ tick 1000000 ∷ tick 3000000 ∷ tick 7000000 ∷ []

-- Without a response a query fails at 15 s. A query that is refused has a number too, and its line stands
-- first. In the event of a reset the server is still asked, and behind it there is none.
pub record EndsQuery : Type 0 where
  pub sends : frames (leasing ++ frame 0 name_reply ∷ []) (query 0 (codes "a")) ≡ message_at 4
  pub waits : lines unanswered (tick 11000000) ≡ []
  pub fails : lines unanswered (tick 15000000) ≡ line_of 0 Failed ∷ []
  pub refused_first : lines unanswered (query 15000000 (codes "a..b"))
      ≡ line_of 1 (Refused InvalidName) ∷ line_of 0 Failed ∷ []
  pub counts_refused : lines (asked ++ query 1 (codes ".") ∷ []) (query 2 (codes "a..b"))
      ≡ line_of 2 (Refused InvalidName) ∷ []
  pub at_reset : drop 1 (frames asked (reset 1000000)) ≡ message_at 4
  pub behind_reset : lines (asked ++ reset 1000000 ∷ []) (tick 3000000) ≡ line_of 0 Failed ∷ []

-- of seventeen queries the last is refused, and its event asks for the hop of the first
pub record RefusesQuery : Type 0 where
  pub refused : lines (leasing ++ replicate 16 (query 1000000 (codes "a"))) (query 1000000 (codes "a"))
      ≡ line_of 16 (Refused NoFreeSlot) ∷ []
  pub asks : frames (leasing ++ replicate 16 (query 1000000 (codes "a"))) (query 1000000 (codes "a"))
      ≡ asks_for_server

-- the entries of a life in which a query fails
abbrev pub failed_life : List Entry
failed_life = life (unanswered ++ tick 15000000 ∷ [])

-- Four messages went to the first place and none to the next; there is one line.
pub record CountsQuery : Type 0 where
  pub first : count_by (is_to_place 0 0) (all_asks example_settings failed_life) ≡ 4
  pub next : count_by (is_to_place 0 1) (all_asks example_settings failed_life) ≡ 0
  pub last : last_asked 0 (all_asks example_settings failed_life) ≡ Some (address 53)
  pub other : last_asked 1 (all_asks example_settings failed_life) ≡ None
  pub lines_are : all_lines example_settings failed_life ≡ line_of 0 Failed ∷ []
