-- Closed examples of what a server makes of whole frames. Sums were worked out apart.
use Rattle.std.specs.Prelude.{◌≡◌, ℕ, List, [], ◌∷◌, ◌++◌, Some, replicate}
use Rattle.host_model.specs.Script.{Event, Frame, Tick}
use Rattle.lease_server.specs.declared.reply.Reply.TheVariants as reply
use Rattle.lease_server.specs.declared.reply.Silence.TheVariants as silence
use Rattle.lease_server.specs.Examples.{client, host, range_of}
use Rattle.lease_server.specs.Holdings.{Call}
use Rattle.lease_server.specs.Values.{Values}
use Rattle.server_run.specs.declared.report.Answered.{Answered}
use Rattle.server_run.specs.declared.report.Answered.TheVariants as answered
use Rattle.server_run.specs.Answering.{answered_at, IsSentAt}
use Rattle.server_run.specs.Asking.{asked_at, asked_in, Nothing}
use Rattle.server_run.specs.Rows.{calls_behind}

-- The frame of a message of a client that has no address yet, to all stations, without a UDP checksum: by the
-- total length of its packet, the checksum of its IPv4 header, the length of its datagram, and the options.
abbrev pub frame_with : ℕ → List ℕ → List ℕ → List ℕ → List ℕ → List ℕ
frame_with last total checksum udp_len options =
    replicate 6 255 ++ (client last).0 ++ 0x08 ∷ 0 ∷ []
    ++ 0x45 ∷ 0 ∷ [] ++ total ++ 0 ∷ 0 ∷ 0x40 ∷ 0 ∷ 64 ∷ 17 ∷ [] ++ checksum
    ++ replicate 4 0 ++ replicate 4 255
    ++ 0 ∷ 68 ∷ 0 ∷ 67 ∷ [] ++ udp_len ++ 0 ∷ 0 ∷ []
    ++ 1 ∷ 1 ∷ 6 ∷ 0 ∷ [] ++ replicate 24 0 ++ (client last).0 ++ replicate 202 0
    ++ 0x63 ∷ 0x82 ∷ 0x53 ∷ 0x63 ∷ [] ++ options

-- a discover, and a request for 192.168.1.42 of the server 192.168.1.1
abbrev pub discover : ℕ → List ℕ
discover last = frame_with last (0x01 ∷ 0x10 ∷ []) (0x39 ∷ 0xDE ∷ []) (0 ∷ 0xFC ∷ []) (53 ∷ 1 ∷ 1 ∷ 255 ∷ [])

abbrev pub request : ℕ → List ℕ
request last = frame_with last (0x01 ∷ 0x1C ∷ []) (0x39 ∷ 0xD2 ∷ []) (0x01 ∷ 0x08 ∷ [])
    (53 ∷ 1 ∷ 3 ∷ 54 ∷ 4 ∷ 192 ∷ 168 ∷ 1 ∷ 1 ∷ 50 ∷ 4 ∷ 192 ∷ 168 ∷ 1 ∷ 42 ∷ 255 ∷ [])

-- an ARP packet with an operation from client 2, 192.168.1.42, for 192.168.1.LAST, to all stations
abbrev pub arp_packet : ℕ → ℕ → List ℕ
arp_packet operation last =
    replicate 6 255 ++ (client 2).0 ++ 0x08 ∷ 0x06 ∷ 0 ∷ 1 ∷ 0x08 ∷ 0 ∷ 6 ∷ 4 ∷ 0 ∷ operation ∷ []
    ++ (client 2).0 ++ (host 42).0 ++ replicate 6 0 ++ (host last).0

-- the reply to it of the server
abbrev pub arp_answer : List ℕ
arp_answer =
    (client 2).0 ++ 2 ∷ 0 ∷ 0 ∷ 0 ∷ 0 ∷ 1 ∷ 0x08 ∷ 0x06 ∷ 0 ∷ 1 ∷ 0x08 ∷ 0 ∷ 6 ∷ 4 ∷ 0 ∷ 2 ∷ []
    ++ 2 ∷ 0 ∷ 0 ∷ 0 ∷ 0 ∷ 1 ∷ [] ++ (host 1).0 ++ (client 2).0 ++ (host 42).0

abbrev pub frame_at : ℕ → List ℕ → Event
frame_at micros bytes = record { at = micros; arrival = Frame bytes }

-- what each event of a run is answered
abbrev pub answers_from : Values → List Call → List Event → List Answered
answers_from values calls [] = []
answers_from values calls (event ∷ events) =
    answered_at values calls event.at (asked_at values event.arrival)
    ∷ answers_from values (calls_behind values calls event) events

-- A server with one address. An offer ends after 60 s, and a lease 1000 s after its acknowledgement, at their
-- instants.
pub record RunsByExample : Type 0 where
  pub offered : answers_from (range_of 1) [] (frame_at 0 (discover 2) ∷ frame_at 59999999 (discover 3)
      ∷ frame_at 60000000 (discover 3) ∷ frame_at 60000000 (request 2) ∷ [])
      ≡ answered.Dhcp (reply.Offer (host 42)) ∷ answered.Dhcp (reply.Silent silence.Full)
      ∷ answered.Dhcp (reply.Offer (host 42)) ∷ answered.Dhcp reply.Nak ∷ []
  pub granted : answers_from (range_of 1) [] (frame_at 0 (discover 2) ∷ frame_at 1000000 (request 2)
      ∷ frame_at 1000999999 (discover 3) ∷ frame_at 1001000000 (discover 3) ∷ [])
      ≡ answered.Dhcp (reply.Offer (host 42)) ∷ answered.Dhcp (reply.Ack (host 42))
      ∷ answered.Dhcp (reply.Silent silence.Full) ∷ answered.Dhcp (reply.Offer (host 42)) ∷ []

-- An ARP request for the server's address is answered; one for another address is not, nor is a reply, nor an
-- event without a frame.
pub record ArpByExample : Type 0 where
  pub told : answered_at (range_of 1) [] 0 (asked_in (range_of 1) (arp_packet 1 1)) ≡ answered.Arp
  pub sent : IsSentAt (range_of 1) [] 0 (asked_in (range_of 1) (arp_packet 1 1)) (Some arp_answer)
  pub other : asked_in (range_of 1) (arp_packet 1 9) ≡ Nothing
  pub reply : asked_in (range_of 1) (arp_packet 2 1) ≡ Nothing
  pub tick : asked_at (range_of 1) Tick ≡ Nothing
