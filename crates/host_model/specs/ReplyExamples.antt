-- Closed examples of what counts of the frames of a server, and of the replies to ARP requests.
use Rattle.std.specs.Prelude.{◌≡◌, ℕ, ◌+◌, true, List, [], ◌∷◌, ◌++◌, None, length, replicate, take}
use Rattle.net_wire.specs.DhcpRead.{address_with, hardware_with}
use Rattle.dhcp_client.specs.Config.{default_settings}
use Rattle.host_model.specs.Script.{Event}
use Rattle.host_model.specs.Settings.{Settings}
use Rattle.host_model.specs.Anchor.{Loss, Offer, Ack, anchor_before}
use Rattle.host_model.specs.Chronicle.{history}
use Rattle.host_model.specs.Examples.{tick, example_settings}
use Rattle.host_model.specs.Frames.{Listed, ArpReply}
use Rattle.host_model.specs.LifeExamples.{asking, leasing}
use Rattle.host_model.specs.Lives.{all_sent, anchor, discovers, frame, frames, granted, leased, life_words}
use Rattle.host_model.specs.Lives.{our_address, requests, sent_at, server}
use Rattle.host_model.specs.ServerFrames.{ack, arp_with, frame_with, grant_header, grant_udp, grant_with}
use Rattle.host_model.specs.ServerFrames.{header_with, host, ip_frame, nak, nak_to, udp_with}

abbrev pub with_frame : List Event → List ℕ → List Event
with_frame before bytes = before ++ frame 0 bytes ∷ []

-- nothing is heard of a frame where an address was requested
pub record IsUnheard (bytes : List ℕ) : Type 0 where
  pub sent : sent_at asking (frame 0 bytes) ≡ None
  pub anchor : anchor (with_frame asking bytes) ≡ Offer 1 0 server our_address

-- an acknowledgement is
abbrev pub IsGranted : List ℕ → Type 0
IsGranted bytes = anchor (with_frame asking bytes) ≡ Ack 2 0 granted server

-- with a UDP checksum of its own
abbrev pub summed : ℕ → List ℕ
summed seconds = ip_frame grant_header (udp_with 282 0x4AAB (grant_with 5 seconds 100))

-- Heard are a right UDP checksum or none, and bytes behind the packet. Not heard: one bit of the lease time
-- is another; more fragments follow; a tag stands before the ether type; the packet is longer than the frame.
pub record HearsWholeFrames : Type 0 where
  pub right : IsGranted (summed 1000)
  pub unsummed : IsGranted (ack 100)
  pub padded : IsGranted (ack 100 ++ replicate 20 7)
  pub flipped : IsUnheard (summed 1001)
  pub fragment : IsUnheard (ip_frame (header_with 302 0x2000 0x9816) (grant_udp 5 1000 100))
  pub tagged : IsUnheard
      (frame_with (0x81 ∷ 0 ∷ 0 ∷ 1 ∷ 0x08 ∷ 0 ∷ []) (grant_header ++ grant_udp 5 1000 100))
  pub longer : IsUnheard (ip_frame (header_with 303 0 0xB815) (grant_udp 5 1000 100))

-- a host that ignores refusals
abbrev pub ignoring : Settings
ignoring = record example_settings { client = record default_settings { ignore_naks = true } }

-- it was refused what it had
pub record IsRefused (before : List Event) (bytes : List ℕ) : Type 0 where
  pub sent : sent_at before (frame 0 bytes) ≡ discovers (100 + length before)
  pub anchor : anchor (with_frame before bytes) ≡ Loss (length before)
  pub leased : leased (with_frame before bytes) ≡ None

-- and where it was not
pub record IsKept (bytes : List ℕ) : Type 0 where
  pub sent : sent_at leasing (frame 0 bytes) ≡ None
  pub anchor : anchor (with_frame leasing bytes) ≡ Ack 2 0 granted server

-- a refusal with the last id, to this hardware address, ends an offer and a lease in its event, which
-- discovers
pub record Refuses : Type 0 where
  pub lease : IsRefused leasing (nak 100)
  pub offer : IsRefused asking (nak 100)
  pub other_id : IsKept (nak 99)
  pub foreign : IsKept (nak_to (replicate 6 3) 100)
  pub ignored : anchor_before ignoring (history ignoring life_words (with_frame leasing (nak 100)))
      ≡ Ack 2 0 granted server
  pub ignored_sent : all_sent (history ignoring life_words (with_frame leasing (nak 100)))
      ≡ None ∷ None ∷ requests 100 ∷ discovers 100 ∷ []

-- 192.168.1.7 at another station asks for an address; the frame comes from the server's station
abbrev pub request_for_host : ℕ → List ℕ
request_for_host last = arp_with 1 (replicate 6 4) (host 7) (replicate 6 0) (host last)

abbrev pub the_reply : Listed
the_reply = ArpReply (hardware_with (replicate 6 4)) (record {
  operation = 2;
  source_hardware_addr = example_settings.hardware;
  source_protocol_addr = our_address;
  target_hardware_addr = hardware_with (replicate 6 4);
  target_protocol_addr = address_with (host 7);
})

-- The reply goes to the station that the packet names. None comes for another address or before the lease; in
-- the event that ends the lease one still comes, before the discover.
pub record Replies : Type 0 where
  pub replies : frames leasing (frame 1000000 (request_for_host 42)) ≡ the_reply ∷ []
  pub other_address : frames leasing (frame 1000000 (request_for_host 43)) ≡ []
  pub before : frames asking (frame 0 (request_for_host 42)) ≡ []
  pub at_end : take 1 (frames leasing (frame 1000000000 (request_for_host 42))) ≡ the_reply ∷ []
  pub sent_at_end : sent_at leasing (frame 1000000000 (request_for_host 42)) ≡ discovers 103
  pub after : frames (leasing ++ tick 1000000000 ∷ []) (frame 1000000000 (request_for_host 42)) ≡ []
