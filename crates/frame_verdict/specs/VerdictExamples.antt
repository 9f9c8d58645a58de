-- Closed examples: the smallest frame of each verdict. Sums were worked out apart.
use Rattle.std.specs.Prelude.{◌≡◌, ℕ, List, [], ◌∷◌, ◌++◌, codes, drop, replicate}
use Rattle.std.specs.Int.{to_be_bytes, w16}
use Rattle.net_wire.specs.DhcpRead.{address_with, hardware_with}
use Rattle.host_model.specs.Chronicle.{history}
use Rattle.host_model.specs.Examples.{example_settings}
use Rattle.host_model.specs.LifeExamples.{asking, leasing}
use Rattle.host_model.specs.Lives.{frame, life, life_words, our_address, our_cidr}
use Rattle.host_model.specs.QueryLifeExamples.{name_response, told}
use Rattle.host_model.specs.ReplyExamples.{ignoring}
use Rattle.host_model.specs.Script.{Event}
use Rattle.host_model.specs.ServerFrames.{ack, ack_for, arp_reply, frame_with, header_with, host, ip_frame, nak, nak_to, offer, reply_with, station, told_station, udp_with}
use Rattle.frame_verdict.specs.declared.verdict.Reason.{Reason}
use Rattle.frame_verdict.specs.declared.verdict.Reason.TheVariants as reason
use Rattle.frame_verdict.specs.declared.verdict.Verdict.{Verdict}
use Rattle.frame_verdict.specs.declared.verdict.Verdict.TheVariants as verdict
use Rattle.frame_verdict.specs.Verdict.{verdict_of}
use Rattle.frame_verdict.specs.VerdictText.{verdict_text}

-- the verdict on a frame that arrives behind these events
abbrev pub verdict_after : List Event → List ℕ → Verdict
verdict_after events bytes = verdict_of example_settings (life events) bytes

abbrev pub IsIgnoredAfter : List Event → List ℕ → Reason → Type 0
IsIgnoredAfter events bytes why = verdict_after events bytes ≡ verdict.Ignored why

-- a packet of 28 bytes with these eight behind its header
abbrev pub with_udp : List ℕ → List ℕ
with_udp udp = ip_frame (header_with 28 0 0xB928) udp

-- a header alone, of a protocol and from a source
abbrev pub header_of : ℕ → ℕ → List ℕ → List ℕ
header_of protocol checksum source =
    0x45 ∷ 0 ∷ 0 ∷ 20 ∷ 0 ∷ 0 ∷ 0 ∷ 0 ∷ 64 ∷ protocol ∷ [] ++ to_be_bytes w16 checksum ++ source ++ replicate 4 255

-- op and type: a message with the id 1 of one option, in 244 bytes
abbrev pub typed : ℕ → ℕ → List ℕ
typed op kind =
    ip_frame (header_with 272 0 0xB834)
    (udp_with 252 0 (op ∷ drop 1 (reply_with 1 (replicate 4 0) station (53 ∷ 1 ∷ kind ∷ []))))

-- Before any other event the last id is 1, and the client has neither an offer nor a lease.
pub record FramesByExample : Type 0 where
  pub short : IsIgnoredAfter [] [] reason.Short
  pub station : IsIgnoredAfter [] (replicate 14 4) reason.Station
  pub arp : IsIgnoredAfter [] (frame_with (0x08 ∷ 0x06 ∷ []) []) reason.Arp
  pub told : verdict_after [] arp_reply ≡ verdict.Arp (address_with (host 1)) (hardware_with told_station)
  pub ether_type : IsIgnoredAfter [] (frame_with (0x86 ∷ 0xDD ∷ []) []) reason.EtherType
  pub cut : IsIgnoredAfter [] (frame_with (0x08 ∷ 0 ∷ []) []) reason.Cut
  pub header_sum : IsIgnoredAfter [] (ip_frame (header_with 20 0 0) []) reason.HeaderSum
  pub fragment : IsIgnoredAfter [] (ip_frame (header_with 20 0x2000 0x9930) []) reason.Fragment
  pub source : IsIgnoredAfter [] (ip_frame (header_of 17 0x7ADA (replicate 4 0)) []) reason.Source
  pub protocol : IsIgnoredAfter [] (ip_frame (header_of 6 0xB93B (host 1)) []) reason.Protocol
  pub udp : IsIgnoredAfter [] (ip_frame (header_with 20 0 0xB930) []) reason.Udp
  pub udp_sum : IsIgnoredAfter [] (with_udp (udp_with 8 1 [])) reason.UdpSum
  pub port : IsIgnoredAfter [] (with_udp (0 ∷ 1 ∷ 0 ∷ 2 ∷ 0 ∷ 8 ∷ 0 ∷ 0 ∷ [])) reason.Port
  pub server : IsIgnoredAfter [] (with_udp (0 ∷ 53 ∷ 0 ∷ 2 ∷ 0 ∷ 8 ∷ 0 ∷ 0 ∷ [])) reason.Server
  pub by_mdns : IsIgnoredAfter [] (with_udp (0x14 ∷ 0xE9 ∷ 0 ∷ 2 ∷ 0 ∷ 8 ∷ 0 ∷ 0 ∷ [])) reason.Response

pub record MessagesByExample : Type 0 where
  pub message : IsIgnoredAfter [] (with_udp (udp_with 8 0 [])) reason.Message
  pub wrong_op : IsIgnoredAfter [] (typed 1 6) reason.Message
  pub client : IsIgnoredAfter [] (nak_to (replicate 6 3) 1) reason.Client
  -- the hardware address goes before the id, and the id before the type
  pub client_first : IsIgnoredAfter [] (nak_to (replicate 6 3) 2) reason.Client
  pub id : IsIgnoredAfter [] (nak 2) reason.Id
  pub kind : IsIgnoredAfter [] (typed 1 1) reason.Kind
  pub values : IsIgnoredAfter [] (typed 2 6) reason.Values
  pub offer_late : IsIgnoredAfter asking (offer 100) reason.Offer
  pub ack_early : IsIgnoredAfter [] (ack 1) reason.Ack
  pub nak_early : IsIgnoredAfter [] (nak 1) reason.Nak
  pub nak_unheard : verdict_of ignoring (history ignoring life_words leasing) (nak 100) ≡ verdict.Ignored reason.Nak
  pub offer : verdict_after [] (offer 1) ≡ verdict.Offer our_address
  pub ack : verdict_after asking (ack 100) ≡ verdict.Ack our_cidr
  -- one of no seconds too
  pub ack_over : verdict_after asking (ack_for 0 100) ≡ verdict.Ack our_cidr
  pub nak : verdict_after leasing (nak 100) ≡ verdict.Nak

-- a response decides its query once
pub record ResponsesByExample : Type 0 where
  pub response : verdict_after told (name_response 1028) ≡ verdict.Response 0
  pub again : IsIgnoredAfter (told ++ frame 1200000 (name_response 1028) ∷ []) (name_response 1028) reason.Response
  pub other_port : IsIgnoredAfter told (name_response 1029) reason.Response

-- the words
pub record WordsByExample : Type 0 where
  pub ignored : verdict_text (verdict.Ignored reason.HeaderSum) ≡ codes "ignored header-sum"
  pub arp : verdict_text (verdict.Arp (address_with (host 1)) (hardware_with told_station))
      ≡ codes "arp 192.168.1.1 02:00:00:00:00:09"
  pub offer : verdict_text (verdict.Offer our_address) ≡ codes "offer 192.168.1.42"
  pub ack : verdict_text (verdict.Ack our_cidr) ≡ codes "ack 192.168.1.42/24"
  pub nak : verdict_text verdict.Nak ≡ codes "nak"
  pub response : verdict_text (verdict.Response 10) ≡ codes "response 10"
