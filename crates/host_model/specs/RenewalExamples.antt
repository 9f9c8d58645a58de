-- Closed examples of a lease of 1000 s that begins at 0 (RFC 2131, section 4.4.5): T1 is at 500 s, T2 at
-- 875 s.
use Rattle.std.specs.Prelude.{◌≡◌, List, [], ◌∷◌, ◌++◌, Some, None}
use Rattle.host_model.specs.Script.{Event}
use Rattle.host_model.specs.Anchor.{Loss, Ack}
use Rattle.host_model.specs.Examples.{tick, example_settings}
use Rattle.host_model.specs.Frames.{Listed, ArpRequest, request_for}
use Rattle.host_model.specs.Lease.{held_of}
use Rattle.host_model.specs.LifeExamples.{leasing}
use Rattle.host_model.specs.Lives.{all_sent, anchor, discovers, frame, frames, granted, leased, life}
use Rattle.host_model.specs.Lives.{our_cidr, rebinds, renews, requests, sent_at, server, server_address}
use Rattle.host_model.specs.Neighbor.{ethernet_broadcast}
use Rattle.host_model.specs.ServerFrames.{ack, arp_reply}

-- ten seconds before each renewal to the server its ARP reply
abbrev pub renewing : List Event
renewing =
    leasing ++ frame 490000000 arp_reply ∷ tick 499999999 ∷ tick 500000000
    ∷ frame 677500000 arp_reply ∷ tick 687499999 ∷ tick 687500000
    ∷ frame 771250000 arp_reply ∷ tick 781249999 ∷ tick 781250000
    ∷ frame 831250000 arp_reply ∷ tick 841249999 ∷ tick 841250000 ∷ []

-- from T2 on to all servers
abbrev pub rebinding : List Event
rebinding =
    renewing ++ tick 874999999 ∷ tick 875000000 ∷ tick 937499999 ∷ tick 937500000 ∷ tick 997499999
    ∷ tick 997500000 ∷ tick 999999999 ∷ []

-- Half of what is left until T2, and at least 60 s; then half of what is left of the lease, and at least
-- 60 s. At the end the client begins anew.
pub record Renews : Type 0 where
  pub renewals : all_sent (life renewing)
      ≡ renews 114 ∷ None ∷ None ∷ renews 111 ∷ None ∷ None ∷ renews 108 ∷ None ∷ None ∷ renews 105 ∷ None
      ∷ None ∷ None ∷ requests 100 ∷ discovers 100 ∷ []
  pub rebindings : all_sent (life rebinding)
      ≡ None ∷ rebinds 120 ∷ None ∷ rebinds 118 ∷ None ∷ rebinds 116 ∷ None ∷ all_sent (life renewing)
  pub lasts : leased rebinding ≡ Some our_cidr
  pub end : sent_at rebinding (tick 1000000000) ≡ discovers 122
  pub anchor : anchor (rebinding ++ tick 1000000000 ∷ []) ≡ Loss 22
  pub lost : leased (rebinding ++ tick 1000000000 ∷ []) ≡ None

-- an acknowledgement at the very end renews the lease, whose server stays
pub record RenewsAtEnd : Type 0 where
  pub sent : sent_at rebinding (frame 1000000000 (ack 120)) ≡ None
  pub anchor : anchor (rebinding ++ frame 1000000000 (ack 120) ∷ []) ≡ Ack 22 1000000000 granted server
  pub other_id : sent_at rebinding (frame 1000000000 (ack 118)) ≡ discovers 122

abbrev pub asks_for_server : List Listed
asks_for_server =
    ArpRequest ethernet_broadcast (request_for example_settings.hardware (held_of granted) server_address)
    ∷ []

-- Without the server's station no renewal goes out. Each event from T1 on asks for it, and the event that
-- tells it sends.
pub record Asks : Type 0 where
  pub before : frames leasing (tick 499000000) ≡ []
  pub sent : all_sent (life (leasing ++ tick 499000000 ∷ tick 500000000 ∷ tick 600000000 ∷ tick 875000000
      ∷ []))
      ≡ rebinds 106 ∷ None ∷ None ∷ None ∷ None ∷ requests 100 ∷ discovers 100 ∷ []
  pub first : frames leasing (tick 500000000) ≡ asks_for_server
  pub again : frames (leasing ++ tick 500000000 ∷ []) (tick 600000000) ≡ asks_for_server
  pub told : sent_at (leasing ++ tick 500000000 ∷ []) (frame 500000001 arp_reply) ≡ renews 104

-- what was told is believed for less than 60 s
pub record Forgets : Type 0 where
  pub known : sent_at (leasing ++ frame 440000001 arp_reply ∷ []) (tick 500000000) ≡ renews 104
  pub forgotten : sent_at (leasing ++ frame 440000000 arp_reply ∷ []) (tick 500000000) ≡ None
  pub asks : frames (leasing ++ frame 440000000 arp_reply ∷ []) (tick 500000000) ≡ asks_for_server
