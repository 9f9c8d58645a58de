-- Closed examples of frames that are not for the host, and of frames that are.
use Rattle.std.specs.Prelude.{ℕ, List, [], ◌∷◌, ◌++◌, drop, replicate}
use Rattle.std.specs.Int.{to_be_bytes, w16}
use Rattle.host_model.specs.Examples.{example_settings}
use Rattle.host_model.specs.Foreign.{IsForeign}
use Rattle.host_model.specs.ServerFrames.{ack, arp_reply, arp_with, grant_header, grant_with, host, ip_frame}

abbrev pub IsForOthers : List ℕ → Type 0
IsForOthers bytes = IsForeign example_settings [] bytes

-- the same frame to another station
abbrev pub to_other : List ℕ → List ℕ
to_other frame = replicate 6 4 ++ drop 6 frame

-- an acknowledgement between other ports, without a checksum
abbrev pub ack_between : ℕ → ℕ → List ℕ
ack_between from to =
    ip_frame grant_header
    (to_be_bytes w16 from ++ to_be_bytes w16 to ++ to_be_bytes w16 282 ++ 0 ∷ 0 ∷ [] ++ grant_with 5 1000 100)

-- Foreign are: no bytes; frames to another station; datagrams between other ports; an ARP packet that is no
-- request or reply; without a lease, what comes from the port of name servers. Not foreign are what a server
-- sends, what comes from the port of mDNS, and an ARP packet that counts.
pub record ForeignByExample : Type 0 where
  pub empty : IsForOthers []
  pub other_station : IsForOthers (to_other (ack 100))
  pub other_station_too : IsForOthers (to_other arp_reply)
  pub other_client : IsForOthers (ack_between 67 69)
  pub other_server : IsForOthers (ack_between 53 68)
  pub name_server : IsForOthers (ack_between 53 1025)
  pub other_operation : IsForOthers (arp_with 3 (replicate 6 4) (host 7) (replicate 6 0) (host 42))
  pub same_ports : IsForOthers (ack_between 67 68) → ⊥
  pub multicast : IsForOthers (ack_between 5353 1025) → ⊥
  pub acknowledges : IsForOthers (ack 100) → ⊥
  pub tells : IsForOthers arp_reply → ⊥
