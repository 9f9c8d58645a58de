-- Next hops by example, one for each rule that a slip would change.
use Rattle.std.specs.Prelude.{◌≡◌, ℕ, List, [], ◌∷◌, ◌++◌, Option, Some, None, replicate}
use Rattle.net_wire.specs.declared.address.EthernetAddress.{EthernetAddress}
use Rattle.net_wire.specs.declared.address.Ipv4Address.{Ipv4Address}
use Rattle.dhcp_client.specs.Messages.{limited_broadcast}
use Rattle.host_model.specs.declared.held.Held.{Held}
use Rattle.host_model.specs.Script.{Frame, Event}
use Rattle.host_model.specs.Examples.{example_settings, tick}
use Rattle.host_model.specs.Frames.{ArpRequest, requests}
use Rattle.host_model.specs.Neighbor.{ethernet_broadcast, hop_address, known_at, known_hop}

-- 192.0.2.130, as other hosts of 192.0.2.0/24, and 198.51.100.7
abbrev pub near : ℕ → Ipv4Address
near last = record { 0 = 192 ∷ 0 ∷ 2 ∷ last ∷ [] }

abbrev pub far : Ipv4Address
far = record { 0 = 198 ∷ 51 ∷ 100 ∷ 7 ∷ [] }

-- the address with a prefix of so many bits, and a router
abbrev pub held_with : ℕ → Option Ipv4Address → Option Held
held_with bits router =
    Some (record { address = record { address = near 130; prefix_len = bits }; router = router })

abbrev pub next : ℕ → Ipv4Address → Option Ipv4Address
next bits destination = hop_address (held_with bits (Some (near 129))) destination

pub record NetworksByExample : Type 0 where
  -- 26 bits: 192.0.2.128 to 192.0.2.191
  pub last_of_network : next 26 (near 190) ≡ Some (near 190)
  pub behind_network : next 26 (near 192) ≡ Some (near 129)
  pub before_network : next 26 (near 127) ≡ Some (near 129)
  -- no bits: all addresses
  pub no_bits : next 0 far ≡ Some far
  -- all bits: the address itself
  pub itself : next 32 (near 130) ≡ Some (near 130)
  pub beside : next 32 (near 131) ≡ Some (near 129)
  pub no_router : hop_address (held_with 26 None) far ≡ None
  pub no_router_needed : hop_address (held_with 26 None) (near 190) ≡ Some (near 190)
  pub nothing_held : hop_address None (near 190) ≡ None

abbrev pub station : ℕ → EthernetAddress
station byte = record { 0 = replicate 6 byte }

-- an operation, a station and the last byte of its address: a packet in a frame from a station of its own
abbrev pub packet : ℕ → ℕ → ℕ → List ℕ
packet operation sender last =
    replicate 6 2 ++ replicate 6 8 ++ 0x08 ∷ 0x06 ∷ 0 ∷ 1 ∷ 0x08 ∷ 0 ∷ 6 ∷ 4 ∷ 0 ∷ operation ∷ []
    ++ replicate 6 sender ++ 192 ∷ 0 ∷ 2 ∷ last ∷ [] ++ replicate 6 2 ++ 192 ∷ 0 ∷ 2 ∷ 130 ∷ []

-- a reply at a time
abbrev pub reply : ℕ → ℕ → ℕ → Event
reply at sender last = record { at = at; arrival = Frame (packet 2 sender last) }

abbrev pub request : ℕ → ℕ → ℕ → Event
request at sender last = record { at = at; arrival = Frame (packet 1 sender last) }

-- what events, newest first, tell of 192.0.2.190 at a time
abbrev pub told : List Event → ℕ → Option EthernetAddress
told events at = known_at example_settings events at (Some (near 190))

pub record NeighborsByExample : Type 0 where
  pub at_once : told (reply 1000000 4 190 ∷ []) 1000000 ≡ Some (station 4)
  pub by_request : told (request 1000000 4 190 ∷ []) 1000000 ≡ Some (station 4)
  -- less than 60 seconds
  pub young : told (tick 60999999 ∷ reply 1000000 4 190 ∷ []) 60999999 ≡ Some (station 4)
  pub old : told (tick 61000000 ∷ reply 1000000 4 190 ∷ []) 61000000 ≡ None
  pub told_again : told (reply 50000000 4 190 ∷ reply 1000000 4 190 ∷ []) 109999999 ≡ Some (station 4)
  -- the last packet of a station counts, and no other station's
  pub moved : told (reply 2000000 6 190 ∷ reply 1000000 4 190 ∷ []) 2000000 ≡ Some (station 6)
  pub of_other : told (reply 2000000 6 191 ∷ reply 1000000 4 190 ∷ []) 2000000 ≡ Some (station 4)
  pub never : told (reply 2000000 6 191 ∷ []) 2000000 ≡ None

-- a router with the address of all hosts of the link
abbrev pub odd : Option Held
odd = held_with 26 (Some limited_broadcast)

pub record BroadcastsByExample : Type 0 where
  -- all hosts of the link are reached with nothing held
  pub to_all : known_hop example_settings [] (tick 0) limited_broadcast ≡ Some ethernet_broadcast
  pub to_one : known_hop example_settings [] (reply 0 4 190) (near 190) ≡ None
  -- a router is asked for, whatever its address
  pub through_all : hop_address odd far ≡ Some limited_broadcast
  pub not_known : known_at example_settings (reply 0 4 190 ∷ []) 0 (hop_address odd far) ≡ None
  pub asked : requests example_settings.hardware odd (hop_address odd far)
      ≡ ArpRequest ethernet_broadcast (record {
        operation = 1;
        source_hardware_addr = station 2;
        source_protocol_addr = near 130;
        target_hardware_addr = station 0;
        target_protocol_addr = limited_broadcast;
      }) ∷ []
