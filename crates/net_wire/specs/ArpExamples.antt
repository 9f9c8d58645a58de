-- The ARP packets that count by example, one for each rule that a slip would change.
use Rattle.std.specs.Prelude.{◌≡◌, ℕ, List, [], ◌∷◌, ◌++◌, take, replicate, Some, None}
use Rattle.net_wire.specs.declared.arp.ArpRepr.{ArpRepr}
use Rattle.net_wire.specs.Arp.{arp_frame_bytes, arriving_arp}
use Rattle.net_wire.specs.ArrivalExamples.{station, other_station, host}
use Rattle.net_wire.specs.DhcpRead.{address_with, hardware_with}

-- operation, sender and its address: a packet for 192.168.1.42
abbrev pub arp_with : ℕ → List ℕ → List ℕ → ArpRepr
arp_with operation hardware address = record {
  operation = operation;
  source_hardware_addr = hardware_with hardware;
  source_protocol_addr = address_with address;
  target_hardware_addr = hardware_with (replicate 6 0);
  target_protocol_addr = address_with (192 ∷ 168 ∷ 1 ∷ 42 ∷ []);
}

abbrev pub request : ArpRepr
request = arp_with 1 (replicate 6 4) host

-- hardware type, protocol and the sizes of their addresses: a request with these
abbrev pub request_of : List ℕ → List ℕ
request_of spaces =
    replicate 6 255 ++ replicate 6 4 ++ 0x08 ∷ 0x06 ∷ [] ++ spaces ++ 0 ∷ 1 ∷ [] ++ replicate 6 4 ++ host
    ++ replicate 6 0 ++ 192 ∷ 168 ∷ 1 ∷ 42 ∷ []

abbrev pub request_frame : List ℕ
request_frame = request_of (0 ∷ 1 ∷ 0x08 ∷ 0 ∷ 6 ∷ 4 ∷ [])

abbrev pub sent : ArpRepr → List ℕ
sent arp = arp_frame_bytes other_station station arp

pub record ArpByExample : Type 0 where
  pub bytes : arp_frame_bytes other_station (hardware_with (replicate 6 255)) request ≡ request_frame
  pub counts : arriving_arp station request_frame ≡ Some request
  pub reply : arriving_arp station (sent (arp_with 2 (replicate 6 4) host))
      ≡ Some (arp_with 2 (replicate 6 4) host)
  pub other_operation : arriving_arp station (sent (arp_with 3 (replicate 6 4) host)) ≡ None
  -- bytes may follow, none may be missing
  pub padded : arriving_arp station (request_frame ++ replicate 18 0) ≡ Some request
  pub cut : arriving_arp station (take 41 request_frame) ≡ None
  pub to_other : arriving_arp other_station (sent request) ≡ None
  -- the sender is one station and one host
  pub from_group : arriving_arp station (sent (arp_with 1 (1 ∷ replicate 5 4) host)) ≡ None
  pub from_nobody : arriving_arp station (sent (arp_with 1 (replicate 6 4) (replicate 4 0))) ≡ None
  -- of Ethernet and IPv4, with the sizes of their addresses
  pub other_hardware : arriving_arp station (request_of (0 ∷ 6 ∷ 0x08 ∷ 0 ∷ 6 ∷ 4 ∷ [])) ≡ None
  pub other_protocol : arriving_arp station (request_of (0 ∷ 1 ∷ 0x86 ∷ 0xDD ∷ 6 ∷ 4 ∷ [])) ≡ None
  pub other_hardware_size : arriving_arp station (request_of (0 ∷ 1 ∷ 0x08 ∷ 0 ∷ 8 ∷ 4 ∷ [])) ≡ None
  pub other_protocol_size : arriving_arp station (request_of (0 ∷ 1 ∷ 0x08 ∷ 0 ∷ 6 ∷ 16 ∷ [])) ≡ None
