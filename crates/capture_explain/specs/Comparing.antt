-- What the two dissectors say of a frame.
use Rattle.std.specs.Prelude.{◌≡◌, ℕ, ◌<◌, ◌≤◌, ◌↔◌, IsTrue, Bool, true, false, List, length}
use Rattle.ether_link.specs.declared.layout.PartKind.TheVariants.{Ethernet2}
use Rattle.ether_lax.specs.Agreement.{Agree, FindsPlaces}
use Rattle.ether_lax.specs.Headers.{HoldsHeaders, headers_in}
use Rattle.ether_lax.specs.Sliced.{HoldsLayout, sliced_in}
use Rattle.ether_lax.specs.Steps.{begins_with}
use Rattle.ether_lax.specs.declared.packet_headers.LaxPacketHeaders.{LaxPacketHeaders}
use Rattle.ether_lax.specs.declared.sliced_packet.LaxSlicedPacket.{LaxSlicedPacket}
use Rattle.capture_explain.specs.Dissected.{carried_by_frame}

-- the headers of a frame as structs, and whether its packet in slices agrees with them
pub record AgreesWithHeaders (frame : List ℕ) (packet : LaxSlicedPacket) (agree : Bool) : Type 0 where
  pub headers : LaxPacketHeaders
  pub holds_headers : HoldsHeaders frame (begins_with Ethernet2) (carried_by_frame frame) headers
  pub agree_is : IsTrue agree ↔ Agree (sliced_in packet) (headers_in headers)
  pub agrees : FindsPlaces frame (begins_with Ethernet2) → agree ≡ true

-- a frame's packet in slices, its headers as structs, and whether they agree
pub record AgreesInFull (frame : List ℕ) (agree : Bool) : Type 0 where
  pub packet : LaxSlicedPacket
  pub holds : HoldsLayout frame (begins_with Ethernet2) packet
  pub by_headers : AgreesWithHeaders frame packet agree

-- Where each extension header finds its place free, the dissectors agree. Both refuse a frame of fewer than 14 bytes.
pub record AreCompared (frame : List ℕ) (free agree : Bool) : Type 0 where
  pub in_places : free ≡ true → agree ≡ true
  pub short : length frame < 14 → agree ≡ true
  pub long : free ≡ false → 14 ≤ length frame → AgreesInFull frame agree
