-- A frame that was sent with an ARP packet counts.
use Rattle.std.proofs.Common.{◌≡◌, ℕ, ◌≤◌, List, ◌++◌, length, ap, refl, arith, true, Some}
use Rattle.std.proofs.lemmas.Bool.{le-leb}
use Rattle.std.proofs.lemmas.Nat.{from_be_bytes-to_be_bytes_2}
use Rattle.wire_base.specs.Bytes.{be16_at, bytes_between}
use Rattle.net_wire.specs.declared.address.EthernetAddress.{EthernetAddress}
use Rattle.net_wire.specs.declared.arp.ArpRepr.{ArpRepr}
use Rattle.net_wire.specs.Arp.{SentArpCounts, arp_at, arp_bytes, arp_frame_bytes, arp_spaces, arriving_arp, has_arp, is_from_host}
use Rattle.net_wire.specs.Arrival.{is_for, is_taken_by}
use Rattle.net_wire.specs.Datagram.{ethernet_bytes}
use Rattle.net_wire.proofs.SentArrivesLemmas.{four_cells, six_cells}

-- what stands at the places of a packet
record StandsIn (to : EthernetAddress) (arp : ArpRepr) (frame : List ℕ) : Type 0 where
  long : 42 ≤ length frame
  destination : bytes_between 0 6 frame ≡ to.0
  ether_type : be16_at frame 12 ≡ 0x0806
  spaces : bytes_between 14 20 frame ≡ arp_spaces
  operation : be16_at frame 20 ≡ arp.operation
  source_hardware : bytes_between 22 28 frame ≡ arp.source_hardware_addr.0
  source_protocol : bytes_between 28 32 frame ≡ arp.source_protocol_addr.0
  target_hardware : bytes_between 32 38 frame ≡ arp.target_hardware_addr.0
  target_protocol : bytes_between 38 42 frame ≡ arp.target_protocol_addr.0

found : (hardware to : EthernetAddress) (arp : ArpRepr) (frame : List ℕ) → StandsIn to arp frame → is_from_host arp ≡ true
    → is_taken_by hardware to ≡ true → arriving_arp hardware frame ≡ Some arp
found hardware to arp frame is host taken =
    let has : has_arp frame ≡ true = rw (le-leb 42 (length frame) is.long, is.ether_type, is.spaces) refl in
    let for_it : is_for hardware frame ≡ true = rw is.destination taken in
    let from_host : is_from_host (arp_at frame) ≡ true = rw (is.operation, is.source_hardware, is.source_protocol) host in
    let same : arp_at frame ≡ arp =
    rw (is.operation, is.source_hardware, is.source_protocol, is.target_hardware, is.target_protocol) refl in
    rw (has, for_it, from_host) (ap (λ a. Some a) same)

pub sent_arp_counts : SentArpCounts
unfolding arp_bytes arp_frame_bytes ethernet_bytes
sent_arp_counts from to hardware arp behind from_six to_six wire host taken =
    let t = six_cells to.0 to_six in
    let f = six_cells from.0 from_six in
    let sh = six_cells arp.source_hardware_addr.0 wire.source_hardware in
    let sp = four_cells arp.source_protocol_addr.0 wire.source_protocol in
    let th = six_cells arp.target_hardware_addr.0 wire.target_hardware in
    let tp = four_cells arp.target_protocol_addr.0 wire.target_protocol in
    found hardware to arp (arp_frame_bytes from to arp ++ behind)
    (record {
      long = rw (t, f, sh, sp, th, tp) (omega arith);
      destination = rw t refl;
      ether_type = rw (t, f) refl;
      spaces = rw (t, f) refl;
      operation = rw (t, f) (from_be_bytes-to_be_bytes_2 arp.operation wire.operation);
      source_hardware = rw (t, f, sh) refl;
      source_protocol = rw (t, f, sh, sp) refl;
      target_hardware = rw (t, f, sh, sp, th) refl;
      target_protocol = rw (t, f, sh, sp, th, tp) refl;
    }) host taken
