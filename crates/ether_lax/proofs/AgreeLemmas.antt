-- What the two dissectors hold of one layout.
use Rattle.std.proofs.Common.{◌≡◌, ℕ, true, List, length, Option, Some, None, refl, arith}
use Rattle.ether_link.specs.Layout.{IsLayoutFrom}
use Rattle.ether_link.specs.declared.layout.Place.{Place}
use Rattle.ether_link.specs.declared.layout.Stop.{Stop}
use Rattle.ether_link.specs.declared.layout.Turn.{Turn}
use Rattle.ether_link.proofs.LayoutLemmas.{nested, one}
use Rattle.ether_ip.specs.Held.{no_extensions, extensions_of}
use Rattle.ether_ip.specs.PacketGrammar.{packet_grammar}
use Rattle.ether_ip.specs.declared.err.packet.SliceError.{SliceError}
use Rattle.ether_ip.specs.declared.ip.ext_places.ExtensionPlaces.{ExtensionPlaces}
use Rattle.ether_ip.specs.declared.transport.TransportSlice.{TransportSlice}
use Rattle.ether_ip.proofs.PacketLemmas.{packets_orderly}
use Rattle.ether_lax.specs.Agreement.{Agree, AgreeNets, AgreeOn, AreFree, CarriesSame, FindsPlaces, HoldsChain}
use Rattle.ether_lax.specs.Found.{no_parts, parts_of}
use Rattle.ether_lax.specs.Headers.{HeaderParts, HoldsHeaders, headers_in, headers_of, net_headers, carried_of, lacks_bytes}
use Rattle.ether_lax.specs.Payloads.{Carried}
use Rattle.ether_lax.specs.Sliced.{SlicedParts, HoldsLayout, sliced_in, sliced_of, net_by, chain_at}
use Rattle.ether_lax.specs.Walks.{kept_places, kept_stop}
use Rattle.ether_lax.specs.declared.found.FoundIp.{FoundIp}
use Rattle.ether_lax.specs.declared.found.IpHeader.{IpHeader}
use Rattle.ether_lax.specs.declared.found.IpHeader.TheVariants.{V4, V6}
use Rattle.ether_lax.specs.declared.packet_headers.LaxPacketHeaders.{LaxPacketHeaders}
use Rattle.ether_lax.specs.declared.sliced_packet.LaxSlicedPacket.{LaxSlicedPacket}
use Rattle.ether_lax.proofs.AgreementLemmas.{free_all, told_same, carried_same, located}
use Rattle.ether_lax.proofs.RankLemmas.{IsFrom, are_parts}

module _ (frame : List ℕ) (held : ExtensionPlaces) where
  abbrev Chains : Option FoundIp → Type 0
  Chains found = (ip : FoundIp) (h : List ℕ) → found ≡ Some ip → ip.header ≡ V6 h → HoldsChain (chain_at frame h ip) (extensions_of held)

  nets_version : (found : Option FoundIp) (ip : FoundIp) (header : IpHeader) (arp : Option (List ℕ)) → found ≡ Some ip → ip.header ≡ header → Chains found
      → AgreeNets (net_by frame held.auth found arp) (net_headers held found arp)
  nets_version found ip (V4 h) arp is version chains = rw (is, version) (refl, refl)
  nets_version found ip (V6 h) arp is version chains =
      let holds = chains ip h is version in
      rw (is, version) (refl, holds)

  nets_by : (ip : Option FoundIp) (arp : Option (List ℕ)) → Chains ip → AgreeNets (net_by frame held.auth ip arp) (net_headers held ip arp)
  nets_by None None chains = tt
  nets_by None (Some packet) chains = refl
  nets_by (Some ip) arp chains = nets_version (Some ip) ip ip.header arp refl refl chains

  carries_version : (start : Carried) (found : Option FoundIp) (ip : FoundIp) (header : IpHeader) (arp : Option (List ℕ)) (link : Option Carried) → found ≡ Some ip
      → ip.header ≡ header → CarriesSame None (net_by frame held.auth found arp) (carried_of frame start None found link)
  carries_version start found ip (V4 h) arp link is version = rw (is, version) refl
  carries_version start found ip (V6 h) arp link is version = rw (is, version) refl

  carries : (start : Carried) (t : Option TransportSlice) (ip : Option FoundIp) (arp : Option (List ℕ)) (link : Option Carried)
      → CarriesSame t (net_by frame held.auth ip arp) (carried_of frame start t ip link)
  carries start (Some t) ip arp link = carried_same t (lacks_bytes ip)
  carries start None (Some ip) arp link = carries_version start (Some ip) ip ip.header arp link refl refl
  carries start None None (Some packet) link = tt
  carries start None None None link = tt

from_any : (turn : Option Turn) → IsFrom 0 turn
from_any None = tt
from_any (Some turn) = omega arith

module _ (frame : List ℕ) (first : Option Turn) (start : Carried) (places : List Place) (stop : Option (Stop SliceError))
    (right : IsLayoutFrom packet_grammar frame first 0 (length frame) places stop) (free : AreFree frame no_extensions places stop) where
  same_parts : Agree (sliced_of frame (parts_of frame places) stop) (headers_of frame start (parts_of frame places) stop)
  same_parts =
      let w = parts_of frame places in
      let inside = nested packet_grammar frame packets_orderly places first 0 (length frame) stop right in
      let parts = are_parts frame places first 0 0 (length frame) stop (from_any first) right inside in
      let chains = located frame places first 0 0 (length frame) stop no_parts (omega arith) right inside parts refl (λ low. refl) free in
      record { exts = refl; net = nets_by frame w.held w.ip w.arp chains; transport = refl; stop = told_same _ _ stop }

  agree_by : (parts : SlicedParts) (headers : HeaderParts) (kept : List Place) (last : Option (Stop SliceError))
      → parts ≡ sliced_of frame (parts_of frame places) stop → headers ≡ headers_of frame start (parts_of frame kept) last
      → kept ≡ places → last ≡ stop → Agree parts headers × CarriesSame parts.transport parts.net headers.payload
  agree_by parts headers kept last parts_are headers_are same_places same_stop =
      let w = parts_of frame places in
      let all : headers ≡ headers_of frame start (parts_of frame places) stop = rw same_places at (rw same_stop at headers_are) in
      rw (parts_are, all) (same_parts, carries frame w.held start w.transport w.ip w.arp w.carried)

pub agreed : (frame : List ℕ) (first : Option Turn) (start : Carried) (packet : LaxSlicedPacket) (headers : LaxPacketHeaders)
    → HoldsLayout frame first packet → HoldsHeaders frame first start headers → FindsPlaces frame first → AgreeOn packet headers
agreed frame first start packet headers holds holds_headers finds =
    let same = one packet_grammar frame first 0 (length frame) holds_headers.places holds.places holds_headers.stop holds.stop holds_headers.layout holds.layout in
    let free = finds holds.places holds.stop holds.layout in
    let all = free_all frame holds.places no_extensions holds.stop free in
    let headers_are = rw (same.0, same.1) at (holds_headers.holds) in
    agree_by frame first start holds.places holds.stop holds.layout free (sliced_in packet) (headers_in headers) _ _ holds.holds headers_are all.0 all.1

-- and so do the parts and the headers of a layout, without either packet
pub agree_at : (frame : List ℕ) (first : Option Turn) (start : Carried) (places : List Place) (stop : Option (Stop SliceError))
    → IsLayoutFrom packet_grammar frame first 0 (length frame) places stop → AreFree frame no_extensions places stop
    → Agree (sliced_of frame (parts_of frame places) stop)
    (headers_of frame start (parts_of frame (kept_places true frame places)) (kept_stop true frame places stop))
agree_at frame first start places stop right free =
    let all = free_all frame places no_extensions stop free in
    (agree_by frame first start places stop right free _ _ (kept_places true frame places) (kept_stop true frame places stop) refl refl
    all.0 all.1).0
