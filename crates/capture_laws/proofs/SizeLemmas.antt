-- Every frame that a row lists fits a record of a capture.
use Rattle.std.proofs.Common.{◌≡◌, ℕ, ◌+◌, ◌≤◌, List, [], ◌∷◌, ◌++◌, length, ap, sym, subst, ◌∙◌, refl, arith, length-append}
use Rattle.std.specs.List.{AllByRecursion}
use Rattle.net_wire.specs.declared.address.EthernetAddress.{EthernetAddress}
use Rattle.net_wire.specs.declared.address.Ipv4Address.{Ipv4Address}
use Rattle.net_wire.specs.declared.arp.ArpRepr.{ArpRepr}
use Rattle.net_wire.specs.Arp.{arp_bytes, arp_frame_bytes, IsOnTheWire}
use Rattle.net_wire.specs.Datagram.{Datagram, ethernet_bytes, ipv4_bytes, udp_bytes, IsSentFrame}
use Rattle.phy_layers.specs.PcapBytes.{snap_len}
use Rattle.dhcp_client.specs.Config.{AreSettingsWritable}
use Rattle.host_model.specs.Chronicle.{entry_at}
use Rattle.host_model.specs.Frames.{Listed, ArpReply, ArpRequest, Dhcp, Dns, frames_of, query_datagram}
use Rattle.host_model.specs.History.{Entry}
use Rattle.host_model.specs.Script.{Event}
use Rattle.host_model.specs.Settings.{Settings}
use Rattle.host_model.specs.Sizes.{FitsFrame, HasSix}
use Rattle.host_model.proofs.ListedSizeLemmas.{frames_fit}
use Rattle.net_host.specs.declared.report.Row.{Row}
use Rattle.net_host.specs.declared.report.Sent.{Sent}
use Rattle.net_host.specs.Listed.{AreListed, IsListed, datagram_for}
use Rattle.net_host.specs.Rows.{AreRowsFrom}

-- frames of at most as many bytes as a record holds
abbrev pub AreHeld : List Sent → Type 0
AreHeld sent = AllByRecursion (λ s. length s.frame ≤ snap_len) sent

abbrev pub RowsAreHeld : List Row → Type 0
RowsAreHeld rows = AllByRecursion (λ row. AreHeld row.sent) rows

length-ethernet : (to from : EthernetAddress) (ether_type : ℕ) → HasSix to → HasSix from → length (ethernet_bytes to from ether_type) ≡ 14
unfolding ethernet_bytes
length-ethernet to from ether_type six six_too = grind (arith, length-append)

length-header : (source destination : Ipv4Address) (protocol payload_len hop_limit checksum : ℕ) → length source.0 ≡ 4 → length destination.0 ≡ 4
    → length (ipv4_bytes source destination protocol payload_len hop_limit checksum) ≡ 20
unfolding ipv4_bytes
length-header source destination protocol payload_len hop_limit checksum four four_too = grind (arith, length-append)

length-udp : (source_port destination_port len checksum : ℕ) → length (udp_bytes source_port destination_port len checksum) ≡ 8
unfolding udp_bytes
length-udp source_port destination_port len checksum = refl

length-arp : (arp : ArpRepr) → IsOnTheWire arp → length (arp_bytes arp) ≡ 28
unfolding arp_bytes
length-arp arp wire =
    grind (arith, length-append, wire.source_hardware, wire.source_protocol, wire.target_hardware, wire.target_protocol)

arp_held : (from to : EthernetAddress) (arp : ArpRepr) → HasSix from → HasSix to → IsOnTheWire arp
    → length (arp_frame_bytes from to arp) ≤ snap_len
unfolding arp_frame_bytes
arp_held from to arp six six_too wire =
    omega (
      arith,
      length-append (ethernet_bytes to from 0x0806) (arp_bytes arp),
      length-ethernet to from 0x0806 six_too six,
      length-arp arp wire,
    )

datagram_held : (from to : EthernetAddress) (datagram : Datagram) (frame : List ℕ) → HasSix from → HasSix to
    → length datagram.source.0 ≡ 4 → length datagram.destination.0 ≡ 4 → length datagram.payload ≤ 65507
    → IsSentFrame from to 64 datagram frame → length frame ≤ snap_len
datagram_held from to datagram frame six six_too four four_too short is =
    let len = length datagram.payload + 8 in
    let ethernet = ethernet_bytes to from 0x0800 in
    let udp = udp_bytes datagram.source_port datagram.destination_port len is.udp_checksum in
    let header : length is.header ≡ 20 = ap length is.ipv4.bytes
    ∙ length-header datagram.source datagram.destination 17 len 64 is.ipv4.checksum four four_too in
    omega (
      arith,
      ap length is.bytes,
      length-ethernet to from 0x0800 six_too six,
      header,
      length-udp datagram.source_port datagram.destination_port len is.udp_checksum,
      length-append ethernet is.header,
      length-append (ethernet ++ is.header) udp,
      length-append (ethernet ++ is.header ++ udp) datagram.payload,
    )

module _ (settings : Settings) (six : HasSix settings.hardware) where
  is_held : (one : Listed) (sent : Sent) → FitsFrame one → IsListed settings one sent → length sent.frame ≤ snap_len
  is_held (ArpReply to arp) sent fits is =
      subst (λ (s : Sent). length s.frame ≤ snap_len) (sym is) (arp_held settings.hardware to arp six fits.0 fits.1)
  is_held (ArpRequest to arp) sent fits is =
      subst (λ (s : Sent). length s.frame ≤ snap_len) (sym is) (arp_held settings.hardware to arp six fits.0 fits.1)
  is_held (Dhcp message) sent fits is =
      subst (λ (s : Sent). length s.frame ≤ snap_len) (sym is.1)
      (datagram_held settings.hardware message.hop (datagram_for settings message.transmission) is.0 six fits.hop fits.source
      fits.destination fits.payload is.2)
  is_held (Dns ask) sent fits is =
      subst (λ (s : Sent). length s.frame ≤ snap_len) (sym is.1)
      (datagram_held settings.hardware ask.hop (query_datagram ask.ask) is.0 six fits.0 fits.1.source fits.1.destination
      fits.1.payload is.2)

  are_held : (listed : List Listed) (sent : List Sent) → AllByRecursion FitsFrame listed → AreListed settings listed sent → AreHeld sent
  are_held [] [] fit are = tt
  are_held [] (sent ∷ more) fit are = absurd are
  are_held (one ∷ others) [] fit are = absurd are
  are_held (one ∷ others) (sent ∷ more) fit are = (is_held one sent fit.0 are.0, are_held others more fit.1 are.1)

  pub rows_held : AreSettingsWritable settings.client settings.ip_mtu → (words : List ℕ) (before : List Entry) (events : List Event)
      (rows : List Row) → AreRowsFrom settings words before events rows → RowsAreHeld rows
  rows_held writable words before [] [] are = tt
  rows_held writable words before [] (row ∷ rows) are = absurd are
  rows_held writable words before (event ∷ events) [] are = absurd are
  rows_held writable words before (event ∷ events) (row ∷ rows) are =
      let entry : Entry = entry_at settings words before event in (
        are_held (frames_of settings before event entry.words) row.sent
            (frames_fit settings six writable before event entry.words) are.0.sent,
        rows_held writable words (entry ∷ before) events rows are.1,
      )
