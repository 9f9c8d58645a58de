-- The frame that carries a datagram is cut into it.
use Rattle.std.proofs.Common.{◌≡◌, ℕ, lit<, ◌+◌, ◌^◌, ◌<◌, List, ◌++◌, length, refl, sym, ap, ◌∙◌, subst, arith}
use Rattle.std.specs.Int.{to_be_bytes, w16}
use Rattle.std.proofs.lemmas.List.{append_assoc}
use Rattle.net_wire.specs.Datagram.{Datagram, ethernet_bytes, ipv4_bytes, udp_bytes}
use Rattle.net_wire.specs.declared.address.EthernetAddress.{EthernetAddress}
use Rattle.ether_link.proofs.LayoutLemmas.{one}
use Rattle.ether_link.specs.LinkGrammar.{link_turn}
use Rattle.ether_link.specs.declared.layout.PartKind.TheVariants.{Ethernet2}
use Rattle.ether_link.specs.Ethernet2.{ethernet2_header}
use Rattle.ether_ip.specs.Ipv4.{ipv4_header}
use Rattle.ether_ip.specs.Udp.{udp_header}
use Rattle.ether_ip.specs.PacketGrammar.{packet_grammar}
use Rattle.frame_laws.specs.SentParts.{CanBeSent, datagram_places, IsCutIntoDatagram, AreCutAsSent}
use Rattle.frame_laws.proofs.HeaderLemmas.{EthernetFacts, ethernet_facts, Ipv4Facts, ipv4_facts, four_bytes, udp_len, udp_says, udp_read}
use Rattle.frame_laws.proofs.DatagramLemmas.{AreHeaders, layout, ethernet_at, ip_at, udp_at, payload_window}

as_ethernet : (to from : EthernetAddress) → ethernet_bytes to from 0x0800 ≡ to.0 ++ from.0 ++ to_be_bytes w16 0x0800
unfolding ethernet_bytes
as_ethernet to from = refl

as_ipv4 : (datagram : Datagram) (len hop_limit checksum : ℕ)
    → ipv4_bytes datagram.source datagram.destination 17 len hop_limit checksum
    ≡ four_bytes datagram.source.0 datagram.destination.0 (len + 20) hop_limit checksum
unfolding ipv4_bytes
as_ipv4 datagram len hop_limit checksum = refl

module _ (from to : EthernetAddress) (hop_limit : ℕ) (datagram : Datagram) (fits : CanBeSent from to datagram)
    (ip_checksum udp_checksum : ℕ) (ip_word : ip_checksum < 2 ^ 16) (udp_word : udp_checksum < 2 ^ 16) where
  abbrev payload : List ℕ
  payload = datagram.payload

  abbrev ethernet : List ℕ
  ethernet = to.0 ++ from.0 ++ to_be_bytes w16 0x0800

  abbrev ip : List ℕ
  ip = four_bytes datagram.source.0 datagram.destination.0 (length datagram.payload + 28) hop_limit ip_checksum

  abbrev udp : List ℕ
  udp = udp_bytes datagram.source_port datagram.destination_port (length datagram.payload + 8) udp_checksum

  first : EthernetFacts to.0 from.0 0x0800
  first = ethernet_facts 0x0800 (lit< tt) to.0 from.0 fits.stations.1 fits.stations.0

  second : Ipv4Facts datagram.source.0 datagram.destination.0 (length datagram.payload + 28) hop_limit ip_checksum
  second = ipv4_facts (length datagram.payload + 28) hop_limit ip_checksum (omega (arith, fits.payload)) ip_word
      datagram.source.0 datagram.destination.0 fits.hosts.0 fits.hosts.1

  datagram_fits : length datagram.payload + 8 < 2 ^ 16
  datagram_fits = omega (arith, fits.payload)

  headers : AreHeaders ethernet ip udp payload
  headers = record {
    ethernet_len = first.len;
    ip_len = second.len;
    udp_len = udp_len datagram.source_port datagram.destination_port (length datagram.payload + 8) udp_checksum fits.ports.0 fits.ports.1 datagram_fits udp_word;
    ether_type = first.ether_type;
    version = second.version;
    total_len = second.total_len;
    whole = second.whole;
    protocol = second.protocol;
    datagram_len = udp_says datagram.source_port datagram.destination_port (length datagram.payload + 8) udp_checksum fits.ports.0 fits.ports.1 datagram_fits udp_word;
  }

  -- of the frame in this form
  cut : IsCutIntoDatagram from to hop_limit datagram (ethernet ++ (ip ++ (udp ++ payload)))
  cut = record {
    layout = layout ethernet ip udp payload headers;
    only = λ places stop right. one packet_grammar (ethernet ++ (ip ++ (udp ++ payload))) (link_turn Ethernet2 0) 0
        (length (ethernet ++ (ip ++ (udp ++ payload)))) places (datagram_places (length (ethernet ++ (ip ++ (udp ++ payload))))) stop _ right
        (layout ethernet ip udp payload headers);
    ethernet = ap ethernet2_header (ethernet_at ethernet ip udp payload headers) ∙ first.fields;
    ipv4_checksum = ip_checksum;
    ipv4 = ap ipv4_header (ip_at ethernet ip udp payload headers) ∙ second.fields;
    udp_checksum = udp_checksum;
    udp = ap udp_header (udp_at ethernet ip udp payload headers)
        ∙ udp_read datagram.source_port datagram.destination_port (length datagram.payload + 8) udp_checksum fits.ports.0 fits.ports.1 datagram_fits udp_word;
    payload = payload_window ethernet ip udp payload headers;
  }

pub cut_as_sent : AreCutAsSent
cut_as_sent from to hop_limit datagram frame fits sent =
    let len = length datagram.payload + 8 in
    let total : length datagram.payload + 8 + 20 ≡ length datagram.payload + 28 = omega arith in
    let is_ip : sent.header ≡ four_bytes datagram.source.0 datagram.destination.0 (length datagram.payload + 28) hop_limit sent.ipv4.checksum
    = sent.ipv4.bytes ∙ as_ipv4 datagram len hop_limit sent.ipv4.checksum
    ∙ ap (λ n. four_bytes datagram.source.0 datagram.destination.0 n hop_limit sent.ipv4.checksum) total in
    let behind = udp_bytes datagram.source_port datagram.destination_port (length datagram.payload + 8) sent.udp_checksum in
    let ethernet = to.0 ++ from.0 ++ to_be_bytes w16 0x0800 in
    let ip = four_bytes datagram.source.0 datagram.destination.0 (length datagram.payload + 28) hop_limit sent.ipv4.checksum in
    let by_parts : frame ≡ ethernet ++ ip ++ behind ++ datagram.payload
    = sent.bytes ∙ ap (λ e. e ++ sent.header ++ behind ++ datagram.payload) (as_ethernet to from)
    ∙ ap (λ i. ethernet ++ i ++ behind ++ datagram.payload) is_ip in
    let is : frame ≡ ethernet ++ (ip ++ (behind ++ datagram.payload))
    = by_parts ∙ append_assoc (ethernet ++ ip) behind datagram.payload ∙ append_assoc ethernet ip (behind ++ datagram.payload) in
    let P : List ℕ → Type 0 = λ bytes. IsCutIntoDatagram from to hop_limit datagram bytes in
    subst P (sym is) (cut from to hop_limit datagram fits sent.ipv4.checksum sent.udp_checksum (omega (arith, sent.ipv4.within)) (omega (arith, sent.within)))
