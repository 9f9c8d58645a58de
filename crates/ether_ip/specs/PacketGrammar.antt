-- How the parts of a packet follow one another (RFC 791, section 3.1; RFC 8200, sections 3 and 4; RFC 4302,
-- section 3.1; IANA, "Assigned Internet Protocol Numbers").
use Rattle.std.specs.Prelude.{ℕ, ◌==◌, Bool, true, false, if◌then◌else◌, List, slice_index, Option, Some, None}
use Rattle.ether_link.specs.Form.{Form, or_else}
use Rattle.ether_link.specs.Layout.{Grammar}
use Rattle.ether_link.specs.LinkGrammar.{LinkErrors, link_grammar}
use Rattle.ether_link.specs.declared.layout.Turn.{Turn}
use Rattle.ether_link.specs.declared.layout.PartKind.{PartKind}
use Rattle.ether_link.specs.declared.layout.PartKind.TheVariants as kind
use Rattle.ether_ip.specs.Numbers.{icmp, tcp, udp, icmpv6}
use Rattle.ether_ip.specs.Ip.{ip_form}
use Rattle.ether_ip.specs.Icmpv4.{icmpv4_form}
use Rattle.ether_ip.specs.Icmpv6.{icmpv6_form}
use Rattle.ether_ip.specs.Tcp.{tcp_form}
use Rattle.ether_ip.specs.Udp.{udp_form, udp_announced}
use Rattle.ether_ip.specs.IpWindow.{ip_announced}
use Rattle.ether_ip.specs.IpHeaders.{number_in, extension_in, is_fragment_in}
use Rattle.ether_ip.specs.ExtensionGrammar.{ExtensionErrors, extension_form_of, turn_to, fragmented_behind, kind_behind}
use Rattle.ether_ip.specs.declared.err.packet.SliceError.{SliceError}
use Rattle.ether_ip.specs.declared.err.packet.SliceError.TheVariants.{Len, LinuxSll, Macsec, Ip, Ipv4Exts, Ipv6Exts, Tcp}

-- the errors of a packet's parts
abbrev pub packet_extension_errors : ExtensionErrors SliceError
packet_extension_errors = record { wrong_len = Len; behind_ipv4 = Ipv4Exts; behind_ipv6 = Ipv6Exts }

abbrev pub packet_link_errors : LinkErrors SliceError
packet_link_errors = record { wrong_len = Len; macsec = Macsec; linux_sll = LinuxSll }

-- how the parts of an IP packet are read
abbrev pub ip_form_of : PartKind → Form SliceError
ip_form_of kind.Ip = ip_form Len Ip
ip_form_of kind.Udp = udp_form Len
ip_form_of kind.Tcp = tcp_form Len Tcp
ip_form_of kind.Icmpv4 = icmpv4_form Len
ip_form_of kind.Icmpv6 = icmpv6_form Len
ip_form_of other = extension_form_of packet_extension_errors other

-- how many bytes a header says that header and payload have
abbrev pub ip_announced_of : PartKind → List ℕ → Option ℕ
ip_announced_of kind.Ip header = ip_announced header
ip_announced_of kind.Udp header = udp_announced header
ip_announced_of other header = None

-- the transport header that a number names
abbrev pub transport_kind : ℕ → Option PartKind
transport_kind number =
    if number == icmp then Some kind.Icmpv4
    else (if number == udp then Some kind.Udp
    else (if number == tcp then Some kind.Tcp
    else (if number == icmpv6 then Some kind.Icmpv6 else None)))

-- the part that a number names: an extension header, or the transport header unless the packet carries a
-- fragment
abbrev pub part_turn : ℕ → Bool → Option PartKind → ℕ → Option Turn
part_turn held fragmented extension number =
    or_else (turn_to held fragmented extension)
    (if fragmented then None else turn_to held false (transport_kind number))

-- the part that a header names
abbrev pub ip_next_of : PartKind → Turn → List ℕ → Option Turn
ip_next_of kind.Ip turn header =
    part_turn turn.link_exts (is_fragment_in header) (extension_in header) (number_in header)
ip_next_of kind.Udp turn header = None
ip_next_of kind.Tcp turn header = None
ip_next_of kind.Icmpv4 turn header = None
ip_next_of kind.Icmpv6 turn header = None
ip_next_of other turn header =
    part_turn turn.link_exts (fragmented_behind other turn.fragmented header)
    (kind_behind other (slice_index header 0)) (slice_index header 0)

-- the parts of an IP packet
abbrev pub ip_grammar : Grammar SliceError
ip_grammar = record {
  form_of = ip_form_of;
  announced = ip_announced_of;
  next = λ turn. ip_next_of turn.kind turn;
}

-- the parts of a packet
abbrev pub packet_grammar : Grammar SliceError
packet_grammar = link_grammar packet_link_errors ip_grammar

-- the kinds that may be read by the end of the bytes
abbrev pub is_icmp : PartKind → Bool
is_icmp kind.Icmpv4 = true
is_icmp kind.Icmpv6 = true
is_icmp other = false
