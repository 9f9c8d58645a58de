-- The part of a frame that an IP packet carries.
use Rattle.std.specs.Prelude.{ℕ, List, drop}
use Rattle.ether_link.specs.Form.{header_len, no_map}
use Rattle.ether_ip.specs.Icmpv4.{icmpv4_form, icmpv4_header}
use Rattle.ether_ip.specs.Icmpv6.{icmpv6_form, icmpv6_header}
use Rattle.ether_ip.specs.Udp.{udp_form, udp_header}
use Rattle.ether_ip.specs.Tcp.{tcp_slice_form, tcp_header}
use Rattle.ether_ip.specs.declared.transport.TransportHeader as header
use Rattle.ether_ip.specs.declared.transport.TransportSlice as part

-- the header and all that is behind it
abbrev pub bytes_of_transport : part.TransportSlice → List ℕ
bytes_of_transport (part.TheVariants.Icmpv4 bytes) = bytes
bytes_of_transport (part.TheVariants.Icmpv6 bytes) = bytes
bytes_of_transport (part.TheVariants.Udp bytes) = bytes
bytes_of_transport (part.TheVariants.Tcp bytes) = bytes

-- what is behind the header
abbrev pub payload_of_transport : part.TransportSlice → List ℕ
payload_of_transport (part.TheVariants.Icmpv4 bytes) = drop (header_len (icmpv4_form no_map) bytes) bytes
payload_of_transport (part.TheVariants.Icmpv6 bytes) = drop (header_len (icmpv6_form no_map) bytes) bytes
payload_of_transport (part.TheVariants.Udp bytes) = drop (header_len (udp_form no_map) bytes) bytes
payload_of_transport (part.TheVariants.Tcp bytes) = drop (header_len tcp_slice_form bytes) bytes

-- the fields of the header
abbrev pub header_of_transport : part.TransportSlice → header.TransportHeader
header_of_transport (part.TheVariants.Icmpv4 bytes) = header.TheVariants.Icmpv4 (icmpv4_header bytes)
header_of_transport (part.TheVariants.Icmpv6 bytes) = header.TheVariants.Icmpv6 (icmpv6_header bytes)
header_of_transport (part.TheVariants.Udp bytes) = header.TheVariants.Udp (udp_header bytes)
header_of_transport (part.TheVariants.Tcp bytes) = header.TheVariants.Tcp (tcp_header bytes)
