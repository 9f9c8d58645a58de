-- What a row says of the parts of a frame, and of the headers of IPsec in it.
use Rattle.std.specs.Prelude.{ℕ, ◌-◌, ◌==◌, nat_lt, if◌then◌else◌, List, [], ◌∷◌, ◌++◌, length, map, slice_index, Option, Some, None, option_and_then}
use Rattle.ether_link.specs.declared.layout.Place.{Place}
use Rattle.ether_ip.specs.declared.ip.exts.Ipv6ExtensionSlice.TheVariants as extension
use Rattle.ether_ip.specs.declared.transport.TransportSlice.TheVariants as transport
use Rattle.ether_lax.specs.Nets.{IpPayloadPart, NetPart, payload_of_net}
use Rattle.ether_lax.specs.Parts.{part_at}
use Rattle.ether_lax.specs.declared.step.Part as packet
use Rattle.ipsec_wire.specs.Ah as ah
use Rattle.ipsec_wire.specs.Esp as esp_header
use Rattle.capture_explain.specs.declared.parts.PartKind.{PartKind}
use Rattle.capture_explain.specs.declared.parts.PartKind.TheVariants as kind
use Rattle.capture_explain.specs.declared.parts.Part.{Part}
use Rattle.capture_explain.specs.declared.parts.AhPart.{AhPart}
use Rattle.capture_explain.specs.declared.parts.EspPart.{EspPart}

-- the kind of a part; a cooked packet, which no frame holds, would stand in the frame's own place
abbrev pub kind_of : packet.Part → PartKind
kind_of (packet.TheVariants.Ethernet2 bytes) = kind.Ethernet
kind_of (packet.TheVariants.LinuxSll bytes) = kind.Ethernet
kind_of (packet.TheVariants.Vlan bytes) = kind.Vlan
kind_of (packet.TheVariants.Macsec header) = kind.Macsec
kind_of (packet.TheVariants.Arp bytes) = kind.Arp
kind_of (packet.TheVariants.Ipv4 header) = kind.Ipv4
kind_of (packet.TheVariants.Ipv6 header) = kind.Ipv6
kind_of (packet.TheVariants.Extension (extension.HopByHop header)) = kind.HopByHop
kind_of (packet.TheVariants.Extension (extension.Routing header)) = kind.Route
kind_of (packet.TheVariants.Extension (extension.Fragment header)) = kind.Frag
kind_of (packet.TheVariants.Extension (extension.DestinationOptions header)) = kind.DestOptions
kind_of (packet.TheVariants.Extension (extension.Authentication header)) = kind.Auth
kind_of (packet.TheVariants.Transport (transport.Udp bytes)) = kind.Udp
kind_of (packet.TheVariants.Transport (transport.Tcp bytes)) = kind.Tcp
kind_of (packet.TheVariants.Transport (transport.Icmpv4 bytes)) = kind.Icmpv4
kind_of (packet.TheVariants.Transport (transport.Icmpv6 bytes)) = kind.Icmpv6

-- a part where it lies
abbrev pub part_with : Place → packet.Part → Part
part_with place part =
    record { kind = kind_of part; header = place.start; window = place.body; end = place.end }

-- the parts at the places of a layout
abbrev pub parts_at : List ℕ → List Place → List Part
parts_at frame places = map (λ place. part_with place (part_at frame place)) places

-- the values of the bytes of an authentication header, whose check value is what stands behind twelve bytes
abbrev pub ah_part : List ℕ → AhPart
ah_part header = record {
  next = slice_index header 0;
  spi = (ah.header_of header).security_parameters_index;
  sequence = (ah.header_of header).sequence_number;
  icv_len = length header - 12;
}

-- the authentication header that a part is, if it is one
abbrev pub ah_in : packet.Part → List AhPart
ah_in (packet.TheVariants.Extension (extension.Authentication header)) = ah_part header ∷ []
ah_in other = []

-- those at the places of a layout
abbrev pub ah_at : List ℕ → List Place → List AhPart
ah_at frame [] = []
ah_at frame (place ∷ places) = ah_in (part_at frame place) ++ ah_at frame places

-- the values of the header that an encapsulating security payload begins with
abbrev pub esp_part : List ℕ → EspPart
esp_part bytes = record {
  spi = (esp_header.header_of bytes).security_parameters_index;
  sequence = (esp_header.header_of bytes).sequence_number;
}

-- the payload of an IP packet as one: no fragment, of the number of such payloads, with room for its header
abbrev pub esp_in : IpPayloadPart → Option EspPart
esp_in payload =
    if payload.fragmented then None
    else if payload.number.0 == 50 then (if nat_lt (length payload.bytes) 8 then None else Some (esp_part payload.bytes))
    else None

-- the one that an IP packet carries where nothing stopped its dissection
abbrev pub esp_by : {T : Type 0} → Option T → Option NetPart → Option EspPart
esp_by (Some stop) net = None
esp_by None net = option_and_then esp_in (option_and_then payload_of_net net)
