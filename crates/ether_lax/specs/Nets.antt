-- The part of the network layer, as a value (RFC 791; RFC 8200; RFC 826).
use Rattle.std.specs.Prelude.{ℕ, ◌==◌, Bool, if◌then◌else◌, List, slice_index, slice_range, Option, Some, None}
use Rattle.ether_link.specs.declared.len_source.LenSource.{LenSource}
use Rattle.ether_link.specs.declared.numbers.IpNumber.{IpNumber}
use Rattle.ether_ip.specs.ChainSlice.{first_header_of, bytes_of_extensions, is_fragmenting}
use Rattle.ether_ip.specs.declared.ip.exts_slice.Ipv6ExtensionsSlice.{Ipv6ExtensionsSlice}
use Rattle.ether_ip.specs.declared.ip.payload.LaxIpPayloadSlice.{LaxIpPayloadSlice}
use Rattle.ether_lax.specs.declared.ipv4.LaxIpv4Slice.{LaxIpv4Slice}
use Rattle.ether_lax.specs.declared.ipv6.LaxIpv6Slice.{LaxIpv6Slice}
use Rattle.ether_lax.specs.declared.ip.LaxIpSlice as ip
use Rattle.ether_lax.specs.declared.net.LaxNetSlice as net

-- the payload of an IP packet: whether bytes are missing, what it holds, whether it is a fragment, where its
-- end is from, and its bytes
pub record IpPayloadPart : Type 0 where
  pub incomplete : Bool
  pub number : IpNumber
  pub fragmented : Bool
  pub source : LenSource
  pub bytes : List ℕ

-- the extension headers behind an IPv6 header: the number of the first, whether the packet carries a
-- fragment, and their bytes
pub record ChainPart : Type 0 where
  pub first : Option IpNumber
  pub fragmented : Bool
  pub bytes : List ℕ

-- an IP packet by its version, with its header, its extension headers and its payload; an ARP packet
pub data NetPart : Type 0 where
  Ipv4Part : List ℕ → Option (List ℕ) → IpPayloadPart → NetPart
  Ipv6Part : List ℕ → ChainPart → IpPayloadPart → NetPart
  ArpPart : List ℕ → NetPart

-- what a caller holds of each
abbrev pub payload_of_ip : LaxIpPayloadSlice → IpPayloadPart
payload_of_ip payload = record {
  incomplete = payload.incomplete;
  number = payload.ip_number;
  fragmented = payload.fragmented;
  source = payload.len_source;
  bytes = payload.payload.now;
}

abbrev pub chain_in : Ipv6ExtensionsSlice → ChainPart
chain_in exts =
    record {
      first = first_header_of exts;
      fragmented = is_fragmenting exts;
      bytes = bytes_of_extensions exts;
    }

abbrev pub ipv4_bytes : LaxIpv4Slice → List ℕ
ipv4_bytes packet = packet.header

abbrev pub ipv4_auth : LaxIpv4Slice → Option (List ℕ)
ipv4_auth packet = packet.exts.auth

abbrev pub ipv4_payload : LaxIpv4Slice → IpPayloadPart
ipv4_payload packet = payload_of_ip packet.payload

abbrev pub ipv6_bytes : LaxIpv6Slice → List ℕ
ipv6_bytes packet = packet.header

abbrev pub ipv6_chain : LaxIpv6Slice → ChainPart
ipv6_chain packet = chain_in packet.exts

abbrev pub ipv6_payload : LaxIpv6Slice → IpPayloadPart
ipv6_payload packet = payload_of_ip packet.payload

abbrev pub ipv4_in : LaxIpv4Slice → NetPart
ipv4_in packet = Ipv4Part (ipv4_bytes packet) (ipv4_auth packet) (ipv4_payload packet)

abbrev pub ipv6_in : LaxIpv6Slice → NetPart
ipv6_in packet = Ipv6Part (ipv6_bytes packet) (ipv6_chain packet) (ipv6_payload packet)

abbrev pub ip_in : ip.LaxIpSlice → NetPart
ip_in (ip.TheVariants.Ipv4 packet) = ipv4_in packet
ip_in (ip.TheVariants.Ipv6 packet) = ipv6_in packet

abbrev pub net_in : net.LaxNetSlice → NetPart
net_in (net.TheVariants.Ipv4 packet) = ipv4_in packet
net_in (net.TheVariants.Ipv6 packet) = ipv6_in packet
net_in (net.TheVariants.Arp packet) = ArpPart packet

-- the payload of an IP packet
abbrev pub payload_of_net : NetPart → Option IpPayloadPart
payload_of_net (Ipv4Part header auth payload) = Some payload
payload_of_net (Ipv6Part header chain payload) = Some payload
payload_of_net (ArpPart packet) = None

abbrev pub ip_payload_in : ip.LaxIpSlice → IpPayloadPart
ip_payload_in (ip.TheVariants.Ipv4 packet) = ipv4_payload packet
ip_payload_in (ip.TheVariants.Ipv6 packet) = ipv6_payload packet
