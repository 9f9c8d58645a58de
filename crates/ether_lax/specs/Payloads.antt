-- What a packet carries behind its last header, as a value.
use Rattle.std.specs.Prelude.{ℕ, Bool, false, List, [], drop, Option, Some, None}
use Rattle.wire_base.specs.Bytes.{be16_at}
use Rattle.ether_link.specs.declared.len_source.LenSource.{LenSource}
use Rattle.ether_link.specs.declared.len_source.LenSource.TheVariants.{Slice}
use Rattle.ether_link.specs.declared.link.linux_sll.LinuxSllProtocolType.{LinuxSllProtocolType}
use Rattle.ether_link.specs.declared.link.linux_sll.LinuxSllProtocolType.TheVariants as protocol
use Rattle.ether_ip.specs.Transport.{payload_of_transport}
use Rattle.ether_ip.specs.declared.transport.TransportSlice.{TransportSlice}
use Rattle.ether_ip.specs.declared.transport.TransportSlice.TheVariants as part
use Rattle.ether_lax.specs.LinkExts.{EtherPart, ether_in, LinkExtPart, TagPart, SecuredPart, ModifiedPart}
use Rattle.ether_lax.specs.Nets.{IpPayloadPart, payload_of_ip}
use Rattle.ether_lax.specs.declared.payload.LaxPayloadSlice as payload

pub data Carried : Type 0 where
  Nothing : Carried
  OfLink : EtherPart → Carried
  OfModified : List ℕ → Bool → Carried
  OfIp : IpPayloadPart → Carried
  OfUdp : List ℕ → Bool → Carried
  OfTcp : List ℕ → Bool → Carried
  OfIcmpv4 : List ℕ → Bool → Carried
  OfIcmpv6 : List ℕ → Bool → Carried
  OfCooked : LinuxSllProtocolType → List ℕ → Carried

-- what a caller holds of it
abbrev pub carried_in : payload.LaxPayloadSlice → Carried
carried_in payload.TheVariants.Empty = Nothing
carried_in (payload.TheVariants.Ether ether) = OfLink (ether_in ether)
carried_in (payload.TheVariants.MacsecModified bytes incomplete) = OfModified bytes.now incomplete
carried_in (payload.TheVariants.Ip ip) = OfIp (payload_of_ip ip)
carried_in (payload.TheVariants.Udp bytes incomplete) = OfUdp bytes.now incomplete
carried_in (payload.TheVariants.Tcp bytes incomplete) = OfTcp bytes.now incomplete
carried_in (payload.TheVariants.Icmpv4 bytes incomplete) = OfIcmpv4 bytes.now incomplete
carried_in (payload.TheVariants.Icmpv6 bytes incomplete) = OfIcmpv6 bytes.now incomplete
carried_in (payload.TheVariants.LinuxSll cooked) = OfCooked cooked.protocol_type cooked.payload.now

-- its bytes
abbrev pub bytes_of_carried : Carried → List ℕ
bytes_of_carried Nothing = []
bytes_of_carried (OfLink ether) = ether.bytes
bytes_of_carried (OfModified bytes incomplete) = bytes
bytes_of_carried (OfIp ip) = ip.bytes
bytes_of_carried (OfUdp bytes incomplete) = bytes
bytes_of_carried (OfTcp bytes incomplete) = bytes
bytes_of_carried (OfIcmpv4 bytes incomplete) = bytes
bytes_of_carried (OfIcmpv6 bytes incomplete) = bytes
bytes_of_carried (OfCooked protocol bytes) = bytes

-- what a link extension carries, in a window whose length is from a source
abbrev pub carried_by : LenSource → LinkExtPart → Carried
carried_by source (TagPart bytes) = OfLink (record {
  incomplete = false;
  ether_type = record { 0 = be16_at bytes 2 };
  source = source;
  bytes = drop 4 bytes;
})
carried_by source (SecuredPart header payload) = OfLink (record payload { source = source })
carried_by source (ModifiedPart header incomplete bytes) = OfModified bytes incomplete

-- what a cooked packet carries: a payload that an ether type names, or one of its protocol
abbrev pub carried_by_cooked : LinuxSllProtocolType → List ℕ → Carried
carried_by_cooked (protocol.EtherType ether_type) packet =
    OfLink (record { incomplete = false; ether_type = ether_type; source = Slice; bytes = drop 16 packet })
carried_by_cooked other packet = OfCooked other (drop 16 packet)

-- what a part of the transport layer carries, in an IP packet that lacks bytes or not
abbrev pub carried_in_transport : TransportSlice → Bool → Carried
carried_in_transport (part.Udp bytes) incomplete = OfUdp (payload_of_transport (part.Udp bytes)) incomplete
carried_in_transport (part.Tcp bytes) incomplete = OfTcp (payload_of_transport (part.Tcp bytes)) incomplete
carried_in_transport (part.Icmpv4 bytes) incomplete =
    OfIcmpv4 (payload_of_transport (part.Icmpv4 bytes)) incomplete
carried_in_transport (part.Icmpv6 bytes) incomplete =
    OfIcmpv6 (payload_of_transport (part.Icmpv6 bytes)) incomplete
