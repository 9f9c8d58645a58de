-- An IP packet by itself, as the part of the one layout that its header begins.
use Rattle.std.specs.Prelude.{◌≡◌, ℕ, List, length, Option, Some, None}
use Rattle.ether_link.specs.Layout.{IsLayoutFrom}
use Rattle.ether_link.specs.declared.err.layers.Layer.{Layer}
use Rattle.ether_link.specs.declared.err.layers.Layer.TheVariants.{IpAuthHeader}
use Rattle.ether_link.specs.declared.layout.PartKind.TheVariants.{Ip}
use Rattle.ether_link.specs.declared.layout.Place.{Place}
use Rattle.ether_link.specs.declared.layout.Stop.{Stop}
use Rattle.ether_ip.specs.PacketGrammar.{packet_grammar}
use Rattle.ether_ip.specs.declared.err.ip_auth.HeaderSliceError as auth
use Rattle.ether_ip.specs.declared.err.ipv6_exts.HeaderError.TheVariants.{IpAuth, HopByHopNotAtStart}
use Rattle.ether_ip.specs.declared.err.ipv6_exts.HeaderSliceError.{HeaderSliceError}
use Rattle.ether_ip.specs.declared.err.ipv6_exts.HeaderSliceError.TheVariants.{Len, Content}
use Rattle.ether_ip.specs.declared.err.packet.SliceError.{SliceError}
use Rattle.ether_lax.specs.Found.{Parts, parts_of}
use Rattle.ether_lax.specs.Nets.{ip_in}
use Rattle.ether_lax.specs.Sliced.{net_of}
use Rattle.ether_lax.specs.Steps.{begins_with}
use Rattle.ether_lax.specs.Stops.{source_of_ip, ip_stop}
use Rattle.ether_lax.specs.declared.ip.LaxIpSlice.{LaxIpSlice}

-- the part of the network layer of the bytes' layout, and what stopped among its headers
pub record IsIpPacket (bytes : List ℕ) (packet : LaxIpSlice) (stop : Option (HeaderSliceError × Layer))
    : Type 0 where
  pub places : List Place
  pub last : Option (Stop SliceError)
  pub layout : IsLayoutFrom packet_grammar bytes (begins_with Ip) 0 (length bytes) places last
  pub part : net_of bytes (parts_of bytes places) ≡ Some (ip_in packet)
  pub stopped : stop ≡ ip_stop (source_of_ip (parts_of bytes places).ip) last

-- the refusal of the authentication header behind an IPv4 header, as one of an extension header
abbrev pub chain_stop : Option auth.HeaderSliceError → Option (HeaderSliceError × Layer)
chain_stop None = None
chain_stop (Some (auth.TheVariants.Len error)) = Some (Len error, IpAuthHeader)
chain_stop (Some (auth.TheVariants.Content error)) = Some (Content (IpAuth error), IpAuthHeader)

-- it is one of those
abbrev pub IsAuthStop : Option (HeaderSliceError × Layer) → Type 0
IsAuthStop None = Unit {0}
IsAuthStop (Some (Len error, layer)) = layer ≡ IpAuthHeader
IsAuthStop (Some (Content (IpAuth error), layer)) = layer ≡ IpAuthHeader
IsAuthStop (Some (Content HopByHopNotAtStart, layer)) = ⊥
