-- The headers of an IP packet as structs, and what they leave (RFC 791, section 3.1; RFC 8200, sections 3 and
-- 4.1; RFC 4302, section 3.1).
use Rattle.std.specs.Prelude.{◌≡◌, ℕ, ◌==◌, Bool, true, false, if◌then◌else◌, List, length, take, slice_index, slice_range, Option, Some, None, option_map}
use Rattle.ether_link.specs.Form.{header_len}
use Rattle.ether_link.specs.Layout.{window_end}
use Rattle.ether_link.specs.Places.{is_cut_off, layer_of_kind}
use Rattle.ether_link.specs.declared.len_source.LenSource.{LenSource}
use Rattle.ether_link.specs.declared.err.layers.Layer.{Layer}
use Rattle.ether_link.specs.declared.layout.PartKind.{PartKind}
use Rattle.ether_link.specs.declared.layout.PartKind.TheVariants.{Ipv4Auth}
use Rattle.ether_link.specs.declared.layout.Stop.{Stop}
use Rattle.ether_ip.specs.Version.{ip_version}
use Rattle.ether_ip.specs.Ip.{ip_slice_form}
use Rattle.ether_ip.specs.Ipv4.{ipv4_header, is_ipv4_fragment}
use Rattle.ether_ip.specs.Ipv6.{ipv6_header}
use Rattle.ether_ip.specs.IpWindow.{ip_announced, ip_source}
use Rattle.ether_ip.specs.Numbers.{authentication}
use Rattle.ether_ip.specs.ExtensionGrammar.{first_extension_kind}
use Rattle.ether_ip.specs.Auth.{auth_header}
use Rattle.ether_ip.specs.Held.{extensions_of}
use Rattle.ether_ip.specs.HeldWalk.{IsHeldEnd}
use Rattle.ether_ip.specs.declared.err.ip_exts.HeaderError as headers_error
use Rattle.ether_ip.specs.declared.err.ip_exts.HeadersSliceError as headers
use Rattle.ether_ip.specs.declared.err.ipv6_exts.HeaderError as chain_error
use Rattle.ether_ip.specs.declared.err.ipv6_exts.HeaderSliceError as chain
use Rattle.ether_ip.specs.declared.ip.exts.IpHeaders.{IpHeaders}
use Rattle.ether_ip.specs.declared.ip.exts.IpHeaders.TheVariants.{Ipv4, Ipv6}
use Rattle.ether_ip.specs.declared.ip.ext_places.ExtensionPlaces.{ExtensionPlaces}
use Rattle.ether_ip.specs.declared.ip.payload.LaxIpPayloadSlice.{LaxIpPayloadSlice}

-- the IP header of a packet
abbrev pub ip_header : List ℕ → List ℕ
ip_header packet = take (header_len ip_slice_form packet) packet

abbrev pub is_ipv4 : List ℕ → Bool
is_ipv4 header = ip_version header == 4

-- the number of what is behind an IP header, and the extension header that it names
abbrev pub number_in : List ℕ → ℕ
number_in header = if is_ipv4 header then slice_index header 9 else slice_index header 6

abbrev pub extension_in : List ℕ → Option PartKind
extension_in header =
    if is_ipv4 header then (if slice_index header 9 == authentication then Some Ipv4Auth else None)
    else first_extension_kind (slice_index header 6)

-- the header says that the packet carries a fragment
abbrev pub is_fragment_in : List ℕ → Bool
is_fragment_in header = if is_ipv4 header then is_ipv4_fragment header else false

-- the header and its extension headers
abbrev pub headers_with : List ℕ → ExtensionPlaces → IpHeaders
headers_with header held =
    if is_ipv4 header then Ipv4 (ipv4_header header) (record { auth = option_map auth_header held.auth })
    else Ipv6 (ipv6_header header) (extensions_of held)

-- the refusal of an extension header that begins at a place of the packet; the number of bytes that are there
-- is that of the window
abbrev pub refusal_in : Bool → LenSource → ℕ → chain.HeaderSliceError → headers.HeadersSliceError
refusal_in four source start (chain.TheVariants.Len error) =
    headers.TheVariants.Len (record error { len_source = source; layer_start_offset = start })
refusal_in true source start (chain.TheVariants.Content (chain_error.TheVariants.IpAuth error)) =
    headers.TheVariants.Content (headers_error.TheVariants.Ipv4Ext error)
refusal_in four source start (chain.TheVariants.Content error) =
    headers.TheVariants.Content (headers_error.TheVariants.Ipv6Ext error)

-- why and at which layer a reader stopped
abbrev pub IsStopIn : Bool → LenSource → Option (Stop chain.HeaderSliceError)
    → Option (headers.HeadersSliceError × Layer) → Type 0
IsStopIn four source None None = Unit {0}
IsStopIn four source (Some stop) (Some answer) =
    (answer.0 ≡ refusal_in four source stop.start stop.refusal) × (answer.1 ≡ layer_of_kind stop.kind)
IsStopIn four source stop answer = ⊥

-- the headers of a packet, each extension header in its place, and the payload behind them
pub record IsReadOf (packet : List ℕ) (read : IpHeaders) (payload : LaxIpPayloadSlice)
    (stop : Option (headers.HeadersSliceError × Layer)) : Type 0 where
  pub held : ExtensionPlaces
  pub at : ℕ
  pub last : Option (Stop chain.HeaderSliceError)
  pub extensions : IsHeldEnd packet (extension_in (ip_header packet)) (number_in (ip_header packet))
      (is_fragment_in (ip_header packet))
      (length (ip_header packet)) (window_end 0 (length packet) (ip_announced (ip_header packet)))
      held at payload.ip_number.0 payload.fragmented last
  pub headers_are : read ≡ headers_with (ip_header packet) held
  pub payload_is : payload.payload.now
      ≡ slice_range packet at (window_end 0 (length packet) (ip_announced (ip_header packet)))
  pub incomplete : payload.incomplete ≡ is_cut_off 0 (length packet) (ip_announced (ip_header packet))
  pub source : payload.len_source ≡ ip_source (ip_header packet) 0 (length packet)
  pub stopped : IsStopIn (is_ipv4 (ip_header packet)) (ip_source (ip_header packet) 0 (length packet))
      last stop
