-- How the extension headers of an IP packet follow one another (RFC 4302, section 3.1; RFC 8200, sections 4
-- and 4.1).
use Rattle.std.specs.Prelude.{ℕ, ◌==◌, Bool, ◌||◌, if◌then◌else◌, List, slice_index, Option, Some, None}
use Rattle.ether_link.specs.Form.{Form, never_refused, nothing_more, never_alone}
use Rattle.ether_link.specs.Layout.{Grammar}
use Rattle.ether_link.specs.Places.{layer_of_kind}
use Rattle.ether_link.specs.declared.len_source.LenSource.TheVariants.{Slice}
use Rattle.ether_link.specs.declared.err.length.LenError.{LenError}
use Rattle.ether_link.specs.declared.layout.Turn.{Turn}
use Rattle.ether_link.specs.declared.layout.PartKind.{PartKind}
use Rattle.ether_link.specs.declared.layout.PartKind.TheVariants.{HopByHop, LateHopByHop, Route, Fragment, DestinationOptions, Ipv4Auth, Ipv6Auth}
use Rattle.ether_ip.specs.Auth.{auth_form}
use Rattle.ether_ip.specs.Fragment.{fragment_form, is_ipv6_fragment}
use Rattle.ether_ip.specs.Numbers.{hop_by_hop, ipv6_route, ipv6_fragment, authentication, destination_options}
use Rattle.ether_ip.specs.RawExt.{raw_ext_form}
use Rattle.ether_ip.specs.declared.err.ip_auth.HeaderError as auth
use Rattle.ether_ip.specs.declared.err.ipv6_exts.HeaderError as extension

-- the errors of extension headers
pub record ExtensionErrors (E : Type 0) : Type 0 where
  pub wrong_len : LenError → E
  pub behind_ipv4 : auth.HeaderError → E
  pub behind_ipv6 : extension.HeaderError → E

-- hop-by-hop options anywhere but right behind the IPv6 header
abbrev pub late_form : {E : Type 0} → (LenError → E) → E → Form E
late_form wrong_len why = record {
  least = 0;
  layer = layer_of_kind LateHopByHop;
  early = λ head. Some why;
  more = nothing_more;
  whole = λ head. layer_of_kind LateHopByHop;
  source = Slice;
  late = never_refused;
  alone = never_alone;
  wrong_len = wrong_len;
}

-- how each extension header is read; no other kind is named in a chain
abbrev pub extension_form_of : {E : Type 0} → ExtensionErrors E → PartKind → Form E
extension_form_of errors HopByHop = raw_ext_form (layer_of_kind HopByHop) errors.wrong_len
extension_form_of errors Route = raw_ext_form (layer_of_kind Route) errors.wrong_len
extension_form_of errors DestinationOptions = raw_ext_form (layer_of_kind DestinationOptions) errors.wrong_len
extension_form_of errors Fragment = fragment_form errors.wrong_len
extension_form_of errors Ipv4Auth = auth_form errors.wrong_len errors.behind_ipv4
extension_form_of errors Ipv6Auth =
    auth_form errors.wrong_len (λ error. errors.behind_ipv6 (extension.TheVariants.IpAuth error))
extension_form_of errors LateHopByHop =
    late_form errors.wrong_len (errors.behind_ipv6 extension.TheVariants.HopByHopNotAtStart)
extension_form_of errors no_extension =
    late_form errors.wrong_len (errors.behind_ipv6 extension.TheVariants.HopByHopNotAtStart)

-- the extension header that a number names in the chain, and right behind the IPv6 header
abbrev pub extension_kind : ℕ → Option PartKind
extension_kind number =
    if number == hop_by_hop then Some LateHopByHop
    else (if number == ipv6_route then Some Route
    else (if number == ipv6_fragment then Some Fragment
    else (if number == destination_options then Some DestinationOptions
    else (if number == authentication then Some Ipv6Auth else None))))

abbrev pub first_extension_kind : ℕ → Option PartKind
first_extension_kind number = if number == hop_by_hop then Some HopByHop else extension_kind number

-- the turn of a part, if one is named
abbrev pub turn_to : ℕ → Bool → Option PartKind → Option Turn
turn_to held fragmented None = None
turn_to held fragmented (Some kind) = Some (record { kind = kind; link_exts = held; fragmented = fragmented })

-- what the packet carries is a fragment, as far as an extension header says
abbrev pub fragmented_behind : PartKind → Bool → List ℕ → Bool
fragmented_behind Fragment before header = before || is_ipv6_fragment header
fragmented_behind kind before header = before

-- the extension header that a number names behind one; behind an IPv4 header there is one at most
abbrev pub kind_behind : PartKind → ℕ → Option PartKind
kind_behind Ipv4Auth number = None
kind_behind kind number = extension_kind number

-- the extension headers alone
abbrev pub extension_grammar : {E : Type 0} → ExtensionErrors E → Grammar E
extension_grammar errors = record {
  form_of = extension_form_of errors;
  announced = λ kind header. None;
  next = λ turn header.
      turn_to turn.link_exts (fragmented_behind turn.kind turn.fragmented header)
      (kind_behind turn.kind (slice_index header 0));
}
