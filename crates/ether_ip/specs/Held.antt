-- Extension headers in their places: one for hop-by-hop options, one for routing, one for a fragment header,
-- one for authentication, and one for destination options on each side of the routing header (RFC 8200,
-- section 4.1).
use Rattle.std.specs.Prelude.{ℕ, Bool, true, false, is_some, if◌then◌else◌, List, [], ◌∷◌, Option, Some, None, option_map}
use Rattle.ether_link.specs.Places.{header_at}
use Rattle.ether_link.specs.declared.layout.Place.{Place}
use Rattle.ether_link.specs.declared.layout.Stop.{Stop}
use Rattle.ether_link.specs.declared.layout.PartKind.{PartKind}
use Rattle.ether_link.specs.declared.layout.PartKind.TheVariants as kind
use Rattle.ether_ip.specs.Auth.{auth_header}
use Rattle.ether_ip.specs.Extensions.{extension_slice}
use Rattle.ether_ip.specs.Fragment.{fragment_header}
use Rattle.ether_ip.specs.RawExt.{raw_ext_header}
use Rattle.ether_ip.specs.declared.ip.ext_places.ExtensionPlaces.{ExtensionPlaces}
use Rattle.ether_ip.specs.declared.ip.exts.Ipv6Extensions.{Ipv6Extensions}
use Rattle.ether_ip.specs.declared.ip.exts.Ipv6RoutingExtensions.{Ipv6RoutingExtensions}
use Rattle.ether_ip.specs.declared.ip.exts.Ipv6ExtensionSlice.{Ipv6ExtensionSlice}
use Rattle.ether_ip.specs.declared.ip.exts.Ipv6ExtensionSlice.TheVariants.{HopByHop, Routing, Fragment, DestinationOptions, Authentication}

-- no header
abbrev pub no_extensions : ExtensionPlaces
no_extensions = record {
  hop_by_hop_options = None;
  destination_options = None;
  routing = None;
  final_destination_options = None;
  fragment = None;
  auth = None;
}

-- the place of a kind is taken
abbrev pub is_taken : PartKind → ExtensionPlaces → Bool
is_taken kind.HopByHop held = is_some held.hop_by_hop_options
is_taken kind.Route held = is_some held.routing
is_taken kind.DestinationOptions held =
    if is_some held.routing then is_some held.final_destination_options else is_some held.destination_options
is_taken kind.Fragment held = is_some held.fragment
is_taken kind.Ipv4Auth held = is_some held.auth
is_taken kind.Ipv6Auth held = is_some held.auth
is_taken other held = false

-- a header in its place
abbrev pub with_extension : Ipv6ExtensionSlice → ExtensionPlaces → ExtensionPlaces
with_extension (HopByHop header) held = record held { hop_by_hop_options = Some header }
with_extension (Routing header) held = record held { routing = Some header }
with_extension (DestinationOptions header) held =
    if is_some held.routing
    then record held { final_destination_options = Some header }
    else record held { destination_options = Some header }
with_extension (Fragment header) held = record held { fragment = Some header }
with_extension (Authentication header) held = record held { auth = Some header }

-- the kinds of extension headers
abbrev pub is_extension : PartKind → Bool
is_extension kind.HopByHop = true
is_extension kind.LateHopByHop = true
is_extension kind.Route = true
is_extension kind.DestinationOptions = true
is_extension kind.Fragment = true
is_extension kind.Ipv4Auth = true
is_extension kind.Ipv6Auth = true
is_extension other = false

-- a header of a kind in its place, if it is an extension header
abbrev pub with_header : PartKind → List ℕ → ExtensionPlaces → ExtensionPlaces
with_header part header held =
    if is_extension part then with_extension (extension_slice part header) held else held

-- the fields of a routing header and of the destination options behind it
abbrev pub routing_of : Option (List ℕ) → Option (List ℕ) → Option Ipv6RoutingExtensions
routing_of None options = None
routing_of (Some routing) options =
    Some (record {
      routing = raw_ext_header routing;
      final_destination_options = option_map raw_ext_header options;
    })

-- the fields of the headers
abbrev pub extensions_of : ExtensionPlaces → Ipv6Extensions
extensions_of held = record {
  hop_by_hop_options = option_map raw_ext_header held.hop_by_hop_options;
  destination_options = option_map raw_ext_header held.destination_options;
  routing = routing_of held.routing held.final_destination_options;
  fragment = option_map fragment_header held.fragment;
  auth = option_map auth_header held.auth;
}

-- the headers of some places, each in its own
abbrev pub held_by : List ℕ → ExtensionPlaces → List Place → ExtensionPlaces
held_by bytes held [] = held
held_by bytes held (place ∷ more) = held_by bytes (with_header place.kind (header_at bytes place) held) more

-- the places before the first header whose own is taken
abbrev pub free_places : List ℕ → ExtensionPlaces → List Place → List Place
free_places bytes held [] = []
free_places bytes held (place ∷ more) =
    if is_taken place.kind held then []
    else (place ∷ free_places bytes (with_header place.kind (header_at bytes place) held) more)

-- the refused header, unless its place is taken
abbrev pub unless_taken : {E : Type 0} → ExtensionPlaces → Option (Stop E) → Option (Stop E)
unless_taken held None = None
unless_taken held (Some stop) = if is_taken stop.kind held then None else Some stop

-- the refused header, unless a header before it has its place taken
abbrev pub free_stop : {E : Type 0} → List ℕ → ExtensionPlaces → List Place → Option (Stop E)
    → Option (Stop E)
free_stop bytes held [] stop = unless_taken held stop
free_stop bytes held (place ∷ more) stop =
    if is_taken place.kind held then None
    else free_stop bytes (with_header place.kind (header_at bytes place) held) more stop
