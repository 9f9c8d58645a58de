-- The parts of a packet, gathered one after another.
use Rattle.std.specs.Prelude.{ℕ, ◌==◌, Bool, false, if◌then◌else◌, List, [], ◌∷◌, ◌++◌, map, slice_index, slice_range, Option, Some, None, option_map}
use Rattle.ether_link.specs.Places.{header_at}
use Rattle.ether_link.specs.declared.len_source.LenSource.{LenSource}
use Rattle.ether_link.specs.declared.len_source.LenSource.TheVariants.{Slice}
use Rattle.ether_link.specs.declared.layout.Place.{Place}
use Rattle.ether_ip.specs.Extensions.{bytes_of_extension, fragmented_by}
use Rattle.ether_ip.specs.Held.{no_extensions, with_extension}
use Rattle.ether_ip.specs.Ipv4.{is_ipv4_fragment}
use Rattle.ether_ip.specs.declared.ip.ext_places.ExtensionPlaces.{ExtensionPlaces}
use Rattle.ether_ip.specs.declared.ip.exts.Ipv6ExtensionSlice.{Ipv6ExtensionSlice}
use Rattle.ether_ip.specs.declared.transport.TransportSlice.{TransportSlice}
use Rattle.ether_lax.specs.Parts.{part_at, window_at, source_at, is_incomplete}
use Rattle.ether_lax.specs.LinkExts.{LinkExtPart, TagPart, ext_in, macsec_part, source_behind, is_cut}
use Rattle.ether_lax.specs.Payloads.{Carried, carried_in, carried_by}
use Rattle.ether_lax.specs.declared.step.Part.{Part}
use Rattle.ether_lax.specs.declared.step.Part.TheVariants.{Ethernet2, LinuxSll, Vlan, Macsec, Arp, Ipv4, Ipv6, Extension, Transport}
use Rattle.ether_lax.specs.declared.found.Found.{Found}
use Rattle.ether_lax.specs.declared.found.FoundIp.{FoundIp}
use Rattle.ether_lax.specs.declared.found.IpHeader.{IpHeader}
use Rattle.ether_lax.specs.declared.found.IpHeader.TheVariants as version

-- the link extensions, the source of the windows behind them, and whether the last one lacks bytes and what
-- it carries; an ARP packet; an IP header and how far its extension headers reach, and these in their places;
-- the part of the transport layer; and the last part of all
pub record Parts : Type 0 where
  pub exts : List LinkExtPart
  pub link_source : LenSource
  pub link_incomplete : Bool
  pub carried : Option Carried
  pub arp : Option (List ℕ)
  pub ip : Option FoundIp
  pub held : ExtensionPlaces
  pub transport : Option TransportSlice
  pub last : Option Place

-- what was gathered
abbrev pub found_in : Found → Parts
found_in found = record {
  exts = map ext_in found.link_exts.items;
  link_source = found.link_source;
  link_incomplete = found.link_incomplete;
  carried = option_map carried_in found.carried;
  arp = found.arp;
  ip = found.ip;
  held = found.held;
  transport = found.transport;
  last = found.last;
}

abbrev pub no_parts : Parts
no_parts = record {
  exts = [];
  link_source = Slice;
  link_incomplete = false;
  carried = None;
  arp = None;
  ip = None;
  held = no_extensions;
  transport = None;
  last = None;
}

-- one link extension more
abbrev pub with_ext : LinkExtPart → Parts → Parts
with_ext ext parts = record parts {
  exts = parts.exts ++ ext ∷ [];
  link_source = source_behind parts.link_source ext;
  link_incomplete = is_cut ext;
  carried = Some (carried_by (source_behind parts.link_source ext) ext);
}

-- an IP header at a place: what it says is behind it, and its window
abbrev pub ip_found : List ℕ → Place → IpHeader → ℕ → Bool → FoundIp
ip_found frame place header number fragmented = record {
  header = header;
  first = place;
  last = place;
  number = record { 0 = number };
  fragmented = fragmented;
  len_source = source_at frame place;
  incomplete = is_incomplete frame place;
}

-- the payload begins behind an extension header
abbrev pub extended : Place → Ipv6ExtensionSlice → Option FoundIp → Option FoundIp
extended place header None = None
extended place header (Some ip) = Some (record ip {
  last = place;
  number = record { 0 = slice_index (bytes_of_extension header) 0 };
  fragmented = fragmented_by ip.fragmented header;
})

-- one part more
abbrev pub with_part : List ℕ → Place → Part → Parts → Parts
with_part frame place (Ethernet2 bytes) parts = record parts { last = Some place }
with_part frame place (LinuxSll bytes) parts = record parts { last = Some place }
with_part frame place (Vlan bytes) parts = with_ext (TagPart bytes) (record parts { last = Some place })
with_part frame place (Macsec header) parts =
    with_ext (macsec_part header (is_incomplete frame place) (source_at frame place) (window_at frame place))
    (record parts { last = Some place })
with_part frame place (Arp packet) parts = record parts { arp = Some packet; last = Some place }
with_part frame place (Ipv4 header) parts =
    record parts {
      ip = Some (ip_found frame place (version.V4 header) (slice_index header 9) (is_ipv4_fragment header));
      last = Some place;
    }
with_part frame place (Ipv6 header) parts =
    record parts {
      ip = Some (ip_found frame place (version.V6 header) (slice_index header 6) false);
      last = Some place;
    }
with_part frame place (Extension header) parts =
    record parts {
      ip = extended place header parts.ip;
      held = with_extension header parts.held;
      last = Some place;
    }
with_part frame place (Transport part) parts = record parts { transport = Some part; last = Some place }

-- the parts at some places, behind others
abbrev pub parts_behind : List ℕ → Parts → List Place → Parts
parts_behind frame parts [] = parts
parts_behind frame parts (place ∷ more) =
    parts_behind frame (with_part frame place (part_at frame place) parts) more

abbrev pub parts_of : List ℕ → List Place → Parts
parts_of frame places = parts_behind frame no_parts places
