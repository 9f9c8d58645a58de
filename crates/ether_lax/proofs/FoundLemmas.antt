-- What one part more leaves of the parts that were gathered.
use Rattle.std.proofs.Common.{◌≡◌, ℕ, ◌+◌, ◌<◌, ◌≤◌, Bool, true, false, List, [], ◌∷◌, ◌++◌, length, take, get_or, Option, Some, None, refl, sym, ap, ◌∙◌, length-append, arith}
use Rattle.std.specs.Prelude.{map, if◌then◌else◌}
use Rattle.std.proofs.lemmas.List.{map-append, length-map, length-take, take_more}
use Rattle.ether_link.specs.Places.{header_at}
use Rattle.ether_link.specs.declared.layout.PartKind.{PartKind}
use Rattle.ether_link.specs.declared.layout.PartKind.TheVariants as kind
use Rattle.ether_link.specs.declared.layout.Place.{Place}
use Rattle.ether_ip.specs.Held.{with_header}
use Rattle.ether_ip.specs.IpHeaders.{is_ipv4}
use Rattle.ether_ip.specs.declared.ip.ext_places.ExtensionPlaces.{ExtensionPlaces}
use Rattle.ether_lax.specs.Parts.{part_in, part_at}
use Rattle.ether_lax.specs.LinkExts.{LinkExtPart, ext_in, header_of_ext}
use Rattle.ether_lax.specs.Found.{Parts, with_part, parts_behind}
use Rattle.ether_lax.specs.Steps.{MayStandBehind, count_behind, IsBetween}
use Rattle.ether_lax.specs.Walks.{HasRoom, IsInside}
use Rattle.ether_lax.specs.declared.found.FoundIp.{FoundIp}
use Rattle.ether_lax.specs.declared.link_ext.LaxLinkExtSlice.{LaxLinkExtSlice}
use Rattle.ether_lax.specs.declared.step.Part.{Part}
use Rattle.ether_lax.specs.declared.step.Part.TheVariants.{Ethernet2, LinuxSll, Vlan, Macsec, Arp, Ipv4, Ipv6, Extension, Transport}

pub exts_more : (exts : List LaxLinkExtSlice) (ext : LaxLinkExtSlice) → map ext_in (exts ++ ext ∷ []) ≡ map ext_in exts ++ ext_in ext ∷ []
exts_more exts ext = map-append ext_in exts (ext ∷ [])

pub exts_len : (exts : List LaxLinkExtSlice) → length (map ext_in exts) ≡ length exts
exts_len exts = length-map exts ext_in

pub headers_more : (exts : List LaxLinkExtSlice) (i : ℕ) (ext : LaxLinkExtSlice) → i < length exts → ext ≡ get_or exts i ext
    → map header_of_ext (map ext_in (take (i + 1) exts)) ≡ map header_of_ext (map ext_in (take i exts)) ++ header_of_ext (ext_in ext) ∷ []
headers_more exts i ext there is =
    ap (λ list. map header_of_ext (map ext_in list)) (take_more exts i ext there)
    ∙ ap (λ item. map header_of_ext (map ext_in (take i exts ++ item ∷ []))) (sym is)
    ∙ (rw (map-append ext_in (take i exts) (ext ∷ []), map-append header_of_ext (map ext_in (take i exts)) (ext_in ext ∷ [])) refl)

pub headers_len : (exts : List LaxLinkExtSlice) (i : ℕ) → length (map header_of_ext (map ext_in (take i exts))) ≤ i
headers_len exts i = rw (length-map (map ext_in (take i exts)) header_of_ext, length-map (take i exts) ext_in) (omega (arith, length-take i exts))

pub parts_behind-one_more : (frame : List ℕ) (parts : Parts) (places : List Place) (place : Place)
    → parts_behind frame parts (places ++ place ∷ []) ≡ with_part frame place (part_at frame place) (parts_behind frame parts places)
parts_behind-one_more frame parts [] place = refl
parts_behind-one_more frame parts (p ∷ ps) place = parts_behind-one_more frame (with_part frame p (part_at frame p) parts) ps place

ip_held : (frame : List ℕ) (place : Place) (parts : Parts) (header : List ℕ) (b : Bool)
    → (with_part frame place (if b then Ipv4 header else Ipv6 header) parts).held ≡ parts.held
ip_held frame place parts header true = refl
ip_held frame place parts header false = refl

-- the headers in their places
held_in : (frame : List ℕ) (place : Place) (parts : Parts) (part : PartKind) (header whole : List ℕ)
    → (with_part frame place (part_in part header whole) parts).held ≡ with_header part header parts.held
held_in frame place parts kind.Ethernet2 header whole = refl
held_in frame place parts kind.LinuxSll header whole = refl
held_in frame place parts kind.Vlan header whole = refl
held_in frame place parts kind.Macsec header whole = refl
held_in frame place parts kind.Arp header whole = refl
held_in frame place parts kind.Ip header whole = ip_held frame place parts header (is_ipv4 header)
held_in frame place parts kind.Udp header whole = refl
held_in frame place parts kind.Tcp header whole = refl
held_in frame place parts kind.Icmpv4 header whole = refl
held_in frame place parts kind.Icmpv6 header whole = refl
held_in frame place parts other header whole = refl

pub held_with : (frame : List ℕ) (place : Place) (parts : Parts)
    → (with_part frame place (part_at frame place) parts).held ≡ with_header place.kind (header_at frame place) parts.held
held_with frame place parts = held_in frame place parts place.kind (header_at frame place) _

ip_exts : (frame : List ℕ) (place : Place) (parts : Parts) (header : List ℕ) (b : Bool)
    → (with_part frame place (if b then Ipv4 header else Ipv6 header) parts).exts ≡ parts.exts
ip_exts frame place parts header true = refl
ip_exts frame place parts header false = refl

one_more_len : (exts : List LinkExtPart) (ext : LinkExtPart) → length (exts ++ ext ∷ []) ≡ length exts + 1
one_more_len exts ext = omega (arith, length-append exts (ext ∷ []))

-- the number of link extensions
count_in : (frame : List ℕ) (place : Place) (parts : Parts) (part : PartKind) (header whole : List ℕ)
    → length (with_part frame place (part_in part header whole) parts).exts ≡ count_behind part (length parts.exts)
count_in frame place parts kind.Ethernet2 header whole = refl
count_in frame place parts kind.LinuxSll header whole = refl
count_in frame place parts kind.Vlan header whole = one_more_len parts.exts _
count_in frame place parts kind.Macsec header whole = one_more_len parts.exts _
count_in frame place parts kind.Arp header whole = refl
count_in frame place parts kind.Ip header whole = ap length (ip_exts frame place parts header (is_ipv4 header))
count_in frame place parts kind.Udp header whole = refl
count_in frame place parts kind.Tcp header whole = refl
count_in frame place parts kind.Icmpv4 header whole = refl
count_in frame place parts kind.Icmpv6 header whole = refl
count_in frame place parts other header whole = refl

pub count_with : (frame : List ℕ) (place : Place) (parts : Parts)
    → length (with_part frame place (part_at frame place) parts).exts ≡ count_behind place.kind (length parts.exts)
count_with frame place parts = count_in frame place parts place.kind (header_at frame place) _

room_of_ip : (header : List ℕ) (count : ℕ) (b : Bool) → HasRoom (if b then Ipv4 header else Ipv6 header) count
room_of_ip header count true = tt
room_of_ip header count false = tt

room_in : (part : PartKind) (header whole : List ℕ) (count : ℕ) → MayStandBehind part count → HasRoom (part_in part header whole) count
room_in kind.Ethernet2 header whole count may = tt
room_in kind.LinuxSll header whole count may = tt
room_in kind.Vlan header whole count may = may
room_in kind.Macsec header whole count may = may
room_in kind.Arp header whole count may = tt
room_in kind.Ip header whole count may = room_of_ip header count (is_ipv4 header)
room_in kind.Udp header whole count may = tt
room_in kind.Tcp header whole count may = tt
room_in kind.Icmpv4 header whole count may = tt
room_in kind.Icmpv6 header whole count may = tt
room_in other header whole count may = tt

pub room_for : (frame : List ℕ) (place : Place) (count : ℕ) → MayStandBehind place.kind count → HasRoom (part_at frame place) count
room_for frame place count may = room_in place.kind (header_at frame place) _ count may

-- the headers of an IP packet stay inside
pub inside_later : (len at later : ℕ) (ip : Option FoundIp) → at ≤ later → IsInside len at ip → IsInside len later ip
inside_later len at later None order inside = tt
inside_later len at later (Some ip) order inside = (inside.0, omega arith, inside.2, inside.3)

module _ (frame : List ℕ) (place : Place) (start end : ℕ) (parts : Parts) (between : IsBetween start end place) (within : end ≤ length frame) where
  pub inside_with : (part : Part) (ip : Option FoundIp) → parts.ip ≡ ip → IsInside (length frame) start ip
      → IsInside (length frame) place.body (with_part frame place part parts).ip
  inside_with (Ethernet2 bytes) ip is inside = rw is (inside_later (length frame) start place.body ip (omega arith) inside)
  inside_with (LinuxSll bytes) ip is inside = rw is (inside_later (length frame) start place.body ip (omega arith) inside)
  inside_with (Vlan bytes) ip is inside = rw is (inside_later (length frame) start place.body ip (omega arith) inside)
  inside_with (Macsec bytes) ip is inside = rw is (inside_later (length frame) start place.body ip (omega arith) inside)
  inside_with (Arp bytes) ip is inside = rw is (inside_later (length frame) start place.body ip (omega arith) inside)
  inside_with (Ipv4 header) ip is inside = (omega arith, omega arith, between.window, omega arith)
  inside_with (Ipv6 header) ip is inside = (omega arith, omega arith, between.window, omega arith)
  inside_with (Extension header) None is inside = rw is tt
  inside_with (Extension header) (Some ip) is inside =
      let first = inside.0 in
      let last = inside.1 in
      rw is (omega arith, omega arith, between.window, omega arith)
  inside_with (Transport part) ip is inside = rw is (inside_later (length frame) start place.body ip (omega arith) inside)

-- the last part is the one that was put
pub last_with : (frame : List ℕ) (place : Place) (part : Part) (parts : Parts) → (with_part frame place part parts).last ≡ Some place
last_with frame place (Ethernet2 bytes) parts = refl
last_with frame place (LinuxSll bytes) parts = refl
last_with frame place (Vlan bytes) parts = refl
last_with frame place (Macsec bytes) parts = refl
last_with frame place (Arp bytes) parts = refl
last_with frame place (Ipv4 header) parts = refl
last_with frame place (Ipv6 header) parts = refl
last_with frame place (Extension header) parts = refl
last_with frame place (Transport part) parts = refl
