-- Where an IP header is accepted, a packet has one.
use Rattle.std.proofs.Common.{◌≡◌, ℕ, ◌-◌, ◌≤◌, Bool, true, false, List, [], ◌∷◌, length, take, drop, Option, Some, None, refl, sym, ap, ◌∙◌, arith}
use Rattle.std.specs.Prelude.{is_some, if◌then◌else◌, slice_range}
use Rattle.std.proofs.lemmas.List.{take_all}
use Rattle.ether_link.specs.Form.{refusal}
use Rattle.ether_link.specs.Layout.{IsLayoutFrom}
use Rattle.ether_link.specs.Places.{header_at}
use Rattle.ether_link.specs.declared.layout.PartKind.{PartKind}
use Rattle.ether_link.specs.declared.layout.PartKind.TheVariants as kind
use Rattle.ether_link.specs.declared.layout.Place.{Place}
use Rattle.ether_link.specs.declared.layout.Stop.{Stop}
use Rattle.ether_ip.specs.Ip.{ip_slice_form}
use Rattle.ether_ip.specs.IpHeaders.{is_ipv4}
use Rattle.ether_ip.specs.PacketGrammar.{packet_grammar}
use Rattle.ether_ip.specs.declared.err.packet.SliceError.{SliceError}
use Rattle.ether_ip.specs.declared.ip.exts.Ipv6ExtensionSlice.{Ipv6ExtensionSlice}
use Rattle.ether_lax.specs.Found.{Parts, no_parts, with_part, extended, parts_behind, parts_of}
use Rattle.ether_lax.specs.Parts.{part_at, part_in, whole_at}
use Rattle.ether_lax.specs.Steps.{begins_with}
use Rattle.ether_lax.specs.declared.found.FoundIp.{FoundIp}
use Rattle.ether_lax.specs.declared.step.Part.{Part}
use Rattle.ether_lax.specs.declared.step.Part.TheVariants.{Ethernet2, LinuxSll, Vlan, Macsec, Arp, Ipv4, Ipv6, Extension, Transport}
use Rattle.ether_lax.proofs.MapLemmas.{ip_accepts}

pub all_bytes : (bytes : List ℕ) → slice_range bytes 0 (length bytes) ≡ bytes
all_bytes bytes =
    let whole : length bytes - 0 ≡ length bytes = omega arith in
    rw whole (take_all (length bytes) bytes (omega arith))

extended_stays : (place : Place) (header : Ipv6ExtensionSlice) (ip : Option FoundIp) → is_some ip ≡ true → is_some (extended place header ip) ≡ true
extended_stays place header None is = is
extended_stays place header (Some ip) is = refl

stays : (frame : List ℕ) (place : Place) (part : Part) (parts : Parts) → is_some parts.ip ≡ true → is_some (with_part frame place part parts).ip ≡ true
stays frame place (Ethernet2 bytes) parts is = is
stays frame place (LinuxSll bytes) parts is = is
stays frame place (Vlan bytes) parts is = is
stays frame place (Macsec bytes) parts is = is
stays frame place (Arp bytes) parts is = is
stays frame place (Ipv4 header) parts is = refl
stays frame place (Ipv6 header) parts is = refl
stays frame place (Extension header) parts is = extended_stays place header parts.ip is
stays frame place (Transport part) parts is = is

all_stay : (frame : List ℕ) (places : List Place) (parts : Parts) → is_some parts.ip ≡ true → is_some (parts_behind frame parts places).ip ≡ true
all_stay frame [] parts is = is
all_stay frame (place ∷ more) parts is = all_stay frame more (with_part frame place (part_at frame place) parts) (stays frame place (part_at frame place) parts is)

starts : (frame : List ℕ) (place : Place) (parts : Parts) (header : List ℕ) (b : Bool)
    → is_some (with_part frame place (if b then Ipv4 header else Ipv6 header) parts).ip ≡ true
starts frame place parts header true = refl
starts frame place parts header false = refl

starts_in : (frame : List ℕ) (place : Place) (parts : Parts) (part : PartKind) (header whole : List ℕ) → part ≡ kind.Ip
    → is_some (with_part frame place (part_in part header whole) parts).ip ≡ true
starts_in frame place parts part header whole is = rw is (starts frame place parts header (is_ipv4 header))

-- there is an IP header
pub has_ip : (bytes : List ℕ) (places : List Place) (stop : Option (Stop SliceError)) → refusal ip_slice_form bytes ≡ None
    → IsLayoutFrom packet_grammar bytes (begins_with kind.Ip) 0 (length bytes) places stop → is_some (parts_of bytes places).ip ≡ true
has_ip bytes [] stop accepted right =
    let read = ip_accepts bytes accepted in
    let refused = rw (all_bytes bytes) at right.1 in
    absurd (cc)
has_ip bytes (place ∷ more) stop accepted right =
    let is_kind : place.kind ≡ kind.Ip = ap (λ (p : Place). p.kind) right.1 in
    all_stay bytes more (with_part bytes place (part_at bytes place) no_parts)
    (starts_in bytes place no_parts place.kind (header_at bytes place) (whole_at bytes place) is_kind)

pub not_none : (ip : Option FoundIp) → is_some ip ≡ true → ip ≡ None → ⊥
not_none None there none = let no : false ≡ true = there in absurd (cc)
not_none (Some ip) there none = absurd (cc)
