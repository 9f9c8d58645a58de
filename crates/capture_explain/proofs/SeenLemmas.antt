-- What the parts of a frame say of those behind them.
use Rattle.std.proofs.Common.{◌≡◌, ℕ, ◌≤◌, Bool, true, false, List, [], ◌∷◌, ◌++◌, Option, Some, None, ap, sym, ◌∙◌, refl}
use Rattle.std.specs.Prelude.{if◌then◌else◌, slice_index, slice_range, option_and_then}
use Rattle.ether_link.specs.Places.{header_at}
use Rattle.ether_link.specs.declared.layout.PartKind.{PartKind}
use Rattle.ether_link.specs.declared.layout.PartKind.TheVariants as kind
use Rattle.ether_link.specs.declared.layout.Place.{Place}
use Rattle.ether_link.specs.declared.layout.Stop.{Stop}
use Rattle.ether_ip.specs.Extensions.{bytes_of_extension, fragmented_by}
use Rattle.ether_ip.specs.Held.{is_taken, with_header, held_by}
use Rattle.ether_ip.specs.IpHeaders.{is_ipv4}
use Rattle.ether_ip.specs.declared.err.packet.SliceError.{SliceError}
use Rattle.ether_ip.specs.declared.ip.ext_places.ExtensionPlaces.{ExtensionPlaces}
use Rattle.ether_ip.specs.declared.ip.exts.Ipv6ExtensionSlice.{Ipv6ExtensionSlice}
use Rattle.ether_lax.specs.Agreement.{AreFree}
use Rattle.ether_lax.specs.Found as found
use Rattle.ether_lax.specs.Found.{Parts, with_part}
use Rattle.ether_lax.specs.Nets.{IpPayloadPart, payload_of_net}
use Rattle.ether_lax.specs.Parts.{part_in}
use Rattle.ether_lax.specs.Sliced.{net_by, net_of, ip_by, payload_at}
use Rattle.ether_lax.specs.declared.step.Part as packet
use Rattle.ether_lax.specs.declared.step.Part.TheVariants.{Ethernet2, LinuxSll, Vlan, Macsec, Arp, Ipv4, Ipv6, Extension, Transport}
use Rattle.capture_explain.specs.Parts.{esp_in}
use Rattle.capture_explain.specs.Seen.{held_with, payload_with, extended, esp_at, LiesWithin}
use Rattle.capture_explain.specs.declared.seen.Payload.{Payload}

-- the headers in their places
ip_held : (header : List ℕ) (held : ExtensionPlaces) (b : Bool) → held_with (if b then Ipv4 header else Ipv6 header) held ≡ held
ip_held header held true = refl
ip_held header held false = refl

pub held_in : (part : PartKind) (header whole : List ℕ) (held : ExtensionPlaces) → held_with (part_in part header whole) held ≡ with_header part header held
held_in kind.Ethernet2 header whole held = refl
held_in kind.LinuxSll header whole held = refl
held_in kind.Vlan header whole held = refl
held_in kind.Macsec header whole held = refl
held_in kind.Arp header whole held = refl
held_in kind.Ip header whole held = ip_held header held (is_ipv4 header)
held_in kind.Udp header whole held = refl
held_in kind.Tcp header whole held = refl
held_in kind.Icmpv4 header whole held = refl
held_in kind.Icmpv6 header whole held = refl
held_in kind.HopByHop header whole held = refl
held_in kind.LateHopByHop header whole held = refl
held_in kind.Route header whole held = refl
held_in kind.Fragment header whole held = refl
held_in kind.DestinationOptions header whole held = refl
held_in kind.Ipv4Auth header whole held = refl
held_in kind.Ipv6Auth header whole held = refl

pub held_by-one_more : (frame : List ℕ) (held : ExtensionPlaces) (places : List Place) (place : Place)
    → held_by frame held (places ++ place ∷ []) ≡ with_header place.kind (header_at frame place) (held_by frame held places)
held_by-one_more frame held [] place = refl
held_by-one_more frame held (p ∷ ps) place = held_by-one_more frame (with_header p.kind (header_at frame p) held) ps place

-- each finds its place free
pub free-one_more : (frame : List ℕ) (held : ExtensionPlaces) (places : List Place) (place : Place) → AreFree frame held places None
    → is_taken place.kind (held_by frame held places) ≡ false → AreFree frame held (places ++ place ∷ []) None
free-one_more frame held [] place free one = (one, tt)
free-one_more frame held (p ∷ ps) place free one = (free.0, free-one_more frame (with_header p.kind (header_at frame p) held) ps place free.1 one)

pub free-stopped : (frame : List ℕ) (held : ExtensionPlaces) (places : List Place) (stop : Stop SliceError) → AreFree frame held places None
    → is_taken stop.kind (held_by frame held places) ≡ false → AreFree frame held places (Some stop)
free-stopped frame held [] stop free one = one
free-stopped frame held (p ∷ ps) stop free one = (free.0, free-stopped frame (with_header p.kind (header_at frame p) held) ps stop free.1 one)

-- a payload and the part of an IP packet that it is
abbrev IsSame : List ℕ → Payload → IpPayloadPart → Type 0
IsSame frame payload part =
    (part.number ≡ payload.number) × (part.fragmented ≡ payload.fragmented) × (part.bytes ≡ slice_range frame payload.start payload.end)

-- what is known of the IP packet that was found: the payload, and that the part of the network layer carries it
abbrev Tells : {F : Type 0} → List ℕ → (F → IpPayloadPart) → (F → F → Option (List ℕ) → Option IpPayloadPart) → Option Payload → Option F → Type 0
Tells frame payload_in net None None = Unit {0}
Tells {F} frame payload_in net (Some payload) (Some ip) =
    IsSame frame payload (payload_in ip) × ((x : F) (auth : Option (List ℕ)) → net ip x auth ≡ Some (payload_in x))
Tells frame payload_in net payload ip = ⊥

abbrev pub IsTold : List ℕ → Option Payload → Parts → Type 0
IsTold frame payload parts = Tells frame (payload_at frame) (λ ip x auth. payload_of_net (ip_by frame auth x ip.header)) payload parts.ip

extended_told : {F : Type 0} (frame : List ℕ) (payload_in : F → IpPayloadPart) (net : F → F → Option (List ℕ) → Option IpPayloadPart)
    (place : Place) (header : Ipv6ExtensionSlice) (behind : Option F → Option F) (more : F → F)
    → behind None ≡ None → ((f : F) → behind (Some f) ≡ Some (more f))
    → ((f x : F) (auth : Option (List ℕ)) → net (more f) x auth ≡ net f x auth)
    → ((f : F) → (payload_in (more f)).number ≡ record { 0 = slice_index (bytes_of_extension header) 0 })
    → ((f : F) → (payload_in (more f)).fragmented ≡ fragmented_by (payload_in f).fragmented header)
    → ((f : F) → (payload_in (more f)).bytes ≡ slice_range frame place.body place.end)
    → (payload : Option Payload) (ip : Option F) → Tells frame payload_in net payload ip
    → Tells frame payload_in net (extended place header payload) (behind ip)
extended_told frame payload_in net place header behind more none some header_same number_is fragmented_is bytes_are None None told = rw none tt
extended_told frame payload_in net place header behind more none some header_same number_is fragmented_is bytes_are (Some payload) (Some ip) told =
    rw (some ip) (
      (number_is ip, fragmented_is ip ∙ ap (λ b. fragmented_by b header) told.0.1, bytes_are ip),
      λ x auth. header_same ip x auth ∙ told.1 x auth,
    )
extended_told frame payload_in net place header behind more none some header_same number_is fragmented_is bytes_are None (Some ip) told = absurd told
extended_told frame payload_in net place header behind more none some header_same number_is fragmented_is bytes_are (Some payload) None told = absurd told

pub told_behind : (frame : List ℕ) (place : Place) (part : packet.Part) (parts : Parts) (payload : Option Payload) → IsTold frame payload parts
    → IsTold frame (payload_with place part payload) (with_part frame place part parts)
told_behind frame place (Ethernet2 bytes) parts payload told = told
told_behind frame place (LinuxSll bytes) parts payload told = told
told_behind frame place (Vlan bytes) parts payload told = told
told_behind frame place (Macsec header) parts payload told = told
told_behind frame place (Arp bytes) parts payload told = told
told_behind frame place (Ipv4 header) parts payload told = ((refl, refl, refl), λ x auth. refl)
told_behind frame place (Ipv6 header) parts payload told = ((refl, refl, refl), λ x auth. refl)
told_behind frame place (Extension header) parts payload told =
    extended_told frame (payload_at frame) (λ ip x auth. payload_of_net (ip_by frame auth x ip.header)) place header (found.extended place header)
    (λ ip. record ip {
      last = place;
      number = record { 0 = slice_index (bytes_of_extension header) 0 };
      fragmented = fragmented_by ip.fragmented header;
    }) refl (λ f. refl) (λ f x auth. refl) (λ f. refl) (λ f. refl) (λ f. refl) payload parts.ip told
told_behind frame place (Transport part) parts payload told = told

extended_within : (len : ℕ) (place : Place) (header : Ipv6ExtensionSlice) (before : Option Payload) → place.body ≤ place.end → place.end ≤ len
    → LiesWithin len (extended place header before)
extended_within len place header None window within = tt
extended_within len place header (Some payload) window within = (window, within)

pub lies_within : (len : ℕ) (place : Place) (part : packet.Part) (before : Option Payload) → place.body ≤ place.end → place.end ≤ len
    → LiesWithin len before → LiesWithin len (payload_with place part before)
lies_within len place (Ethernet2 bytes) before window within lies = lies
lies_within len place (LinuxSll bytes) before window within lies = lies
lies_within len place (Vlan bytes) before window within lies = lies
lies_within len place (Macsec header) before window within lies = lies
lies_within len place (Arp bytes) before window within lies = lies
lies_within len place (Ipv4 header) before window within lies = (window, within)
lies_within len place (Ipv6 header) before window within lies = (window, within)
lies_within len place (Extension header) before window within lies = extended_within len place header before window within
lies_within len place (Transport part) before window within lies = lies

-- the security payload that it is
esp_same : (frame : List ℕ) (payload : Payload) (part : IpPayloadPart) → IsSame frame payload part → esp_at frame (Some payload) ≡ esp_in part
esp_same frame payload part same = rw (same.0, same.1, same.2) refl

esp_told : {F : Type 0} (frame : List ℕ) (payload_in : F → IpPayloadPart) (net : F → F → Option (List ℕ) → Option IpPayloadPart)
    (auth : Option (List ℕ)) (carried : Option F → Option IpPayloadPart) → carried None ≡ None → ((f : F) → carried (Some f) ≡ net f f auth)
    → (payload : Option Payload) (ip : Option F) → Tells frame payload_in net payload ip
    → esp_at frame payload ≡ option_and_then esp_in (carried ip)
esp_told frame payload_in net auth carried none some None None told = rw none refl
esp_told frame payload_in net auth carried none some (Some payload) (Some ip) told =
    esp_same frame payload (payload_in ip) told.0 ∙ sym (ap (option_and_then esp_in) (some ip ∙ told.1 ip auth))
esp_told frame payload_in net auth carried none some None (Some ip) told = absurd told
esp_told frame payload_in net auth carried none some (Some payload) None told = absurd told

no_payload : (frame : List ℕ) (auth arp : Option (List ℕ)) → option_and_then payload_of_net (net_by frame auth None arp) ≡ None
no_payload frame auth None = refl
no_payload frame auth (Some packet) = refl

pub esp_found : (frame : List ℕ) (payload : Option Payload) (parts : Parts) → IsTold frame payload parts
    → esp_at frame payload ≡ option_and_then esp_in (option_and_then payload_of_net (net_of frame parts))
esp_found frame payload parts told =
    esp_told frame (payload_at frame) (λ ip x auth. payload_of_net (ip_by frame auth x ip.header)) parts.held.auth
    (λ ip. option_and_then payload_of_net (net_by frame parts.held.auth ip parts.arp)) (no_payload frame parts.held.auth parts.arp) (λ f. refl)
    payload parts.ip told
