-- What the parts of a frame say of those behind them.
use Rattle.std.specs.Prelude.{ℕ, ◌≤◌, ◌==◌, nat_lt, Bool, false, if◌then◌else◌, List, length, slice_index, slice_range, Option, Some, None}
use Rattle.ether_link.specs.declared.layout.Place.{Place}
use Rattle.ether_ip.specs.Extensions.{bytes_of_extension, fragmented_by}
use Rattle.ether_ip.specs.Held.{with_extension}
use Rattle.ether_ip.specs.Ipv4.{is_ipv4_fragment}
use Rattle.ether_ip.specs.declared.ip.ext_places.ExtensionPlaces.{ExtensionPlaces}
use Rattle.ether_ip.specs.declared.ip.exts.Ipv6ExtensionSlice.{Ipv6ExtensionSlice}
use Rattle.ether_lax.specs.declared.step.Part as packet
use Rattle.ether_lax.specs.declared.step.Part.TheVariants.{Ipv4, Ipv6, Extension}
use Rattle.capture_explain.specs.Parts.{esp_part}
use Rattle.capture_explain.specs.declared.parts.EspPart.{EspPart}
use Rattle.capture_explain.specs.declared.seen.Payload.{Payload}

-- an extension header in its place
abbrev pub held_with : packet.Part → ExtensionPlaces → ExtensionPlaces
held_with (Extension header) held = with_extension header held
held_with other held = held

-- the payload in the window of a part
abbrev pub payload_of : Place → ℕ → Bool → Payload
payload_of place number fragmented =
    record { number = record { 0 = number }; fragmented = fragmented; start = place.body; end = place.end }

-- it begins behind an extension header
abbrev pub extended : Place → Ipv6ExtensionSlice → Option Payload → Option Payload
extended place header None = None
extended place header (Some payload) =
    Some (payload_of place (slice_index (bytes_of_extension header) 0) (fragmented_by payload.fragmented header))

-- one part more
abbrev pub payload_with : Place → packet.Part → Option Payload → Option Payload
payload_with place (Ipv4 header) payload = Some (payload_of place (slice_index header 9) (is_ipv4_fragment header))
payload_with place (Ipv6 header) payload = Some (payload_of place (slice_index header 6) false)
payload_with place (Extension header) payload = extended place header payload
payload_with place other payload = payload

-- the payload lies in so many bytes
abbrev pub LiesWithin : ℕ → Option Payload → Type 0
LiesWithin len None = Unit {0}
LiesWithin len (Some payload) = (payload.start ≤ payload.end) × (payload.end ≤ len)

-- the security payload that it is
abbrev pub esp_at : List ℕ → Option Payload → Option EspPart
esp_at frame None = None
esp_at frame (Some payload) =
    if payload.fragmented then None
    else if payload.number.0 == 50
    then (if nat_lt (length (slice_range frame payload.start payload.end)) 8 then None
    else Some (esp_part (slice_range frame payload.start payload.end)))
    else None
