-- The extension headers behind an IPv6 header, as a reader finds them (RFC 8200, section 4.1).
use Rattle.std.specs.Prelude.{◌≡◌, ℕ, ◌==◌, Bool, false, if◌then◌else◌, List, length, take, drop, Option, Some, None}
use Rattle.ether_link.specs.Layout.{IsLayoutFrom}
use Rattle.ether_link.specs.Places.{layer_of_kind, end_of_headers}
use Rattle.ether_link.specs.declared.err.layers.Layer.{Layer}
use Rattle.ether_link.specs.declared.numbers.IpNumber.{IpNumber}
use Rattle.ether_link.specs.declared.layout.Place.{Place}
use Rattle.ether_link.specs.declared.layout.Stop.{Stop}
use Rattle.ether_ip.specs.ExtensionGrammar.{extension_grammar, first_extension_kind, turn_to}
use Rattle.ether_ip.specs.Chain.{number_behind, is_fragmented, chain_errors, placed_at}
use Rattle.ether_ip.specs.declared.err.ipv6_exts.HeaderSliceError.{HeaderSliceError}
use Rattle.ether_ip.specs.declared.ip.exts_slice.Ipv6ExtensionsSlice.{Ipv6ExtensionsSlice}

-- the number of the first header, if there is one
abbrev pub first_header_of : Ipv6ExtensionsSlice → Option IpNumber
first_header_of exts = exts.first_header

-- the bytes of the headers
abbrev pub bytes_of_extensions : Ipv6ExtensionsSlice → List ℕ
bytes_of_extensions exts = exts.slice.now

-- what the packet carries is a fragment
abbrev pub is_fragmenting : Ipv6ExtensionsSlice → Bool
is_fragmenting exts = exts.fragmented

-- why and at which layer a reader stopped
abbrev pub IsStopOf : Option (Stop HeaderSliceError) → Option (HeaderSliceError × Layer) → Type 0
IsStopOf None None = Unit {0}
IsStopOf (Some stop) (Some answer) =
    (answer.0 ≡ placed_at stop.start stop.refusal) × (answer.1 ≡ layer_of_kind stop.kind)
IsStopOf stop answer = ⊥

-- the headers from a number on, the number behind them, what is left, and the header that was refused
pub record IsChainOf (bytes : List ℕ) (number : ℕ) (exts : Ipv6ExtensionsSlice) (next : ℕ) (rest : List ℕ)
    (stop : Option (HeaderSliceError × Layer)) : Type 0 where
  pub places : List Place
  pub last : Option (Stop HeaderSliceError)
  pub layout : IsLayoutFrom (extension_grammar chain_errors) bytes
      (turn_to 0 false (first_extension_kind number)) 0 (length bytes) places last
  pub first : first_header_of exts
      ≡ (if end_of_headers 0 places == 0 then None else Some (record { 0 = number }))
  pub headers : bytes_of_extensions exts ≡ take (end_of_headers 0 places) bytes
  pub fragmented : is_fragmenting exts ≡ is_fragmented bytes false places
  pub next_is : next ≡ number_behind bytes number places
  pub rest_is : rest ≡ drop (end_of_headers 0 places) bytes
  pub stopped : IsStopOf last stop
