-- What is read off the places of extension headers.
use Rattle.std.specs.Prelude.{◌≡◌, ℕ, ◌≤◌, Bool, false, List, [], ◌∷◌, length, slice_index, Option}
use Rattle.ether_link.specs.Layout.{IsLayoutFrom}
use Rattle.ether_link.specs.Places.{header_at, end_of_headers}
use Rattle.ether_link.specs.declared.layout.Place.{Place}
use Rattle.ether_link.specs.declared.layout.Stop.{Stop}
use Rattle.ether_ip.specs.ExtensionGrammar.{ExtensionErrors, extension_grammar, first_extension_kind, turn_to, fragmented_behind}
use Rattle.ether_ip.specs.declared.err.ipv6_exts.HeaderError.TheVariants.{IpAuth}
use Rattle.ether_ip.specs.declared.err.ipv6_exts.HeaderSliceError.{HeaderSliceError}
use Rattle.ether_ip.specs.declared.err.ipv6_exts.HeaderSliceError.TheVariants.{Len, Content}

-- the number that the last header names, or the one before the first
abbrev pub number_behind : List ℕ → ℕ → List Place → ℕ
number_behind bytes number [] = number
number_behind bytes number (place ∷ more) = number_behind bytes (slice_index (header_at bytes place) 0) more

-- what the packet carries is a fragment, as far as the headers say
abbrev pub is_fragmented : List ℕ → Bool → List Place → Bool
is_fragmented bytes before [] = before
is_fragmented bytes before (place ∷ more) =
    is_fragmented bytes (fragmented_behind place.kind before (header_at bytes place)) more

-- the refusals of a reader of extension headers
abbrev pub chain_errors : ExtensionErrors HeaderSliceError
chain_errors = record {
  wrong_len = Len;
  behind_ipv4 = λ error. Content (IpAuth error);
  behind_ipv6 = Content;
}

-- the refusal of a part that begins at a place
abbrev pub placed_at : ℕ → HeaderSliceError → HeaderSliceError
placed_at start (Len error) = Len (record error { layer_start_offset = start })
placed_at start (Content error) = Content error

-- a reader walked along the extension headers from a number on: it stands at a place, before a number
pub record IsChainEnd (bytes : List ℕ) (number : ℕ) (at next : ℕ) (fragmented : Bool)
    (stop : Option (Stop HeaderSliceError)) (places : List Place) : Type 0 where
  pub layout : IsLayoutFrom (extension_grammar chain_errors) bytes
      (turn_to 0 false (first_extension_kind number)) 0 (length bytes) places stop
  pub at_end : at ≡ end_of_headers 0 places
  pub within : at ≤ length bytes
  pub next_is : next ≡ number_behind bytes number places
  pub fragmented_is : fragmented ≡ is_fragmented bytes false places
