-- How far a reader comes that puts extension headers into their places.
use Rattle.std.specs.Prelude.{◌≡◌, ℕ, ◌≤◌, Bool, List, Option}
use Rattle.ether_link.specs.Layout.{IsLayoutFrom}
use Rattle.ether_link.specs.Places.{end_of_headers}
use Rattle.ether_link.specs.declared.layout.PartKind.{PartKind}
use Rattle.ether_link.specs.declared.layout.Place.{Place}
use Rattle.ether_link.specs.declared.layout.Stop.{Stop}
use Rattle.ether_ip.specs.ExtensionGrammar.{extension_grammar, turn_to}
use Rattle.ether_ip.specs.Chain.{chain_errors, number_behind, is_fragmented}
use Rattle.ether_ip.specs.Held.{no_extensions, held_by, free_places, free_stop}
use Rattle.ether_ip.specs.declared.err.ipv6_exts.HeaderSliceError.{HeaderSliceError}
use Rattle.ether_ip.specs.declared.ip.ext_places.ExtensionPlaces.{ExtensionPlaces}

-- the headers of a packet from a place on, up to the first one that is refused or whose place is taken
pub record IsHeldEnd (packet : List ℕ) (first : Option PartKind) (number : ℕ) (fragmented : Bool)
    (from to : ℕ) (held : ExtensionPlaces) (at next : ℕ) (is_fragment : Bool)
    (stop : Option (Stop HeaderSliceError)) : Type 0 where
  pub places : List Place
  pub last : Option (Stop HeaderSliceError)
  pub layout : IsLayoutFrom (extension_grammar chain_errors) packet (turn_to 0 fragmented first)
      from to places last
  pub held_is : held ≡ held_by packet no_extensions (free_places packet no_extensions places)
  pub at_end : at ≡ end_of_headers from (free_places packet no_extensions places)
  pub within : at ≤ to
  pub next_is : next ≡ number_behind packet number (free_places packet no_extensions places)
  pub fragmented_is : is_fragment ≡ is_fragmented packet fragmented (free_places packet no_extensions places)
  pub stopped : stop ≡ free_stop packet no_extensions places last
