-- What an arrival and polling leave as it was in an emitter.
use Rattle.std.proofs.Common.{◌≡◌, List, [], ◌++◌, Option, Some, None, ap, ◌∙◌, refl, ℕ, ◌+◌, ◌≤◌, arith}
use Rattle.net_wire.specs.declared.address.EthernetAddress.{EthernetAddress}
use Rattle.net_wire.specs.declared.address.Ipv4Address.{Ipv4Address}
use Rattle.net_wire.specs.declared.arp.ArpRepr.{ArpRepr}
use Rattle.host_model.specs.Frames.{asked_unless, dhcp_asked}
use Rattle.host_model.specs.History.{Transmission}
use Rattle.host_model.specs.Neighbor.{hop_address}
use Rattle.host_model.specs.Settings.{Settings}
use Rattle.net_host.specs.declared.emitter.Emitter.{Emitter}
use Rattle.net_host.specs.Emitter.{hop_of_refused, refused_hop}
use Rattle.net_host.specs.Hearing.{after_told}
use Rattle.net_host.specs.Neighbors.{pair_count, place_count, table_after}
use Rattle.net_host.proofs.Leaving.{Leaves, LeavesOne}
use Rattle.net_host.proofs.ListingLemmas.{replied}
use Rattle.net_host.proofs.NeighborLemmas.{learned_places, one_more}

-- what an arrival leaves of an emitter that began an event
pub record Told (told : Option ArpRepr) (out later : Emitter) : Type 0 where
  pub hardware : later.hardware ≡ out.hardware
  pub held : later.held ≡ out.held
  pub at : later.at ≡ out.at
  pub none : later.refused ≡ out.refused
  pub neighbors : later.neighbors ≡ table_after told out.at out.neighbors
  pub sent : later.sent ≡ out.sent ++ replied out.hardware out.held told

pub told_leaves : (told : Option ArpRepr) (out : Emitter) (numbers : List ℕ) → out.sent ≡ []
    → Told told out (record (after_told told out) { numbers = numbers })
told_leaves None out numbers empty = record {
  hardware = refl;
  held = refl;
  at = refl;
  none = refl;
  neighbors = refl;
  sent = rw empty refl;
}
told_leaves (Some arp) out numbers empty = record { hardware = refl; held = refl; at = refl; none = refl; neighbors = refl; sent = refl }

-- its table has one station more at most, in as many places
pub told_places : (told : Option ArpRepr) (out : Emitter) → place_count (after_told told out).neighbors ≡ place_count out.neighbors
told_places None out = refl
told_places (Some arp) out = learned_places arp out.at out.neighbors

pub told_few : (told : Option ArpRepr) (out : Emitter) → pair_count (after_told told out).neighbors ≤ pair_count out.neighbors + 1
told_few None out = omega arith
told_few (Some arp) out = one_more arp out.at out.neighbors

-- what polling leaves as it was
pub record Kept (out later : Emitter) : Type 0 where
  pub hardware : later.hardware ≡ out.hardware
  pub held : later.held ≡ out.held
  pub at : later.at ≡ out.at
  pub neighbors : later.neighbors ≡ out.neighbors
  pub numbers : later.numbers ≡ out.numbers

kept_one : (settings : Settings) (transmission : Transmission) (hop : Option EthernetAddress) (out later : Emitter)
    → LeavesOne settings transmission hop out later → Kept out later
kept_one settings transmission (Some hop) out later leaves = record {
  hardware = ap (λ (e : Emitter). e.hardware) leaves.2;
  held = ap (λ (e : Emitter). e.held) leaves.2;
  at = ap (λ (e : Emitter). e.at) leaves.2;
  neighbors = ap (λ (e : Emitter). e.neighbors) leaves.2;
  numbers = ap (λ (e : Emitter). e.numbers) leaves.2;
}
kept_one settings transmission None out later leaves = record {
  hardware = ap (λ (e : Emitter). e.hardware) leaves;
  held = ap (λ (e : Emitter). e.held) leaves;
  at = ap (λ (e : Emitter). e.at) leaves;
  neighbors = ap (λ (e : Emitter). e.neighbors) leaves;
  numbers = ap (λ (e : Emitter). e.numbers) leaves;
}

pub kept_by : (settings : Settings) (hop : Ipv4Address → Option EthernetAddress) (named : Option Transmission) (out later : Emitter)
    → Leaves settings hop named out later → Kept out later
kept_by settings hop None out later leaves = record {
  hardware = ap (λ (e : Emitter). e.hardware) leaves;
  held = ap (λ (e : Emitter). e.held) leaves;
  at = ap (λ (e : Emitter). e.at) leaves;
  neighbors = ap (λ (e : Emitter). e.neighbors) leaves;
  numbers = ap (λ (e : Emitter). e.numbers) leaves;
}
kept_by settings hop (Some transmission) out later leaves =
    kept_one settings transmission (hop transmission.destination) out later leaves

-- the address of the hop that was not known is the one that the message asks for
refused_one : (settings : Settings) (transmission : Transmission) (hop : Option EthernetAddress) (out later : Emitter)
    → out.refused ≡ None → LeavesOne settings transmission hop out later
    → refused_hop later ≡ asked_unless hop (hop_address out.held transmission.destination)
refused_one settings transmission (Some hop) out later none leaves =
    ap refused_hop leaves.2 ∙ ap (hop_of_refused out.held) none
refused_one settings transmission None out later none leaves = ap refused_hop leaves

pub refused_by : (settings : Settings) (hop : Ipv4Address → Option EthernetAddress) (named : Option Transmission) (out later : Emitter)
    → out.refused ≡ None → Leaves settings hop named out later → refused_hop later ≡ dhcp_asked out.held hop named
refused_by settings hop None out later none leaves = ap refused_hop leaves ∙ ap (hop_of_refused out.held) none
refused_by settings hop (Some transmission) out later none leaves =
    refused_one settings transmission (hop transmission.destination) out later none leaves
