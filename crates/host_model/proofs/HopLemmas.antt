-- What is known of a station is what the last packet of it told.
use Rattle.std.proofs.Common.{◌≡◌, ℕ, ◌-◌, ◌<◌, Bool, true, false, nat_lt, List, [], ◌∷◌, ◌++◌, Option, Some, None, refl, sym, ap, ◌∙◌}
use Rattle.std.proofs.lemmas.Bool.{lt-ltb, ltb-true, true≢false}
use Rattle.std.specs.Cmp.Lexicographic.{bytes_decides}
use Rattle.std.specs.List.{AllByRecursion}
use Rattle.net_wire.specs.declared.address.EthernetAddress.{EthernetAddress}
use Rattle.net_wire.specs.declared.address.Ipv4Address.{Ipv4Address}
use Rattle.net_wire.specs.declared.arp.ArpRepr.{ArpRepr}
use Rattle.dhcp_client.specs.Hearing.{same_address}
use Rattle.host_model.specs.declared.neighbor.Neighbor.{Neighbor}
use Rattle.host_model.specs.Script.{Event}
use Rattle.host_model.specs.Settings.{Settings}
use Rattle.host_model.specs.Neighbor.{told_by, or_told, neighbor_in, hop_of}
use Rattle.host_model.specs.Hops.{TellsOf, IsSilentOn, IsNeighbor}

pub by_test : {P : Type 0} (b : Bool) → (b ≡ true → P) → (b ≡ false → P) → P
by_test true hit miss = hit refl
by_test false hit miss = miss refl

-- addresses that are tested as the same are the same
pub one_address : (one other : Ipv4Address) → same_address one other ≡ true → one ≡ other
one_address one other same =
    let wrap : List ℕ → Ipv4Address = λ bytes. record { 0 = bytes } in
    ap wrap ((bytes_decides one.0 other.0).0 same)

pub itself : (one other : Ipv4Address) → one ≡ other → same_address one other ≡ true
itself one other is = (bytes_decides one.0 other.0).1 (ap (λ address. address.0) is)

module _ (settings : Settings) (address : Ipv4Address) where
  silent_by : (event : Event) (told : Option ArpRepr) (known : Option Neighbor)
      → told_by settings event.arrival ≡ told → IsSilentOn settings address event
      → or_told address event.at told known ≡ known
  silent_by event None known is silent = refl
  silent_by event (Some arp) known is silent = by_test (same_address arp.source_protocol_addr address)
      (λ same. absurd (silent arp (record { counts = is; sender = one_address _ _ same })))
      (λ differs. rw differs refl)

  -- a silent event leaves what is known
  pub silent_leaves : (event : Event) (events : List Event) → IsSilentOn settings address event
      → neighbor_in settings (event ∷ events) address ≡ neighbor_in settings events address
  silent_leaves event events silent =
      silent_by event (told_by settings event.arrival) (neighbor_in settings events address) refl silent

  -- and one that tells says all that is known
  pub told_is : (event : Event) (events : List Event) (told : ArpRepr) → TellsOf settings address event told
      → neighbor_in settings (event ∷ events) address
      ≡ Some (record { hardware = told.source_hardware_addr; since = event.at })
  told_is event events told tells = rw (tells.counts, itself _ _ tells.sender) refl

  all_silent : (newer events : List Event) → AllByRecursion (IsSilentOn settings address) newer
      → neighbor_in settings (newer ++ events) address ≡ neighbor_in settings events address
  all_silent [] events silent = refl
  all_silent (event ∷ newer) events silent =
      silent_leaves event (newer ++ events) silent.0 ∙ all_silent newer events silent.1

  module _ (at : ℕ) (hardware : EthernetAddress) where
    young_is : (neighbor : Neighbor) → hop_of at (Some neighbor) ≡ Some hardware
        → (at - neighbor.since < 60000000) × (neighbor.hardware ≡ hardware)
    young_is neighbor is = by_test (nat_lt (at - neighbor.since) 60000000)
        (λ young.
        let same : Some neighbor.hardware ≡ Some hardware = sym (rw young refl) ∙ is in
        (ltb-true _ _ young, (cc)))
        (λ old. absurd (let clash : None ≡ Some hardware = sym (rw old refl) ∙ is in cc))

    -- a station that told is the next hop
    pub neighbor_hops : (events : List Event) → IsNeighbor settings events at address hardware
        → hop_of at (neighbor_in settings events address) ≡ Some hardware
    neighbor_hops events is =
        rw (
          is.split,
          all_silent is.newer (is.event ∷ is.older) is.silent,
          told_is is.event is.older is.told is.tells,
        )
        (rw (lt-ltb _ _ is.young) (ap Some is.hardware_is))

    older_one : (event : Event) (events : List Event) → IsSilentOn settings address event
        → IsNeighbor settings events at address hardware
        → IsNeighbor settings (event ∷ events) at address hardware
    older_one event events silent is = record {
      newer = event ∷ is.newer;
      event = is.event;
      older = is.older;
      told = is.told;
      split = ap (λ later. event ∷ later) is.split;
      silent = (silent, is.silent);
      tells = is.tells;
      hardware_is = is.hardware_is;
      young = is.young;
    }

    newest : (event : Event) (events : List Event) (told : ArpRepr) → TellsOf settings address event told
        → hop_of at (neighbor_in settings (event ∷ events) address) ≡ Some hardware
        → IsNeighbor settings (event ∷ events) at address hardware
    newest event events told tells is =
        let young = young_is (record { hardware = told.source_hardware_addr; since = event.at })
        (ap (hop_of at) (sym (told_is event events told tells)) ∙ is) in
        record {
          newer = [];
          event = event;
          older = events;
          told = told;
          split = refl;
          silent = tt;
          tells = tells;
          hardware_is = young.1;
          young = young.0;
        }

    by_silence : (event : Event) (events : List Event) → IsSilentOn settings address event
        → (hop_of at (neighbor_in settings events address) ≡ Some hardware
        → IsNeighbor settings events at address hardware)
        → hop_of at (neighbor_in settings (event ∷ events) address) ≡ Some hardware
        → IsNeighbor settings (event ∷ events) at address hardware
    by_silence event events silent later is =
        older_one event events silent (later (ap (hop_of at) (sym (silent_leaves event events silent)) ∙ is))

    by_told : (event : Event) (events : List Event) (told : Option ArpRepr)
        → told_by settings event.arrival ≡ told
        → (hop_of at (neighbor_in settings events address) ≡ Some hardware
        → IsNeighbor settings events at address hardware)
        → hop_of at (neighbor_in settings (event ∷ events) address) ≡ Some hardware
        → IsNeighbor settings (event ∷ events) at address hardware
    by_told event events None none later is =
        by_silence event events
        (λ other tells. (let clash : None ≡ Some other = sym none ∙ tells.counts in cc)) later is
    by_told event events (Some arp) some later is = by_test (same_address arp.source_protocol_addr address)
        (λ same. newest event events arp (record { counts = some; sender = one_address _ _ same }) is)
        (λ differs. by_silence event events (λ other tells.
        let one : Some arp ≡ Some other = sym some ∙ tells.counts in
        let told_it : arp ≡ other = cc in
        let same = itself _ _ (ap (λ told. told.source_protocol_addr) told_it ∙ tells.sender) in
        absurd (true≢false (sym same ∙ differs)))
        later is)

    -- the next hop is a station that told
    pub hop_neighbors : (events : List Event)
        → hop_of at (neighbor_in settings events address) ≡ Some hardware
        → IsNeighbor settings events at address hardware
    hop_neighbors [] is = absurd (cc)
    hop_neighbors (event ∷ events) is =
        by_told event events (told_by settings event.arrival) refl (hop_neighbors events) is
