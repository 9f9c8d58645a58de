use Rattle.std.proofs.Common.{◌≡◌, Option, Some, None, List, [], ◌∷◌, ◌++◌, refl, sym, ◌∙◌}
use Rattle.net_wire.specs.declared.address.Ipv4Cidr.{Ipv4Cidr}
use Rattle.net_wire.specs.DhcpOptions.{items_within}
use Rattle.host_model.specs.Script.{Event}
use Rattle.host_model.specs.Examples.{tick, reset, example_settings}
use Rattle.host_model.specs.LastLeaseExamples.{IsLeasedAfter}
use Rattle.host_model.specs.LifeExamples.{leasing, short}
use Rattle.host_model.specs.Lives.{frame, leased, life, our_cidr}
use Rattle.host_model.specs.RenewalExamples.{rebinding}
use Rattle.host_model.specs.ServerFrames.{ack, nak, offer}
use Rattle.host_model.proofs.LastLeaseLemmas.{lease_found, lease_held}
use Rattle.host_model.proofs.laws.leases_last_by_example.Goals as goal

by_anchor : (events : List Event) → leased events ≡ Some our_cidr → IsLeasedAfter events
by_anchor events is = lease_found example_settings (life events) our_cidr is

not_both : (held : Option Ipv4Cidr) (address : Ipv4Cidr) → held ≡ None → held ≡ Some address → ⊥
not_both held address none some = (let clash : None ≡ Some address = sym none ∙ some in cc)

by_none : (events : List Event) → leased events ≡ None → IsLeasedAfter events → ⊥
by_none events none is =
    not_both (leased events) our_cidr none (lease_held example_settings (life events) our_cidr is)

pub returns : goal.returns
unfolding items_within
returns c = record {
  lasts = by_anchor (leasing ++ frame 0 (offer 100) ∷ tick 999999999 ∷ []) refl;
  renewed = by_anchor (rebinding ++ frame 1000000000 (ack 120) ∷ tick 1999999999 ∷ []) refl;
  ended = by_none (leasing ++ tick 1000000000 ∷ []) refl;
  refused = by_none (leasing ++ frame 0 (nak 100) ∷ []) refl;
  lost = by_none (leasing ++ reset 0 ∷ []) refl;
  heard = refl;
  without_offer = by_none (frame 0 (ack 1) ∷ []) refl;
  no_seconds = by_none short refl;
}
