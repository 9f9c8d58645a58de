-- Closed examples of which address is leased: whether the lease of an acknowledgement lasts.
use Rattle.std.specs.Prelude.{◌≡◌, List, [], ◌∷◌, ◌++◌}
use Rattle.dhcp_client.specs.Heard.{AnAck}
use Rattle.host_model.specs.Script.{Event}
use Rattle.host_model.specs.Examples.{tick, reset, example_settings}
use Rattle.host_model.specs.Hearing.{heard_at}
use Rattle.host_model.specs.LastLease.{IsLeaseOf}
use Rattle.host_model.specs.LifeExamples.{leasing, short}
use Rattle.host_model.specs.Lives.{frame, granted, life, our_cidr}
use Rattle.host_model.specs.RenewalExamples.{rebinding}
use Rattle.host_model.specs.ServerFrames.{ack, nak, offer}

abbrev pub IsLeasedAfter : List Event → Type 0
IsLeasedAfter events = IsLeaseOf example_settings (life events) our_cidr

-- A lease of 1000 s lasts from its acknowledgement until its end, whatever is offered, and from that of its
-- renewal; not from its end, a refusal or a reset on. An acknowledgement leases nothing that is heard without
-- an offer, or that grants no seconds.
pub record LeasesLastByExample : Type 0 where
  pub lasts : IsLeasedAfter (leasing ++ frame 0 (offer 100) ∷ tick 999999999 ∷ [])
  pub renewed : IsLeasedAfter (rebinding ++ frame 1000000000 (ack 120) ∷ tick 1999999999 ∷ [])
  pub ended : IsLeasedAfter (leasing ++ tick 1000000000 ∷ []) → ⊥
  pub refused : IsLeasedAfter (leasing ++ frame 0 (nak 100) ∷ []) → ⊥
  pub lost : IsLeasedAfter (leasing ++ reset 0 ∷ []) → ⊥
  pub heard : heard_at example_settings [] (ack 1) ≡ AnAck granted
  pub without_offer : IsLeasedAfter (frame 0 (ack 1) ∷ []) → ⊥
  pub no_seconds : IsLeasedAfter short → ⊥
