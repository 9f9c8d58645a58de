-- How the effect of a call of the device below joins with what a layer made of the frame.
use Rattle.std.proofs.Common.{◌≡◌, ℕ, ◌+◌, ◌-◌, ◌^◌, min, ◌⊎◌, inl, inr, List, length, Option, Some, Result, ℤ, ap, arith}
use Rattle.std.proofs.lemmas.Result.{on_ok_weaker, on_err_weaker}
use Rattle.wire_base.specs.Causes.{IsRisen}
use Rattle.phy_layers.specs.declared.capabilities.DeviceCapabilities.{DeviceCapabilities}
use Rattle.phy_layers.specs.declared.capabilities.DeviceError.{DeviceError}
use Rattle.phy_layers.specs.declared.capabilities.PacketMeta.{PacketMeta}
use Rattle.phy_layers.specs.declared.capabilities.TracerDirection.TheVariants.{TX}
use Rattle.phy_layers.specs.declared.fault_injector.FaultInjector.{FaultInjector}
use Rattle.phy_layers.specs.Device.{Transmitted}
use Rattle.phy_layers.specs.FaultRule.{frame_after}
use Rattle.phy_layers.specs.FaultLayer.{outcome_at, layer_after, limited, drops_of, FaultWent, FaultLostOut, FaultRefusedOut}

-- a count that rose, or stands at its last value, does so beside another one
risen_beside : (old new other : ℕ) → IsRisen old new
    → IsRisen (min (old + other) (2 ^ 64 - 1)) (min (new + other) (2 ^ 64 - 1))
risen_beside old new other risen = grind arith

-- the device below was handed what passed the rule
pub sent_through : {D : Type 0} {waiting : D → Option (List (List ℕ))} {faults drops : D → ℕ}
    {takes : D → DeviceCapabilities}
    {went : D → D → ℤ → List ℕ → PacketMeta → Type 0} {lost_out refused_out : D → D → ℤ → List ℕ → Type 0}
    {result : Result (Unit {0}) DeviceError} {now : ℤ} {meta : PacketMeta} (frame handed : List ℕ)
    (old new : FaultInjector D)
    → Transmitted waiting faults drops takes went lost_out refused_out result now meta handed old.inner
    new.inner
    → frame_after (outcome_at old.layer TX now (length frame)).fate frame ≡ Some handed
    → new.layer ≡ layer_after old.layer (outcome_at old.layer TX now (length frame))
    → new.layer.dropped ≡ old.layer.dropped
    → Transmitted (λ layer. waiting layer.inner) (λ layer. faults layer.inner)
    (λ layer. drops_of (drops layer.inner) layer.layer)
    (λ layer. limited (takes layer.inner))
    (λ before after now frame meta. FaultWent went before.inner after.inner before.layer after.layer now frame
    meta)
    (λ before after now frame. FaultLostOut lost_out before.inner after.inner before.layer after.layer now
    frame)
    (λ before after now frame. FaultRefusedOut refused_out before.inner after.inner before.layer after.layer
    now frame)
    result now meta frame old new
sent_through {drops = drops} {went = went} {result = result} {now = now} {meta = meta} frame handed old new
    below passed left same =
    let risen : IsRisen (drops old.inner) (drops new.inner)
    → IsRisen (drops_of (drops old.inner) old.layer) (drops_of (drops new.inner) new.layer) =
    λ r. rw same (risen_beside (drops old.inner) (drops new.inner) old.layer.dropped r) in
    record {
      sent = on_ok_weaker result
          (λ (way : went old.inner new.inner now handed meta ⊎ IsRisen (drops old.inner) (drops new.inner)).
          elim way [
            | inl sent ↦ inl (record { handed = handed; passed = passed; sent = sent; left = left })
            | inr more ↦ inr (risen more)
          ]) below.sent;
      lost = on_ok_weaker result
          (λ lost more. inl (record {
            handed = handed;
            passed = passed;
            lost = lost (omega (arith, more, same));
            left = left;
          })) below.lost;
      refused = on_err_weaker result
          (λ refused. record { handed = handed; passed = passed; refused = refused; left = left })
          below.refused;
      fault = below.fault;
      quiet = below.quiet;
      later = (below.later.0, omega (arith, below.later.1, same));
      others = (below.others.0, ap limited below.others.1);
    }
