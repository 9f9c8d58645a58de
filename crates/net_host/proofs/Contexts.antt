-- An event's context.
use Rattle.std.proofs.Common.{◌≡◌, ℕ, pos}
use Rattle.net_wire.specs.declared.error.Context.{Context}
use Rattle.host_model.specs.Settings.{Settings}

-- the time of the event, and what the host was told
pub record IsContextOf (settings : Settings) (at : ℕ) (cx : Context) : Type 0 where
  pub now : cx.now ≡ pos at
  pub hardware : cx.hardware_addr ≡ settings.hardware
  pub ip_mtu : cx.ip_mtu ≡ settings.ip_mtu
