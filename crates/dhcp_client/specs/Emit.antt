-- What a call of an emitter gives.
use Rattle.std.specs.Prelude.{◌≡◌, Result, OnOk}
use Rattle.std.specs.Result.{IsErrOf}
use Rattle.net_wire.specs.declared.error.EmitError.{EmitError}
use Rattle.net_wire.specs.declared.error.EmitError.TheVariants.{Unresolved, NoMemory}
use Rattle.dhcp_client.specs.Messages.{Outgoing}

-- An emitter that is `old` before the call and `new` after it answers a message; `took` and `refused` are its
-- meanings.
pub record Emitted {E : Type 0} (took refused : E → E → Outgoing → Type 0) (outgoing : Outgoing)
    (result : Result (Unit {0}) EmitError) (old new : E) : Type 0 where
  pub ok : OnOk result (took old new outgoing)
  pub unresolved : IsErrOf result Unresolved → refused old new outgoing
  pub memory : IsErrOf result NoMemory → new ≡ old
