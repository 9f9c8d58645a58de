-- When a DHCP client goes on by time alone, by its state.
use Rattle.std.specs.Prelude.{ℤ, Option, Some, None, if◌then◌else◌}
use Rattle.dhcp_client.specs.declared.state.ClientState.{ClientState}
use Rattle.dhcp_client.specs.declared.state.ClientState.TheVariants.{Discovering, Requesting, Renewing}
use Rattle.dhcp_client.specs.declared.state.Lease.{Lease}
use Rattle.dns_client.specs.Slots.{behind, earlier}

-- the next renewal, which goes to the server, or to all servers once one did
abbrev pub first_renewal : Lease → ℤ
first_renewal lease = if lease.rebinding then lease.rebind_at else lease.renew_at

-- the first one to all servers, until one went to them
abbrev pub first_rebinding : Lease → Option ℤ
first_rebinding lease = if lease.rebinding then None else Some lease.rebind_at

abbrev pub state_moment : Option ℤ → ClientState → Option ℤ
state_moment last (Discovering retry_at) = behind last (Some retry_at)
state_moment last (Requesting retry_at retry server requested_ip) = behind last (Some retry_at)
state_moment last (Renewing lease) =
    earlier (behind last (Some (first_renewal lease)))
    (earlier (behind last (first_rebinding lease)) (behind last (Some lease.expires_at)))
