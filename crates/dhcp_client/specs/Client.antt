-- The client as a value, without where its lists lie in memory.
use Rattle.std.specs.Prelude.{ℕ, ℤ, pos, Bool, true, false, ◌||◌, List, [], Option, None, if◌then◌else◌}
use Rattle.std.specs.Int.{int_min}
use Rattle.net_wire.specs.declared.address.Ipv4Address.{Ipv4Address}
use Rattle.dhcp_client.specs.declared.state.ClientState.{ClientState}
use Rattle.dhcp_client.specs.declared.state.ClientState.TheVariants.{Discovering, Requesting, Renewing}
use Rattle.dhcp_client.specs.declared.state.Lease.{Lease}
use Rattle.dhcp_client.specs.Config.{ClientSettings}

-- the state; the name servers of the lease; whether the configuration changed since the last event; the id of
-- the message sent last; the bytes of its buffer for received packets, if it was given one; what it was told
pub record Client : Type 0 where
  pub state : ClientState
  pub dns_servers : List Ipv4Address
  pub changed : Bool
  pub transaction_id : ℕ
  pub packet : Option (List ℕ)
  pub settings : ClientSettings

-- a client that has sent nothing: it discovers at moment 0
abbrev pub new_client : ClientSettings → Client
new_client settings = record {
  state = Discovering (pos 0);
  dns_servers = [];
  changed = true;
  transaction_id = 1;
  packet = None;
  settings = settings;
}

-- when a lease is renewed next, and at most its end
abbrev pub lease_poll_at : Lease → ℤ
lease_poll_at lease =
    int_min (if lease.rebinding then lease.rebind_at else int_min lease.renew_at lease.rebind_at)
    lease.expires_at

-- when a client in this state sends next, or begins anew
abbrev pub poll_at_of : ClientState → ℤ
poll_at_of (Discovering retry_at) = retry_at
poll_at_of (Requesting retry_at retry server requested_ip) = retry_at
poll_at_of (Renewing lease) = lease_poll_at lease

abbrev pub has_lease : ClientState → Bool
has_lease (Discovering retry_at) = false
has_lease (Requesting retry_at retry server requested_ip) = false
has_lease (Renewing lease) = true

-- A client that begins anew: it discovers at moment 0, and the id of the message sent last stays. A lease
-- that is lost changes the configuration.
abbrev pub after_reset : Client → Client
after_reset client = record client {
  state = Discovering (pos 0);
  dns_servers = [];
  changed = client.changed || has_lease client.state;
}
