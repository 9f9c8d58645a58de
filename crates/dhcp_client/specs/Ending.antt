-- Why a host that dispatches as long as its client is due comes to an end.
use Rattle.std.specs.Prelude.{ℕ, ◌-◌, ◌<◌, ◌^◌, ℤ, pos, ◌<ℤ◌, ◌≤ℤ◌, int_le, List, Option, ⊤, if◌then◌else◌}
use Rattle.net_wire.specs.declared.address.Ipv4Address.{Ipv4Address}
use Rattle.net_wire.specs.declared.error.Context.{Context}
use Rattle.net_wire.specs.DhcpMessage.{Message}
use Rattle.dhcp_client.specs.declared.retry.RetryConfig.{RetryConfig}
use Rattle.dhcp_client.specs.declared.state.ClientState.{ClientState}
use Rattle.dhcp_client.specs.declared.state.ClientState.TheVariants.{Discovering, Requesting, Renewing}
use Rattle.dhcp_client.specs.Client.{Client, poll_at_of, after_reset, new_client}
use Rattle.dhcp_client.specs.Config.{ClientSettings}
use Rattle.dhcp_client.specs.Hearing.{after_message}
use Rattle.dhcp_client.specs.Plan.{Plan, Wait, Restart, Send, plan_for}

-- the last moment that there is
abbrev pub last_instant : ℤ
last_instant = pos (2 ^ 63 - 1)

-- With a lease, the next renewal to the server is not after the next one to all servers.
abbrev pub IsOrdered : ClientState → Type 0
IsOrdered (Discovering retry_at) = ⊤
IsOrdered (Requesting retry_at retry server requested_ip) = ⊤
IsOrdered (Renewing lease) = lease.renew_at ≤ℤ lease.rebind_at

-- timeouts of a microsecond or more
pub record HasTimeouts (retry : RetryConfig) : Type 0 where
  pub discover : 0 < retry.discover_timeout
  pub request : 0 < retry.initial_request_timeout
  pub least : 0 < retry.min_renew_timeout
  pub greatest : 0 < retry.max_renew_timeout

-- after a message is taken, the next one is due later than now
abbrev pub MovesDue : ℤ → Plan → Type 0
MovesDue now Wait = ⊤
MovesDue now Restart = ⊤
MovesDue now (Send outgoing before after) = now <ℤ poll_at_of after

abbrev pub MessagesMoveDue : Type 0
MessagesMoveDue = (client : Client) (cx : Context) (word : ℕ) → HasTimeouts client.settings.retry
    → cx.now <ℤ last_instant → MovesDue cx.now (plan_for client cx word)

-- both states that a message may leave have their dues in order
abbrev pub KeepsOrder : Plan → Type 0
KeepsOrder Wait = ⊤
KeepsOrder Restart = ⊤
KeepsOrder (Send outgoing before after) = IsOrdered before × IsOrdered after

-- a new client, one that begins anew, one that a message reached, and one that is dispatched, at any moment
pub record DuesStayOrdered : Type 0 where
  pub at_first : (settings : ClientSettings) → IsOrdered (new_client settings).state
  pub reset : (client : Client) → IsOrdered (after_reset client).state
  pub heard : (client : Client) (cx : Context) (source : Ipv4Address) (bytes : List ℕ)
      (message : Option Message) → IsOrdered client.state
      → IsOrdered (after_message client cx source bytes message).state
  pub dispatched : (client : Client) (cx : Context) (word : ℕ) → cx.now ≤ℤ last_instant
      → IsOrdered client.state → KeepsOrder (plan_for client cx word)

-- How many dispatches a client may have before it: none before its due, one message where it discovers, and
-- else one more, since it may begin anew first.
abbrev pub calls_of : ClientState → ℕ
calls_of (Discovering retry_at) = 1
calls_of (Requesting retry_at retry server requested_ip) = 2
calls_of (Renewing lease) = 2

abbrev pub calls_left : ℤ → ClientState → ℕ
calls_left now state = if int_le (poll_at_of state) now then calls_of state else 0

-- what is planned is to send or to begin anew, and leaves fewer dispatches
abbrev pub LeavesFewer : ℤ → ClientState → Plan → Type 0
LeavesFewer now state Wait = ⊥
LeavesFewer now state Restart = calls_left now (Discovering (pos 0)) < calls_left now state
LeavesFewer now state (Send outgoing before after) = calls_left now after < calls_left now state

-- each dispatch of a due client that is not refused leaves fewer
abbrev pub DispatchesEnd : Type 0
DispatchesEnd = (client : Client) (cx : Context) (word : ℕ) → HasTimeouts client.settings.retry
    → cx.now <ℤ last_instant → IsOrdered client.state → poll_at_of client.state ≤ℤ cx.now
    → LeavesFewer cx.now client.state (plan_for client cx word)
