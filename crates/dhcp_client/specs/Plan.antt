-- What the client does at a call of `dispatch` (RFC 2131, section 4.4.1).
use Rattle.std.specs.Prelude.{◌≡◌, ℕ, ◌+◌, ℤ, ◌<ℤ◌, int_le, int_lt, nat_le, ◌&&◌, ◌||◌, Bool, not, true, Result, Ok, OnOk, OnErr, if◌then◌else◌}
use Rattle.net_wire.specs.declared.error.Context.{Context}
use Rattle.net_wire.specs.declared.error.EmitError.{EmitError}
use Rattle.net_wire.specs.declared.address.Ipv4Address.{Ipv4Address}
use Rattle.net_wire.specs.Time.{instant_after, micros_between}
use Rattle.dhcp_client.specs.declared.state.ClientState.{ClientState}
use Rattle.dhcp_client.specs.declared.state.ClientState.TheVariants.{Discovering, Requesting, Renewing}
use Rattle.dhcp_client.specs.declared.state.Lease.{Lease}
use Rattle.dhcp_client.specs.declared.state.ServerInfo.{ServerInfo}
use Rattle.dhcp_client.specs.Client.{Client, poll_at_of, after_reset}
use Rattle.dhcp_client.specs.Config.{ClientSettings}
use Rattle.dhcp_client.specs.Emit.{Emitted}
use Rattle.dhcp_client.specs.Messages.{Outgoing, discover_message, request_message, renewal_message, broadcast_outgoing, outgoing_between, limited_broadcast}
use Rattle.dhcp_client.specs.Times.{request_span, renew_span, rebind_span}

-- to send nothing; to begin anew; or a message: with the client's state if it is refused, and if it is taken
pub data Plan : Type 0 where
  Wait : Plan
  Restart : Plan
  Send : Outgoing → ClientState → ClientState → Plan

-- the discover of a client with an id; its request, with the id of the discover; its renewal from the leased
-- address
abbrev pub discover_of : ClientSettings → Context → ℕ → Outgoing
discover_of settings cx id = broadcast_outgoing settings.client_port settings.server_port
    (discover_message cx.hardware_addr cx.ip_mtu settings.parameters settings.options id)

abbrev pub request_of : ClientSettings → Context → ServerInfo → Ipv4Address → ℕ → Outgoing
request_of settings cx server requested id = broadcast_outgoing settings.client_port settings.server_port
    (request_message server.identifier requested cx.hardware_addr cx.ip_mtu
    settings.parameters settings.options id)

abbrev pub renewal_of : ClientSettings → Context → Ipv4Address → Ipv4Address → ℕ → Outgoing
renewal_of settings cx address destination id =
    outgoing_between address destination settings.client_port settings.server_port
    (renewal_message address cx.hardware_addr cx.ip_mtu settings.parameters settings.options id)

-- without a lease
abbrev pub discover_plan : ℤ → ClientSettings → Context → ℕ → Plan
discover_plan retry_at settings cx word =
    if int_le retry_at cx.now
    then Send (discover_of settings cx word) (Discovering retry_at)
    (Discovering (instant_after cx.now settings.retry.discover_timeout))
    else Wait

-- with an offer: requests until as many were sent as there may be
abbrev pub request_plan : ℤ → ℕ → ServerInfo → Ipv4Address → ClientSettings → ℕ → Context → Plan
request_plan retry_at retry server requested settings id cx =
    if int_lt cx.now retry_at then Wait
    else if nat_le settings.retry.request_retries retry then Restart
    else Send (request_of settings cx server requested id) (Requesting retry_at retry server requested)
    (Requesting (instant_after cx.now (request_span settings.retry.initial_request_timeout retry))
    (retry + 1) server requested)

-- with a lease: before T2 to the server, and from then on to all servers, which is marked even where it is
-- refused
abbrev pub renewed_at : Lease → ℤ → Lease
renewed_at lease at = record lease { renew_at = at }

abbrev pub rebinding_at : Lease → ℤ → Lease
rebinding_at lease at = record lease { rebind_at = at; rebinding = true }

abbrev pub renew_plan : Lease → ClientSettings → Context → ℕ → Plan
renew_plan lease settings cx word =
    Send (renewal_of settings cx lease.address.address lease.server.address word) (Renewing lease)
    (Renewing (renewed_at lease (instant_after cx.now
    (renew_span settings.retry.min_renew_timeout settings.retry.max_renew_timeout
    (micros_between lease.rebind_at cx.now)))))

abbrev pub rebind_plan : Lease → ClientSettings → Context → ℕ → Plan
rebind_plan lease settings cx word =
    Send (renewal_of settings cx lease.address.address limited_broadcast word)
    (Renewing (rebinding_at lease lease.rebind_at))
    (Renewing (rebinding_at lease (instant_after cx.now
    (rebind_span settings.retry.min_renew_timeout settings.retry.max_renew_timeout
    (micros_between lease.expires_at cx.now)))))

-- no renewal is due, to the server or, where that has begun, to all servers
abbrev pub is_early : Lease → ℤ → Bool
is_early lease now = int_lt now lease.renew_at || (lease.rebinding && int_lt now lease.rebind_at)

-- a renewal goes to the server alone
abbrev pub is_for_server : Lease → ℤ → Bool
is_for_server lease now = int_lt now lease.rebind_at && not lease.rebinding

abbrev pub lease_plan : Lease → ClientSettings → Context → ℕ → Plan
lease_plan lease settings cx word =
    if int_le lease.expires_at cx.now then Restart
    else if is_early lease cx.now then Wait
    else if is_for_server lease cx.now then renew_plan lease settings cx word
    else rebind_plan lease settings cx word

-- what a client in this state does at a moment, with the id of the message sent last, and the word as that of
-- a new exchange
abbrev pub plan_in : ClientState → ClientSettings → ℕ → Context → ℕ → Plan
plan_in (Discovering retry_at) settings id cx word = discover_plan retry_at settings cx word
plan_in (Requesting retry_at retry server requested) settings id cx word =
    request_plan retry_at retry server requested settings id cx
plan_in (Renewing lease) settings id cx word = lease_plan lease settings cx word

abbrev pub plan_for : Client → Context → ℕ → Plan
plan_for client cx word = plan_in client.state client.settings client.transaction_id cx word

-- A plan carried out: on the client, `old` before and `new` after it, and on the emitter, `out` before and
-- `later` after it. The id of a message counts once the message is taken.
abbrev pub Dispatched : {E : Type 0} → (E → E → Outgoing → Type 0) → (E → E → Outgoing → Type 0) → Plan
    → Result (Unit {0}) EmitError → Client → Client → E → E → Type 0
Dispatched took refused Wait result old new out later = (result ≡ Ok tt) × (new ≡ old) × (later ≡ out)
Dispatched took refused Restart result old new out later =
    (result ≡ Ok tt) × (new ≡ after_reset old) × (later ≡ out)
Dispatched took refused (Send outgoing before after) result old new out later =
    Emitted took refused outgoing result out later
    × OnOk result (new ≡ record old { state = after; transaction_id = outgoing.message.transaction_id })
    × OnErr result (new ≡ record old { state = before })

-- before its due a client waits
abbrev pub WaitsBeforeDue : Type 0
WaitsBeforeDue = (client : Client) (cx : Context) (word : ℕ) → cx.now <ℤ poll_at_of client.state
    → plan_for client cx word ≡ Wait
