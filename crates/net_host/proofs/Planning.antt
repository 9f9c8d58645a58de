-- What a client plans that goes by an anchor, in the words of the history.
use Rattle.std.proofs.Common.{◌≡◌, ℕ, ◌+◌, ◌<◌, ◌≤◌, ◌⊎◌, List, ◌∷◌, true, false, length}
use Rattle.net_wire.specs.declared.error.Context.{Context}
use Rattle.net_wire.specs.declared.protocol.IpProtocol.TheVariants.{Udp}
use Rattle.net_wire.specs.DhcpBytes.{message_bytes}
use Rattle.dhcp_client.specs.declared.state.ClientState.{ClientState}
use Rattle.dhcp_client.specs.Messages.{Outgoing, limited_broadcast}
use Rattle.dhcp_client.specs.Plan.{Plan, Wait, Restart, Send, plan_in}
use Rattle.host_model.specs.declared.words.EventWords.{EventWords}
use Rattle.host_model.specs.Settings.{Settings}
use Rattle.host_model.specs.History.{Transmission}
use Rattle.host_model.specs.Anchor.{Anchor, due_under, is_over}
use Rattle.host_model.specs.Named.{message_under}
use Rattle.net_host.specs.Following.{state_with}
use Rattle.net_host.proofs.PollAtLemmas.{polled_under}

-- a message of the history, as the client hands it to its emitter
abbrev pub outgoing_for : Settings → Transmission → Outgoing
outgoing_for settings transmission = record {
  ip = record {
    src_addr = transmission.source;
    dst_addr = transmission.destination;
    next_header = Udp;
    payload_len = length (message_bytes transmission.message) + 8;
    hop_limit = 64;
  };
  udp = record { src_port = settings.client.client_port; dst_port = settings.client.server_port };
  message = transmission.message;
}

-- time ended what the client goes by, and it begins anew
pub record PlansRestart (settings : Settings) (sent : List ℕ) (at : ℕ) (anchor : Anchor) (plan : Plan)
    : Type 0 where
  pub over : is_over settings.client.retry sent at anchor ≡ true
  pub plan_is : plan ≡ Restart

-- The message of the history is due. Only one whose hop may be unknown can be refused, and that leaves the
-- state; once it is taken, the client is polled later.
pub record PlansMessage (settings : Settings) (sent : List ℕ) (at id : ℕ) (words : EventWords)
    (anchor : Anchor) (plan : Plan) : Type 0 where
  pub going : is_over settings.client.retry sent at anchor ≡ false
  pub due : due_under settings.client.retry sent anchor ≤ at
  pub middle : ClientState
  pub plan_is : plan ≡ Send (outgoing_for settings (message_under settings id at words anchor)) middle
      (state_with settings.client.retry (at ∷ sent) anchor)
  pub refused : ((message_under settings id at words anchor).destination ≡ limited_broadcast)
      ⊎ (middle ≡ state_with settings.client.retry sent anchor)
  pub moves : at < polled_under settings.client.retry (at ∷ sent) anchor

-- nothing is due
pub record PlansNothing (settings : Settings) (sent : List ℕ) (at : ℕ) (anchor : Anchor) (plan : Plan)
    : Type 0 where
  pub going : is_over settings.client.retry sent at anchor ≡ false
  pub early : at < due_under settings.client.retry sent anchor
  pub plan_is : plan ≡ Wait

abbrev pub Planned : Settings → List ℕ → ℕ → ℕ → EventWords → Anchor → Plan → Type 0
Planned settings sent at id words anchor plan =
    PlansRestart settings sent at anchor plan
    ⊎ (PlansMessage settings sent at id words anchor plan ⊎ PlansNothing settings sent at anchor plan)

-- the plan of a client whose id is that of the last message
abbrev pub plan_under : Settings → List ℕ → ℕ → EventWords → Anchor → Context → Plan
plan_under settings sent id words anchor cx =
    plan_in (state_with settings.client.retry sent anchor) settings.client id cx words.first
