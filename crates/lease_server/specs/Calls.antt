-- A server is as the list of calls says, newest first, without a look at its fields.
use Rattle.std.specs.Prelude.{◌≡◌, ℕ, ◌≤◌, Bool, List, [], ◌∷◌}
use Rattle.std.specs.List.{list_any}
use Rattle.net_wire.specs.declared.address.EthernetAddress.{EthernetAddress}
use Rattle.net_wire.specs.DhcpMessage.{Message}
use Rattle.lease_server.specs.declared.reply.Reply.{Reply}
use Rattle.lease_server.specs.Values.{Values}
use Rattle.lease_server.specs.Holdings.{Call, held_by, holds_number}
use Rattle.lease_server.specs.Replies.{reply_to}
use Rattle.lease_server.specs.State.{Answers, ServerState, call_of, holding, new_server}

-- some client of the calls holds the address with a number
abbrev pub is_taken_by : Values → List Call → ℕ → ℕ → Bool
is_taken_by values calls at number = list_any (λ call. holds_number (held_by values calls call.client at) number) calls

-- the call that a message makes, after other calls
abbrev pub call_for : Values → List Call → ℕ → Message → Call
call_for values calls now message = call_of now message
    (reply_to values (held_by values calls message.client_hardware_address now) (is_taken_by values calls now) message)

pub record Agrees (values : Values) (calls : List Call) (server : ServerState) : Type 0 where
  pub same : server.values ≡ values
  pub holds : (client : EthernetAddress) (at : ℕ) → server.last ≤ at
      → holding server.holders client at ≡ held_by values calls client at

-- A new server is as no call says. After a call that answers, the reply is that of the call that the list names,
-- and the server is as the list with that call says.
pub record IsAsCalled : Type 0 where
  pub new : (values : Values) → Agrees values [] (new_server values)
  pub reply : (values : Values) (calls : List Call) (now : ℕ) (message : Message) (what : Reply) (old new : ServerState)
      → Agrees values calls old → old.last ≤ now → Answers now message what old new → what ≡ (call_for values calls now message).reply
  pub goes_on : (values : Values) (calls : List Call) (now : ℕ) (message : Message) (what : Reply) (old new : ServerState)
      → Agrees values calls old → old.last ≤ now → Answers now message what old new
      → Agrees values (call_for values calls now message ∷ calls) new
