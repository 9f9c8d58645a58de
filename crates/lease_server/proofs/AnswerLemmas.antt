-- What a call promises, from what its parts do.
use Rattle.std.proofs.Common.{◌≡◌, ℕ, ◌≤◌, Bool, cond, None, ap, ◌∙◌, arith}
use Rattle.net_wire.specs.declared.address.EthernetAddress.{EthernetAddress}
use Rattle.net_wire.specs.DhcpMessage.{Message}
use Rattle.lease_server.specs.declared.reply.Reply.{Reply}
use Rattle.lease_server.specs.Values.{refused}
use Rattle.lease_server.specs.Holdings.{same_hardware, held_after_reply}
use Rattle.lease_server.specs.Replies.{reply_to}
use Rattle.lease_server.specs.State.{Answers, Holders, ServerState, holding, is_taken}
use Rattle.lease_server.proofs.GiveLemmas.{held_at_once}
use Rattle.lease_server.proofs.TestLemmas.{itself}

pub answers_with : (now : ℕ) (message : Message) (what : Reply) (old left new : ServerState)
    → refused old.values ≡ None → left.values ≡ old.values → new.values ≡ left.values → new.holders ≡ left.holders → new.last ≡ now
    → what ≡ reply_to old.values (holding old.holders message.client_hardware_address now) (is_taken old.holders now) message
    → ((client : EthernetAddress) (at : ℕ) → now ≤ at → holding left.holders client at
    ≡ cond (same_hardware message.client_hardware_address client) (held_after_reply old.values now what at (holding old.holders client at)) (holding old.holders client at))
    → Answers now message what old new
answers_with now message what old left new checked kept same held last replies holds = record {
  replies = replies;
  holds = λ client at later. ap (λ (h : Holders). holding h client at) held ∙ holds client at later;
  gives = λ address gives_it.
      ap (λ (h : Holders). holding h message.client_hardware_address now) held
      ∙ holds message.client_hardware_address now (omega arith)
      ∙ ap (λ (b : Bool). cond b (held_after_reply old.values now what now (holding old.holders message.client_hardware_address now)) (holding old.holders message.client_hardware_address now))
      (itself message.client_hardware_address)
      ∙ held_at_once old.values now what address (holding old.holders message.client_hardware_address now) checked gives_it;
  same = same ∙ kept;
  last = last;
}
