-- The reply and the server are as the calls say.
use Rattle.std.proofs.Common.{ℕ, refl, subst, option_map}
use Rattle.phy_layers.specs.PcapBytes.{epoch_micros}
use Rattle.net_wire.specs.DhcpMessage.{message_of}
use Rattle.lease_server.specs.State.{Answers}
use Rattle.lease_server.specs.Values.{values_of}
use Rattle.server_run.proofs.AnsweredLemmas.{plain_reply, request_answered, same_micros}
use Rattle.server_run.proofs.answering.answer_request.Goals as goal

pub reply_frame-requires : goal.reply_frame-requires
reply_frame-requires c =
    plain_reply c.answer-reply.new.self.values (message_of c.args.request.now) c.answer-reply.result c.message-message.result c.message-message.ensures

pub returns-clause-value : goal.returns-clause-value
returns-clause-value c = λ calls agrees.
    let P : ℕ → Type 0 = λ at. Answers at (message_of c.args.request.now) c.answer-reply.result c.args.server.now c.answer-reply.new.self in
    request_answered (values_of c.args.values.now) calls (epoch_micros c.args.at) (message_of c.args.request.now) c.answer-reply.result
    (record { answered = _; sent = c.in_ok-sent.sent }) (option_map message_of c.message-message.result)
    c.args.server.now c.answer-reply.new.self agrees c.requires.later (subst P (same_micros c.args.at) c.answer-reply.ensures.value)
    c.message-message.ensures refl c.in_ok-sent.ensures.value
