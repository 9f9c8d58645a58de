-- What the frame asks was found in it.
use Rattle.std.proofs.Common.{sym, IfOk, subst}
use Rattle.phy_layers.specs.PcapBytes.{epoch_micros}
use Rattle.net_wire.specs.DhcpMessage.{message_of}
use Rattle.lease_server.specs.Values.{values_of}
use Rattle.server_run.specs.Asking.{Asked}
use Rattle.server_run.specs.Serving.{AnswersAsked}
use Rattle.server_run.proofs.AnsweredLemmas.{dhcp_asked}
use Rattle.server_run.proofs.answering.answer_frame.Goals as goal

pub returns-in-Some-clause-value : goal.returns-in-Some-clause-value
returns-in-Some-clause-value c = λ calls agrees.
    let values = values_of c.args.values.now in
    let asked = dhcp_asked values c.args.frame.now (message_of c.in-Some.request) c.in-Some.ensures in
    let P : Asked → Type 0 = λ what. IfOk c.answer_request.result
    (λ given. AnswersAsked values calls (epoch_micros c.args.at) what given c.answer_request.new.server) in
    subst P (sym asked) (c.answer_request.ensures.value calls agrees)
