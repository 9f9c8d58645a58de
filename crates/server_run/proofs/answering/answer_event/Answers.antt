-- A frame is asked for what it brings.
use Rattle.std.proofs.Common.{sym, IfOk, subst}
use Rattle.phy_layers.specs.PcapBytes.{epoch_micros}
use Rattle.lease_server.specs.Values.{values_of}
use Rattle.script_reader.specs.declared.script.ScriptEvent.{ScriptEvent}
use Rattle.script_reader.specs.Reading.{arrival_of}
use Rattle.server_run.specs.Asking.{asked_at}
use Rattle.server_run.specs.Serving.{AnswersAsked}
use Rattle.server_run.proofs.answering.answer_event.Goals as goal

pub returns-in-Frame-clause-value : goal.returns-in-Frame-clause-value
returns-in-Frame-clause-value c = λ calls agrees.
    let values = values_of c.args.values.now in
    let P : ScriptEvent → Type 0 = λ event. IfOk c.answer_frame.result
    (λ given. AnswersAsked values calls (epoch_micros c.args.at) (asked_at values (arrival_of event)) given c.answer_frame.new.server) in
    subst P (sym c.in-Frame.is) (c.answer_frame.ensures.value calls agrees)
