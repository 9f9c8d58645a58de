-- What is asked is answered.
use Rattle.std.proofs.Common.{◌≡◌, ℕ, ◌≤◌, ℤ, pos, List, Option, Some, None, IfSome, ap, sym, subst, refl, ◌∙◌, negsuc}
use Rattle.std.specs.Option.{option_map}
use Rattle.phy_layers.specs.PcapBytes.{epoch_micros}
use Rattle.net_wire.specs.declared.arp.ArpRepr.{ArpRepr}
use Rattle.net_wire.specs.declared.dhcp.DhcpRepr.{DhcpRepr}
use Rattle.net_wire.specs.DhcpMessage.{Message, message_of}
use Rattle.lease_server.specs.declared.reply.Reply.{Reply}
use Rattle.lease_server.specs.declared.reply.Reply.TheVariants as reply
use Rattle.lease_server.specs.Calls.{Agrees}
use Rattle.lease_server.specs.Holdings.{Call}
use Rattle.lease_server.specs.Messages.{reply_message}
use Rattle.lease_server.specs.State.{Answers, ServerState, micros_of}
use Rattle.lease_server.specs.Values.{Values}
use Rattle.lease_server.proofs.CallLemmas.{is_as_called}
use Rattle.server_run.specs.declared.answering.Given.{Given}
use Rattle.server_run.specs.declared.report.Answered.TheVariants as answered
use Rattle.server_run.specs.Answering.{IsFrameOf, reply_at}
use Rattle.server_run.specs.Asking.{Asked, ByDhcp, ByArp, Nothing, arp_request_in, asked_by, asked_in, request_in}
use Rattle.server_run.specs.Serving.{AnswersAsked, IsPlain}

-- the microseconds of an instant
pub same_micros : (at : ℤ) → micros_of at ≡ epoch_micros at
same_micros (pos micros) = refl
same_micros (negsuc before) = refl

-- what a server replies has no request list and no options of a caller
reply_plain : (values : Values) (request : Message) (what : Reply) → IfSome (reply_message values request what) IsPlain
reply_plain values request (reply.Offer address) = record { request_list = refl; options = refl }
reply_plain values request (reply.Ack address) = record { request_list = refl; options = refl }
reply_plain values request reply.Nak = record { request_list = refl; options = refl }
reply_plain values request (reply.Silent why) = tt

by_value : (message : Option DhcpRepr) (value : Option Message) → option_map message_of message ≡ value → IfSome value IsPlain
    → IfSome message (λ m. IsPlain (message_of m))
by_value None value same plain = tt
by_value (Some message) value same plain =
    let P : Option Message → Type 0 = λ found. IfSome found IsPlain in
    subst P (sym same) plain

pub plain_reply : (values : Values) (request : Message) (what : Reply) (message : Option DhcpRepr)
    → option_map message_of message ≡ reply_message values request what → IfSome message (λ m. IsPlain (message_of m))
plain_reply values request what message same = by_value message (reply_message values request what) same (reply_plain values request what)

-- a message of a client is answered as the calls say
pub request_answered : (values : Values) (calls : List Call) (at : ℕ) (request : Message) (what : Reply) (given : Given)
    (message : Option Message) (old new : ServerState) → Agrees values calls old → old.last ≤ at → Answers at request what old new
    → message ≡ reply_message new.values request what → given.answered ≡ answered.Dhcp what → IsFrameOf values message given.sent
    → AnswersAsked values calls at (ByDhcp request) given new
request_answered values calls at request what given message old new agrees later answers is_message is_answered is_frame =
    let is_reply : what ≡ reply_at values calls at request = is_as_called.reply values calls at request what old new agrees later answers in
    let goes_on = is_as_called.goes_on values calls at request what old new agrees later answers in
    let P : Option Message → Type 0 = λ m. IsFrameOf values m given.sent in
    let R : Reply → Type 0 = λ r. IsFrameOf values (reply_message values request r) given.sent in
    let V : Values → Type 0 = λ v. IsFrameOf values (reply_message v request what) given.sent in
    record {
      answered = is_answered ∙ ap answered.Dhcp is_reply;
      sent = subst R is_reply (subst V goes_on.same (subst P is_message is_frame));
      agrees = goes_on;
    }

-- what a frame asks, by what was found in it
pub dhcp_asked : (values : Values) (frame : List ℕ) (request : Message) → Some request ≡ request_in values.hardware frame
    → asked_in values frame ≡ ByDhcp request
dhcp_asked values frame request found = ap (λ r. asked_by r (arp_request_in values frame)) (sym found)

pub arp_asked : (values : Values) (frame : List ℕ) (arp : ArpRepr) → None ≡ request_in values.hardware frame
    → Some arp ≡ arp_request_in values frame → asked_in values frame ≡ ByArp arp
arp_asked values frame arp none found =
    ap (λ r. asked_by r (arp_request_in values frame)) (sym none) ∙ ap (asked_by None) (sym found)

pub nothing_asked : (values : Values) (frame : List ℕ) → None ≡ request_in values.hardware frame
    → None ≡ arp_request_in values frame → asked_in values frame ≡ Nothing
nothing_asked values frame none found =
    ap (λ r. asked_by r (arp_request_in values frame)) (sym none) ∙ ap (asked_by None) (sym found)

-- an answer to what was asked
pub answers_same : (values : Values) (calls : List Call) (at : ℕ) (one other : Asked) (given : Given) (server : ServerState)
    → one ≡ other → AnswersAsked values calls at other given server → AnswersAsked values calls at one given server
answers_same values calls at one other given server same answers =
    let P : Asked → Type 0 = λ asked. AnswersAsked values calls at asked given server in
    subst P (sym same) answers
