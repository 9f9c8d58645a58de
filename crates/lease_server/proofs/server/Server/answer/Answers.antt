use Rattle.std.proofs.Common.{◌≡◌, ℕ, sym, ap, None, subst, refl, arith}
use Rattle.managed.specs.SortedMap.{pairs}
use Rattle.managed.specs.SlotMap.{elements_of, places_of}
use Rattle.net_wire.specs.DhcpMessage.{message_of}
use Rattle.lease_server.specs.Inside.{state_inside}
use Rattle.lease_server.specs.Holders.{CanHold}
use Rattle.lease_server.specs.Replies.{reply_to}
use Rattle.lease_server.specs.State.{Answers, ServerState, holding, is_taken, micros_of}
use Rattle.lease_server.specs.Values.{values_of, refused}
use Rattle.lease_server.proofs.AnswerLemmas.{answers_with}
use Rattle.lease_server.proofs.GiveLemmas.{can_give, is_fair}
use Rattle.lease_server.proofs.server.Server.answer.Goals as goal

pub change-requires-clause-can : goal.change-requires-clause-can
change-requires-clause-can c = λ address gives.
    let inside = c.self.inside in
    let client = c.args.message.now.client_hardware_address in
    let P : ServerState → Type 0 = λ s. CanHold s.values s.holders c.micros_of-at.result client address in
    let Q : ServerState → Type 0 = λ s. c.reply-reply.result
    ≡ reply_to s.values (holding s.holders client c.micros_of-at.result) (is_taken s.holders c.micros_of-at.result) (message_of c.args.message.now) in
    subst P c.self.view_is (can_give (values_of inside.values) (pairs inside.clients) (elements_of inside.leases) (places_of inside.leases) c.self.invariant.holders
    c.micros_of-at.result client (message_of c.args.message.now) c.reply-reply.result address c.self.invariant.checked
    (subst Q (sym c.self.view_is) c.reply-reply.ensures) gives)

pub returns-clause-value : goal.returns-clause-value
returns-clause-value c =
    let left = c.self-2.inside in
    let new : ServerState = record { values = values_of left.values; holders = (state_inside left).holders; last = c.micros_of-at.result } in
    let R : ℕ → Type 0 = λ n. Answers n (message_of c.args.message.now) c.reply-reply.result c.args.self.now new in
    let C : ServerState → Type 0 = λ s. refused s.values ≡ None in
    subst R c.micros_of-at.ensures (answers_with c.micros_of-at.result (message_of c.args.message.now) c.reply-reply.result c.args.self.now c.change.new.self new
    (subst C c.self.view_is c.self.invariant.checked) c.change.ensures.same
    (ap (λ (s : ServerState). s.values) c.self-2.view_is) (ap (λ (s : ServerState). s.holders) c.self-2.view_is) refl
    c.reply-reply.ensures c.change.ensures.holds)

pub returns-clause-fair : goal.returns-clause-fair
returns-clause-fair c =
    let left = c.self-2.inside in
    is_fair (values_of left.values) (pairs left.clients) (elements_of left.leases) (places_of left.leases) c.self-2.invariant.holders c.micros_of-at.result

pub returns-clause-alone : goal.returns-clause-alone
returns-clause-alone c = λ address gives other its.
    let left = c.self-2.inside in
    let fair = is_fair (values_of left.values) (pairs left.clients) (elements_of left.leases) (places_of left.leases) c.self-2.invariant.holders
    c.micros_of-at.result in
    fair.alone c.args.message.now.client_hardware_address other (micros_of c.args.now) address address
    (omega (arith, c.micros_of-at.ensures)) ((returns-clause-value c).gives address gives) its refl
