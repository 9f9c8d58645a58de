-- A server is as the list of calls says.
use Rattle.std.proofs.Common.{◌≡◌, ℕ, zero, suc, ◌+◌, ◌≤◌, Bool, true, false, cond, ◌||◌, List, [], ◌∷◌, Option, Some, refl, sym, ap, ◌∙◌, arith}
use Rattle.std.specs.List.{list_any}
use Rattle.managed.proofs.OrderLemmas.{by_test}
use Rattle.net_wire.specs.declared.address.EthernetAddress.{EthernetAddress}
use Rattle.net_wire.specs.declared.address.Ipv4Address.{Ipv4Address}
use Rattle.net_wire.specs.DhcpMessage.{Message}
use Rattle.lease_server.specs.declared.reply.Reply.{Reply}
use Rattle.lease_server.specs.Values.{Values, address_of, first_number}
use Rattle.lease_server.specs.Holdings.{Call, held_after, held_after_reply, held_by, holds_number, same_hardware}
use Rattle.lease_server.specs.Replies.{first_free, reply_by, reply_to}
use Rattle.lease_server.specs.State.{Answers, ServerState, call_of, holding, is_taken}
use Rattle.lease_server.specs.Calls.{Agrees, IsAsCalled, call_for, is_taken_by}
use Rattle.lease_server.proofs.GiveLemmas.{taken_by, or_right}
use Rattle.lease_server.proofs.LawLemmas.{any_gives}
use Rattle.lease_server.proofs.TestLemmas.{same_client, true_false}

-- a client that holds something is a client of a call
client_of_call : (values : Values) (test : EthernetAddress → Bool) (calls : List Call) (client : EthernetAddress) (at number : ℕ)
    → holds_number (held_by values calls client at) number ≡ true → test client ≡ true → list_any (λ call. test call.client) calls ≡ true
client_of_call values test [] client at number holds is = absurd (true_false false holds refl)
client_of_call values test (call ∷ before) client at number holds is = by_test (same_hardware call.client client)
    (λ hit. let here : test call.client ≡ true = ap test (same_client call.client client hit) ∙ is in
    ap (λ (b : Bool). b || list_any (λ call. test call.client) before) here)
    (λ miss. or_right (test call.client) (list_any (λ call. test call.client) before)
    (client_of_call values test before client at number
    (sym (ap (λ (b : Bool). holds_number (cond b (held_after_reply values call.at call.reply at (held_by values before client at)) (held_by values before client at)) number) miss) ∙ holds)
    is))

same_tests : (one other : Bool) → (one ≡ true → other ≡ true) → (other ≡ true → one ≡ true) → one ≡ other
same_tests true other there back = sym (there refl)
same_tests false true there back = back refl
same_tests false false there back = refl

alike_free : (one other : ℕ → Bool) → ((number : ℕ) → one number ≡ other number) → (first count : ℕ) → first_free one first count ≡ first_free other first count
alike_free one other alike first zero = refl
alike_free one other alike first (suc count) =
    ap (λ (b : Bool). cond b (first_free one (first + 1) count) (Some (address_of first))) (alike first)
    ∙ ap (λ (rest : Option Ipv4Address). cond (other first) rest (Some (address_of first))) (alike_free one other alike (first + 1) count)

module _ (values : Values) (calls : List Call) (now : ℕ) (message : Message) (what : Reply) (old new : ServerState)
    (agrees : Agrees values calls old) (later : old.last ≤ now) (answers : Answers now message what old new) where
  taken_alike : (number : ℕ) → is_taken old.holders now number ≡ is_taken_by values calls now number
  taken_alike number = same_tests (is_taken old.holders now number) (is_taken_by values calls now number)
      (λ taken. let found = any_gives (λ holder. holds_number (holding old.holders holder.0 now) number) old.holders taken in
      let holds : holds_number (held_by values calls found.0.0 now) number ≡ true
      = ap (λ (o : Option Ipv4Address). holds_number o number) (sym (agrees.holds found.0.0 now later)) ∙ found.1 in
      client_of_call values (λ c. holds_number (held_by values calls c now) number) calls found.0.0 now number holds holds)
      (λ taken. let found = any_gives (λ call. holds_number (held_by values calls call.client now) number) calls taken in
      taken_by old.holders found.0.client now number
      (ap (λ (o : Option Ipv4Address). holds_number o number) (agrees.holds found.0.client now later) ∙ found.1))

  abbrev client : EthernetAddress
  client = message.client_hardware_address

  replies_alike : what ≡ (call_for values calls now message).reply
  replies_alike =
      answers.replies
      ∙ ap (λ (v : Values). reply_to v (holding old.holders client now) (is_taken old.holders now) message) agrees.same
      ∙ ap (λ (mine : Option Ipv4Address). reply_to values mine (is_taken old.holders now) message) (agrees.holds client now later)
      ∙ ap (λ (free : Option Ipv4Address). reply_by values (held_by values calls client now) free message message.message_type)
      (alike_free (is_taken old.holders now) (is_taken_by values calls now) taken_alike (first_number values) values.count)

  agrees_after : Agrees values (call_for values calls now message ∷ calls) new
  agrees_after = record {
    same = answers.same ∙ agrees.same;
    holds = λ other at since.
        let then : now ≤ at = omega (arith, since, answers.last) in
        let before : old.last ≤ at = omega (arith, later, since, answers.last) in
        answers.holds other at then
        ∙ ap (λ (v : Values). held_after v (call_of now message what) other at (holding old.holders other at)) agrees.same
        ∙ ap (λ (held : Option Ipv4Address). held_after values (call_of now message what) other at held) (agrees.holds other at before)
        ∙ ap (λ (w : Reply). held_after values (call_of now message w) other at (held_by values calls other at)) replies_alike;
  }

pub is_as_called : IsAsCalled
is_as_called = record {
  new = λ values. record { same = refl; holds = λ client at since. refl };
  reply = λ values calls now message what old new agrees later answers. replies_alike values calls now message what old new agrees later answers;
  goes_on = λ values calls now message what old new agrees later answers. agrees_after values calls now message what old new agrees later answers;
}
