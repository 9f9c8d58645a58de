-- Looks one after another.
use Rattle.std.proofs.Common.{◌≡◌, ℕ, suc, ◌+◌, ◌<◌, ◌≤◌, [], ◌∷◌, ◌++◌, length, take, drop, get_or, set, Option, Some, None, IsSome, Result, Ok, Err, refl, sym, ◌∙◌, ap, subst, arith, add-one, append_assoc}
use Rattle.std.proofs.lemmas.List.{drop_more, take_more, take_more_set, drop-set-lt, set_split, append-nil, length-take-le}
use Rattle.net_wire.specs.declared.address.IpAddress.{IpAddress}
use Rattle.net_wire.specs.declared.error.EmitError.{EmitError}
use Rattle.dns_client.specs.declared.look.Choice.TheVariants as variant
use Rattle.dns_client.specs.declared.query.DnsQuery.{DnsQuery}
use Rattle.dns_client.specs.declared.query.QueryState.{QueryState}
use Rattle.dns_client.specs.declared.query.QueryState.TheVariants.{Pending, Answered, Failed}
use Rattle.dns_client.specs.declared.query.Turn.{Turn}
use Rattle.dns_client.specs.Emit.{Outgoing, Emitted}
use Rattle.dns_client.specs.Looks.{Choice, state_with, with_turn, Walk, Quiet, Sends, behind, walk_on, walk, message_for, Dispatched}
use Rattle.dns_client.specs.LookRead.{request_in, request_of, choice_in}
use Rattle.dns_client.specs.Response.{failed}
use Rattle.dns_client.specs.Slots.{Slots}
use Rattle.dns_client.specs.Waiting.{RequestValue}

pub behind-behind : (front middle : Slots) (w : Walk) → behind front (behind middle w) ≡ behind (front ++ middle) w
behind-behind front middle (Quiet slots) = ap Quiet (sym (append_assoc front middle slots))
behind-behind front middle (Sends passed slot request from to before after rest) =
    ap (λ f. Sends f slot request from to before after rest) (sym (append_assoc front middle passed))

-- what each choice that sends nothing makes of a slot
passed_by : (o : Option RequestValue) (x : Option DnsQuery) (rest : Slots) (next : Walk) → walk_on x (choice_in o variant.Pass) rest next ≡ behind (x ∷ []) next
passed_by None x rest next = refl
passed_by (Some request) x rest next = refl

kept_state : (turn : Turn) (state : QueryState) (rest : Slots) (next : Walk)
    → walk_on (Some (record { state = state })) (choice_in (request_in state) (variant.Keep turn)) rest next
    ≡ behind (Some (record { state = state_with turn state }) ∷ []) next
kept_state turn (Pending waiting) rest next = refl
kept_state turn (Answered addresses) rest next = refl
kept_state turn Failed rest next = refl

kept_slot : (turn : Turn) (x : Option DnsQuery) (rest : Slots) (next : Walk)
    → walk_on x (choice_in (request_of x) (variant.Keep turn)) rest next ≡ behind (with_turn turn x ∷ []) next
kept_slot turn None rest next = refl
kept_slot turn (Some query) rest next = kept_state turn query.state rest next

failed_slot : (o : Option RequestValue) (x : Option DnsQuery) (rest : Slots) (next : Walk) → IsSome o
    → walk_on x (choice_in o variant.Fail) rest next ≡ behind (failed ∷ []) next
failed_slot None x rest next some = let no : ⊥ = cc in absurd no
failed_slot (Some request) x rest next some = refl

record IsThere (o : Option RequestValue) : Type 0 where
  request : RequestValue
  is : o ≡ Some request

there : (o : Option RequestValue) → IsSome o → IsThere o
there None some = let no : ⊥ = cc in absurd no
there (Some request) some = record { request = request; is = refl }

module _ (plan : Option DnsQuery → Choice) (slots : Slots) (all : Walk) (at : ℕ) (x : Option DnsQuery) (inside : at < length slots)
    (x_is : x ≡ get_or slots at None) (walked : behind (take at slots) (walk plan (drop at slots)) ≡ all) where
  here : drop at slots ≡ x ∷ drop (at + 1) slots
  here = drop_more slots at None inside ∙ ap (λ slot. slot ∷ drop (at + 1) slots) (sym x_is)

  -- from the slot on
  from_here : behind (take at slots) (walk_on x (plan x) (drop (at + 1) slots) (walk plan (drop (at + 1) slots))) ≡ all
  from_here = ap (λ more. behind (take at slots) (walk plan more)) (sym here) ∙ walked

  -- a slot is written and nothing is sent
  goes_on : (new : Option DnsQuery) → walk_on x (plan x) (drop (at + 1) slots) (walk plan (drop (at + 1) slots)) ≡ behind (new ∷ []) (walk plan (drop (at + 1) slots))
      → behind (take (at + 1) (set slots at new)) (walk plan (drop (at + 1) (set slots at new))) ≡ all
  goes_on new is =
      ap (λ front. behind front (walk plan (drop (at + 1) (set slots at new)))) (take_more_set slots at new inside)
      ∙ ap (λ more. behind (take at slots ++ new ∷ []) (walk plan more)) (drop-set-lt (at + 1) slots at new (omega arith))
      ∙ sym (behind-behind (take at slots) (new ∷ []) (walk plan (drop (at + 1) slots))) ∙ ap (behind (take at slots)) (sym is) ∙ from_here

  -- a slot stays and nothing is sent
  passes_on : walk_on x (plan x) (drop (at + 1) slots) (walk plan (drop (at + 1) slots)) ≡ behind (x ∷ []) (walk plan (drop (at + 1) slots))
      → behind (take (at + 1) slots) (walk plan (drop (at + 1) slots)) ≡ all
  passes_on is =
      ap (λ front. behind front (walk plan (drop (at + 1) slots)))
      (take_more slots at None inside ∙ ap (λ slot. take at slots ++ slot ∷ []) (sym x_is))
      ∙ sym (behind-behind (take at slots) (x ∷ []) (walk plan (drop (at + 1) slots))) ∙ ap (behind (take at slots)) (sym is) ∙ from_here

  pub passes : plan x ≡ choice_in (request_of x) variant.Pass → behind (take (at + 1) slots) (walk plan (drop (at + 1) slots)) ≡ all
  passes is = passes_on (ap (λ choice. walk_on x choice (drop (at + 1) slots) (walk plan (drop (at + 1) slots))) is
      ∙ passed_by (request_of x) x (drop (at + 1) slots) (walk plan (drop (at + 1) slots)))

  pub keeps : (y new : Option DnsQuery) (turn : Turn) → y ≡ get_or slots at None → new ≡ with_turn turn y
      → plan x ≡ choice_in (request_of x) (variant.Keep turn)
      → behind (take (at + 1) (set slots at new)) (walk plan (drop (at + 1) (set slots at new))) ≡ all
  keeps y new turn y_is new_is is =
      let same : y ≡ x = y_is ∙ sym x_is in
      goes_on new (ap (λ choice. walk_on x choice (drop (at + 1) slots) (walk plan (drop (at + 1) slots))) is
      ∙ kept_slot turn x (drop (at + 1) slots) (walk plan (drop (at + 1) slots))
      ∙ ap (λ slot. behind (slot ∷ []) (walk plan (drop (at + 1) slots))) (sym (new_is ∙ ap (with_turn turn) same)))

  pub fails : IsSome (request_of x) → plan x ≡ choice_in (request_of x) variant.Fail
      → behind (take (at + 1) (set slots at failed)) (walk plan (drop (at + 1) (set slots at failed))) ≡ all
  fails some is =
      goes_on failed (ap (λ choice. walk_on x choice (drop (at + 1) slots) (walk plan (drop (at + 1) slots))) is
      ∙ failed_slot (request_of x) x (drop (at + 1) slots) (walk plan (drop (at + 1) slots)) some)

  asks : (request : RequestValue) (from to : IpAddress) (before after : Turn) → request_of x ≡ Some request
      → plan x ≡ choice_in (request_of x) (variant.Ask from to before after)
      → all ≡ Sends (take at slots) x request from to before after (drop (at + 1) slots)
  asks request from to before after there is =
      sym from_here
      ∙ ap (λ choice. behind (take at slots) (walk_on x choice (drop (at + 1) slots) (walk plan (drop (at + 1) slots))))
      (is ∙ ap (λ o. choice_in o (variant.Ask from to before after)) there)
      ∙ ap (λ front. Sends front x request from to before after (drop (at + 1) slots)) (append-nil (take at slots))

  written : (new slot : Option DnsQuery) → new ≡ slot → set slots at new ≡ take at slots ++ slot ∷ drop (at + 1) slots
  written new slot is = rw add-one (set_split slots at new inside ∙ ap (λ s. take at slots ++ s ∷ drop (suc at) slots) is)

  module _ {E : Type 0} (took refused : E → E → Outgoing → Type 0) (hop_limit : ℕ) (y z new : Option DnsQuery) (from to : IpAddress)
      (before after : Turn) (out later : E) (y_is : y ≡ get_or slots at None) (z_is : z ≡ get_or slots at None) (some : IsSome (request_of x))
      (is : plan x ≡ choice_in (request_of x) (variant.Ask from to before after)) where
    y-x : y ≡ x
    y-x = y_is ∙ sym x_is

    z-x : z ≡ x
    z-x = z_is ∙ sym x_is

    emitted : (result : Result (Unit {0}) EmitError)
        → ((request : RequestValue) → request_of y ≡ Some request
        → Emitted took refused (message_for (record { slot = at; place = before.place; from = from; to = to; hop_limit = hop_limit }) request) result out later)
        → Emitted took refused (message_for (record { slot = length (take at slots); place = before.place; from = from; to = to; hop_limit = hop_limit })
        (there (request_of x) some).request) result out later
    emitted result gives =
        let P : ℕ → Type 0 = λ n. Emitted took refused
        (message_for (record { slot = n; place = before.place; from = from; to = to; hop_limit = hop_limit }) (there (request_of x) some).request) result out later in
        let low : at ≤ length slots = omega arith in
        subst P (sym (length-take-le at slots low)) (gives (there (request_of x) some).request (ap request_of y-x ∙ (there (request_of x) some).is))

    pub asks_taken : ((request : RequestValue) → request_of y ≡ Some request
        → Emitted took refused (message_for (record { slot = at; place = before.place; from = from; to = to; hop_limit = hop_limit }) request) (Ok tt) out later)
        → new ≡ with_turn after z → Dispatched took refused hop_limit all (Ok tt) (set slots at new) out later
    asks_taken gives new_is =
        let P : Walk → Type 0 = λ w. Dispatched took refused hop_limit w (Ok tt) (set slots at new) out later in
        subst P (sym (asks (there (request_of x) some).request from to before after (there (request_of x) some).is is))
        (emitted (Ok tt) gives, written new (with_turn after x) (new_is ∙ ap (with_turn after) z-x), tt)

    pub asks_refused : (error : EmitError) → ((request : RequestValue) → request_of y ≡ Some request
        → Emitted took refused (message_for (record { slot = at; place = before.place; from = from; to = to; hop_limit = hop_limit }) request) (Err error) out later)
        → new ≡ with_turn before z → Dispatched took refused hop_limit all (Err error) (set slots at new) out later
    asks_refused error gives new_is =
        let P : Walk → Type 0 = λ w. Dispatched took refused hop_limit w (Err error) (set slots at new) out later in
        subst P (sym (asks (there (request_of x) some).request from to before after (there (request_of x) some).is is))
        (emitted (Err error) gives, tt, written new (with_turn before x) (new_is ∙ ap (with_turn before) z-x))
