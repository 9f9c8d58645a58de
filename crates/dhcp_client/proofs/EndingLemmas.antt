-- Each message moves the due, and the dues of a lease stay in order.
use Rattle.std.proofs.Common.{◌≡◌, ℕ, ◌+◌, ◌<◌, ◌≤◌, ℤ, pos, ◌<ℤ◌, ◌≤ℤ◌, Bool, true, false, cond, ◌&&◌, ◌||◌, not, Ok, Err, refl, sym, subst, rules, tests, arith}
use Rattle.std.proofs.lemmas.Int.{ints, clamps}
use Rattle.std.specs.Int.{int_min}
use Rattle.std.specs.Prelude.{int_le, int_lt, nat_le, Result}
use Rattle.net_wire.specs.declared.error.Context.{Context}
use Rattle.net_wire.specs.declared.error.EmitError.{EmitError}
use Rattle.net_wire.specs.Time.{instant_after, micros_between}
use Rattle.dhcp_client.specs.declared.state.ClientState.{ClientState}
use Rattle.dhcp_client.specs.declared.state.ClientState.TheVariants.{Discovering, Requesting, Renewing}
use Rattle.dhcp_client.specs.declared.state.Lease.{Lease}
use Rattle.dhcp_client.specs.Client.{Client, poll_at_of}
use Rattle.dhcp_client.specs.Config.{ClientSettings}
use Rattle.dhcp_client.specs.Ending.{last_instant, IsOrdered, KeepsOrder, HasTimeouts, MovesDue, LeavesFewer, calls_of, calls_left}
use Rattle.dhcp_client.specs.Messages.{Outgoing}
use Rattle.dhcp_client.specs.Plan.{Plan, Wait, Restart, Send, Dispatched, plan_in, renew_plan, rebind_plan, discover_of, request_of, is_early, is_for_server, renewed_at, rebinding_at}
use Rattle.dhcp_client.specs.Times.{request_span, renew_span, rebind_span}
use Rattle.dhcp_client.proofs.SpanLemmas.{later, not_before, some_left, within, below_all, renew_some, renew_short, rebind_some, request_some}

by_test : (P : Plan → Type 0) (test : Bool) (one other : Plan) → (test ≡ true → P one) → (test ≡ false → P other) → P (cond test one other)
by_test P true one other if_one if_other = if_one refl
by_test P false one other if_one if_other = if_other refl

-- what the tests of a lease's plan say
goes_on : (lease : Lease) (now : ℤ) → int_le lease.expires_at now ≡ false → now <ℤ lease.expires_at
goes_on lease now test = grind (arith, ints, tests)

asks_server : (now rebind_at : ℤ) (rebinding : Bool) → (int_lt now rebind_at && not rebinding) ≡ true → now <ℤ rebind_at
asks_server now rebind_at rebinding test = grind (arith, ints, tests)

is_due : (now renew_at rebind_at : ℤ) (rebinding : Bool) → (int_lt now renew_at || (rebinding && int_lt now rebind_at)) ≡ false → renew_at ≤ℤ now
is_due now renew_at rebind_at rebinding test = grind (arith, ints, tests)

renew_moves : (lease : Lease) (settings : ClientSettings) (cx : Context) (word : ℕ) → HasTimeouts settings.retry → cx.now <ℤ last_instant
    → cx.now <ℤ lease.expires_at → cx.now <ℤ lease.rebind_at → MovesDue cx.now (renew_plan lease settings cx word)
renew_moves lease settings cx word timeouts room ends rebinds =
    let left = micros_between lease.rebind_at cx.now in
    let span = renew_span settings.retry.min_renew_timeout settings.retry.max_renew_timeout left in
    below_all lease.rebinding cx.now (instant_after cx.now span) lease.rebind_at lease.expires_at
    (later cx.now span room (renew_some settings.retry.min_renew_timeout settings.retry.max_renew_timeout left timeouts.least timeouts.greatest
    (some_left lease.rebind_at cx.now rebinds))) rebinds ends

rebind_moves : (lease : Lease) (settings : ClientSettings) (cx : Context) (word : ℕ) → HasTimeouts settings.retry → cx.now <ℤ last_instant
    → cx.now <ℤ lease.expires_at → MovesDue cx.now (rebind_plan lease settings cx word)
rebind_moves lease settings cx word timeouts room ends =
    let left = micros_between lease.expires_at cx.now in
    let span = rebind_span settings.retry.min_renew_timeout settings.retry.max_renew_timeout left in
    let after = later cx.now span room
    (rebind_some settings.retry.min_renew_timeout settings.retry.max_renew_timeout left timeouts.least timeouts.greatest) in
    below_all true cx.now (instant_after cx.now span) (instant_after cx.now span) lease.expires_at after after ends

pub moves : (state : ClientState) (settings : ClientSettings) (id : ℕ) (cx : Context) (word : ℕ) → HasTimeouts settings.retry
    → cx.now <ℤ last_instant → MovesDue cx.now (plan_in state settings id cx word)
moves (Discovering retry_at) settings id cx word timeouts room =
    by_test (MovesDue cx.now) (int_le retry_at cx.now)
    (Send (discover_of settings cx word) (Discovering retry_at) (Discovering (instant_after cx.now settings.retry.discover_timeout))) Wait
    (λ _. later cx.now settings.retry.discover_timeout room timeouts.discover) (λ _. tt)
moves (Requesting retry_at retry server requested) settings id cx word timeouts room =
    let span = request_span settings.retry.initial_request_timeout retry in
    let sends = Send (request_of settings cx server requested id) (Requesting retry_at retry server requested)
    (Requesting (instant_after cx.now span) (retry + 1) server requested) in
    let lasts = nat_le settings.retry.request_retries retry in
    by_test (MovesDue cx.now) (int_lt cx.now retry_at) Wait (cond lasts Restart sends) (λ _. tt)
    (λ _. by_test (MovesDue cx.now) lasts Restart sends (λ _. tt)
    (λ _. later cx.now span room (request_some settings.retry.initial_request_timeout retry timeouts.request)))
moves (Renewing lease) settings id cx word timeouts room =
    let P = MovesDue cx.now in
    let renews = renew_plan lease settings cx word in
    let rebinds = rebind_plan lease settings cx word in
    let asks = cond (is_for_server lease cx.now) renews rebinds in
    by_test P (int_le lease.expires_at cx.now) Restart (cond (is_early lease cx.now) Wait asks) (λ _. tt)
    (λ ends. by_test P (is_early lease cx.now) Wait asks (λ _. tt)
    (λ _. by_test P (is_for_server lease cx.now) renews rebinds
    (λ server. renew_moves lease settings cx word timeouts room (goes_on lease cx.now ends)
    (asks_server cx.now lease.rebind_at lease.rebinding server))
    (λ _. rebind_moves lease settings cx word timeouts room (goes_on lease cx.now ends))))

pub stays : (state : ClientState) (settings : ClientSettings) (id : ℕ) (cx : Context) (word : ℕ) → cx.now ≤ℤ last_instant
    → IsOrdered state → KeepsOrder (plan_in state settings id cx word)
stays (Discovering retry_at) settings id cx word room ordered =
    by_test KeepsOrder (int_le retry_at cx.now)
    (Send (discover_of settings cx word) (Discovering retry_at) (Discovering (instant_after cx.now settings.retry.discover_timeout))) Wait
    (λ _. (tt, tt)) (λ _. tt)
stays (Requesting retry_at retry server requested) settings id cx word room ordered =
    let sends = Send (request_of settings cx server requested id) (Requesting retry_at retry server requested)
    (Requesting (instant_after cx.now (request_span settings.retry.initial_request_timeout retry)) (retry + 1) server requested) in
    let lasts = nat_le settings.retry.request_retries retry in
    by_test KeepsOrder (int_lt cx.now retry_at) Wait (cond lasts Restart sends) (λ _. tt)
    (λ _. by_test KeepsOrder lasts Restart sends (λ _. tt) (λ _. (tt, tt)))
stays (Renewing lease) settings id cx word room ordered =
    let renews = renew_plan lease settings cx word in
    let rebinds = rebind_plan lease settings cx word in
    let asks = cond (is_for_server lease cx.now) renews rebinds in
    let least = settings.retry.min_renew_timeout in
    let greatest = settings.retry.max_renew_timeout in
    let left = micros_between lease.rebind_at cx.now in
    by_test KeepsOrder (int_le lease.expires_at cx.now) Restart (cond (is_early lease cx.now) Wait asks) (λ _. tt)
    (λ _. by_test KeepsOrder (is_early lease cx.now) Wait asks (λ _. tt)
    (λ due. by_test KeepsOrder (is_for_server lease cx.now) renews rebinds
    (λ server. (
      ordered,
      within lease.rebind_at cx.now (renew_span least greatest left)
          (asks_server cx.now lease.rebind_at lease.rebinding server) (renew_short least greatest left),
    ))
    (λ _. (
      ordered,
      le_trans lease.renew_at cx.now _ (is_due cx.now lease.renew_at lease.rebind_at lease.rebinding due)
          (not_before cx.now (rebind_span least greatest (micros_between lease.expires_at cx.now)) room),
    ))))
  where
    le_trans : (a b c : ℤ) → a ≤ℤ b → b ≤ℤ c → a ≤ℤ c
    le_trans a b c ab bc = omega (arith, ints)

pub dispatched : {E : Type 0} (took refused : E → E → Outgoing → Type 0) (plan : Plan) (result : Result (Unit {0}) EmitError) (old new : Client)
    (out later_out : E) → KeepsOrder plan → Dispatched took refused plan result old new out later_out → IsOrdered old.state → IsOrdered new.state
dispatched took refused Wait result old new out later_out keeps done ordered =
    let P : Client → Type 0 = λ c. IsOrdered c.state in
    subst P (sym done.1) ordered
dispatched took refused Restart result old new out later_out keeps done ordered =
    let P : Client → Type 0 = λ c. IsOrdered c.state in
    subst P (sym done.1) tt
dispatched took refused (Send outgoing before after) (Ok _) old new out later_out keeps done ordered =
    let P : Client → Type 0 = λ c. IsOrdered c.state in
    subst P (sym done.1) keeps.1
dispatched took refused (Send outgoing before after) (Err error) old new out later_out keeps done ordered =
    let P : Client → Type 0 = λ c. IsOrdered c.state in
    subst P (sym done.2) keeps.0

due_calls : (now : ℤ) (state : ClientState) → poll_at_of state ≤ℤ now → calls_left now state ≡ calls_of state
due_calls now state due = search (rules, tests)

early_calls : (now : ℤ) (state : ClientState) → now <ℤ poll_at_of state → calls_left now state ≡ 0
early_calls now state early = search (rules, tests)

one_call : (now : ℤ) → calls_left now (Discovering (pos 0)) ≤ 1
one_call now = grind (arith, tests)

some_calls : (state : ClientState) → 0 < calls_of state
some_calls (Discovering retry_at) = omega arith
some_calls (Requesting retry_at retry server requested) = omega arith
some_calls (Renewing lease) = omega arith

sent_fewer : (now : ℤ) (state after : ClientState) → poll_at_of state ≤ℤ now → now <ℤ poll_at_of after → calls_left now after < calls_left now state
sent_fewer now state after due moves = omega (arith, early_calls now after moves, due_calls now state due, some_calls state)

anew_fewer : (now : ℤ) (state : ClientState) → poll_at_of state ≤ℤ now → calls_of state ≡ 2 → calls_left now (Discovering (pos 0)) < calls_left now state
anew_fewer now state due two = omega (arith, one_call now, due_calls now state due)

-- a due client does not wait
not_early : (a b : ℤ) → a ≤ℤ b → int_le a b ≡ false → ⊥
not_early a b due test =
    let is_true : int_le a b ≡ true = search (rules, tests) in
    cc

not_late : (a b : ℤ) → a ≤ℤ b → int_lt b a ≡ true → ⊥
not_late a b due test =
    let is_false : int_lt b a ≡ false = search (rules, tests) in
    cc

neither : (one rebinding other : Bool) → one ≡ false → other ≡ false → (one || (rebinding && other)) ≡ true → ⊥
neither true rebinding other is_one is_other test = cc
neither false rebinding true is_one is_other test = cc
neither false true false is_one is_other test = cc
neither false false false is_one is_other test = cc

not_first : (one other : Bool) → one ≡ false → (one || (false && other)) ≡ true → ⊥
not_first true other is_one test = cc
not_first false other is_one test = cc

lease_acts : (rebinding : Bool) (now renew_at rebind_at expires_at : ℤ) → renew_at ≤ℤ rebind_at
    → int_min (cond rebinding rebind_at (int_min renew_at rebind_at)) expires_at ≤ℤ now → now <ℤ expires_at
    → (int_lt now renew_at || (rebinding && int_lt now rebind_at)) ≡ true → ⊥
lease_acts true now renew_at rebind_at expires_at ordered due ends early =
    let rebinds : rebind_at ≤ℤ now = omega (arith, ints, clamps) in
    let renews : renew_at ≤ℤ now = omega (arith, ints) in
    neither (int_lt now renew_at) true (int_lt now rebind_at) (search (rules, tests)) (search (rules, tests)) early
lease_acts false now renew_at rebind_at expires_at ordered due ends early =
    let renews : renew_at ≤ℤ now = omega (arith, ints, clamps) in
    not_first (int_lt now renew_at) (int_lt now rebind_at) (search (rules, tests)) early

pub ends : (state : ClientState) (settings : ClientSettings) (id : ℕ) (cx : Context) (word : ℕ) → HasTimeouts settings.retry
    → cx.now <ℤ last_instant → IsOrdered state → poll_at_of state ≤ℤ cx.now → LeavesFewer cx.now state (plan_in state settings id cx word)
ends (Discovering retry_at) settings id cx word timeouts room ordered due =
    let after = Discovering (instant_after cx.now settings.retry.discover_timeout) in
    by_test (LeavesFewer cx.now (Discovering retry_at)) (int_le retry_at cx.now) (Send (discover_of settings cx word) (Discovering retry_at) after) Wait
    (λ _. sent_fewer cx.now (Discovering retry_at) after due (later cx.now settings.retry.discover_timeout room timeouts.discover))
    (not_early retry_at cx.now due)
ends (Requesting retry_at retry server requested) settings id cx word timeouts room ordered due =
    let state = Requesting retry_at retry server requested in
    let span = request_span settings.retry.initial_request_timeout retry in
    let after = Requesting (instant_after cx.now span) (retry + 1) server requested in
    let sends = Send (request_of settings cx server requested id) state after in
    let lasts = nat_le settings.retry.request_retries retry in
    let P = LeavesFewer cx.now state in
    by_test P (int_lt cx.now retry_at) Wait (cond lasts Restart sends) (not_late retry_at cx.now due)
    (λ _. by_test P lasts Restart sends (λ _. anew_fewer cx.now state due refl)
    (λ _. sent_fewer cx.now state after due
    (later cx.now span room (request_some settings.retry.initial_request_timeout retry timeouts.request))))
ends (Renewing lease) settings id cx word timeouts room ordered due =
    let P = LeavesFewer cx.now (Renewing lease) in
    let renews = renew_plan lease settings cx word in
    let rebinds = rebind_plan lease settings cx word in
    let asks = cond (is_for_server lease cx.now) renews rebinds in
    let least = settings.retry.min_renew_timeout in
    let greatest = settings.retry.max_renew_timeout in
    let renewed = Renewing (renewed_at lease (instant_after cx.now (renew_span least greatest (micros_between lease.rebind_at cx.now)))) in
    let rebound = Renewing (rebinding_at lease (instant_after cx.now (rebind_span least greatest (micros_between lease.expires_at cx.now)))) in
    by_test P (int_le lease.expires_at cx.now) Restart (cond (is_early lease cx.now) Wait asks) (λ _. anew_fewer cx.now (Renewing lease) due refl)
    (λ going. by_test P (is_early lease cx.now) Wait asks
    (lease_acts lease.rebinding cx.now lease.renew_at lease.rebind_at lease.expires_at ordered due (goes_on lease cx.now going))
    (λ _. by_test P (is_for_server lease cx.now) renews rebinds
    (λ server. sent_fewer cx.now (Renewing lease) renewed due
    (renew_moves lease settings cx word timeouts room (goes_on lease cx.now going)
    (asks_server cx.now lease.rebind_at lease.rebinding server)))
    (λ _. sent_fewer cx.now (Renewing lease) rebound due
    (rebind_moves lease settings cx word timeouts room (goes_on lease cx.now going)))))

-- the same of a dispatch: what is left of it is fewer
pub left : {E : Type 0} (took refused : E → E → Outgoing → Type 0) (now : ℤ) (plan : Plan) (old new : Client) (out later_out : E)
    → LeavesFewer now old.state plan → Dispatched took refused plan (Ok tt) old new out later_out
    → calls_left now new.state < calls_left now old.state
left took refused now Wait old new out later_out fewer done = absurd fewer
left took refused now Restart old new out later_out fewer done =
    let P : Client → Type 0 = λ c. calls_left now c.state < calls_left now old.state in
    subst P (sym done.1) fewer
left took refused now (Send outgoing before after) old new out later_out fewer done =
    let P : Client → Type 0 = λ c. calls_left now c.state < calls_left now old.state in
    subst P (sym done.1) fewer
