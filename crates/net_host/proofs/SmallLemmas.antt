-- The frames of an emitter stay small enough for a capture.
use Rattle.std.proofs.Common.{ℕ, ◌^◌, ◌<◌, List, [], ◌∷◌, ◌++◌, length, Ok, Err, sym, subst, refl, ◌≡◌, ap, ◌∙◌}
use Rattle.std.specs.Prelude.{Result}
use Rattle.net_wire.specs.declared.error.Context.{Context}
use Rattle.net_wire.specs.declared.error.EmitError.{EmitError}
use Rattle.net_wire.specs.declared.error.EmitError.TheVariants.{Unresolved, NoMemory}
use Rattle.dhcp_client.specs.Client.{Client}
use Rattle.dhcp_client.specs.Plan.{Plan, Send, Restart, Wait, plan_for, Dispatched}
use Rattle.net_host.specs.declared.emitter.Emitter.{Emitter}
use Rattle.net_host.specs.declared.report.Mark.TheVariants.{Dhcp}
use Rattle.net_host.specs.declared.report.Sent.{Sent}
use Rattle.net_host.specs.Report.{AreCapturable}
use Rattle.net_host.specs.Emitter.{TakesMessage, RefusesMessage}
use Rattle.net_host.specs.Polling.{Polled, IsQuiet, GoesOn, Waits}

-- one small frame more
pub small_push : (sent : List Sent) (more : Sent) → AreCapturable sent → length more.frame < 2 ^ 32 → AreCapturable (sent ++ more ∷ [])
small_push [] more small fits = (fits, tt)
small_push (first ∷ sent) more small fits = (small.0, small_push sent more small.1 fits)

-- an emitter's frames stay small enough for a capture
dispatched_small : (plan : Plan) (old new : Client) (out later : Emitter) → Dispatched TakesMessage RefusesMessage plan (Ok tt) old new out later
    → AreCapturable out.sent → AreCapturable later.sent
dispatched_small Wait old new out later done small =
    let P : Emitter → Type 0 = λ e. AreCapturable e.sent in
    subst P (sym done.2) small
dispatched_small Restart old new out later done small =
    let P : Emitter → Type 0 = λ e. AreCapturable e.sent in
    subst P (sym done.2) small
dispatched_small (Send outgoing before after) old new out later done small =
    let P : Emitter → Type 0 = λ e. AreCapturable e.sent in
    subst P (sym done.0.ok.listed) (small_push out.sent (record { mark = Dhcp; frame = done.0.ok.frame }) small done.0.ok.within)

dispatched_refused : (plan : Plan) (old new : Client) (out later : Emitter) → Dispatched TakesMessage RefusesMessage plan (Err Unresolved) old new out later
    → AreCapturable out.sent → AreCapturable later.sent
dispatched_refused Wait old new out later done small =
    let P : Emitter → Type 0 = λ e. AreCapturable e.sent in
    subst P (sym done.2) small
dispatched_refused Restart old new out later done small =
    let P : Emitter → Type 0 = λ e. AreCapturable e.sent in
    subst P (sym done.2) small
dispatched_refused (Send outgoing before after) old new out later done small =
    let P : Emitter → Type 0 = λ e. AreCapturable e.sent in
    subst P (sym (done.0.unresolved refl).noted) small

pub polled_small : (cx : Context) (word : ℕ) (client last : Client) (out later : Emitter) → Polled cx word client out last later
    → AreCapturable out.sent → AreCapturable later.sent
polled_small cx word client last out later (IsQuiet _ _ _ _ early) small = small
polled_small cx word client last out later (GoesOn _ _ _ next _ _ mid _ due done more) small =
    polled_small cx word next last mid later more (dispatched_small (plan_for client cx word) client next out mid done small)
polled_small cx word client last out later (Waits _ _ _ _ _ _ due done) small = dispatched_refused (plan_for client cx word) client last out later done small

-- and its table is as it was
dispatched_table : (plan : Plan) (result : Result (Unit {0}) EmitError) (old new : Client) (out later : Emitter)
    → Dispatched TakesMessage RefusesMessage plan result old new out later → later.neighbors ≡ out.neighbors
dispatched_table Wait result old new out later done = ap (λ (e : Emitter). e.neighbors) done.2
dispatched_table Restart result old new out later done = ap (λ (e : Emitter). e.neighbors) done.2
dispatched_table (Send outgoing before after) (Ok unit) old new out later done =
    ap (λ (e : Emitter). e.neighbors) done.0.ok.listed
dispatched_table (Send outgoing before after) (Err NoMemory) old new out later done =
    ap (λ (e : Emitter). e.neighbors) (done.0.memory refl)
dispatched_table (Send outgoing before after) (Err Unresolved) old new out later done =
    ap (λ (e : Emitter). e.neighbors) (done.0.unresolved refl).noted

pub polled_table : (cx : Context) (word : ℕ) (client last : Client) (out later : Emitter) → Polled cx word client out last later
    → later.neighbors ≡ out.neighbors
polled_table cx word client last out later (IsQuiet _ _ _ _ early) = refl
polled_table cx word client last out later (GoesOn _ _ _ next _ _ mid _ due done more) =
    polled_table cx word next last mid later more ∙ dispatched_table (plan_for client cx word) (Ok tt) client next out mid done
polled_table cx word client last out later (Waits _ _ _ _ _ _ due done) =
    dispatched_table (plan_for client cx word) (Err Unresolved) client last out later done

-- and so are the numbers of its queries
dispatched_numbers : (plan : Plan) (result : Result (Unit {0}) EmitError) (old new : Client) (out later : Emitter)
    → Dispatched TakesMessage RefusesMessage plan result old new out later → later.numbers ≡ out.numbers
dispatched_numbers Wait result old new out later done = ap (λ (e : Emitter). e.numbers) done.2
dispatched_numbers Restart result old new out later done = ap (λ (e : Emitter). e.numbers) done.2
dispatched_numbers (Send outgoing before after) (Ok unit) old new out later done =
    ap (λ (e : Emitter). e.numbers) done.0.ok.listed
dispatched_numbers (Send outgoing before after) (Err NoMemory) old new out later done =
    ap (λ (e : Emitter). e.numbers) (done.0.memory refl)
dispatched_numbers (Send outgoing before after) (Err Unresolved) old new out later done =
    ap (λ (e : Emitter). e.numbers) (done.0.unresolved refl).noted

pub polled_numbers : (cx : Context) (word : ℕ) (client last : Client) (out later : Emitter) → Polled cx word client out last later
    → later.numbers ≡ out.numbers
polled_numbers cx word client last out later (IsQuiet _ _ _ _ early) = refl
polled_numbers cx word client last out later (GoesOn _ _ _ next _ _ mid _ due done more) =
    polled_numbers cx word next last mid later more ∙ dispatched_numbers (plan_for client cx word) (Ok tt) client next out mid done
polled_numbers cx word client last out later (Waits _ _ _ _ _ _ due done) =
    dispatched_numbers (plan_for client cx word) (Err Unresolved) client last out later done
