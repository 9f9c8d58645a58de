-- Polling answers an event, whatever is planned.
use Rattle.std.proofs.Common.{◌≡◌, ◌<◌, ◌⊎◌, inl, inr, ⊎_elim, List, ◌∷◌, length, Bool, true, false, cond, Err, pos, ap, sym, subst, ◌∙◌, refl, arith}
use Rattle.net_wire.specs.declared.error.Context.{Context}
use Rattle.net_wire.specs.declared.error.EmitError.TheVariants.{Unresolved}
use Rattle.dhcp_client.specs.Client.{Client, poll_at_of}
use Rattle.dhcp_client.specs.Plan.{Plan, Restart, plan_for, Dispatched}
use Rattle.dhcp_client.proofs.PlanLemmas.{waits_in}
use Rattle.host_model.specs.declared.words.EventWords.{EventWords}
use Rattle.host_model.specs.Script.{Event, time_limit}
use Rattle.host_model.specs.Settings.{Settings}
use Rattle.host_model.specs.History.{Entry, last_id, times_since}
use Rattle.host_model.specs.Anchor.{Anchor, Loss, anchor_after_time, is_over, place_of}
use Rattle.host_model.specs.Named.{message_under}
use Rattle.net_host.specs.declared.emitter.Emitter.{Emitter}
use Rattle.net_host.specs.Config.{IsFair}
use Rattle.net_host.specs.Following.{AgreesUnder, state_with, Holding}
use Rattle.net_host.specs.Emitter.{TakesMessage, RefusesMessage}
use Rattle.net_host.specs.Polling.{Polled, IsQuiet, GoesOn, Waits}
use Rattle.net_host.proofs.Contexts.{IsContextOf}
use Rattle.net_host.proofs.PlannedLemmas.{PlansRestart, PlansMessage, PlansNothing, outgoing_for, polled_under, poll_at_is, early_is, late_is}
use Rattle.net_host.proofs.PollingLemmas.{pos_le, pos_lt}
use Rattle.net_host.proofs.LossLemmas.{anew}
use Rattle.net_host.proofs.DueLemmas.{plans, poll_is, kept}
use Rattle.net_host.proofs.PolledLemmas.{took, refused, began_anew, ended}
use Rattle.net_host.proofs.HistoryLemmas.{Answered, KnowsHops, answered_early, answered_refused, answered_sent}

-- polling under an anchor that is not over
settled : (settings : Settings) (before : List Entry) (event : Event) (words : EventWords) (anchor : Anchor) (held : Holding) (cx : Context)
    (client last : Client) (out later : Emitter)
    → IsFair settings.client.retry → IsContextOf settings event.at cx → event.at < time_limit
    → is_over settings.client.retry (times_since (place_of anchor) before) event.at anchor ≡ false
    → KnowsHops settings before event out → AgreesUnder settings before anchor held client
    → Polled cx words.first client out last later → Answered settings before event words anchor held last out later
settled settings before event words anchor held cx client last out later fair is_cx in_range going knows agrees (IsQuiet _ _ _ _ early) =
    let sent = times_since (place_of anchor) before in
    let poll = poll_is settings before anchor held client agrees in
    answered_early settings before event words anchor held client out
    (early_is settings.client.retry sent event.at anchor (pos_lt event.at (polled_under settings.client.retry sent anchor) (rw (← poll, ← is_cx.now) early))).1
    agrees
settled settings before event words anchor held cx client last out later fair is_cx in_range going knows agrees (GoesOn _ _ _ next _ _ mid _ on_time done more) =
    let sent = times_since (place_of anchor) before in
    let poll = poll_is settings before anchor held client agrees in
    let plan = plan_for client cx words.first in
    ⊎_elim
    (λ (restart : PlansRestart settings sent event.at anchor plan). absurd (cc (restart.over, going)))
    (⊎_elim
    (λ (message : PlansMessage settings sent event.at (last_id before) words anchor plan).
    let after = state_with settings.client.retry (event.at ∷ sent) anchor in
    let outgoing = outgoing_for settings (message_under settings (last_id before) event.at words anchor) in
    let taken = took plan outgoing message.middle after client next out mid message.plan_is done in
    let next_poll : poll_at_of next.state ≡ pos (polled_under settings.client.retry (event.at ∷ sent) anchor) =
    ap (λ (c : Client). poll_at_of c.state) taken.1 ∙ poll_at_is settings.client.retry (event.at ∷ sent) anchor agrees.sound in
    let end = ended cx words.first event.at (polled_under settings.client.retry (event.at ∷ sent) anchor) next last mid later is_cx.now next_poll message.moves more in
    let P : Client → Type 0 = λ c. Answered settings before event words anchor held c out later in
    let Q : Emitter → Type 0 = λ e. TakesMessage out e outgoing in
    subst P (sym (end.0 ∙ taken.1))
    (answered_sent settings before event words anchor held client out later message.due knows (subst Q (sym end.1) taken.0) agrees))
    (λ (nothing : PlansNothing settings sent event.at anchor plan).
    absurd (omega (
      arith,
      nothing.early,
      late_is settings.client.retry sent event.at anchor
          (pos_le (polled_under settings.client.retry sent anchor) event.at (rw (← poll, ← is_cx.now) on_time)) going,
    ))))
    (plans settings before event.at words anchor held client cx fair is_cx in_range agrees)
settled settings before event words anchor held cx client last out later fair is_cx in_range going knows agrees (Waits _ _ _ _ _ _ on_time done) =
    let sent = times_since (place_of anchor) before in
    let poll = poll_is settings before anchor held client agrees in
    let plan = plan_for client cx words.first in
    ⊎_elim
    (λ (restart : PlansRestart settings sent event.at anchor plan). absurd (cc (restart.over, going)))
    (⊎_elim
    (λ (message : PlansMessage settings sent event.at (last_id before) words anchor plan).
    let after = state_with settings.client.retry (event.at ∷ sent) anchor in
    let outgoing = outgoing_for settings (message_under settings (last_id before) event.at words anchor) in
    let stays = refused plan outgoing message.middle after client last out later message.plan_is done in
    let same = kept settings before event.at words anchor plan client out message stays.0.unknown in
    let P : Client → Type 0 = λ c. Answered settings before event words anchor held c out later in
    let agrees_still : AgreesUnder settings before anchor held (record client { state = message.middle }) = record {
      id = agrees.id;
      state = same;
      told = agrees.told;
      placed = agrees.placed;
      sound = agrees.sound;
      names = agrees.names;
      held_is = agrees.held_is;
    } in
    subst P (sym stays.1)
    (answered_refused settings before event words anchor held (record client { state = message.middle }) out later message.due knows stays.0 agrees_still))
    (λ (nothing : PlansNothing settings sent event.at anchor plan).
    absurd (omega (
      arith,
      nothing.early,
      late_is settings.client.retry sent event.at anchor
          (pos_le (polled_under settings.client.retry sent anchor) event.at (rw (← poll, ← is_cx.now) on_time)) going,
    ))))
    (plans settings before event.at words anchor held client cx fair is_cx in_range agrees)

-- polling under an anchor that is over: it begins anew, and then goes on
restarted : (settings : Settings) (before : List Entry) (event : Event) (words : EventWords) (anchor : Anchor) (held : Holding) (cx : Context)
    (client last : Client) (out later : Emitter)
    → IsFair settings.client.retry → IsContextOf settings event.at cx → event.at < time_limit
    → plan_for client cx words.first ≡ Restart
    → KnowsHops settings before event out → AgreesUnder settings before anchor held client
    → Polled cx words.first client out last later → Answered settings before event words (Loss (length before)) held last out later
restarted settings before event words anchor held cx client last out later fair is_cx in_range restart knows agrees (IsQuiet _ _ _ _ early) =
    let waits = waits_in client.state client.settings client.transaction_id cx words.first early in absurd (cc (waits, restart))
restarted settings before event words anchor held cx client last out later fair is_cx in_range restart knows agrees (GoesOn _ _ _ next _ _ mid _ on_time done more) =
    let begun = began_anew (plan_for client cx words.first) client next out mid restart done in
    let P : Client → Type 0 = λ c. AgreesUnder settings before (Loss (length before)) held c in
    let Q : Emitter → Type 0 = λ e. KnowsHops settings before event e in
    let R : Emitter → Type 0 = λ e. Answered settings before event words (Loss (length before)) held last e later in
    subst R begun.1
    (settled settings before event words (Loss (length before)) held cx next last mid later fair is_cx in_range refl
    (subst Q (sym begun.1) knows) (subst P (sym begun.0) (anew settings before anchor held client agrees)) more)
restarted settings before event words anchor held cx client last out later fair is_cx in_range restart knows agrees (Waits _ _ _ _ _ _ on_time done) =
    let P : Plan → Type 0 = λ p. Dispatched TakesMessage RefusesMessage p (Err Unresolved) client last out later in
    let unlike = subst P restart done in absurd (cc unlike.0)

is_or_not : (b : Bool) → (b ≡ true) ⊎ (b ≡ false)
is_or_not true = inl refl
is_or_not false = inr refl

-- polling answers an event under the anchor that its time leaves
pub answered : (settings : Settings) (before : List Entry) (event : Event) (words : EventWords) (anchor : Anchor) (held : Holding) (cx : Context)
    (client last : Client) (out later : Emitter)
    → IsFair settings.client.retry → IsContextOf settings event.at cx → event.at < time_limit
    → KnowsHops settings before event out → AgreesUnder settings before anchor held client
    → Polled cx words.first client out last later
    → Answered settings before event words (anchor_after_time settings before event.at anchor) held last out later
answered settings before event words anchor held cx client last out later fair is_cx in_range knows agrees polling =
    let sent = times_since (place_of anchor) before in
    let over = is_over settings.client.retry sent event.at anchor in
    let plan = plan_for client cx words.first in
    let P : Bool → Type 0 = λ b. Answered settings before event words (cond b (Loss (length before)) anchor) held last out later in
    ⊎_elim
    (λ (yes : over ≡ true). subst P (sym yes)
    (⊎_elim
    (λ (restart : PlansRestart settings sent event.at anchor plan).
    restarted settings before event words anchor held cx client last out later fair is_cx in_range restart.plan_is knows agrees polling)
    (⊎_elim
    (λ (message : PlansMessage settings sent event.at (last_id before) words anchor plan). absurd (cc (message.going, yes)))
    (λ (nothing : PlansNothing settings sent event.at anchor plan). absurd (cc (nothing.going, yes))))
    (plans settings before event.at words anchor held client cx fair is_cx in_range agrees)))
    (λ (going : over ≡ false). subst P (sym going)
    (settled settings before event words anchor held cx client last out later fair is_cx in_range going knows agrees polling))
    (is_or_not over)
