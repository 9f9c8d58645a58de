-- When a host goes on by time alone, by its clients and by its history.
use Rattle.std.proofs.Common.{◌≡◌, ℕ, ◌<◌, ◌≤◌, ℤ, pos, Bool, true, false, sym, List, [], ◌∷◌, map, Option, Some, None, ⊎_elim, refl, ap, ap₂, ◌∙◌}
use Rattle.std.proofs.lemmas.Bool.{cases_lt, lt-ltb, le-ltb, lt-leb, le-leb}
use Rattle.net_wire.specs.declared.address.Ipv4Address.{Ipv4Address}
use Rattle.dhcp_client.specs.declared.retry.RetryConfig.{RetryConfig}
use Rattle.dhcp_client.specs.Times.{Spans}
use Rattle.dns_client.specs.Slots.{behind, earlier, due_of, least_due_behind}
use Rattle.host_model.specs.Anchor.{Anchor, Loss, Offer, Ack, lease_times}
use Rattle.host_model.specs.Due.{lease_due}
use Rattle.host_model.specs.QuerySlots.{Slot, Free, Live, Over}
use Rattle.host_model.specs.QueryTurns.{Turn, asked_of, turn_of}
use Rattle.host_model.specs.QueryTurns as turns
use Rattle.net_host.specs.Following.{is_rebinding, rebind_due, renew_due, state_with}
use Rattle.net_host.specs.Moments.{first_query_moment, lease_moment, moment, query_moment, rebind_moment}
use Rattle.net_host.specs.QueryStanding.{standing_in, turn_for}
use Rattle.net_host.specs.Waiting.{state_moment}
use Rattle.std.specs.Prelude.{if◌then◌else◌}

-- the first due of a lease that the client keeps
renewal_is : (retry : RetryConfig) (times : Spans) (sent : List ℕ)
    → lease_due retry times sent ≡ if is_rebinding times sent then rebind_due retry times sent else renew_due retry times sent
renewal_is retry times [] = refl
renewal_is retry times (newest ∷ older) =
    ⊎_elim
    (λ (before : newest < times.rebind). rw (lt-ltb newest times.rebind before, lt-leb times.rebind newest before) refl)
    (λ (from : times.rebind ≤ newest). rw (le-ltb newest times.rebind from, le-leb times.rebind newest from) refl)
    (cases_lt newest times.rebind)

-- and the second
rebinding_is : (retry : RetryConfig) (last : Option ℤ) (times : Spans) (sent : List ℕ)
    → rebind_moment last times sent
    ≡ behind last (if is_rebinding times sent then None else Some (pos (rebind_due retry times sent)))
rebinding_is retry last times [] = refl
rebinding_is retry None times (newest ∷ older) =
    ⊎_elim
    (λ (before : newest < times.rebind). rw (lt-ltb newest times.rebind before, lt-leb times.rebind newest before) refl)
    (λ (from : times.rebind ≤ newest). rw (le-ltb newest times.rebind from, le-leb times.rebind newest from) refl)
    (cases_lt newest times.rebind)
rebinding_is retry (Some last) times (newest ∷ older) =
    ⊎_elim
    (λ (before : newest < times.rebind). rw (lt-ltb newest times.rebind before, lt-leb times.rebind newest before) refl)
    (λ (from : times.rebind ≤ newest). rw (le-ltb newest times.rebind from, le-leb times.rebind newest from) refl)
    (cases_lt newest times.rebind)

renewal_at : (rebinding : Bool) (rebind_at renew_at : ℕ)
    → pos (if rebinding then rebind_at else renew_at) ≡ if rebinding then pos rebind_at else pos renew_at
renewal_at true rebind_at renew_at = refl
renewal_at false rebind_at renew_at = refl

pub lease_moment_is : (retry : RetryConfig) (last : Option ℤ) (sent : List ℕ) (anchor : Anchor)
    → state_moment last (state_with retry sent anchor) ≡ lease_moment retry last sent anchor
lease_moment_is retry last sent (Loss place) = refl
lease_moment_is retry last sent (Offer place since server address) = refl
lease_moment_is retry last sent (Ack place since granted server) =
    let times = lease_times since granted in
    sym (ap₂ (λ one other. earlier (behind last (Some one)) (earlier other (moment last times.end)))
    (ap pos (renewal_is retry times sent) ∙ renewal_at (is_rebinding times sent) (rebind_due retry times sent) (renew_due retry times sent))
    (rebinding_is retry last times sent))

due_by : (asked : Option Ipv4Address) (turn : Option Turn) → (turn_for asked turn).retransmit_at ≡ pos (turns.due_of turn)
due_by asked None = refl
due_by asked (Some turn) = refl

none_behind : (last : Option ℤ) → behind last None ≡ None
none_behind None = refl
none_behind (Some last) = refl

query_is : (last : Option ℤ) (slot : Slot) → behind last (due_of (standing_in slot)) ≡ query_moment last slot
query_is last Free = none_behind last
query_is last (Live query) = ap (λ at. behind last (Some at)) (due_by (asked_of query.looks) (turn_of query.looks))
query_is last (Over number []) = none_behind last
query_is last (Over number (address ∷ more)) = none_behind last

pub query_moment_is : (last : Option ℤ) (slots : List Slot)
    → least_due_behind last (map standing_in slots) ≡ first_query_moment last slots
query_moment_is last [] = refl
query_moment_is last (slot ∷ slots) = ap₂ earlier (query_is last slot) (query_moment_is last slots)
