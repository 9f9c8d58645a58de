-- The two dues of a lease and its mark, and the one due of the history.
use Rattle.std.proofs.Common.{◌≡◌, ℕ, ◌+◌, ◌-◌, ◌<◌, ◌≤◌, ◌&&◌, ◌||◌, not, ⊎_elim, List, [], ◌∷◌}
use Rattle.std.proofs.Common.{Bool, false, cond, refl, ap, arith, min}
use Rattle.std.proofs.Math.Bool.{or-true, or-false, and-false}
use Rattle.std.proofs.lemmas.Bool.{cases_lt, lt-ltb, le-ltb, lt-leb, le-leb}
use Rattle.std.specs.Prelude.{nat_lt}
use Rattle.dhcp_client.specs.declared.retry.RetryConfig.{RetryConfig}
use Rattle.dhcp_client.specs.Times.{Spans, renew_span, rebind_span}
use Rattle.host_model.specs.Due.{lease_due}
use Rattle.net_host.specs.Following.{renew_due, rebind_due, is_rebinding}
use Rattle.net_host.proofs.InstantLemmas.{renew_short}

-- a renewal to the server is never due after T2
pub renew_before : (retry : RetryConfig) (times : Spans) (sent : List ℕ) → times.renew ≤ times.rebind
    → renew_due retry times sent ≤ times.rebind
renew_before retry times [] ordered = ordered
renew_before retry times (last ∷ older) ordered =
    let left = times.rebind - last in
    let short = renew_short retry.min_renew_timeout retry.max_renew_timeout left in
    ⊎_elim
    (λ (before : last < times.rebind). rw (lt-ltb last times.rebind before) (omega (arith, short)))
    (λ (from : times.rebind ≤ last).
    rw (le-ltb last times.rebind from) (renew_before retry times older ordered))
    (cases_lt last times.rebind)

-- the client goes by the first of the two, and by the second alone once a message went to all servers
abbrev pub first_due : RetryConfig → Spans → List ℕ → ℕ
first_due retry times sent =
    cond (is_rebinding times sent) (rebind_due retry times sent)
    (min (renew_due retry times sent) (rebind_due retry times sent))

pub first_is : (retry : RetryConfig) (times : Spans) (sent : List ℕ) → times.renew ≤ times.rebind
    → first_due retry times sent ≡ lease_due retry times sent
first_is retry times [] ordered = omega (arith, ordered)
first_is retry times (last ∷ older) ordered =
    let left = times.rebind - last in
    let short = renew_short retry.min_renew_timeout retry.max_renew_timeout left in
    ⊎_elim
    (λ (before : last < times.rebind).
    rw (lt-ltb last times.rebind before, lt-leb times.rebind last before) (omega (arith, short)))
    (λ (from : times.rebind ≤ last). rw (le-ltb last times.rebind from, le-leb times.rebind last from) refl)
    (cases_lt last times.rebind)

-- its test says whether it is before the due
abbrev pub is_waiting : RetryConfig → Spans → List ℕ → ℕ → Bool
is_waiting retry times sent at =
    nat_lt at (renew_due retry times sent)
    || (is_rebinding times sent && nat_lt at (rebind_due retry times sent))

pub waits_is : (retry : RetryConfig) (times : Spans) (sent : List ℕ) (at : ℕ) → times.renew ≤ times.rebind
    → is_waiting retry times sent at ≡ nat_lt at (lease_due retry times sent)
waits_is retry times [] at ordered = or-false (nat_lt at times.renew)
waits_is retry times (last ∷ older) at ordered =
    let least = retry.min_renew_timeout in
    let greatest = retry.max_renew_timeout in
    let due = last + rebind_span least greatest (times.end - last) in
    ⊎_elim
    (λ (before : last < times.rebind).
    rw (lt-ltb last times.rebind before, lt-leb times.rebind last before)
    (or-false (nat_lt at (last + renew_span least greatest (times.rebind - last)))))
    (λ (from : times.rebind ≤ last). rw (le-ltb last times.rebind from, le-leb times.rebind last from)
    (⊎_elim
    (λ (early : at < due). rw (lt-ltb at due early) (or-true _))
    (λ (late : due ≤ at).
    let renews : renew_due retry times older ≤ at =
    omega (arith, renew_before retry times older ordered) in
    rw (le-ltb at due late, le-ltb at (renew_due retry times older) renews) refl)
    (cases_lt at due)))
    (cases_lt last times.rebind)

-- where a message is due before T2, none went to all servers, and the next one to them is due at T2
pub none_asked : (retry : RetryConfig) (times : Spans) (sent : List ℕ) (at : ℕ)
    → lease_due retry times sent ≤ at → at < times.rebind
    → (is_rebinding times sent ≡ false) × (rebind_due retry times sent ≡ times.rebind)
none_asked retry times [] at late before = (refl, refl)
none_asked retry times (last ∷ older) at late before =
    let due = last + rebind_span retry.min_renew_timeout retry.max_renew_timeout (times.end - last) in
    ⊎_elim
    (λ (first : last < times.rebind). (
      lt-leb times.rebind last first,
      ap (λ b. cond b times.rebind due) (lt-ltb last times.rebind first),
    ))
    (λ (from : times.rebind ≤ last).
    let reached : due ≤ at = rw (le-ltb last times.rebind from) at late in
    absurd (omega (arith, reached)))
    (cases_lt last times.rebind)

-- from T2 on a message goes to all servers
pub all_asked : (retry : RetryConfig) (times : Spans) (sent : List ℕ) (at : ℕ) → times.rebind ≤ at
    → (nat_lt at (rebind_due retry times sent) && not (is_rebinding times sent)) ≡ false
all_asked retry times [] at from = rw (le-ltb at times.rebind from) refl
all_asked retry times (last ∷ older) at from =
    ⊎_elim
    (λ (first : last < times.rebind).
    rw (lt-ltb last times.rebind first, le-ltb at times.rebind from) refl)
    (λ (after : times.rebind ≤ last). rw (le-leb times.rebind last after) (and-false _))
    (cases_lt last times.rebind)
