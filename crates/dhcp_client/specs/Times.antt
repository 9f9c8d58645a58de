-- The times of a lease, in microseconds from its acknowledgement (RFC 2131, section 4.4.5), and those between
-- messages.
use Rattle.std.specs.Prelude.{ℕ, ◌+◌, ◌-◌, ◌*◌, ◌/◌, ◌^◌, ◌≤◌, ◌&&◌, Option, Some, None, nat_lt, min, max, if◌then◌else◌}
use Rattle.net_wire.specs.Time.{saturated}

-- renewal, rebinding and end
pub record Spans : Type 0 where
  pub renew : ℕ
  pub rebind : ℕ
  pub end : ℕ

abbrev pub spans_with : ℕ → ℕ → ℕ → Spans
spans_with renew rebind end = record { renew = renew; rebind = rebind; end = end }

-- seconds, 120 where there are none, at most the cap
abbrev pub seconds_of : Option ℕ → ℕ
seconds_of None = 120
seconds_of (Some secs) = secs

abbrev pub capped : Option ℕ → ℕ → ℕ
capped None span = span
capped (Some cap) span = min span cap

abbrev pub lease_span : Option ℕ → Option ℕ → ℕ
lease_span cap secs = capped cap (seconds_of secs * 1000000)

-- a half, and seven eighths
abbrev pub default_spans : ℕ → Spans
default_spans lease = spans_with (lease / 2) (lease * 7 / 8) lease

-- The times that a server gave in seconds, where they are in order: both; the first alone, and then the
-- second is three quarters of the way to the end; the second alone, and then the first is a half of the
-- lease, or the second if that is earlier. Else the default ones.
abbrev pub spans : ℕ → Option ℕ → Option ℕ → Spans
spans lease (Some renew) (Some rebind) =
    if nat_lt (renew * 1000000) (rebind * 1000000) && nat_lt (rebind * 1000000) lease
    then spans_with (renew * 1000000) (rebind * 1000000) lease
    else default_spans lease
spans lease (Some renew) None =
    if nat_lt (renew * 1000000) lease
    then spans_with (renew * 1000000) (renew * 1000000 + (lease - renew * 1000000) * 3 / 4) lease
    else default_spans lease
spans lease None (Some rebind) =
    if nat_lt (rebind * 1000000) lease
    then spans_with (min (lease / 2) (rebind * 1000000)) (rebind * 1000000) lease
    else default_spans lease
spans lease None None = default_spans lease

-- renewal, rebinding and end come in this order
pub record AreOrdered (times : Spans) : Type 0 where
  pub renewal : times.renew ≤ times.rebind
  pub rebinding : times.rebind ≤ times.end

-- whatever a server gave
abbrev pub TimesAreOrdered : Type 0
TimesAreOrdered = (lease : ℕ) (renew rebind : Option ℕ) → AreOrdered (spans lease renew rebind)

-- from a request to the next one: the first timeout, doubled every two requests
abbrev pub request_span : ℕ → ℕ → ℕ
request_span initial retry = saturated (initial * 2 ^ (retry / 2))

-- from a renewal to the next one: half of what is left until T2, at least the least time, and then at most
-- until T2 and at most the greatest time
abbrev pub renew_span : ℕ → ℕ → ℕ → ℕ
renew_span least greatest left = min (min (max least (left / 2)) left) greatest

-- from a renewal to all servers to the next one: the same by the end of the lease, which it may pass
abbrev pub rebind_span : ℕ → ℕ → ℕ → ℕ
rebind_span least greatest left = min (max least (left / 2)) greatest
