-- Closed examples of what a lease's times are, and of the steps between messages.
use Rattle.std.specs.Prelude.{◌≡◌, ◌-◌, ◌^◌, pos, Some, None}
use Rattle.net_wire.specs.Time.{instant_after}
use Rattle.dhcp_client.specs.Times.{spans, spans_with, lease_span, request_span, renew_span, rebind_span}

-- In microseconds, of a lease of 1000 s: both times in order; one alone; none; and those that are not in
-- order or not before the end. Then 15 microseconds, where 7.5 and 13.125 are cut; a lease without a time,
-- with one, and with a cap.
pub record TimesByExample : Type 0 where
  pub both : spans 1000000000 (Some 300) (Some 700) ≡ spans_with 300000000 700000000 1000000000
  pub renewal : spans 1000000000 (Some 300) None ≡ spans_with 300000000 825000000 1000000000
  pub rebinding : spans 1000000000 None (Some 700) ≡ spans_with 500000000 700000000 1000000000
  pub early : spans 1000000000 None (Some 400) ≡ spans_with 400000000 400000000 1000000000
  pub neither : spans 1000000000 None None ≡ spans_with 500000000 875000000 1000000000
  pub at_end : spans 1000000000 (Some 300) (Some 1000) ≡ spans_with 500000000 875000000 1000000000
  pub equal : spans 1000000000 (Some 700) (Some 700) ≡ spans_with 500000000 875000000 1000000000
  pub late : spans 1000000000 (Some 1000) None ≡ spans_with 500000000 875000000 1000000000
  pub cut : spans 15 None None ≡ spans_with 7 13 15
  pub absent : lease_span None None ≡ 120000000
  pub given : lease_span None (Some 1000) ≡ 1000000000
  pub capped : lease_span (Some 5) (Some 1000) ≡ 5

-- the steps between messages, where 5 s are the first, 60 s the least and 100 s the greatest time; and the
-- two ends of time
pub record StepsByExample : Type 0 where
  pub first : request_span 5000000 0 ≡ 5000000
  pub second : request_span 5000000 1 ≡ 5000000
  pub third : request_span 5000000 2 ≡ 10000000
  pub fifth : request_span 5000000 4 ≡ 20000000
  pub longest : request_span (2 ^ 63) 2 ≡ 2 ^ 64 - 1
  pub half : renew_span 60000000 100000000 150000000 ≡ 75000000
  pub least : renew_span 60000000 100000000 100000000 ≡ 60000000
  pub left : renew_span 60000000 100000000 1 ≡ 1
  pub greatest : renew_span 60000000 100000000 400000000 ≡ 100000000
  pub past_end : rebind_span 60000000 100000000 2500000 ≡ 60000000
  pub last : instant_after (pos (2 ^ 63 - 5)) 10 ≡ pos (2 ^ 63 - 1)
