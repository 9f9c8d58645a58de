-- When the DHCP client sends next, by the times of what it sent since its anchor, newest first (RFC 2131,
-- sections 4.1, 4.4.1 and 4.4.5).
use Rattle.std.specs.Prelude.{ℕ, ◌+◌, ◌-◌, nat_lt, List, [], ◌∷◌, length, if◌then◌else◌}
use Rattle.dhcp_client.specs.declared.retry.RetryConfig.{RetryConfig}
use Rattle.dhcp_client.specs.Times.{Spans, request_span, renew_span, rebind_span}

-- without a lease: at once, and then the discover timeout after the last message
abbrev pub loss_due : RetryConfig → List ℕ → ℕ
loss_due retry [] = 0
loss_due retry (last ∷ older) = last + retry.discover_timeout

-- with an offer that came at a time: then, and after each request the first timeout, doubled every two
-- requests
abbrev pub offer_due : RetryConfig → ℕ → List ℕ → ℕ
offer_due retry since [] = since
offer_due retry since (last ∷ older) = last + request_span retry.initial_request_timeout (length older)

-- With a lease of these times: at T1; after a message before T2 half of what is left until T2, after one from
-- T2 on half of what is left of the lease, within the bounds of both.
abbrev pub lease_due : RetryConfig → Spans → List ℕ → ℕ
lease_due retry times [] = times.renew
lease_due retry times (last ∷ older) =
    if nat_lt last times.rebind
    then last + renew_span retry.min_renew_timeout retry.max_renew_timeout (times.rebind - last)
    else last + rebind_span retry.min_renew_timeout retry.max_renew_timeout (times.end - last)
