use Rattle.std.proofs.Common.{◌∙◌, ap₂}
use Rattle.dns_client.specs.Slots.{earlier, least_due_behind}
use Rattle.host_model.specs.Anchor.{anchor_before, place_of}
use Rattle.host_model.specs.History.{times_since}
use Rattle.host_model.specs.Queries.{slots_before}
use Rattle.net_host.specs.Moments.{last_moment}
use Rattle.net_host.specs.Waiting.{state_moment}
use Rattle.net_host.proofs.MomentLemmas.{lease_moment_is, query_moment_is}
use Rattle.net_host.proofs.host.Host.poll_at.Goals as goal

pub returns : goal.returns
returns c = λ settings before agrees.
    let anchor = anchor_before settings before in
    c.earlier.ensures
    ∙ ap₂ earlier
    (c.state_moment-lease.ensures ∙ ap₂ state_moment agrees.last (c.state-state.ensures ∙ agrees.dhcp.state)
    ∙ lease_moment_is settings.client.retry (last_moment before) (times_since (place_of anchor) before) anchor)
    (c.poll_behind-queries.ensures.value ∙ ap₂ least_due_behind agrees.last agrees.queries.stand.slots_are
    ∙ query_moment_is (last_moment before) (slots_before settings before))
