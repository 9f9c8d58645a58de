-- What the client plans, by its anchor and the times of the messages since.
use Rattle.std.proofs.Common.{ℕ, ◌<◌, List}
use Rattle.net_wire.specs.declared.error.Context.{Context}
use Rattle.host_model.specs.declared.words.EventWords.{EventWords}
use Rattle.host_model.specs.Script.{time_limit}
use Rattle.host_model.specs.Settings.{Settings}
use Rattle.host_model.specs.Anchor.{Anchor, Loss, Offer, Ack}
use Rattle.net_host.specs.Config.{IsFair}
use Rattle.net_host.specs.Following.{IsSoundUnder}
use Rattle.net_host.proofs.Contexts.{IsContextOf}
use Rattle.net_host.proofs.LeaseLemmas.{lease_planned}
use Rattle.net_host.proofs.OfferLemmas.{loss_planned, offer_planned}
pub use Rattle.net_host.proofs.Planning.{Planned, PlansRestart, PlansMessage, PlansNothing}
pub use Rattle.net_host.proofs.Planning.{outgoing_for, plan_under}
pub use Rattle.net_host.proofs.PollAtLemmas.{polled_under, poll_at_is, early_is, late_is}

-- under each anchor the client plans what the history names
pub planned : (settings : Settings) (sent : List ℕ) (at : ℕ) (words : EventWords) (anchor : Anchor) (id : ℕ)
    (cx : Context)
    → IsFair settings.client.retry → IsContextOf settings at cx → at < time_limit → IsSoundUnder anchor
    → Planned settings sent at id words anchor (plan_under settings sent id words anchor cx)
planned settings sent at words (Loss place) id cx fair is_cx in_range sound =
    loss_planned settings sent at words place id cx fair is_cx in_range
planned settings sent at words (Offer place since server address) id cx fair is_cx in_range sound =
    offer_planned settings sent at words place since server address id cx fair is_cx in_range
planned settings sent at words (Ack place since granted server) id cx fair is_cx in_range sound =
    lease_planned settings sent at words place since granted server id cx fair is_cx in_range sound
