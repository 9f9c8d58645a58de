-- A client that begins anew goes by a loss.
use Rattle.std.proofs.Common.{◌≡◌, ℕ, Bool, true, false, ◌||◌, List, [], None, length, ap, sym, ◌∙◌, refl, arith}
use Rattle.std.proofs.lemmas.Bool.{true≢false, or_parts}
use Rattle.dhcp_client.specs.declared.state.ClientState.{ClientState}
use Rattle.dhcp_client.specs.Client.{Client, after_reset, has_lease}
use Rattle.dhcp_client.specs.Heard.{ARefusal}
use Rattle.dhcp_client.specs.Hearing.{after_refusal}
use Rattle.host_model.specs.Settings.{Settings}
use Rattle.host_model.specs.History.{Entry, times_since}
use Rattle.host_model.specs.Anchor.{Anchor, Loss, Offer, Ack, anchor_after_heard, place_of}
use Rattle.host_model.proofs.SinceLemmas.{none_since}
use Rattle.net_host.specs.Following.{AgreesUnder, state_with, state_under, Holding, holding_under}

-- no message was sent since an anchor that is set here
pub set_here : (settings : Settings) (before : List Entry) (anchor : Anchor) → place_of anchor ≡ length before
    → state_with settings.client.retry [] anchor ≡ state_under settings before anchor
set_here settings before anchor here =
    let none : times_since (place_of anchor) before ≡ [] =
    ap (λ place. times_since place before) here ∙ none_since before in
    ap (λ times. state_with settings.client.retry times anchor) (sym none)

-- one for which no change waits then had no lease before
lost : (settings : Settings) (before : List Entry) (anchor : Anchor) (held : Holding) (changed : Bool)
    → (changed ≡ false → held ≡ holding_under anchor)
    → (changed || has_lease (state_under settings before anchor)) ≡ false
    → held ≡ record { held = None; servers = [] }
lost settings before (Loss place) held changed is none = is (or_parts changed false none).0
lost settings before (Offer place since server address) held changed is none =
    is (or_parts changed false none).0
lost settings before (Ack place since granted server) held changed is none =
    absurd (true≢false (or_parts changed true none).1)

pub anew : (settings : Settings) (before : List Entry) (anchor : Anchor) (held : Holding)
    (client : Client) → AgreesUnder settings before anchor held client
    → AgreesUnder settings before (Loss (length before)) held (after_reset client)
anew settings before anchor held client agrees = record {
  id = agrees.id;
  state = set_here settings before (Loss (length before)) refl;
  told = agrees.told;
  placed = omega arith;
  sound = tt;
  names = refl;
  held_is = λ none. lost settings before anchor held client.changed agrees.held_is
      (sym (ap (λ (s : ClientState). client.changed || has_lease s) agrees.state) ∙ none);
}

-- a refusal ends an offer and a lease
pub refused : (settings : Settings) (before : List Entry) (at : ℕ) (anchor : Anchor) (held : Holding)
    (client : Client) → AgreesUnder settings before anchor held client
    → AgreesUnder settings before (anchor_after_heard (length before) at ARefusal anchor) held
    (after_refusal (state_under settings before anchor) client)
refused settings before at (Loss place) held client agrees = agrees
refused settings before at (Offer place since server address) held client agrees =
    anew settings before (Offer place since server address) held client agrees
refused settings before at (Ack place since granted server) held client agrees =
    anew settings before (Ack place since granted server) held client agrees
