-- The polling of a client that goes by an anchor sends what the history names under it, and leaves a client that does so again.
use Rattle.std.proofs.Common.{◌≡◌, ◌<◌, ◌≤◌, List, ◌∷◌, true, false, cond, ltb, Option, Some, None, ap, sym, subst, refl, ◌∙◌, arith, rules, tests}
use Rattle.std.specs.Option.{option_map}
use Rattle.net_wire.specs.declared.address.EthernetAddress.{EthernetAddress}
use Rattle.net_wire.specs.declared.address.Ipv4Address.{Ipv4Address}
use Rattle.net_wire.specs.Datagram.{IsSentFrame}
use Rattle.dhcp_client.specs.Client.{Client}
use Rattle.host_model.specs.declared.words.EventWords.{EventWords}
use Rattle.host_model.specs.Script.{Event}
use Rattle.host_model.specs.Settings.{Settings}
use Rattle.host_model.specs.History.{Entry, Transmission, last_id, id_of, with_time, times_since}
use Rattle.host_model.specs.Anchor.{Anchor, due_under, place_of}
use Rattle.host_model.specs.Named.{message_under, named_under}
use Rattle.host_model.specs.Neighbor.{known_hop}
use Rattle.host_model.specs.Chronicle.{sent_by}
use Rattle.host_model.proofs.SinceLemmas.{more_since}
use Rattle.net_host.specs.declared.emitter.Emitter.{Emitter}
use Rattle.net_host.specs.Emitter.{TakesMessage, RefusesMessage, hop_by}
use Rattle.net_host.specs.Following.{AgreesUnder, state_with, Holding}
use Rattle.net_host.specs.Listed.{datagram_for}
use Rattle.net_host.proofs.Leaving.{sent_to, Leaves, LeavesOne}
use Rattle.net_host.proofs.PlannedLemmas.{outgoing_for}

-- the entry of an event that sends by an anchor
abbrev pub entry_under : Settings → List Entry → Event → EventWords → Anchor → Entry
entry_under settings before event words anchor = record {
  event = event;
  words = words;
  sent = sent_by (known_hop settings before event) (named_under settings before event words anchor);
}

-- what an event leaves: a client that goes by the anchor, and the frame that its entry names
pub record Answered (settings : Settings) (before : List Entry) (event : Event) (words : EventWords) (anchor : Anchor)
    (held : Holding) (last : Client) (out later : Emitter) : Type 0 where
  pub agrees : AgreesUnder settings (entry_under settings before event words anchor ∷ before) anchor held last
  pub leaves : Leaves settings (known_hop settings before event) (named_under settings before event words anchor) out later

-- what the emitter knows of hops is what the history says
pub record KnowsHops (settings : Settings) (before : List Entry) (event : Event) (out : Emitter) : Type 0 where
  pub hardware : out.hardware ≡ settings.hardware
  pub hops : (destination : Ipv4Address) → hop_by out destination ≡ known_hop settings before event destination

-- an event in which nothing was sent leaves a client that goes by the anchor
unsent : (settings : Settings) (before : List Entry) (entry : Entry) (anchor : Anchor) (held : Holding) (client : Client) → entry.sent ≡ None
    → AgreesUnder settings before anchor held client → AgreesUnder settings (entry ∷ before) anchor held client
unsent settings before entry anchor held client none agrees =
    let since = more_since (place_of anchor) before entry agrees.placed in
    record {
      id = agrees.id ∙ sym (ap (λ sent. id_of sent (last_id before)) none);
      state = agrees.state ∙ ap (λ times. state_with settings.client.retry times anchor)
          (sym (since ∙ ap (λ sent. with_time sent entry.event.at (times_since (place_of anchor) before)) none));
      told = agrees.told;
      placed = omega (arith, agrees.placed);
      sound = agrees.sound;
      names = agrees.names;
      held_is = agrees.held_is;
    }

-- before the due nothing is named
named_early : (settings : Settings) (before : List Entry) (event : Event) (words : EventWords) (anchor : Anchor)
    → event.at < due_under settings.client.retry (times_since (place_of anchor) before) anchor → named_under settings before event words anchor ≡ None
named_early settings before event words anchor early =
    let test : ltb event.at (due_under settings.client.retry (times_since (place_of anchor) before) anchor) ≡ true = search (rules, tests) in
    ap (λ b. cond b None (Some (message_under settings (last_id before) event.at words anchor))) test

-- from the due on it is the message under the anchor
named_late : (settings : Settings) (before : List Entry) (event : Event) (words : EventWords) (anchor : Anchor)
    → due_under settings.client.retry (times_since (place_of anchor) before) anchor ≤ event.at
    → named_under settings before event words anchor ≡ Some (message_under settings (last_id before) event.at words anchor)
named_late settings before event words anchor late =
    let test : ltb event.at (due_under settings.client.retry (times_since (place_of anchor) before) anchor) ≡ false = search (rules, tests) in
    ap (λ b. cond b None (Some (message_under settings (last_id before) event.at words anchor))) test

-- nothing is due
pub answered_early : (settings : Settings) (before : List Entry) (event : Event) (words : EventWords) (anchor : Anchor) (held : Holding)
    (client : Client) (out : Emitter)
    → event.at < due_under settings.client.retry (times_since (place_of anchor) before) anchor
    → AgreesUnder settings before anchor held client → Answered settings before event words anchor held client out out
answered_early settings before event words anchor held client out early agrees =
    let none = named_early settings before event words anchor early in
    let P : Option Transmission → Type 0 = λ named. Leaves settings (known_hop settings before event) named out out in
    record {
      agrees = unsent settings before (entry_under settings before event words anchor) anchor held client
          (ap (sent_by (known_hop settings before event)) none) agrees;
      leaves = subst P (sym none) refl;
    }

-- the message is due, and its hop is not known
pub answered_refused : (settings : Settings) (before : List Entry) (event : Event) (words : EventWords) (anchor : Anchor) (held : Holding)
    (client : Client) (out later : Emitter)
    → due_under settings.client.retry (times_since (place_of anchor) before) anchor ≤ event.at → KnowsHops settings before event out
    → RefusesMessage out later (outgoing_for settings (message_under settings (last_id before) event.at words anchor))
    → AgreesUnder settings before anchor held client → Answered settings before event words anchor held client out later
answered_refused settings before event words anchor held client out later late knows refused agrees =
    let message = message_under settings (last_id before) event.at words anchor in
    let some = named_late settings before event words anchor late in
    let unknown = sym (knows.hops message.destination) ∙ refused.unknown in
    let P : Option Transmission → Type 0 = λ named. Leaves settings (known_hop settings before event) named out later in
    let Q : Option EthernetAddress → Type 0 = λ hop. LeavesOne settings message hop out later in
    record {
      agrees = unsent settings before (entry_under settings before event words anchor) anchor held client
          (ap (sent_by (known_hop settings before event)) some ∙ ap (option_map (sent_to message)) unknown) agrees;
      leaves = subst P (sym some) (subst Q (sym unknown) refused.noted);
    }

-- the message is due, and was sent
pub answered_sent : (settings : Settings) (before : List Entry) (event : Event) (words : EventWords) (anchor : Anchor) (held : Holding)
    (client : Client) (out later : Emitter)
    → due_under settings.client.retry (times_since (place_of anchor) before) anchor ≤ event.at → KnowsHops settings before event out
    → TakesMessage out later (outgoing_for settings (message_under settings (last_id before) event.at words anchor))
    → AgreesUnder settings before anchor held client
    → Answered settings before event words anchor held
    (record client {
      state = state_with settings.client.retry (event.at ∷ times_since (place_of anchor) before) anchor;
      transaction_id = (message_under settings (last_id before) event.at words anchor).message.transaction_id;
    })
    out later
answered_sent settings before event words anchor held client out later late knows taken agrees =
    let message = message_under settings (last_id before) event.at words anchor in
    let entry = entry_under settings before event words anchor in
    let some = named_late settings before event words anchor late in
    let known = sym (knows.hops message.destination) ∙ taken.known in
    let sends : entry.sent ≡ Some (sent_to message taken.hop) =
    ap (sent_by (known_hop settings before event)) some ∙ ap (option_map (sent_to message)) known in
    let since = more_since (place_of anchor) before entry agrees.placed in
    let P : Option Transmission → Type 0 = λ named. Leaves settings (known_hop settings before event) named out later in
    let Q : Option EthernetAddress → Type 0 = λ hop. LeavesOne settings message hop out later in
    let R : EthernetAddress → Type 0 = λ from. IsSentFrame from taken.hop 64 (datagram_for settings message) taken.frame in
    record {
      agrees = record {
        id = sym (ap (λ sent. id_of sent (last_id before)) sends);
        state = ap (λ times. state_with settings.client.retry times anchor)
            (sym (since ∙ ap (λ sent. with_time sent event.at (times_since (place_of anchor) before)) sends));
        told = agrees.told;
        placed = omega (arith, agrees.placed);
        sound = agrees.sound;
        names = agrees.names;
        held_is = agrees.held_is;
      };
      leaves = subst P (sym some) (subst Q (sym known) (taken.frame, subst R knows.hardware taken.carries, taken.listed));
    }
