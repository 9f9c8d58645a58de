-- What a host holds once an event is over.
use Rattle.std.proofs.Common.{◌≡◌, ℕ, false, List, ◌∷◌, ◌++◌, map, Option, Some, None, ap, sym, subst, ◌∙◌}
use Rattle.net_wire.specs.declared.address.IpAddress.{IpAddress}
use Rattle.dhcp_client.specs.Client as dhcp
use Rattle.dns_client.specs.declared.error.StartQueryError.{StartQueryError}
use Rattle.dns_client.specs.Client.{Client, client_of}
use Rattle.host_model.specs.declared.held.Held.{Held}
use Rattle.host_model.specs.declared.query_line.QueryLine.{QueryLine}
use Rattle.host_model.specs.declared.words.EventWords.{EventWords}
use Rattle.host_model.specs.Anchor.{anchor_at}
use Rattle.host_model.specs.Chronicle.{entry_of}
use Rattle.host_model.specs.History.{Entry}
use Rattle.host_model.specs.Lease.{held_under}
use Rattle.host_model.specs.Neighbor.{events_of}
use Rattle.host_model.specs.Queries.{looks_at, servers_before, servers_under, slots_before}
use Rattle.host_model.specs.QueryLines.{refused_lines}
use Rattle.host_model.specs.QuerySlots.{freed}
use Rattle.host_model.specs.Script.{Event}
use Rattle.host_model.specs.Settings.{Settings}
use Rattle.net_host.specs.declared.emitter.Emitter.{Emitter}
use Rattle.net_host.specs.declared.host.Host.{Host}
use Rattle.net_host.specs.Agreement.{AgreesWithHistory}
use Rattle.net_host.specs.Following.{AgreesUnder, Holding}
use Rattle.net_host.specs.Holding.{held_after, host_holding, served_after}
use Rattle.net_host.specs.Neighbors.{TableAgrees}
use Rattle.net_host.specs.QueryHearing.{line_for}
use Rattle.net_host.specs.QueryStanding.{StandAs}
use Rattle.net_host.proofs.EventLemmas.{Leased}
use Rattle.net_host.proofs.HoldingLemmas.{holds, serves, told}
use Rattle.net_host.proofs.QueryEventLemmas.{Queried}

abbrev holding_of : Option Held → List IpAddress → Holding
holding_of held servers = record { held = held; servers = servers }

-- what is held, the clients and the emitter
pub record Over (settings : Settings) (before : List Entry) (event : Event) (words : EventWords) (held : Option Held)
    (client : dhcp.Client) (dns : Client) (out : Emitter) : Type 0 where
  pub hardware : out.hardware ≡ settings.hardware
  pub holds_is : held ≡ held_under (anchor_at settings before event)
  pub neighbors : TableAgrees settings (event ∷ events_of before) out.neighbors
  pub dhcp_is : AgreesUnder settings (entry_of settings before event words ∷ before) (anchor_at settings before event)
      (holding_of held dns.servers) (record client { changed = false })
  pub stand : StandAs (servers_before settings (entry_of settings before event words ∷ before))
      (slots_before settings (entry_of settings before event words ∷ before)) dns out.numbers

pub over : (settings : Settings) (before : List Entry) (event : Event) (words : EventWords) (old : Host)
    (client : dhcp.Client) (mid asked out last : Emitter) (looked dns : Client) (held : Option Held)
    → AgreesWithHistory settings before old
    → Leased settings before event words (host_holding old) client mid asked
    → Queried settings before event words looked out
    → last ≡ record out { numbers = last.numbers }
    → held ≡ held_after client last.held
    → StandAs (served_after client (servers_before settings before)) (map freed (looks_at settings before event words).slots)
    dns last.numbers
    → Over settings before event words held client dns last
over settings before event words old client mid asked out last looked dns held agrees leased queried ends holds_held stand =
    let last_held : last.held ≡ old.out.held = ap (λ (e : Emitter). e.held) ends ∙ queried.held ∙ sym agrees.held in
    let held_is : held ≡ held_after client old.out.held = holds_held ∙ ap (held_after client) last_held in
    let same : (client_of old.dns).servers ≡ servers_before settings before = agrees.queries.stand.servers_are in
    let served : served_after client (servers_before settings before) ≡ servers_under (anchor_at settings before event) =
    ap (served_after client) (sym same) ∙ serves settings _ _ (host_holding old) client leased.dhcp in
    let servers_are : dns.servers ≡ served_after client (client_of old.dns).servers =
    stand.servers_are ∙ ap (served_after client) (sym same) in
    record {
      hardware = ap (λ (e : Emitter). e.hardware) ends ∙ queried.hardware;
      holds_is = held_is ∙ holds settings _ _ (host_holding old) client leased.dhcp;
      neighbors = subst (λ table. TableAgrees settings (event ∷ events_of before) table)
          (sym (ap (λ (e : Emitter). e.neighbors) ends)) queried.neighbors;
      dhcp_is = subst (λ one. AgreesUnder settings (entry_of settings before event words ∷ before) (anchor_at settings before event)
          (holding_of one dns.servers) (record client { changed = false })) (sym held_is)
          (subst (λ servers. AgreesUnder settings (entry_of settings before event words ∷ before) (anchor_at settings before event)
          (holding_of (held_after client old.out.held) servers) (record client { changed = false })) (sym servers_are)
          (told settings _ _ (host_holding old) client leased.dhcp));
      stand = subst (λ servers. StandAs servers (map freed (looks_at settings before event words).slots) dns last.numbers) served stand;
    }

-- the line of a refused query goes before the others
pub refused_first : (number : ℕ) (refused : Option QueryLine) (fault : Option StartQueryError) (lines all : List QueryLine)
    → refused ≡ line_for number fault
    → ((line : QueryLine) → refused ≡ Some line → all ≡ line ∷ lines) → (refused ≡ None → all ≡ lines)
    → all ≡ refused_lines number fault ++ lines
refused_first number refused None lines all is some none = none is
refused_first number refused (Some fault) lines all is some none = some _ is

pub same_line : (one other : QueryLine) → Some one ≡ Some other → one ≡ other
same_line one other is = cc

pub none_some : (line : QueryLine) → None ≡ Some line → ⊥
none_some line is = cc
