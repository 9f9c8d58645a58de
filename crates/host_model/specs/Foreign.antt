-- Frames that are not for the host: they change nothing (RFC 826; RFC 2131, section 4.1).
use Rattle.std.specs.Prelude.{◌≡◌, ℕ, Bool, false, List, [], ◌∷◌, ◌++◌, Option, Some, None}
use Rattle.net_wire.specs.declared.address.IpAddress.{IpAddress}
use Rattle.net_wire.specs.declared.address.Ipv4Cidr.{Ipv4Cidr}
use Rattle.net_wire.specs.Arp.{arriving_arp}
use Rattle.net_wire.specs.Arrival.{arriving_datagram}
use Rattle.net_wire.specs.Datagram.{Datagram}
use Rattle.dhcp_client.specs.Config.{ClientSettings}
use Rattle.host_model.specs.declared.query_line.QueryLine.{QueryLine}
use Rattle.host_model.specs.Script.{Tick, Frame, Event}
use Rattle.host_model.specs.Settings.{Settings}
use Rattle.host_model.specs.History.{Entry, SentMessage}
use Rattle.host_model.specs.Hearing.{is_for_client}
use Rattle.host_model.specs.Anchor.{Anchor, anchor_before}
use Rattle.host_model.specs.Chronicle.{entry_at, history}
use Rattle.host_model.specs.Frames.{Listed, frames_of}
use Rattle.host_model.specs.Lease.{leased_under}
use Rattle.host_model.specs.Queries.{servers_before, lines_at}
use Rattle.host_model.specs.QueryAnswers.{is_from_dns}

-- a datagram from the port of servers to that of the client
abbrev pub is_from_server : ClientSettings → Option Datagram → Bool
is_from_server settings None = false
is_from_server settings (Some datagram) = is_for_client settings datagram

-- a datagram from a source that the DNS client listens to
abbrev pub is_from_name_server : List IpAddress → Option Datagram → Bool
is_from_name_server servers None = false
is_from_name_server servers (Some datagram) = is_from_dns servers datagram

-- No ARP packet in the frame counts, and it carries no datagram of a server to the DHCP client, nor one that the
-- DNS client listens to.
pub record IsForeign (settings : Settings) (before : List Entry) (bytes : List ℕ) : Type 0 where
  pub no_arp : arriving_arp settings.hardware bytes ≡ None
  pub no_dhcp : is_from_server settings.client (arriving_datagram settings.hardware bytes) ≡ false
  pub no_dns : is_from_name_server (servers_before settings before) (arriving_datagram settings.hardware bytes)
      ≡ false

-- What an event leads to at its time: the message that is sent, the frames and the lines that are listed; what
-- the client goes by and the address that is leased from then on.
pub record Effect : Type 0 where
  pub at : ℕ
  pub sent : Option SentMessage
  pub frames : List Listed
  pub lines : List QueryLine
  pub anchor : Anchor
  pub leased : Option Ipv4Cidr

abbrev pub effect_of : Settings → List Entry → Entry → Effect
effect_of settings before entry = record {
  at = entry.event.at;
  sent = entry.sent;
  frames = frames_of settings before entry.event entry.words;
  lines = lines_at settings before entry.event entry.words;
  anchor = anchor_before settings (entry ∷ before);
  leased = leased_under (anchor_before settings (entry ∷ before));
}

-- the effects of events, in their order, behind the entries `before`
abbrev pub effects_from : Settings → List ℕ → List Entry → List Event → List Effect
effects_from settings words before [] = []
effects_from settings words before (event ∷ events) =
    effect_of settings before (entry_at settings words before event)
    ∷ effects_from settings words (entry_at settings words before event ∷ before) events

-- the effects of a run's events
abbrev pub effects : Settings → List ℕ → List Event → List Effect
effects settings words events = effects_from settings words [] events

-- With a tick at its time in place of a foreign frame, every event of a script has the same effect.
abbrev pub ForeignFramesChangeNothing : Type 0
ForeignFramesChangeNothing =
    (settings : Settings) (words : List ℕ) (earlier later : List Event) (at : ℕ) (bytes : List ℕ)
    → IsForeign settings (history settings words earlier) bytes
    → effects settings words (earlier ++ record { at = at; arrival = Frame bytes } ∷ later)
    ≡ effects settings words (earlier ++ record { at = at; arrival = Tick } ∷ later)
