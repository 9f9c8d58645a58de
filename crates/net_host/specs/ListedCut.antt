-- The frames of a row, cut by the grammar of packets (RFC 826; RFC 894; RFC 791, section 3.1; RFC 768).
use Rattle.std.specs.Prelude.{ℕ, ◌^◌, ◌<◌, List, [], ◌∷◌}
use Rattle.frame_laws.specs.SentArp.{IsCutIntoArp}
use Rattle.frame_laws.specs.SentParts.{IsCutIntoDatagram}
use Rattle.host_model.specs.Frames.{Listed, ArpReply, ArpRequest, Dhcp, Dns, frames_of, query_datagram}
use Rattle.host_model.specs.History.{Entry}
use Rattle.host_model.specs.Settings.{Settings}
use Rattle.host_model.specs.Sizes.{HasSix}
use Rattle.net_host.specs.declared.report.Row.{Row}
use Rattle.net_host.specs.declared.report.Sent.{Sent}
use Rattle.net_host.specs.Config.{CanRun}
use Rattle.net_host.specs.Listed.{datagram_for}
use Rattle.net_host.specs.Rows.{IsRowOf}

-- what the types of a host's values give: a hardware address of six bytes, and ports of 16 bits
pub record HasWidths (settings : Settings) : Type 0 where
  pub hardware : HasSix settings.hardware
  pub server_port : settings.client.server_port < 2 ^ 16
  pub client_port : settings.client.client_port < 2 ^ 16

-- A frame is cut without a stop, to its last byte and in no other way, into what is listed: its ARP packet,
-- or the headers and the bytes of its message.
abbrev pub IsCutInto : Settings → Listed → List ℕ → Type 0
IsCutInto settings (ArpReply to arp) frame = IsCutIntoArp settings.hardware to arp frame
IsCutInto settings (ArpRequest to arp) frame = IsCutIntoArp settings.hardware to arp frame
IsCutInto settings (Dhcp sent) frame =
    IsCutIntoDatagram settings.hardware sent.hop 64 (datagram_for settings sent.transmission) frame
IsCutInto settings (Dns sent) frame = IsCutIntoDatagram settings.hardware sent.hop 64 (query_datagram sent.ask) frame

-- one for one, in their order
abbrev pub AreCutInto : Settings → List Listed → List Sent → Type 0
AreCutInto settings [] [] = Unit {0}
AreCutInto settings [] (sent ∷ more) = ⊥
AreCutInto settings (one ∷ others) [] = ⊥
AreCutInto settings (one ∷ others) (sent ∷ more) =
    IsCutInto settings one sent.frame × AreCutInto settings others more

-- the frames of each row are cut into what its event lists
abbrev pub RowsAreCut : Type 0
RowsAreCut = (settings : Settings) → HasWidths settings → CanRun settings
    → (before : List Entry) (entry : Entry) (row : Row) → IsRowOf settings before entry row
    → AreCutInto settings (frames_of settings before entry.event entry.words) row.sent
