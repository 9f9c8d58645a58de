-- What is listed has the sizes of its fields (RFC 826; RFC 791, section 3.1; RFC 768).
use Rattle.std.specs.Prelude.{◌≡◌, ◌≤◌, List, length}
use Rattle.std.specs.List.{AllByRecursion}
use Rattle.net_wire.specs.declared.address.EthernetAddress.{EthernetAddress}
use Rattle.net_wire.specs.Arp.{IsOnTheWire}
use Rattle.net_wire.specs.Arrival.{IsSendable}
use Rattle.net_wire.specs.DhcpBytes.{message_bytes}
use Rattle.net_wire.specs.DhcpReadBack.{HasFour}
use Rattle.dhcp_client.specs.Config.{AreSettingsWritable}
use Rattle.host_model.specs.declared.words.EventWords.{EventWords}
use Rattle.host_model.specs.Script.{Event}
use Rattle.host_model.specs.Settings.{Settings}
use Rattle.host_model.specs.History.{Entry, SentMessage}
use Rattle.host_model.specs.Frames.{Listed, ArpReply, ArpRequest, Dhcp, Dns, frames_of, query_datagram}

abbrev pub HasSix : EthernetAddress → Type 0
HasSix station = length station.0 ≡ 6

-- the addresses of a message that is sent have their bytes, and it fits the longest UDP datagram of IPv4
pub record FitsDatagram (sent : SentMessage) : Type 0 where
  pub hop : HasSix sent.hop
  pub source : HasFour sent.transmission.source
  pub destination : HasFour sent.transmission.destination
  pub payload : length (message_bytes sent.transmission.message) ≤ 65507

-- what is listed fits a frame
abbrev pub FitsFrame : Listed → Type 0
FitsFrame (ArpReply to arp) = HasSix to × IsOnTheWire arp
FitsFrame (ArpRequest to arp) = HasSix to × IsOnTheWire arp
FitsFrame (Dhcp sent) = FitsDatagram sent
FitsFrame (Dns sent) = HasSix sent.hop × IsSendable (query_datagram sent.ask)

-- All that an event lists does, whatever arrived, where the hardware address has its bytes and the client's
-- messages can be written.
abbrev pub ListedFitsFrames : Type 0
ListedFitsFrames = (settings : Settings) → HasSix settings.hardware
    → AreSettingsWritable settings.client settings.ip_mtu
    → (before : List Entry) (event : Event) (words : EventWords)
    → AllByRecursion FitsFrame (frames_of settings before event words)
