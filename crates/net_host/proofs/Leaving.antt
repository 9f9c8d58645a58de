-- What polling leaves in the emitter, by the message that the event names.
use Rattle.std.proofs.Common.{◌≡◌, List, [], ◌∷◌, ◌++◌, Option, Some, None, ℕ}
use Rattle.net_wire.specs.declared.address.EthernetAddress.{EthernetAddress}
use Rattle.net_wire.specs.declared.address.Ipv4Address.{Ipv4Address}
use Rattle.host_model.specs.History.{SentMessage, Transmission}
use Rattle.host_model.specs.Settings.{Settings}
use Rattle.net_host.specs.declared.emitter.Emitter.{Emitter}
use Rattle.net_host.specs.declared.report.Mark.TheVariants.{Dhcp}
use Rattle.net_host.specs.Listed.{IsFrameOf, sent_with}

-- a message on its way to a hop
abbrev pub sent_to : Transmission → EthernetAddress → SentMessage
sent_to transmission hop = record { transmission = transmission; hop = hop }

-- its frame, where the hop is known; else its destination is noted
abbrev pub LeavesOne : Settings → Transmission → Option EthernetAddress → Emitter → Emitter → Type 0
LeavesOne settings transmission (Some hop) out later =
    (frame : List ℕ) × IsFrameOf settings (sent_to transmission hop) frame
    × (later ≡ record out { sent = out.sent ++ sent_with Dhcp frame ∷ [] })
LeavesOne settings transmission None out later = later ≡ record out { refused = Some transmission.destination }

abbrev pub Leaves : Settings → (Ipv4Address → Option EthernetAddress) → Option Transmission → Emitter → Emitter → Type 0
Leaves settings hop None out later = later ≡ out
Leaves settings hop (Some transmission) out later = LeavesOne settings transmission (hop transmission.destination) out later
