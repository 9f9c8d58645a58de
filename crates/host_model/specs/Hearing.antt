-- What the DHCP client hears of what arrives (RFC 2131, sections 4.1 and 4.4).
use Rattle.std.specs.Prelude.{ℕ, ◌==◌, ◌&&◌, Bool, List, Option, Some, None, if◌then◌else◌}
use Rattle.net_wire.specs.Arrival.{arriving_datagram}
use Rattle.net_wire.specs.Datagram.{Datagram}
use Rattle.net_wire.specs.DhcpRead.{message_at}
use Rattle.dhcp_client.specs.Config.{ClientSettings}
use Rattle.dhcp_client.specs.Heard.{Ear, Heard, Nothing, heard_of}
use Rattle.host_model.specs.Settings.{Settings}
use Rattle.host_model.specs.History.{Entry, last_id}

-- from the port of servers to that of the client
abbrev pub is_for_client : ClientSettings → Datagram → Bool
is_for_client settings datagram =
    (datagram.source_port == settings.server_port) && (datagram.destination_port == settings.client_port)

-- what is heard of the datagram that a frame carries, if it carries one
abbrev pub heard_by : Ear → Option Datagram → Heard
heard_by ear None = Nothing
heard_by ear (Some datagram) =
    if is_for_client ear.settings datagram
    then heard_of ear datagram.source (message_at datagram.payload)
    else Nothing

-- the client hears by the host's hardware address and the id of the last message
abbrev pub ear_after : Settings → List Entry → Ear
ear_after settings before =
    record { hardware = settings.hardware; id = last_id before; settings = settings.client }

-- what is heard of a frame that arrives behind these entries
abbrev pub heard_at : Settings → List Entry → List ℕ → Heard
heard_at settings before frame =
    heard_by (ear_after settings before) (arriving_datagram settings.hardware frame)
