-- What the host holds of a lease: nothing without one.
use Rattle.std.specs.Prelude.{Option, Some, None, List}
use Rattle.std.specs.Option.{option_map}
use Rattle.net_wire.specs.declared.address.Ipv4Cidr.{Ipv4Cidr}
use Rattle.dhcp_client.specs.Heard.{Granted}
use Rattle.host_model.specs.declared.held.Held.{Held}
use Rattle.host_model.specs.Anchor.{Anchor, Loss, Offer, Ack, anchor_before}
use Rattle.host_model.specs.History.{Entry}
use Rattle.host_model.specs.Settings.{Settings}

abbrev pub held_of : Granted → Held
held_of granted = record { address = granted.address; router = granted.router }

-- under an anchor
abbrev pub held_under : Anchor → Option Held
held_under (Loss place) = None
held_under (Offer place since server address) = None
held_under (Ack place since granted server) = Some (held_of granted)

-- the leased address and its prefix
abbrev pub leased_under : Anchor → Option Ipv4Cidr
leased_under anchor = option_map (λ held. held.address) (held_under anchor)

-- What is held when an event comes: a lease that the event brings or ends counts for its row's address, and
-- not yet for the ways of its frames.
abbrev pub held_before : Settings → List Entry → Option Held
held_before settings before = held_under (anchor_before settings before)
