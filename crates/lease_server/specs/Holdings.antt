-- Who holds which address at an instant, by the calls so far (RFC 2131, section 4.3). Instants are in
-- microseconds.
use Rattle.std.specs.Prelude.{ℕ, ◌+◌, ◌*◌, ◌||◌, ◌==◌, Bool, false, nat_eq, nat_lt, List, [], ◌∷◌, Option, Some, None, if◌then◌else◌}
use Rattle.std.specs.Cmp.Lexicographic.{pointwise}
use Rattle.net_wire.specs.declared.address.EthernetAddress.{EthernetAddress}
use Rattle.net_wire.specs.declared.address.Ipv4Address.{Ipv4Address}
use Rattle.lease_server.specs.declared.reply.Reply.{Reply}
use Rattle.lease_server.specs.declared.reply.Reply.TheVariants as reply
use Rattle.lease_server.specs.declared.reply.Silence.{Silence}
use Rattle.lease_server.specs.declared.reply.Silence.TheVariants as silence
use Rattle.lease_server.specs.Values.{Values, number_of}

-- a call: when, whose message, what was replied
pub record Call : Type 0 where
  pub at : ℕ
  pub client : EthernetAddress
  pub reply : Reply

abbrev pub same_hardware : EthernetAddress → EthernetAddress → Bool
same_hardware one other = pointwise nat_eq one.0 other.0

-- what is held is the address with a number
abbrev pub holds_number : Option Ipv4Address → ℕ → Bool
holds_number None number = false
holds_number (Some held) number = number_of held == number

abbrev pub holds_it : Option Ipv4Address → Ipv4Address → Bool
holds_it held address = holds_number held (number_of address)

-- an offer holds for 60 s (RFC 2131, section 3.1), an acknowledgement for the lease
abbrev pub offer_span : ℕ
offer_span = 60000000

abbrev pub lease_span : Values → ℕ
lease_span values = values.lease_secs * 1000000

-- the address up to an end, and as long as it was held before, and no other one
abbrev pub held_up_to : ℕ → Ipv4Address → ℕ → Option Ipv4Address → Option Ipv4Address
held_up_to end address at before = if nat_lt at end || holds_it before address then Some address else None

abbrev pub held_after_silence : Silence → Option Ipv4Address → Option Ipv4Address
held_after_silence silence.Released before = None
held_after_silence silence.Unwanted before = before
held_after_silence silence.Other before = before
held_after_silence silence.Foreign before = before
held_after_silence silence.Full before = before
held_after_silence silence.Stale before = before

-- what the client of a call at `now` holds at an instant after it, from what it held at that instant before
abbrev pub held_after_reply : Values → ℕ → Reply → ℕ → Option Ipv4Address → Option Ipv4Address
held_after_reply values now (reply.Offer address) at before = held_up_to (now + offer_span) address at before
held_after_reply values now (reply.Ack address) at before = held_up_to (now + lease_span values) address at before
held_after_reply values now reply.Nak at before = before
held_after_reply values now (reply.Silent why) at before = held_after_silence why before

-- what any client holds: all others hold what they held
abbrev pub held_after : Values → Call → EthernetAddress → ℕ → Option Ipv4Address → Option Ipv4Address
held_after values call client at before =
    if same_hardware call.client client then held_after_reply values call.at call.reply at before else before

-- what a client holds at an instant after all calls, the newest first; with no call nobody holds anything
abbrev pub held_by : Values → List Call → EthernetAddress → ℕ → Option Ipv4Address
held_by values [] client at = None
held_by values (call ∷ before) client at = held_after values call client at (held_by values before client at)
