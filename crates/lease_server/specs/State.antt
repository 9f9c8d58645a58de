-- What a server is: its values, who holds which address up to which end, and when it was called last.
use Rattle.std.specs.Prelude.{◌≡◌, ℕ, ◌≤◌, Bool, true, nat_lt, List, [], Option, Some, None, if◌then◌else◌, ℤ, pos, negsuc}
use Rattle.std.specs.Ordering.{nat_cmp}
use Rattle.std.specs.List.{list_any}
use Rattle.std.specs.declared.cmp.Ordering.{Ordering}
use Rattle.std.specs.Cmp.Lexicographic.{slice_cmp}
use Rattle.managed.specs.SortedMap.{value_at}
use Rattle.net_wire.specs.declared.address.EthernetAddress.{EthernetAddress}
use Rattle.net_wire.specs.declared.address.Ipv4Address.{Ipv4Address}
use Rattle.net_wire.specs.DhcpMessage.{Message}
use Rattle.lease_server.specs.declared.lease.Lease.{Lease}
use Rattle.lease_server.specs.declared.reply.Reply.{Reply}
use Rattle.lease_server.specs.declared.reply.Reply.TheVariants as reply
use Rattle.lease_server.specs.Values.{Values, number_of}
use Rattle.lease_server.specs.Holdings.{Call, holds_number, held_after}
use Rattle.lease_server.specs.Replies.{reply_to, is_of_range}

-- an address, and the instant from which on it is not held
pub record Held : Type 0 where
  pub address : Ipv4Address
  pub until : ℕ

-- the microseconds of an instant, from moment 0 on
abbrev pub micros_of : ℤ → ℕ
micros_of (pos micros) = micros
micros_of (negsuc before) = 0

abbrev pub held_of : Lease → Held
held_of lease = record { address = lease.address; until = micros_of lease.until }

abbrev pub Holders : Type 0
Holders = List (EthernetAddress × Held)

-- hardware addresses in the order of their bytes
abbrev pub hardware_cmp : EthernetAddress → EthernetAddress → Ordering
hardware_cmp one other = slice_cmp nat_cmp one.0 other.0

pub record ServerState : Type 0 where
  pub values : Values
  pub holders : Holders
  pub last : ℕ

-- what is held at an instant
abbrev pub held_at : ℕ → Option Held → Option Ipv4Address
held_at at None = None
held_at at (Some held) = if nat_lt at held.until then Some held.address else None

-- what a client holds at an instant
abbrev pub holding : Holders → EthernetAddress → ℕ → Option Ipv4Address
holding holders client at = held_at at (value_at hardware_cmp holders client)

-- some client holds the address with a number
abbrev pub is_taken : Holders → ℕ → ℕ → Bool
is_taken holders at number = list_any (λ holder. holds_number (holding holders holder.0 at) number) holders

-- a server that was not called yet
abbrev pub new_server : Values → ServerState
new_server values = record { values = values; holders = []; last = 0 }

-- Of no two clients one address, each of the range, from the last call on.
pub record IsFair (server : ServerState) : Type 0 where
  pub alone : (one other : EthernetAddress) (at : ℕ) (mine its : Ipv4Address) → server.last ≤ at
      → holding server.holders one at ≡ Some mine → holding server.holders other at ≡ Some its
      → number_of mine ≡ number_of its → one ≡ other
  pub within : (client : EthernetAddress) (at : ℕ) (address : Ipv4Address) → server.last ≤ at
      → holding server.holders client at ≡ Some address → is_of_range server.values address ≡ true

-- the address that a reply gives
abbrev pub given : Reply → Option Ipv4Address
given (reply.Offer address) = Some address
given (reply.Ack address) = Some address
given reply.Nak = None
given (reply.Silent why) = None

abbrev pub call_of : ℕ → Message → Reply → Call
call_of now message what = record { at = now; client = message.client_hardware_address; reply = what }

-- A call at `now`: the reply by what is held then; what each client holds from then on, by the reply; and what
-- a reply gives is held by its client then, and is of the range.
pub record Answers (now : ℕ) (message : Message) (what : Reply) (old new : ServerState) : Type 0 where
  pub replies : what ≡ reply_to old.values (holding old.holders message.client_hardware_address now) (is_taken old.holders now) message
  pub holds : (client : EthernetAddress) (at : ℕ) → now ≤ at
      → holding new.holders client at ≡ held_after old.values (call_of now message what) client at (holding old.holders client at)
  pub gives : (address : Ipv4Address) → given what ≡ Some address
      → holding new.holders message.client_hardware_address now ≡ Some address
  pub same : new.values ≡ old.values
  pub last : new.last ≡ now
