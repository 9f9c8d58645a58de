-- What the definitions mean, in words of their own.
use Rattle.std.specs.Prelude.{◌≡◌, ◌↔◌, ℕ, ◌+◌, ◌<◌, ◌≤◌, Bool, true, false, Option, Some, None}
use Rattle.net_wire.specs.declared.address.EthernetAddress.{EthernetAddress}
use Rattle.net_wire.specs.declared.address.Ipv4Address.{Ipv4Address}
use Rattle.net_wire.specs.declared.dhcp.DhcpMessageType.TheVariants as kind
use Rattle.net_wire.specs.DhcpMessage.{Message}
use Rattle.lease_server.specs.declared.reply.Reply.TheVariants as reply
use Rattle.lease_server.specs.declared.reply.Silence.TheVariants as silence
use Rattle.lease_server.specs.Values.{Values, number_of, first_number, refused}
use Rattle.lease_server.specs.Holdings.{holds_number}
use Rattle.lease_server.specs.Replies.{is_of_range, lowest_free, reply_to}
use Rattle.lease_server.specs.State.{Holders, holding, is_taken}

-- an address of the range that is not taken, where each lower one of the range is
pub record IsLowest (values : Values) (taken : ℕ → Bool) (address : Ipv4Address) : Type 0 where
  pub within : is_of_range values address ≡ true
  pub free : taken (number_of address) ≡ false
  pub lowest : (number : ℕ) → first_number values ≤ number → number < number_of address → taken number ≡ true

-- the free address that is offered is the lowest one
abbrev pub FreeIsLowest : Type 0
FreeIsLowest = (values : Values) (taken : ℕ → Bool) (address : Ipv4Address) → refused values ≡ None
    → lowest_free values taken ≡ Some address → IsLowest values taken address

-- each address of the range is taken
abbrev pub AreAllTaken : Values → (ℕ → Bool) → Type 0
AreAllTaken values taken = (number : ℕ) → first_number values ≤ number → number < first_number values + values.count → taken number ≡ true

-- `Full` comes exactly to a discover of a client that holds nothing, where each address is taken
abbrev pub FullIsExact : Type 0
FullIsExact = (values : Values) (mine : Option Ipv4Address) (taken : ℕ → Bool) (message : Message)
    → (reply_to values mine taken message ≡ reply.Silent silence.Full)
    ↔ ((message.message_type ≡ kind.Discover) × (mine ≡ None) × AreAllTaken values taken)

-- an address is taken exactly where some client holds it
abbrev pub TakenIsHeld : Type 0
TakenIsHeld = (holders : Holders) (at number : ℕ)
    → (is_taken holders at number ≡ true) ↔ ((client : EthernetAddress) × (holds_number (holding holders client at) number ≡ true))
