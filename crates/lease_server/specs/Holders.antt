-- The places of a server: which client has which key, and what lies there.
use Rattle.std.specs.Prelude.{◌≡◌, ℕ, ◌+◌, ◌-◌, ◌≤◌, ◌==◌, ◌&&◌, Bool, true, false, nat_lt, ◌⊎◌, List, [], length, map, Option, Some, None, pos, slice_index_or, slice_set, if◌then◌else◌}
use Rattle.managed.specs.declared.slot_key.SlotKey.{SlotKey}
use Rattle.managed.specs.SlotTable.{SlotUse, IsSoundUse, generation_at}
use Rattle.managed.specs.SortedMap.{value_at}
use Rattle.net_wire.specs.declared.address.EthernetAddress.{EthernetAddress}
use Rattle.net_wire.specs.declared.address.Ipv4Address.{Ipv4Address}
use Rattle.lease_server.specs.declared.lease.Lease.{Lease}
use Rattle.lease_server.specs.Values.{Values, number_of}
use Rattle.lease_server.specs.Replies.{is_of_range}
use Rattle.lease_server.specs.State.{Held, Holders, held_of, hardware_cmp, holding, micros_of}

abbrev pub Keys : Type 0
Keys = List (EthernetAddress × SlotKey)

abbrev pub no_lease : Lease
no_lease = record { client = record { 0 = [] }; address = record { 0 = [] }; until = pos 0 }

-- what lies at a place
abbrev pub lease_at : List Lease → ℕ → Lease
lease_at leases place = slice_index_or leases place no_lease

-- what lies at the place of a key
abbrev pub held_under : List Lease → SlotKey → Held
held_under leases key = held_of (lease_at leases key.place)

-- the clients in the order of the map, each with what lies at its place
abbrev pub holders_in : Keys → List Lease → Holders
holders_in keys leases = map (λ pair. (pair.0, held_under leases pair.1)) keys

-- The keys are those of the places in use, each client has a place of its own with an address of the range,
-- and no two clients have one address, held or not.
pub record AreHolders (values : Values) (keys : Keys) (leases : List Lease) (table : SlotUse) : Type 0 where
  pub sound : IsSoundUse table
  pub size : table.capacity ≡ values.count
  pub room : values.count ≤ length leases
  pub begun : length table.generations ≤ values.count
  pub counted : length keys + length table.freed ≡ length table.generations
  pub live : (client : EthernetAddress) (key : SlotKey) → value_at hardware_cmp keys client ≡ Some key
      → generation_at table key.place ≡ Some key.generation
  pub mine : (client : EthernetAddress) (key : SlotKey) → value_at hardware_cmp keys client ≡ Some key
      → (lease_at leases key.place).client ≡ client
  pub placed : (client : EthernetAddress) (key : SlotKey) → value_at hardware_cmp keys client ≡ Some key
      → is_of_range values (lease_at leases key.place).address ≡ true
  pub apart : (one other : EthernetAddress) (key its : SlotKey)
      → value_at hardware_cmp keys one ≡ Some key → value_at hardware_cmp keys other ≡ Some its
      → number_of (lease_at leases key.place).address ≡ number_of (lease_at leases its.place).address → one ≡ other

-- a client has the address with a number, held or not
abbrev pub has_number : Option Held → ℕ → Bool
has_number None number = false
has_number (Some held) number = number_of held.address == number

abbrev pub stores : Holders → EthernetAddress → ℕ → Bool
stores holders client number = has_number (value_at hardware_cmp holders client) number

-- An address that a client may be given at `now`: one of the range, which no other client holds then.
pub record CanHold (values : Values) (holders : Holders) (now : ℕ) (client : EthernetAddress) (address : Ipv4Address) : Type 0 where
  pub within : is_of_range values address ≡ true
  pub free : (other : EthernetAddress) → stores holders other (number_of address) ≡ true
      → (other ≡ client) ⊎ (holding holders other now ≡ None)

-- the marks of a range once a lease was looked at
abbrev pub marked : List Bool → ℕ → ℕ → Lease → List Bool
marked taken first at lease =
    if nat_lt at (micros_of lease.until) then slice_set taken (number_of lease.address - first) true else taken

-- the end of what a client is given again, which does not come sooner than it was
abbrev pub later_end : Held → Ipv4Address → ℕ → ℕ
later_end held address end = if (number_of held.address == number_of address) && nat_lt end held.until then held.until else end

-- the one client that has the address with a number
pub record IsOwner (holders : Holders) (number : ℕ) (client : EthernetAddress) : Type 0 where
  pub has : stores holders client number ≡ true
  pub only : (other : EthernetAddress) → stores holders other number ≡ true → other ≡ client
