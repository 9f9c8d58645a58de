-- The client as a value, without where its slots lie in memory.
use Rattle.std.specs.Prelude.{◌≡◌, ℕ, ◌==◌, ◌⊎◌, ◌≢◌, nat_lt, is_some, unwrap_or, slice_get, not, ◌&&◌, List, length, Bool, Option, Some, None, Result, Err, IfOk, IfErr, OnErr, if◌then◌else◌}
use Rattle.std.specs.Borrow.{GName}
use Rattle.managed.specs.Storage.{items_of, item_storage}
use Rattle.net_wire.specs.declared.address.IpAddress.{IpAddress}
use Rattle.dns_client.specs.declared.error.StartQueryError.{StartQueryError}
use Rattle.dns_client.specs.declared.error.StartQueryError.TheVariants.{NoFreeSlot, InvalidName, NameTooLong, NoMemory}
use Rattle.dns_client.specs.declared.query.DnsQuery.{DnsQuery}
use Rattle.dns_client.specs.declared.query.QueryHandle.{QueryHandle}
use Rattle.dns_client.specs.declared.socket.Socket.{Socket}
use Rattle.dns_client.specs.PlainName.{plain_name}
use Rattle.dns_client.specs.Slots.{Slots, first_free, with_new, slot_at}
use Rattle.dns_client.specs.TextName.{labels_of_text, name_fault}

-- the servers, the slots, the hop limit, and the borrow that the slots lie behind, if they are borrowed
pub record Client : Type 0 where
  pub servers : List IpAddress
  pub slots : Slots
  pub hop_limit : Option ℕ
  pub storage : Option GName

abbrev pub client_of : Socket → Client
client_of socket = record {
  servers = socket.servers.items;
  slots = items_of socket.queries;
  hop_limit = socket.hop_limit;
  storage = item_storage socket.queries;
}

-- the hop limit of messages, 64 where none was set (IANA's recommendation)
abbrev pub hop_limit_of : Client → ℕ
hop_limit_of client = unwrap_or client.hop_limit 64

-- borrowed slots that are all taken have no place for a query
abbrev pub has_no_place : Client → Bool
has_no_place client = is_some client.storage && (first_free client.slots == length client.slots)

abbrev pub place_fault : Client → Option StartQueryError
place_fault client = if has_no_place client then Some NoFreeSlot else None

-- why a query for a text is refused: its name goes first
abbrev pub refusal_by_place : Client → Option StartQueryError → Option StartQueryError
refusal_by_place client None = place_fault client
refusal_by_place client (Some fault) = Some fault

abbrev pub text_refusal : Client → List ℕ → Option StartQueryError
text_refusal client text = refusal_by_place client (name_fault 0 (labels_of_text text))

-- what is wrong with the bytes of a name
abbrev pub raw_fault : List ℕ → Option StartQueryError
raw_fault raw =
    if not (is_some (plain_name raw)) then Some InvalidName
    else if nat_lt 255 (length raw) then Some NameTooLong else None

-- why a query for the bytes of a name is refused: want of a slot goes first
abbrev pub raw_refusal : Client → List ℕ → Option StartQueryError
raw_refusal client raw = if has_no_place client then Some NoFreeSlot else raw_fault raw

-- an owned list whose slots are all taken had to grow
pub record HadToGrow (client : Client) : Type 0 where
  pub owned : client.storage ≡ None
  pub taken : first_free client.slots ≡ length client.slots

-- A query is started, or refused by its refusal; but for that, only memory can run out. A query that is
-- started stands in the lowest free slot, and every other slot is as it was.
pub record Started (refusal : Option StartQueryError) (query : DnsQuery)
    (result : Result QueryHandle StartQueryError)
    (old new : Client) : Type 0 where
  pub refuses : (error : StartQueryError) → refusal ≡ Some error → result ≡ Err error
  pub cause : IfErr result (λ error. (refusal ≡ Some error) ⊎ ((error ≡ NoMemory) × HadToGrow old))
  pub ok : IfOk result (λ handle. (handle.0 ≡ first_free old.slots)
      × (new ≡ record old { slots = with_new query old.slots }))
  pub live : IfOk result (λ handle. slot_at new.slots handle ≡ Some query)
  pub others : IfOk result (λ handle. (k : ℕ) → k ≢ handle.0 → slice_get new.slots k ≡ slice_get old.slots k)
  pub err : OnErr result (new ≡ old)
