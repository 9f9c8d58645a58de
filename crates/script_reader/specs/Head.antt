-- The parts of an event: its kind and its time, and what stands behind them.
use Rattle.std.specs.Prelude.{◌≡◌, ℕ, ◌<◌, ◌≤◌, Bool, false, List, ◌++◌, length, take, Option}
use Rattle.std.specs.Int.{to_be_bytes, w16}
use Rattle.std.specs.Io.KnownBytes.{Consumes}
use Rattle.net_wire.specs.declared.dns.dns_type.DnsType.{DnsType}
use Rattle.net_wire.specs.DnsMessage.{type_number}
use Rattle.host_model.specs.Parts.{BeginsQuery, IsRightTime}
use Rattle.host_model.specs.Script.{head_with, name_part, IsArrival, IsAskedType, IsName, SpellsArrival}
use Rattle.script_reader.specs.declared.script.HeadParts.{HeadParts}
use Rattle.script_reader.specs.declared.script.KindByte.{KindByte}
use Rattle.script_reader.specs.declared.script.KindByte.TheVariants as kinds
use Rattle.script_reader.specs.declared.script.ReadEventError.{ReadEventError}
use Rattle.script_reader.specs.declared.script.ReadEventError.TheVariants.{Read}
use Rattle.script_reader.specs.declared.script.RestParts.{RestParts}
use Rattle.script_reader.specs.Reading.{arrival_with, EndsWith}

-- the byte that names a kind
abbrev pub byte_of : KindByte → ℕ
byte_of kinds.Frame = 1
byte_of kinds.Tick = 2
byte_of kinds.Query = 3
byte_of kinds.Reset = 4
byte_of kinds.TypedQuery = 5

-- the head of an event that may follow one at the time `last`, whose bytes are no longer left
pub record GivesHead (last : ℕ) (left_old left_new : Option (List ℕ)) (head : HeadParts) : Type 0 where
  pub right : IsRightTime last head.micros
  pub took : Consumes left_old left_new (head_with (byte_of head.kind) head.micros)

-- No head, by the answer. Where no event may come any more, a source fails only in front of the kind.
pub record CutsHead (error : ReadEventError) (last : ℕ) (is_full : Bool) (left_old left_new : Option (List ℕ))
    : Type 0 where
  pub part : List ℕ
  pub took : Consumes left_old left_new part
  pub ends : EndsWith error last left_new part
  pub tried : error ≡ Read → 0 < length part → is_full ≡ false

-- the type of a query was read
pub record GivesType (left_old left_new : Option (List ℕ)) (query_type : DnsType) : Type 0 where
  pub asked : IsAskedType query_type
  pub took : Consumes left_old left_new (to_be_bytes w16 (type_number query_type))

-- a name of so many bytes was read to the front of a buffer, behind its length
pub record GivesName (left_old left_new : Option (List ℕ)) (into : List ℕ) (len : ℕ) : Type 0 where
  pub within : len ≤ length into
  pub is_name : IsName (take len into)
  pub took : Consumes left_old left_new (name_part (take len into))

-- no name, by the answer, whatever query it is for
pub record CutsName (error : ReadEventError) (left_old left_new : Option (List ℕ)) : Type 0 where
  pub part : List ℕ
  pub took : Consumes left_old left_new part
  pub ends : (type_ : DnsType) (last at : ℕ) (head : List ℕ) → IsRightTime last at → BeginsQuery type_ at head
      → EndsWith error last left_new (head ++ part)

-- what stands behind the head of a kind was read, and spells what an event of it brings
pub record GivesRest (kind : KindByte) (left_old left_new : Option (List ℕ)) (into : List ℕ)
    (rest : RestParts) : Type 0 where
  pub bytes : List ℕ
  pub within : rest.len ≤ length into
  pub arrival : IsArrival (arrival_with rest.kind (take rest.len into))
  pub brings : SpellsArrival (arrival_with rest.kind (take rest.len into)) (byte_of kind) bytes
  pub took : Consumes left_old left_new bytes

-- nothing that spells it, by the answer, whatever the time of the head is
pub record CutsRest (error : ReadEventError) (kind : KindByte) (left_old left_new : Option (List ℕ))
    : Type 0 where
  pub part : List ℕ
  pub took : Consumes left_old left_new part
  pub ends : (last at : ℕ) → IsRightTime last at
      → EndsWith error last left_new (head_with (byte_of kind) at ++ part)
