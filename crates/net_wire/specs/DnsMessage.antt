-- DNS messages (RFC 1035, section 4).
use Rattle.std.specs.Prelude.{◌≡◌, ◌<◌, ◌^◌, ℕ, ◌+◌, ◌/◌, ◌%◌, ◌==◌, ◌&&◌, nat_le, List, [], ◌∷◌, ◌++◌, length, take, drop, Option, Some, None, option_map, option_and_then, slice_index, if◌then◌else◌}
use Rattle.std.specs.Int.{to_be_bytes, w16}
use Rattle.wire_base.specs.Bytes.{bytes_between, be16_at, be32_at}
use Rattle.net_wire.specs.declared.address.Ipv4Address.{Ipv4Address}
use Rattle.net_wire.specs.declared.address.Ipv6Address.{Ipv6Address}
use Rattle.net_wire.specs.declared.dns.dns_type.DnsType.{DnsType}
use Rattle.net_wire.specs.declared.dns.dns_type.DnsType.TheVariants as dns
use Rattle.net_wire.specs.DnsName.{name_len}

-- the types of records (section 3.2.2; AAAA by RFC 3596, section 2.1) and their numbers
abbrev pub type_number : DnsType → ℕ
type_number dns.A = 1
type_number dns.Ns = 2
type_number dns.Cname = 5
type_number dns.Soa = 6
type_number dns.Aaaa = 28
type_number (dns.Unknown number) = number

abbrev pub type_of_number : ℕ → DnsType
type_of_number number =
    if number == 1 then dns.A else if number == 2 then dns.Ns else if number == 5 then dns.Cname
    else if number == 6 then dns.Soa else if number == 28 then dns.Aaaa else dns.Unknown number

-- the fields of the header of 12 bytes (section 4.1.1)
abbrev pub message_id : List ℕ → ℕ
message_id message = be16_at message 0

abbrev pub flag_bits : List ℕ → ℕ
flag_bits message = be16_at message 2

abbrev pub opcode_of : List ℕ → ℕ
opcode_of message = slice_index message 2 / 8 % 16

abbrev pub rcode_of : List ℕ → ℕ
rcode_of message = slice_index message 3 % 16

abbrev pub question_count : List ℕ → ℕ
question_count message = be16_at message 4

abbrev pub answer_count : List ℕ → ℕ
answer_count message = be16_at message 6

-- a question: the bytes of its name in place, and its type
pub record QuestionValue : Type 0 where
  pub name : List ℕ
  pub type_ : DnsType

-- behind the name a type and the class of the internet (section 4.1.2); the bytes after them
abbrev pub question_behind : List ℕ → List ℕ → Option (QuestionValue × List ℕ)
question_behind name fixed =
    if nat_le 4 (length fixed) && (be16_at fixed 2 == 1)
    then Some (record { name = name; type_ = type_of_number (be16_at fixed 0) }, drop 4 fixed) else None

-- the question that stands first in the bytes, and the bytes after it
abbrev pub question_at : List ℕ → Option (QuestionValue × List ℕ)
question_at bytes =
    option_and_then (λ len. question_behind (take len bytes) (drop len bytes)) (name_len bytes)

-- what a record says: an address, another name by the bytes of it in place, or a type that is passed over
pub data BodyValue : Type 0 where
  IsA : Ipv4Address → BodyValue
  IsAaaa : Ipv6Address → BodyValue
  IsCname : List ℕ → BodyValue
  IsOther : DnsType → List ℕ → BodyValue

-- An A record has four bytes (section 3.4.1), an AAAA record 16 (RFC 3596, section 2.2), and a CNAME record
-- exactly one name (section 3.3.1).
abbrev pub body_of : DnsType → List ℕ → Option BodyValue
body_of dns.A bytes = if length bytes == 4 then Some (IsA (record { 0 = bytes })) else None
body_of dns.Aaaa bytes = if length bytes == 16 then Some (IsAaaa (record { 0 = bytes })) else None
body_of dns.Cname bytes =
    option_and_then (λ len. if len == length bytes then Some (IsCname bytes) else None) (name_len bytes)
body_of dns.Ns bytes = Some (IsOther dns.Ns bytes)
body_of dns.Soa bytes = Some (IsOther dns.Soa bytes)
body_of (dns.Unknown number) bytes = Some (IsOther (dns.Unknown number) bytes)

-- a record: the bytes of its owner's name in place, how long it may be kept in seconds, and what it says
pub record RecordValue : Type 0 where
  pub name : List ℕ
  pub ttl : ℕ
  pub body : BodyValue

-- behind the name a type, the class of the internet, the time to live, and a length with so many bytes
-- (section 4.1.3)
abbrev pub record_behind : List ℕ → List ℕ → Option (RecordValue × List ℕ)
record_behind name fixed =
    if nat_le (10 + be16_at fixed 8) (length fixed) && (be16_at fixed 2 == 1)
    then option_map
    (λ body. (record { name = name; ttl = be32_at fixed 4; body = body }, drop (10 + be16_at fixed 8) fixed))
    (body_of (type_of_number (be16_at fixed 0)) (bytes_between 10 (10 + be16_at fixed 8) fixed))
    else None

-- the record that stands first in the bytes, and the bytes after it
abbrev pub record_at : List ℕ → Option (RecordValue × List ℕ)
record_at bytes = option_and_then (λ len. record_behind (take len bytes) (drop len bytes)) (name_len bytes)

-- A query of one question with an id: recursion is desired, and there are no records (sections 4.1.1 and
-- 4.1.2).
unfoldable pub query_bytes : ℕ → QuestionValue → List ℕ
query_bytes id question =
    to_be_bytes w16 id ++ 0x01 ∷ 0 ∷ 0 ∷ 1 ∷ 0 ∷ 0 ∷ 0 ∷ 0 ∷ 0 ∷ 0 ∷ [] ++ question.name
    ++ to_be_bytes w16 (type_number question.type_) ++ 0 ∷ 1 ∷ []

-- the question of a query is read again, where its name is one name in place
abbrev pub ReadsQuery : Type 0
ReadsQuery =
    (id : ℕ) (question : QuestionValue) → id < 2 ^ 16 → name_len question.name ≡ Some (length question.name)
    → type_number question.type_ < 2 ^ 16 → type_of_number (type_number question.type_) ≡ question.type_
    → (message_id (query_bytes id question) ≡ id)
    × (question_at (drop 12 (query_bytes id question)) ≡ Some (question, []))
