-- Which response reaches a query, and what it decides (RFC 1035, section 7.3; RFC 5452, section 9.1).
use Rattle.std.specs.Prelude.{◌≡◌, ℕ, ◌==◌, ◌&&◌, ◌||◌, nat_le, nat_eq, bit_and, Bool, false, List, [], ◌∷◌, drop, map, length, Option, Some, None, option_map, is_some, if◌then◌else◌}
use Rattle.std.specs.List.{list_any}
use Rattle.std.specs.Cmp.Lexicographic.{pointwise}
use Rattle.net_wire.specs.declared.address.IpAddress.{IpAddress}
use Rattle.net_wire.specs.declared.address.IpAddress.TheVariants as ip
use Rattle.net_wire.specs.DnsName.{name_at}
use Rattle.net_wire.specs.DnsMessage.{QuestionValue, message_id, flag_bits, opcode_of, rcode_of, question_count, answer_count, type_number, question_at}
use Rattle.dns_client.specs.declared.query.MulticastDns.{MulticastDns}
use Rattle.dns_client.specs.declared.query.MulticastDns.TheVariants.{Disabled, Enabled}
use Rattle.dns_client.specs.declared.query.DnsQuery.{DnsQuery}
use Rattle.dns_client.specs.declared.query.QueryState.{QueryState}
use Rattle.dns_client.specs.declared.query.QueryState.TheVariants.{Pending, Answered, Failed}
use Rattle.dns_client.specs.declared.response.Arrived.{Arrived}
use Rattle.dns_client.specs.AnswerChain.{Name, is_same_name, answers_at, chain_answer}
use Rattle.dns_client.specs.PlainName.{plain_name}
use Rattle.dns_client.specs.Slots.{Slots}
use Rattle.dns_client.specs.Waiting.{RequestValue, Waiting}

abbrev pub is_same_address : IpAddress → IpAddress → Bool
is_same_address (ip.Ipv4 one) (ip.Ipv4 other) = pointwise nat_eq one.0 other.0
is_same_address (ip.Ipv4 one) (ip.Ipv6 other) = false
is_same_address (ip.Ipv6 one) (ip.Ipv4 other) = false
is_same_address (ip.Ipv6 one) (ip.Ipv6 other) = pointwise nat_eq one.0 other.0

-- from port 53 of a listed server, or from port 5353 (RFC 6762, section 5.2)
abbrev pub is_accepted : List IpAddress → IpAddress → ℕ → Bool
is_accepted servers source port =
    (port == 5353) || ((port == 53) && list_any (λ server. is_same_address server source) servers)

-- the header says a standard response to one question
abbrev pub is_response : List ℕ → Bool
is_response message =
    (opcode_of message == 0) && (bit_and (flag_bits message) 0x8000 == 0x8000)
    && (question_count message == 1)

-- where a datagram came from, the port that it came to, and the id of its message
abbrev pub arrived_by : IpAddress → ℕ → ℕ → List ℕ → Arrived
arrived_by source source_port port message =
    record { source = source; source_port = source_port; port = port; id = message_id message }

-- The source is right: port 53 of the address that the last message went to, or for mDNS port 5353. None is
-- right before a message went out.
abbrev pub has_right_source : Arrived → MulticastDns → Option IpAddress → Bool
has_right_source arrived mdns None = false
has_right_source arrived Disabled (Some asked) =
    (arrived.source_port == 53) && is_same_address asked arrived.source
has_right_source arrived Enabled (Some asked) = arrived.source_port == 5353

abbrev pub reaches_waiting : Arrived → Waiting → Bool
reaches_waiting arrived waiting =
    (arrived.port == waiting.request.port) && (arrived.id == waiting.request.id)
    && has_right_source arrived waiting.request.mdns waiting.turn.asked

abbrev pub reaches_in : Arrived → QueryState → Bool
reaches_in arrived (Pending waiting) = reaches_waiting arrived waiting
reaches_in arrived (Answered addresses) = false
reaches_in arrived Failed = false

-- a response reaches a query that waits, by its port, its id and its source
abbrev pub reaches : Arrived → Option DnsQuery → Bool
reaches arrived None = false
reaches arrived (Some query) = reaches_in arrived query.state

abbrev pub is_named : Option Name → Option Name → Bool
is_named None other = false
is_named (Some name) None = false
is_named (Some name) (Some other) = is_same_name name other

-- the question is the query's own, by type and labels
abbrev pub asks_for : List ℕ → RequestValue → QuestionValue → Bool
asks_for message request question =
    (type_number question.type_ == type_number request.type_)
    && is_named (name_at message question.name) (plain_name request.name)

abbrev pub chain_from : List ℕ → RequestValue → List ℕ → Option Name → Option (List IpAddress)
chain_from message request records None = None
chain_from message request records (Some asked) =
    option_map (chain_answer (type_number request.type_) asked)
    (answers_at message (answer_count message) records)

abbrev pub answer_to : List ℕ → RequestValue → Option (QuestionValue × List ℕ) → Option (List IpAddress)
answer_to message request None = None
answer_to message request (Some found) =
    if asks_for message request found.0
    then chain_from message request found.1 (plain_name request.name) else None

-- What a response says to a request: the addresses of its answer, if it repeats the question and every answer
-- record reads whole.
abbrev pub answer_for : List ℕ → RequestValue → Option (List IpAddress)
answer_for message request = answer_to message request (question_at (drop 12 message))

abbrev pub failed : Option DnsQuery
failed = Some (record { state = Failed })

-- a slot once its query was decided: no address means that it failed
abbrev pub settled : Option (List IpAddress) → Option DnsQuery → Option DnsQuery
settled None slot = slot
settled (Some []) slot = failed
settled (Some (address ∷ more)) slot = Some (record { state = Answered (record { items = address ∷ more }) })

abbrev pub answer_in : List ℕ → QueryState → Option (List IpAddress)
answer_in message (Pending waiting) = answer_for message waiting.request
answer_in message (Answered addresses) = None
answer_in message Failed = None

abbrev pub decided : List ℕ → Option DnsQuery → Option DnsQuery
decided message None = None
decided message (Some query) = settled (answer_in message query.state) (Some query)

-- the name does not exist: every query fails that the response reaches
abbrev pub failed_if : Arrived → Option DnsQuery → Option DnsQuery
failed_if arrived slot = if reaches arrived slot then failed else slot

-- else the first query that the response reaches, in the order of the slots, is decided or stays
abbrev pub first_decided : Arrived → List ℕ → Slots → Slots
first_decided arrived message [] = []
first_decided arrived message (slot ∷ slots) =
    if reaches arrived slot then decided message slot ∷ slots else slot ∷ first_decided arrived message slots

abbrev pub heard : Arrived → List ℕ → Slots → Slots
heard arrived message slots =
    if rcode_of message == 3 then map (failed_if arrived) slots else first_decided arrived message slots

-- the slots after a response
abbrev pub after_response : Arrived → List ℕ → Slots → Slots
after_response arrived message slots =
    if nat_le 12 (length message) && is_response message then heard arrived message slots else slots

-- the first slot that a response reaches
abbrev pub first_reached : Arrived → Slots → Option DnsQuery
first_reached arrived [] = None
first_reached arrived (slot ∷ slots) = if reaches arrived slot then slot else first_reached arrived slots

abbrev pub has_answer : List ℕ → Option DnsQuery → Bool
has_answer message None = false
has_answer message (Some query) = is_some (answer_in message query.state)

-- A response decides a query: it reaches one, and the name does not exist, or it answers the first one that
-- it reaches.
abbrev pub decides : Arrived → List ℕ → Slots → Bool
decides arrived message slots =
    nat_le 12 (length message) && is_response message && is_some (first_reached arrived slots)
    && ((rcode_of message == 3) || has_answer message (first_reached arrived slots))

-- a response that decides no query leaves every query as it was, its name included
abbrev pub UndecidedIsUnchanged : Type 0
UndecidedIsUnchanged = (arrived : Arrived) (message : List ℕ) (slots : Slots)
    → decides arrived message slots ≡ false → after_response arrived message slots ≡ slots
