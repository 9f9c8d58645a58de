-- Queries.
use Rattle.std.specs.Prelude.{ℕ, ◌+◌, ◌%◌, List, None, Result, Ok, Err, pos}
use Rattle.net_wire.specs.declared.dns.dns_type.DnsType.{DnsType}
use Rattle.net_wire.specs.declared.address.IpAddress.{IpAddress}
use Rattle.arrayvec.specs.ArrayVec.{ArrayVec}
use Rattle.dns_client.specs.declared.error.GetQueryResultError.{GetQueryResultError}
use Rattle.dns_client.specs.declared.error.GetQueryResultError.TheVariants as get
use Rattle.dns_client.specs.declared.query.MulticastDns.{MulticastDns}
use Rattle.dns_client.specs.declared.query.Turn.{Turn}
use Rattle.dns_client.specs.declared.query.DnsQuery.{DnsQuery}
use Rattle.dns_client.specs.declared.query.QueryState.{QueryState}
use Rattle.dns_client.specs.declared.query.QueryState.TheVariants.{Pending, Answered, Failed}
use Rattle.dns_client.specs.Waiting.{RequestValue}

-- the turn of a query that was not looked at yet: due at once, first place, one second until the message is
-- sent again
abbrev pub first_turn : Turn
first_turn = record { timeout_at = None; retransmit_at = pos 0; delay = 1000000; place = 0; asked = None }

-- a request with an id and a port by two words
abbrev pub request_with : List ℕ → DnsType → MulticastDns → ℕ → ℕ → RequestValue
request_with name type_ mdns id_word port_word =
    record { name = name; type_ = type_; mdns = mdns; id = id_word % 65536; port = 1025 + port_word % 64511 }

-- a query that waits
abbrev pub pending_with : RequestValue → Turn → DnsQuery
pending_with request turn = record { state = Pending (record { request = request; turn = turn }) }

abbrev pub new_query : RequestValue → DnsQuery
new_query request = pending_with request first_turn

-- what a query gives
abbrev pub result_in : QueryState → Result (ArrayVec IpAddress) GetQueryResultError
result_in (Pending pending) = Err get.Pending
result_in (Answered addresses) = Ok addresses
result_in Failed = Err get.Failed

abbrev pub query_result : DnsQuery → Result (ArrayVec IpAddress) GetQueryResultError
query_result query = result_in query.state
