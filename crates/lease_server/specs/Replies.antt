-- The reply to a message of a client, by what is held when it comes (RFC 2131, sections 4.3.1, 4.3.2 and
-- 4.3.4).
use Rattle.std.specs.Prelude.{ℕ, ◌+◌, ◌&&◌, ◌==◌, zero, suc, Bool, nat_le, nat_lt, Option, Some, None, if◌then◌else◌}
use Rattle.net_wire.specs.declared.address.Ipv4Address.{Ipv4Address}
use Rattle.net_wire.specs.declared.dhcp.DhcpMessageType.{DhcpMessageType}
use Rattle.net_wire.specs.declared.dhcp.DhcpMessageType.TheVariants.{Discover, Offer, Request, Decline}
use Rattle.net_wire.specs.declared.dhcp.DhcpMessageType.TheVariants.{Ack, Nak, Release, Inform, Unknown}
use Rattle.net_wire.specs.DhcpMessage.{Message}
use Rattle.lease_server.specs.declared.reply.Reply.{Reply}
use Rattle.lease_server.specs.declared.reply.Reply.TheVariants as reply
use Rattle.lease_server.specs.declared.reply.Silence.TheVariants as silence
use Rattle.lease_server.specs.Holdings.{holds_it}
use Rattle.lease_server.specs.Values.{Values, number_of, address_of, first_number}

-- the lowest address that is not taken, of some addresses from a number on
abbrev pub first_free : (ℕ → Bool) → ℕ → ℕ → Option Ipv4Address
first_free taken number zero = None
first_free taken number (suc count) = if taken number then first_free taken (number + 1) count else Some (address_of number)

-- of the range
abbrev pub lowest_free : Values → (ℕ → Bool) → Option Ipv4Address
lowest_free values taken = first_free taken (first_number values) values.count

-- an address is of the range
abbrev pub is_of_range : Values → Ipv4Address → Bool
is_of_range values address =
    nat_le (first_number values) (number_of address) && nat_lt (number_of address) (first_number values + values.count)

-- to a discover: what the client holds, else the lowest free address
abbrev pub discover_reply : Option Ipv4Address → Option Ipv4Address → Reply
discover_reply (Some mine) free = reply.Offer mine
discover_reply None (Some free) = reply.Offer free
discover_reply None None = reply.Silent silence.Full

-- to a request for this server's offer, with the address that is requested
abbrev pub selected_reply : Option Ipv4Address → Option Ipv4Address → Reply
selected_reply mine None = reply.Nak
selected_reply mine (Some address) = if holds_it mine address then reply.Ack address else reply.Nak

-- to a request without a server, with the address that the client has
abbrev pub renewal_reply : Values → Option Ipv4Address → Option Ipv4Address → Reply
renewal_reply values mine None = reply.Silent silence.Foreign
renewal_reply values mine (Some address) =
    if holds_it mine address then reply.Ack address
    else if is_of_range values address then reply.Nak
    else reply.Silent silence.Foreign

-- the address that a request without a server is about: `client_ip`, or the requested one where that is 0.0.0.0
abbrev pub renewed : Message → Option Ipv4Address
renewed message = if number_of message.client_ip == 0 then message.requested_ip else Some message.client_ip

abbrev pub request_reply : Values → Option Ipv4Address → Message → Option Ipv4Address → Reply
request_reply values mine message None = renewal_reply values mine (renewed message)
request_reply values mine message (Some server) =
    if number_of server == number_of values.address then selected_reply mine message.requested_ip
    else reply.Silent silence.Other

abbrev pub release_reply : Option Ipv4Address → Ipv4Address → Reply
release_reply mine address = if holds_it mine address then reply.Silent silence.Released else reply.Silent silence.Stale

-- by the type of the message, with the lowest free address
abbrev pub reply_by : Values → Option Ipv4Address → Option Ipv4Address → Message → DhcpMessageType → Reply
reply_by values mine free message Discover = discover_reply mine free
reply_by values mine free message Request = request_reply values mine message message.server_identifier
reply_by values mine free message Release = release_reply mine message.client_ip
reply_by values mine free message Offer = reply.Silent silence.Unwanted
reply_by values mine free message Decline = reply.Silent silence.Unwanted
reply_by values mine free message Ack = reply.Silent silence.Unwanted
reply_by values mine free message Nak = reply.Silent silence.Unwanted
reply_by values mine free message Inform = reply.Silent silence.Unwanted
reply_by values mine free message (Unknown number) = reply.Silent silence.Unwanted

-- with what the client holds, and which addresses are taken, by their numbers
abbrev pub reply_to : Values → Option Ipv4Address → (ℕ → Bool) → Message → Reply
reply_to values mine taken message = reply_by values mine (lowest_free values taken) message message.message_type
