-- What a message does to a client.
use Rattle.std.specs.Prelude.{ℕ, ◌==◌, ◌&&◌, ◌||◌, ℤ, Bool, not, true, false, nat_eq, nat_le, List, ◌++◌, length, drop, Option, Some, None, if◌then◌else◌}
use Rattle.std.specs.Option.{is_some}
use Rattle.std.specs.Cmp.Lexicographic.{pointwise}
use Rattle.net_wire.specs.declared.address.Ipv4Address.{Ipv4Address}
use Rattle.net_wire.specs.declared.address.Ipv4Cidr.{Ipv4Cidr}
use Rattle.net_wire.specs.declared.error.Context.{Context}
use Rattle.net_wire.specs.DhcpMessage.{Message}
use Rattle.dhcp_client.specs.declared.state.ClientState.{ClientState}
use Rattle.dhcp_client.specs.declared.state.ClientState.TheVariants.{Discovering, Requesting, Renewing}
use Rattle.dhcp_client.specs.declared.state.Lease.{Lease}
use Rattle.dhcp_client.specs.declared.state.ServerInfo.{ServerInfo}
use Rattle.dhcp_client.specs.Client.{Client, after_reset}
use Rattle.dhcp_client.specs.Heard.{Granted, Heard, Nothing, AnOffer, AnAck, ARefusal, Ear, heard_in, is_taken, lease_with}

-- one address, one list of them
abbrev pub same_address : Ipv4Address → Ipv4Address → Bool
same_address one other = pointwise nat_eq one.0 other.0

abbrev pub same_router : Option Ipv4Address → Option Ipv4Address → Bool
same_router None None = true
same_router None (Some other) = false
same_router (Some one) None = false
same_router (Some one) (Some other) = same_address one other

abbrev pub same_cidr : Ipv4Cidr → Ipv4Cidr → Bool
same_cidr one other = same_address one.address other.address && (one.prefix_len == other.prefix_len)

-- the configuration of a lease is that which is granted
abbrev pub is_same_config : Lease → List Ipv4Address → Granted → Bool
is_same_config lease servers granted =
    same_cidr lease.address granted.address && same_router lease.router granted.router
    && pointwise same_address servers granted.dns_servers

-- with a lease from a moment on
abbrev pub with_lease : Client → ServerInfo → Granted → ℤ → Bool → Client
with_lease client server granted now changed = record client {
  state = Renewing (lease_with now server granted);
  dns_servers = granted.dns_servers;
  changed = changed;
}

-- an offer counts for a client that discovers: it requests the address at once
abbrev pub after_offer : ClientState → ServerInfo → Ipv4Address → ℤ → Client → Client
after_offer (Discovering retry_at) server address now client =
    record client { state = Requesting now 0 server address }
after_offer (Requesting retry_at retry old requested_ip) server address now client = client
after_offer (Renewing lease) server address now client = client

-- An acknowledgement counts for one that requests or renews; its server stays that of the offer. A renewed
-- lease changes the configuration where that differs, or where packets are kept.
abbrev pub after_ack : ClientState → Granted → ℤ → Client → Client
after_ack (Discovering retry_at) granted now client = client
after_ack (Requesting retry_at retry server requested_ip) granted now client =
    with_lease client server granted now true
after_ack (Renewing lease) granted now client =
    with_lease client lease.server granted now
    (client.changed || not (is_same_config lease client.dns_servers granted) || is_some client.packet)

-- and so does a refusal
abbrev pub after_refusal : ClientState → Client → Client
after_refusal (Discovering retry_at) client = client
after_refusal (Requesting retry_at retry server requested_ip) client = after_reset client
after_refusal (Renewing lease) client = after_reset client

abbrev pub after_heard : Heard → ℤ → Client → Client
after_heard Nothing now client = client
after_heard (AnOffer server address) now client = after_offer client.state server address now client
after_heard (AnAck granted) now client = after_ack client.state granted now client
after_heard ARefusal now client = after_refusal client.state client

-- bytes at the front of a buffer that has room for them, and else the buffer as it was
abbrev pub laid_over : List ℕ → List ℕ → List ℕ
laid_over bytes buffer =
    if nat_le (length bytes) (length buffer) then bytes ++ drop (length bytes) buffer else buffer

abbrev pub laid_in : List ℕ → Option (List ℕ) → Option (List ℕ)
laid_in bytes None = None
laid_in bytes (Some buffer) = Some (laid_over bytes buffer)

abbrev pub with_packet : List ℕ → Client → Client
with_packet bytes client = record client { packet = laid_in bytes client.packet }

-- what a client hears by
abbrev pub ear_of : Client → Context → Ear
ear_of client cx =
    record { hardware = cx.hardware_addr; id = client.transaction_id; settings = client.settings }

-- the bytes of a message are kept where it is taken
abbrev pub after_bytes : Client → Context → List ℕ → Message → Client
after_bytes client cx bytes message =
    if is_taken (ear_of client cx) message then with_packet bytes client else client

-- what arrives from a server's address: bytes, and the message that they are, if they are one
abbrev pub after_message : Client → Context → Ipv4Address → List ℕ → Option Message → Client
after_message client cx source bytes None = client
after_message client cx source bytes (Some message) =
    after_heard (heard_in (ear_of client cx) source message) cx.now (after_bytes client cx bytes message)
