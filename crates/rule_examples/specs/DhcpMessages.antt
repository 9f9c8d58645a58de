-- A DHCP message whose fields all differ, written and read (RFC 2131, section 2, figure 1; options by RFC 2132).
use Rattle.std.specs.Prelude.{◌≡◌, ℕ, true, List, [], ◌∷◌, ◌++◌, map, replicate, Some}
use Rattle.net_wire.specs.DhcpBytes.{message_bytes, op_of, type_number}
use Rattle.net_wire.specs.DhcpMessage.{Message}
use Rattle.net_wire.specs.DhcpRead.{message_at, type_of_number}
use Rattle.net_wire.specs.declared.address.Ipv4Address.{Ipv4Address}
use Rattle.net_wire.specs.declared.dhcp.DhcpMessageType.TheVariants.{Discover, Offer, Request, Decline, Ack, Nak, Release, Inform, Unknown}

-- 10.0.0.LAST
abbrev pub ten : ℕ → Ipv4Address
ten last = record { 0 = 10 ∷ 0 ∷ 0 ∷ last ∷ [] }

abbrev pub message : Message
message = record {
  message_type = Request;
  transaction_id = 0x01020304;
  secs = 0x0506;
  broadcast = true;
  client_ip = ten 1;
  your_ip = ten 2;
  server_ip = ten 3;
  relay_agent_ip = ten 4;
  client_hardware_address = record { 0 = 21 ∷ 22 ∷ 23 ∷ 24 ∷ 25 ∷ 26 ∷ [] };
  client_identifier = Some (record { 0 = 31 ∷ 32 ∷ 33 ∷ 34 ∷ 35 ∷ 36 ∷ [] });
  server_identifier = Some (ten 5);
  router = Some (ten 6);
  subnet_mask = Some (record { 0 = 255 ∷ 255 ∷ 240 ∷ 0 ∷ [] });
  requested_ip = Some (ten 7);
  max_size = Some 0x0708;
  lease_duration = Some 0x090A0B0C;
  renew_duration = Some 0x0D0E0F10;
  rebind_duration = Some 0x11121314;
  parameter_request_list = Some (1 ∷ 3 ∷ 6 ∷ []);
  dns_servers = Some (ten 8 ∷ ten 9 ∷ []);
  additional_options = record { kind = 12; bytes = 104 ∷ 111 ∷ [] } ∷ [];
}

-- op, hardware type and length, hops, id, seconds, flags, the four addresses, the hardware address, 10 bytes behind
-- it, 64 of sname, 128 of file, and the magic cookie
abbrev pub header : List ℕ
header =
    1 ∷ 1 ∷ 6 ∷ 0 ∷ 1 ∷ 2 ∷ 3 ∷ 4 ∷ 5 ∷ 6 ∷ 0x80 ∷ 0 ∷ 10 ∷ 0 ∷ 0 ∷ 1 ∷ 10 ∷ 0 ∷ 0 ∷ 2 ∷ 10 ∷ 0 ∷ 0 ∷ 3 ∷ 10 ∷ 0
    ∷ 0 ∷ 4 ∷ 21 ∷ 22 ∷ 23 ∷ 24 ∷ 25 ∷ 26 ∷ replicate 202 0 ++ 99 ∷ 130 ∷ 83 ∷ 99 ∷ []

-- type, client identifier, server identifier, router, mask, requested address, greatest size, lease, renewal and
-- rebinding times, request list, name servers, an option of the caller, end
abbrev pub options : List ℕ
options =
    53 ∷ 1 ∷ 3 ∷ 61 ∷ 7 ∷ 1 ∷ 31 ∷ 32 ∷ 33 ∷ 34 ∷ 35 ∷ 36 ∷ 54 ∷ 4 ∷ 10 ∷ 0 ∷ 0 ∷ 5 ∷ 3 ∷ 4 ∷ 10 ∷ 0 ∷ 0 ∷ 6
    ∷ 1 ∷ 4 ∷ 255 ∷ 255 ∷ 240 ∷ 0 ∷ 50 ∷ 4 ∷ 10 ∷ 0 ∷ 0 ∷ 7 ∷ 57 ∷ 2 ∷ 7 ∷ 8 ∷ 51 ∷ 4 ∷ 9 ∷ 10 ∷ 11 ∷ 12
    ∷ 58 ∷ 4 ∷ 13 ∷ 14 ∷ 15 ∷ 16 ∷ 59 ∷ 4 ∷ 17 ∷ 18 ∷ 19 ∷ 20 ∷ 55 ∷ 3 ∷ 1 ∷ 3 ∷ 6
    ∷ 6 ∷ 8 ∷ 10 ∷ 0 ∷ 0 ∷ 8 ∷ 10 ∷ 0 ∷ 0 ∷ 9 ∷ 12 ∷ 2 ∷ 104 ∷ 111 ∷ 255 ∷ []

pub record DhcpByExample : Type 0 where
  pub written : message_bytes message ≡ header ++ options
  pub read : message_at (header ++ options) ≡ Some (record message { additional_options = [] })

-- the numbers of the types, and the op: 1 from a client, 2 from a server (RFC 2132, section 9.6; RFC 2131, figure 1)
pub record DhcpTypes : Type 0 where
  pub numbers : map type_number
      (Discover ∷ Offer ∷ Request ∷ Decline ∷ Ack ∷ Nak ∷ Release ∷ Inform ∷ Unknown 9 ∷ [])
      ≡ 1 ∷ 2 ∷ 3 ∷ 4 ∷ 5 ∷ 6 ∷ 7 ∷ 8 ∷ 9 ∷ []
  pub types : map type_of_number (1 ∷ 2 ∷ 3 ∷ 4 ∷ 5 ∷ 6 ∷ 7 ∷ 8 ∷ 9 ∷ 0 ∷ [])
      ≡ Discover ∷ Offer ∷ Request ∷ Decline ∷ Ack ∷ Nak ∷ Release ∷ Inform ∷ Unknown 9 ∷ Unknown 0 ∷ []
  pub ops : map op_of (1 ∷ 2 ∷ 3 ∷ 4 ∷ 5 ∷ 6 ∷ 7 ∷ 8 ∷ []) ≡ 1 ∷ 2 ∷ 1 ∷ 1 ∷ 2 ∷ 2 ∷ 1 ∷ 1 ∷ []
