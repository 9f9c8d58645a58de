-- The fixed part of a message that was written is read again.
use Rattle.std.proofs.Common.{◌≡◌, ℕ, ◌≤◌, List, ◌++◌, length, drop, get_or, refl, arith, Bool, true, false}
use Rattle.std.proofs.lemmas.Nat.{from_be_bytes-to_be_bytes_2, from_be_bytes-to_be_bytes_4}
use Rattle.std.proofs.lemmas.Bool.{le-leb}
use Rattle.wire_base.specs.Bytes.{bytes_between, be16_at, be32_at, flag_at}
use Rattle.net_wire.specs.DhcpBytes.{header_bytes, op_of, type_number}
use Rattle.net_wire.specs.DhcpMessage.{Message}
use Rattle.net_wire.specs.DhcpRead.{is_header}
use Rattle.net_wire.specs.DhcpReadBack.{IsReadable}
use Rattle.net_wire.proofs.SentArrivesLemmas.{four_cells, six_cells}

flag_read : (broadcast : Bool) (m : Message) (options : List ℕ) → m.broadcast ≡ broadcast → flag_at (header_bytes m ++ options) 10 7 ≡ broadcast
unfolding header_bytes
flag_read true m options is = rw is refl
flag_read false m options is = rw is refl

-- what stands at the places of the fixed part
pub record IsRead (m : Message) (bytes options : List ℕ) : Type 0 where
  pub long : 240 ≤ length bytes
  pub op : get_or bytes 0 0 ≡ op_of (type_number m.message_type)
  pub hardware_type : get_or bytes 1 0 ≡ 1
  pub address_len : get_or bytes 2 0 ≡ 6
  pub cookie : be32_at bytes 236 ≡ 0x63825363
  pub transaction_id : be32_at bytes 4 ≡ m.transaction_id
  pub secs : be16_at bytes 8 ≡ m.secs
  pub broadcast : flag_at bytes 10 7 ≡ m.broadcast
  pub client_ip : bytes_between 12 16 bytes ≡ m.client_ip.0
  pub your_ip : bytes_between 16 20 bytes ≡ m.your_ip.0
  pub server_ip : bytes_between 20 24 bytes ≡ m.server_ip.0
  pub relay_agent_ip : bytes_between 24 28 bytes ≡ m.relay_agent_ip.0
  pub client_hardware_address : bytes_between 28 34 bytes ≡ m.client_hardware_address.0
  pub behind : drop 240 bytes ≡ options

pub header_read : (m : Message) (options : List ℕ) → IsReadable m → IsRead m (header_bytes m ++ options) options
unfolding header_bytes
header_read m options is =
    let client = four_cells m.client_ip.0 is.client_ip in
    let your = four_cells m.your_ip.0 is.your_ip in
    let server = four_cells m.server_ip.0 is.server_ip in
    let relay = four_cells m.relay_agent_ip.0 is.relay_agent_ip in
    let hardware = six_cells m.client_hardware_address.0 is.client_hardware_address in
    record {
      long = rw (client, your, server, relay, hardware) (omega arith);
      op = refl;
      hardware_type = refl;
      address_len = refl;
      cookie = rw (client, your, server, relay, hardware) refl;
      transaction_id = from_be_bytes-to_be_bytes_4 m.transaction_id is.transaction_id;
      secs = from_be_bytes-to_be_bytes_2 m.secs is.secs;
      broadcast = flag_read m.broadcast m options refl;
      client_ip = rw client refl;
      your_ip = rw (client, your) refl;
      server_ip = rw (client, your, server) refl;
      relay_agent_ip = rw (client, your, server, relay) refl;
      client_hardware_address = rw (client, your, server, relay, hardware) refl;
      behind = rw (client, your, server, relay, hardware) refl;
    }

pub is_read_header : (m : Message) (bytes options : List ℕ) → IsRead m bytes options → is_header bytes ≡ true
is_read_header m bytes options is = rw (le-leb 240 (length bytes) is.long, is.hardware_type, is.address_len, is.cookie) refl
