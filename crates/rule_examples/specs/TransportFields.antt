-- The fields of transport headers whose bytes all differ.
use Rattle.std.specs.Prelude.{◌≡◌, ℕ, Bool, true, false, List, [], ◌∷◌, map, replicate, Some, None}
use Rattle.ether_link.specs.Form.{header_len, no_map, refusal}
use Rattle.ether_ip.specs.Tcp.{tcp_header, tcp_slice_form}
use Rattle.ether_ip.specs.Udp.{udp_form, udp_header}
use Rattle.ether_ip.specs.declared.err.tcp.HeaderError.TheVariants.{DataOffsetTooSmall}
use Rattle.ether_ip.specs.declared.err.tcp.HeaderSliceError.TheVariants.{Content}
use Rattle.ether_ip.specs.declared.transport.tcp.TcpHeader.{TcpHeader}

-- source port, destination port, length and checksum (RFC 768)
pub record UdpFields : Type 0 where
  pub fields : udp_header (1 ∷ 2 ∷ 3 ∷ 4 ∷ 5 ∷ 6 ∷ 7 ∷ 8 ∷ 9 ∷ [])
      ≡ record { source_port = 0x0102; destination_port = 0x0304; length = 0x0506; checksum = 0x0708 }
  pub size : header_len (udp_form no_map) (1 ∷ 2 ∷ 3 ∷ 4 ∷ 5 ∷ 6 ∷ 7 ∷ 8 ∷ 9 ∷ []) ≡ 8

-- a header with the byte of its data offset and the byte of its flags, and options behind it
abbrev pub tcp : ℕ → ℕ → List ℕ
tcp offset bits =
    1 ∷ 2 ∷ 3 ∷ 4 ∷ 5 ∷ 6 ∷ 7 ∷ 8 ∷ 9 ∷ 10 ∷ 11 ∷ 12 ∷ offset ∷ bits ∷ 15 ∷ 16 ∷ 17 ∷ 18 ∷ 19 ∷ 20 ∷ 21 ∷ 22 ∷ 23
    ∷ 24 ∷ 25 ∷ []

-- the flags from the lowest bit on, and the nonce sum
abbrev pub flags : TcpHeader → List Bool
flags header =
    header.fin ∷ header.syn ∷ header.rst ∷ header.psh ∷ header.ack ∷ header.urg ∷ header.ece ∷ header.cwr
    ∷ header.ns ∷ []

abbrev pub flags_of : ℕ → ℕ → List Bool
flags_of offset bits = flags (tcp_header (tcp offset bits))

-- Ports, sequence number, acknowledgment number, data offset, flags, window, checksum, urgent pointer and options
-- (RFC 9293, section 3.1; the nonce sum: RFC 3540, section 9).
pub record TcpFields : Type 0 where
  pub fields : tcp_header (tcp 0x61 0x2A)
      ≡ record {
        source_port = 0x0102;
        destination_port = 0x0304;
        sequence_number = 0x05060708;
        acknowledgment_number = 0x090A0B0C;
        ns = true;
        fin = false;
        syn = true;
        rst = false;
        psh = true;
        ack = false;
        urg = true;
        ece = false;
        cwr = false;
        window_size = 0x0F10;
        checksum = 0x1112;
        urgent_pointer = 0x1314;
        options = record { items = 21 ∷ 22 ∷ 23 ∷ 24 ∷ [] };
      }
  pub fin : flags_of 0x50 0x01 ≡ true ∷ replicate 8 false
  pub syn : flags_of 0x50 0x02 ≡ false ∷ true ∷ replicate 7 false
  pub rst : flags_of 0x50 0x04 ≡ false ∷ false ∷ true ∷ replicate 6 false
  pub psh : flags_of 0x50 0x08 ≡ false ∷ false ∷ false ∷ true ∷ replicate 5 false
  pub ack : flags_of 0x50 0x10 ≡ false ∷ false ∷ false ∷ false ∷ true ∷ replicate 4 false
  pub urg : flags_of 0x50 0x20 ≡ false ∷ false ∷ false ∷ false ∷ false ∷ true ∷ replicate 3 false
  pub ece : flags_of 0x50 0x40 ≡ false ∷ false ∷ false ∷ false ∷ false ∷ false ∷ true ∷ replicate 2 false
  pub cwr : flags_of 0x50 0x80 ≡ false ∷ false ∷ false ∷ false ∷ false ∷ false ∷ false ∷ true ∷ false ∷ []
  pub ns : flags_of 0x51 0x00 ≡ false ∷ false ∷ false ∷ false ∷ false ∷ false ∷ false ∷ false ∷ true ∷ []
  pub reserved : flags_of 0x5E 0x00 ≡ replicate 9 false

-- the data offset counts words of four bytes, five at least
pub record TcpSizes : Type 0 where
  pub sizes : map (λ offset. header_len tcp_slice_form (tcp offset 0)) (0x50 ∷ 0x61 ∷ []) ≡ 20 ∷ 24 ∷ []
  pub no_options : (tcp_header (tcp 0x50 0)).options ≡ record { items = [] }
  pub least : refusal tcp_slice_form (tcp 0x50 0) ≡ None
  pub short : refusal tcp_slice_form (tcp 0x40 0) ≡ Some (Content (DataOffsetTooSmall 4))
