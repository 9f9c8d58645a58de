-- The text of a packet, a line a layer.
use Rattle.std.specs.Prelude.{ℕ, ◌-◌, ◌*◌, ◌/◌, ◌%◌, ◌==◌, ◌&&◌, nat_le, nat_lt, Bool, false, List, [], ◌∷◌, ◌++◌, length, take, drop, slice_index, slice_range, codes, if◌then◌else◌}
use Rattle.std.specs.Fmt.{digits, decimal}
use Rattle.wire_base.specs.Bytes.{be16_at}
use Rattle.wire_base.specs.Checksum.{word_sum}
use Rattle.net_wire.specs.PrettyIndent.{Indent, indent_text, deeper}

-- a byte as two hexadecimal digits in lower case
unfoldable pub hex_pair : ℕ → List ℕ
hex_pair byte = digits 16 false (byte / 16) ++ digits 16 false (byte % 16)

-- a hardware address: two digits a byte, with dashes between them
unfoldable pub hardware_address_text : List ℕ → List ℕ
hardware_address_text address =
    hex_pair (slice_index address 0) ++ (codes "-" ++ (hex_pair (slice_index address 1) ++ (codes "-"
    ++ (hex_pair (slice_index address 2) ++ (codes "-" ++ (hex_pair (slice_index address 3) ++ (codes "-"
    ++ (hex_pair (slice_index address 4) ++ (codes "-" ++ hex_pair (slice_index address 5))))))))))

-- an IPv4 address: four decimal numbers with dots between them
unfoldable pub ipv4_address_text : List ℕ → List ℕ
ipv4_address_text address =
    decimal (slice_index address 0) ++ (codes "." ++ (decimal (slice_index address 1) ++ (codes "."
    ++ (decimal (slice_index address 2) ++ (codes "." ++ decimal (slice_index address 3))))))

-- what a frame carries, by its ether type
unfoldable pub ether_type_text : ℕ → List ℕ
ether_type_text number =
    if number == 0x0800 then codes "IPv4" else if number == 0x0806 then codes "ARP"
    else if number == 0x86dd then codes "IPv6"
    else codes "0x" ++ (hex_pair (number / 256) ++ hex_pair (number % 256))

-- what a datagram carries, by its protocol number
unfoldable pub protocol_text : ℕ → List ℕ
protocol_text number =
    if number == 1 then codes "ICMP" else if number == 2 then codes "IGMP"
    else if number == 6 then codes "TCP" else if number == 17 then codes "UDP"
    else if number == 58 then codes "ICMPv6"
    else codes "0x" ++ hex_pair number

-- an echo message: its kind, identifier, sequence number, and how many bytes are behind these
unfoldable pub echo_text : List ℕ → List ℕ → List ℕ
echo_text kind bytes =
    codes "ICMPv4 echo " ++ (kind ++ (codes " id=" ++ (decimal (be16_at bytes 4) ++ (codes " seq="
    ++ (decimal (be16_at bytes 6) ++ (codes " len=" ++ decimal (length bytes - 8)))))))

-- any other message of ICMP for IPv4: type and code
unfoldable pub other_message_text : List ℕ → List ℕ
other_message_text bytes =
    codes "ICMPv4 type="
    ++ (decimal (slice_index bytes 0) ++ (codes " code=" ++ decimal (slice_index bytes 1)))

-- a message of ICMP for IPv4 (RFC 792): echo and echo reply have the types 8 and 0, with the code 0
unfoldable pub icmpv4_line : List ℕ → List ℕ
icmpv4_line bytes =
    if nat_lt (length bytes) 8 then codes "(truncated)"
    else if slice_index bytes 0 == 8 && slice_index bytes 1 == 0 then echo_text (codes "request") bytes
    else if slice_index bytes 0 == 0 && slice_index bytes 1 == 0 then echo_text (codes "reply") bytes
    else other_message_text bytes

unfoldable pub icmpv4_text : List ℕ → Indent → List ℕ
icmpv4_text bytes indent = indent_text indent ++ icmpv4_line bytes

-- the bytes of an IPv4 header (RFC 791, section 3.1), which its low four bits count in words of 32 bits
abbrev pub ihl_bytes : List ℕ → ℕ
ihl_bytes bytes = slice_index bytes 0 % 16 * 4

-- an IPv4 packet is there: its fixed part, the version 4, the header and all that the total length announces
unfoldable pub has_ipv4_packet : List ℕ → Bool
has_ipv4_packet bytes =
    nat_le 20 (length bytes) && slice_index bytes 0 / 16 == 4 && nat_le 20 (ihl_bytes bytes)
    && nat_le (ihl_bytes bytes) (be16_at bytes 2) && nat_le (be16_at bytes 2) (length bytes)

-- whether the words of the header sum to zero in one's complement arithmetic
unfoldable pub is_right_sum : List ℕ → Bool
is_right_sum bytes = word_sum (take (ihl_bytes bytes) bytes) % 65535 == 0

unfoldable pub ipv4_line : List ℕ → List ℕ
ipv4_line bytes =
    codes "IPv4 src=" ++ (ipv4_address_text (slice_range bytes 12 16) ++ (codes " dst="
    ++ (ipv4_address_text (slice_range bytes 16 20)
    ++ (codes " proto=" ++ protocol_text (slice_index bytes 9)))))

unfoldable pub sum_text : List ℕ → List ℕ
sum_text bytes = if is_right_sum bytes then [] else codes " (checksum incorrect)"

-- what an IPv4 packet carries, a level deeper: ICMP alone is printed
unfoldable pub ipv4_payload_text : List ℕ → Indent → List ℕ
ipv4_payload_text bytes indent =
    if slice_index bytes 9 == 1
    then 10 ∷ icmpv4_text (slice_range bytes (ihl_bytes bytes) (be16_at bytes 2)) (deeper indent)
    else []

unfoldable pub ipv4_lines : List ℕ → Indent → List ℕ
ipv4_lines bytes indent =
    if has_ipv4_packet bytes then ipv4_line bytes ++ (sum_text bytes ++ ipv4_payload_text bytes indent)
    else codes "(truncated)"

unfoldable pub ipv4_text : List ℕ → Indent → List ℕ
ipv4_text bytes indent = indent_text indent ++ ipv4_lines bytes indent

unfoldable pub ethernet_line : List ℕ → List ℕ
ethernet_line bytes =
    codes "EthernetII src=" ++ (hardware_address_text (slice_range bytes 6 12) ++ (codes " dst="
    ++ (hardware_address_text (slice_range bytes 0 6)
    ++ (codes " type=" ++ ether_type_text (be16_at bytes 12)))))

-- what an Ethernet frame carries, a level deeper: IPv4 alone is printed
unfoldable pub ethernet_payload_text : List ℕ → Indent → List ℕ
ethernet_payload_text bytes indent =
    if be16_at bytes 12 == 0x0800 then 10 ∷ ipv4_text (drop 14 bytes) (deeper indent) else []

-- an Ethernet II frame (RFC 894), whose header has 14 bytes
unfoldable pub ethernet_lines : List ℕ → Indent → List ℕ
ethernet_lines bytes indent =
    if nat_lt (length bytes) 14 then codes "(truncated)"
    else ethernet_line bytes ++ ethernet_payload_text bytes indent

unfoldable pub ethernet_text : List ℕ → Indent → List ℕ
ethernet_text bytes indent = indent_text indent ++ ethernet_lines bytes indent
