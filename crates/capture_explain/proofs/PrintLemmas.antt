-- The closed example of a capture that is printed, by computing.
use Rattle.std.proofs.Common.{refl}
use Rattle.std.specs.Fmt.{digits}
use Rattle.net_wire.specs.PrettyIndent.{indent_text}
use Rattle.net_wire.specs.Pretty.{ethernet_text, ethernet_lines, ethernet_line, ethernet_payload_text, ether_type_text, hardware_address_text, hex_pair, ipv4_text, ipv4_lines, has_ipv4_packet, is_right_sum, ipv4_line, sum_text, ipv4_payload_text, ipv4_address_text, protocol_text, icmpv4_text, icmpv4_line, echo_text, other_message_text}
use Rattle.capture_explain.specs.PrintExamples.{IsCapturePrinted}
use Rattle.capture_explain.specs.PrintText.{print_bytes}

pub printed : IsCapturePrinted
unfolding ethernet_text ethernet_lines ethernet_line ethernet_payload_text ether_type_text
    hardware_address_text hex_pair ipv4_text ipv4_lines has_ipv4_packet is_right_sum ipv4_line sum_text
    ipv4_payload_text ipv4_address_text protocol_text icmpv4_text icmpv4_line echo_text other_message_text
    indent_text digits print_bytes
printed = refl
