-- The words of a verdict.
use Rattle.std.specs.Prelude.{ℕ, List, ◌++◌, codes, slice_index}
use Rattle.std.specs.Fmt.{decimal}
use Rattle.net_wire.specs.Pretty.{hex_pair, ipv4_address_text}
use Rattle.frame_verdict.specs.declared.verdict.Reason.{Reason}
use Rattle.frame_verdict.specs.declared.verdict.Reason.TheVariants as reason
use Rattle.frame_verdict.specs.declared.verdict.Verdict.{Verdict}
use Rattle.frame_verdict.specs.declared.verdict.Verdict.TheVariants as verdict

-- one word for each reason
abbrev pub reason_word : Reason → List ℕ
reason_word reason.Short = codes "short"
reason_word reason.Station = codes "station"
reason_word reason.Arp = codes "arp"
reason_word reason.EtherType = codes "ethertype"
reason_word reason.Cut = codes "cut"
reason_word reason.HeaderSum = codes "header-sum"
reason_word reason.Fragment = codes "fragment"
reason_word reason.Source = codes "source"
reason_word reason.Protocol = codes "protocol"
reason_word reason.Udp = codes "udp"
reason_word reason.UdpSum = codes "udp-sum"
reason_word reason.Port = codes "port"
reason_word reason.Server = codes "server"
reason_word reason.Message = codes "message"
reason_word reason.Client = codes "client"
reason_word reason.Id = codes "id"
reason_word reason.Kind = codes "kind"
reason_word reason.Values = codes "values"
reason_word reason.Offer = codes "offer"
reason_word reason.Ack = codes "ack"
reason_word reason.Nak = codes "nak"
reason_word reason.Response = codes "response"

-- a hardware address: two digits a byte, with colons between them (IEEE 802, section 8.1, in the form of most tools)
unfoldable pub hardware_text : List ℕ → List ℕ
hardware_text address =
    hex_pair (slice_index address 0) ++ (codes ":" ++ (hex_pair (slice_index address 1) ++ (codes ":"
    ++ (hex_pair (slice_index address 2) ++ (codes ":" ++ (hex_pair (slice_index address 3) ++ (codes ":"
    ++ (hex_pair (slice_index address 4) ++ (codes ":" ++ hex_pair (slice_index address 5))))))))))

-- the words of a verdict, a blank between two of them
unfoldable pub verdict_text : Verdict → List ℕ
verdict_text (verdict.Ignored why) = codes "ignored " ++ reason_word why
verdict_text (verdict.Arp address hardware) =
    codes "arp " ++ (ipv4_address_text address.0 ++ (codes " " ++ hardware_text hardware.0))
verdict_text (verdict.Offer address) = codes "offer " ++ ipv4_address_text address.0
verdict_text (verdict.Ack cidr) =
    codes "ack " ++ (ipv4_address_text cidr.address.0 ++ (codes "/" ++ decimal cidr.prefix_len))
verdict_text verdict.Nak = codes "nak"
verdict_text (verdict.Response query) = codes "response " ++ decimal query
