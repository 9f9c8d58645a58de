-- The text of an explanation.
use Rattle.std.specs.Prelude.{ℕ, Bool, true, false, List, [], ◌∷◌, ◌++◌, codes, Option, Some, None}
use Rattle.std.specs.Fmt.{decimal}
use Rattle.std.specs.List.{flat_map, enumerate_from}
use Rattle.ether_link.specs.Texts.{layer_word}
use Rattle.ether_link.specs.declared.err.layers.Layer.{Layer}
use Rattle.capture_explain.specs.Text.{six_digits, hexadecimal}
use Rattle.capture_explain.specs.declared.explanation.ExplainRow.{ExplainRow}
use Rattle.capture_explain.specs.declared.parts.AhPart.{AhPart}
use Rattle.capture_explain.specs.declared.parts.EspPart.{EspPart}
use Rattle.capture_explain.specs.declared.parts.Part.{Part}
use Rattle.capture_explain.specs.declared.parts.PartKind.{PartKind}
use Rattle.capture_explain.specs.declared.parts.PartKind.TheVariants as kind

-- the word of a kind of part
abbrev pub kind_word : PartKind → List ℕ
kind_word kind.Ethernet = codes "ethernet"
kind_word kind.Vlan = codes "vlan"
kind_word kind.Macsec = codes "macsec"
kind_word kind.Arp = codes "arp"
kind_word kind.Ipv4 = codes "ipv4"
kind_word kind.Ipv6 = codes "ipv6"
kind_word kind.HopByHop = codes "hop-by-hop"
kind_word kind.Route = codes "route"
kind_word kind.Frag = codes "frag"
kind_word kind.DestOptions = codes "dest-options"
kind_word kind.Auth = codes "auth"
kind_word kind.Udp = codes "udp"
kind_word kind.Tcp = codes "tcp"
kind_word kind.Icmpv4 = codes "icmpv4"
kind_word kind.Icmpv6 = codes "icmpv6"

-- a part and its places, as in ipv4@14-34-66
abbrev pub part_text : Part → List ℕ
part_text part =
    kind_word part.kind ++ codes "@" ++ decimal part.header ++ codes "-" ++ decimal part.window ++ codes "-"
    ++ decimal part.end

-- the parts with commas between them
abbrev pub more_text : Part → List ℕ
more_text part = codes "," ++ part_text part

abbrev pub parts_text : List Part → List ℕ
parts_text [] = codes "none"
parts_text (part ∷ parts) = part_text part ++ flat_map more_text parts

-- the word of the layer that stopped, and a flag
abbrev pub stop_text : Option Layer → List ℕ
stop_text None = codes "none"
stop_text (Some layer) = layer_word layer

abbrev pub flag_text : Bool → List ℕ
flag_text false = codes "0"
flag_text true = codes "1"

-- the line of a frame: the number of its row, its time, how many bytes were captured of how many, its parts, the
-- layer that stopped, and whether both dissectors agree
abbrev pub frame_line : ℕ → ExplainRow → List ℕ
frame_line number row =
    decimal number ++ codes " " ++ decimal row.secs ++ codes "." ++ six_digits row.micros ++ codes " frame "
    ++ decimal row.captured
    ++ codes "/" ++ decimal row.length ++ codes " " ++ parts_text row.parts ++ codes " stop="
    ++ stop_text row.stop
    ++ codes " agree=" ++ flag_text row.agree ++ codes "\n"

-- the line of an authentication header, and that of a security payload
abbrev pub ah_line : AhPart → List ℕ
ah_line header =
    codes "  ah " ++ decimal header.next ++ codes " " ++ hexadecimal header.spi ++ codes " "
    ++ decimal header.sequence
    ++ codes " " ++ decimal header.icv_len ++ codes "\n"

abbrev pub esp_line : Option EspPart → List ℕ
esp_line None = []
esp_line (Some header) =
    codes "  esp " ++ hexadecimal header.spi ++ codes " " ++ decimal header.sequence ++ codes "\n"

abbrev pub row_text : ℕ × ExplainRow → List ℕ
row_text numbered =
    frame_line numbered.0 numbered.1 ++ flat_map ah_line numbered.1.ah ++ esp_line numbered.1.esp

-- an explanation: its rows, which are counted from 0
unfoldable pub explanation_bytes : List ExplainRow → List ℕ
explanation_bytes rows = flat_map row_text (enumerate_from 0 rows)
