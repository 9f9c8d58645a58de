-- Closed examples of the texts.
use Rattle.std.specs.Prelude.{◌≡◌, List, [], ◌∷◌, ◌++◌, ℕ, codes}
use Rattle.net_wire.specs.PrettyIndent.{indent_from, deeper}
use Rattle.net_wire.specs.Pretty.{ethernet_text, ipv4_text, icmpv4_text}

-- an echo request in an IPv4 packet, whose header has a wrong checksum, in an Ethernet frame
abbrev pub echo_frame : List ℕ
echo_frame =
    1 ∷ 2 ∷ 3 ∷ 4 ∷ 5 ∷ 6 ∷ 17 ∷ 18 ∷ 19 ∷ 20 ∷ 21 ∷ 22 ∷ 8 ∷ 0 ∷ 69 ∷ 0 ∷ 0 ∷ 32 ∷ 0 ∷ 0 ∷ 64 ∷ 0 ∷ 64 ∷ 1
    ∷ 210 ∷ 121 ∷ 17 ∷ 18 ∷ 19 ∷ 20 ∷ 33 ∷ 34 ∷ 35 ∷ 36 ∷ 8 ∷ 0 ∷ 142 ∷ 254 ∷ 18 ∷ 52 ∷ 171 ∷ 205 ∷ 170 ∷ 0
    ∷ 0 ∷ 255 ∷ []

abbrev pub IsEchoPrinted : Type 0
IsEchoPrinted = ethernet_text echo_frame (indent_from [])
    ≡ codes "EthernetII src=11-12-13-14-15-16 dst=01-02-03-04-05-06 type=IPv4" ++ 10 ∷ []
    ++ codes "\\ IPv4 src=17.18.19.20 dst=33.34.35.36 proto=ICMP (checksum incorrect)" ++ 10 ∷ []
    ++ codes " \\ ICMPv4 echo request id=4660 seq=43981 len=4"

-- each kind of packet that is cut, behind a prefix of two bytes and below it
abbrev pub AreCutPrinted : Type 0
AreCutPrinted =
    (ethernet_text (0 ∷ 0 ∷ []) (indent_from (codes "<-")) ≡ codes "<-(truncated)")
    × (ipv4_text (0x45 ∷ []) (deeper (indent_from (codes "<-"))) ≡ codes "  \\ (truncated)")
    × (icmpv4_text [] (deeper (deeper (indent_from (codes "<-")))) ≡ codes "   \\ (truncated)")

-- an echo reply, and a message that is neither: destination unreachable, port unreachable
abbrev pub AreMessagesPrinted : Type 0
AreMessagesPrinted =
    (icmpv4_text (0 ∷ 0 ∷ 0 ∷ 0 ∷ 0 ∷ 7 ∷ 1 ∷ 0 ∷ []) (indent_from [])
    ≡ codes "ICMPv4 echo reply id=7 seq=256 len=0")
    × (icmpv4_text (3 ∷ 3 ∷ 0 ∷ 0 ∷ 0 ∷ 0 ∷ 0 ∷ 0 ∷ []) (indent_from []) ≡ codes "ICMPv4 type=3 code=3")
