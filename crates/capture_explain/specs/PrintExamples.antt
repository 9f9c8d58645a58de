-- Closed examples of a capture that is printed.
use Rattle.std.specs.Prelude.{◌≡◌, [], ◌∷◌, ◌++◌, codes}
use Rattle.net_wire.specs.PrettyExamples.{echo_frame}
use Rattle.capture_explain.specs.PrintText.{print_bytes}

-- 46 of 60 bytes of an echo request, a second and two microseconds after moment 0, and a frame of two bytes whose
-- microseconds are two seconds
abbrev pub IsCapturePrinted : Type 0
IsCapturePrinted = print_bytes
    (record { secs = 1; micros = 2; told = 60; frame = echo_frame }
    ∷ record { secs = 3; micros = 2000000; told = 2; frame = 7 ∷ 8 ∷ [] } ∷ [])
    ≡ codes "0 1.000002 frame 46/60\n"
    ++ codes "  EthernetII src=11-12-13-14-15-16 dst=01-02-03-04-05-06 type=IPv4\n"
    ++ codes "  \\ IPv4 src=17.18.19.20 dst=33.34.35.36 proto=ICMP (checksum incorrect)\n"
    ++ codes "   \\ ICMPv4 echo request id=4660 seq=43981 len=4\n"
    ++ codes "1 3.2000000 frame 2/2\n"
    ++ codes "  (truncated)\n"
