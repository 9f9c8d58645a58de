-- The text of a frame that is shown.
use Rattle.std.specs.Prelude.{ℕ, ◌/◌, ◌==◌, List, ◌++◌, slice_index, codes, if◌then◌else◌}
use Rattle.net_wire.specs.PrettyIndent.{indent_from}
use Rattle.net_wire.specs.Pretty.{ethernet_text, ipv4_text}
use Rattle.phy_layers.specs.declared.capabilities.Medium.{Medium}
use Rattle.phy_layers.specs.declared.capabilities.Medium.TheVariants.{Ethernet, Ip}
use Rattle.phy_layers.specs.declared.capabilities.TracerDirection.{TracerDirection}
use Rattle.phy_layers.specs.declared.capabilities.TracerDirection.TheVariants.{RX, TX}

-- what stands in front of a frame that is received, and of one that is sent
abbrev pub arrow : TracerDirection → List ℕ
arrow RX = codes "<- "
arrow TX = codes "-> "

-- an IP packet by the version in its first byte, which is 0 where there is none
abbrev pub ip_text : List ℕ → TracerDirection → List ℕ
ip_text bytes direction =
    if slice_index bytes 0 / 16 == 4 then ipv4_text bytes (indent_from (arrow direction))
    else if slice_index bytes 0 / 16 == 6 then arrow direction ++ codes "IPv6"
    else codes "unrecognized IP version"

abbrev pub tracer_text : List ℕ → Medium → TracerDirection → List ℕ
tracer_text bytes Ethernet direction = ethernet_text bytes (indent_from (arrow direction))
tracer_text bytes Ip direction = ip_text bytes direction
