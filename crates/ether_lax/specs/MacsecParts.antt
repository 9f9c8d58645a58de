-- A security tag by itself with its payload, as the first part of its bytes (IEEE 802.1AE, section 9).
use Rattle.std.specs.Prelude.{ℕ, List, length}
use Rattle.ether_link.specs.Layout.{place_of}
use Rattle.ether_link.specs.Places.{header_at}
use Rattle.ether_link.specs.declared.layout.PartKind.TheVariants.{Macsec}
use Rattle.ether_link.specs.declared.layout.Place.{Place}
use Rattle.ether_ip.specs.PacketGrammar.{packet_grammar}
use Rattle.ether_lax.specs.LinkExts.{LinkExtPart, macsec_part}
use Rattle.ether_lax.specs.Parts.{window_at, source_at, is_incomplete}

-- the tag at a place, and the payload in its window
abbrev pub macsec_at : List ℕ → Place → LinkExtPart
macsec_at frame place =
    macsec_part (header_at frame place) (is_incomplete frame place) (source_at frame place)
    (window_at frame place)

-- the tag that some bytes begin with
abbrev pub macsec_of : List ℕ → LinkExtPart
macsec_of bytes = macsec_at bytes (place_of packet_grammar Macsec bytes 0 (length bytes))
