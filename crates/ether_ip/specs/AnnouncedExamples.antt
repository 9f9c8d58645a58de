-- The grammar of packets on headers made by hand: how many bytes each announces.
use Rattle.std.specs.Prelude.{◌≡◌, [], ◌∷◌, ◌++◌, replicate, Some, None}
use Rattle.ether_link.specs.Layout.{Grammar}
use Rattle.ether_link.specs.declared.layout.PartKind.TheVariants.{Macsec, Ip, Udp}
use Rattle.ether_ip.specs.Examples.{security_tag, ipv4, ipv6}
use Rattle.ether_ip.specs.PacketGrammar.{packet_grammar}

-- how many bytes a security tag says that it and its payload have: the short length counts the ether type of
-- an unmodified payload
abbrev pub AnnouncesBySecurityTag : Type 0
AnnouncesBySecurityTag =
    (packet_grammar.announced Macsec (security_tag 0x00 0 ++ 0x08 ∷ 0x00 ∷ []) ≡ None)
    × (packet_grammar.announced Macsec (security_tag 0x00 46 ++ 0x08 ∷ 0x00 ∷ []) ≡ Some 52)
    × (packet_grammar.announced Macsec (security_tag 0x0c 46) ≡ Some 52)
    × (packet_grammar.announced Macsec (security_tag 0x0c 71) ≡ Some 13)

-- how many bytes headers say that header and payload have (RFC 791, section 3.1; RFC 8200, section 3; RFC
-- 768)
abbrev pub AnnouncesByLength : Type 0
AnnouncesByLength =
    (packet_grammar.announced Ip (ipv4 0 0 17) ≡ Some 20)
    × (packet_grammar.announced Ip (0x45 ∷ 0 ∷ 1 ∷ 0x10 ∷ replicate 16 0) ≡ Some 272)
    × (packet_grammar.announced Ip (0x46 ∷ 0 ∷ 0 ∷ 23 ∷ replicate 20 0) ≡ None)
    × (packet_grammar.announced Ip (ipv6 17) ≡ None)
    × (packet_grammar.announced Ip (0x60 ∷ 0 ∷ 0 ∷ 0 ∷ 0 ∷ 8 ∷ replicate 34 0) ≡ Some 48)
    × (packet_grammar.announced Udp (replicate 4 0 ++ 0 ∷ 7 ∷ 0 ∷ 0 ∷ []) ≡ None)
    × (packet_grammar.announced Udp (replicate 4 0 ++ 0 ∷ 8 ∷ 0 ∷ 0 ∷ []) ≡ Some 8)
