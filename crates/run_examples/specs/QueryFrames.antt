-- The frames of queries, byte by byte: the queries of 192.168.1.42 for www.example to a name server on port 53 (RFC 1035,
-- section 4.2.1) and for a.local to the group of multicast DNS on port 5353 (RFC 6762, section 3). Sums were worked out
-- apart.
use Rattle.std.specs.Prelude.{◌≡◌, ℕ, false, List, [], ◌∷◌, None, replicate, codes}
use Rattle.net_wire.specs.declared.address.EthernetAddress.{EthernetAddress}
use Rattle.net_wire.specs.declared.address.Ipv4Address.{Ipv4Address}
use Rattle.net_wire.specs.declared.dns.dns_type.DnsType.{DnsType}
use Rattle.net_wire.specs.declared.dns.dns_type.DnsType.TheVariants.{A, Aaaa}
use Rattle.host_model.specs.declared.words.EventWords.{EventWords}
use Rattle.host_model.specs.QueryLooks.{SentAsk}
use Rattle.host_model.specs.QueryStart.{request_for}
use Rattle.host_model.specs.Settings.{Settings}
use Rattle.net_host.specs.Config.{default_host}
use Rattle.net_host.specs.Listed.{IsFrameOfQuery}

-- 02:02:02:02:02:02, with the settings that hold where none is named
abbrev pub settings : Settings
settings = default_host (record { 0 = replicate 6 2 }) 1500 None false

abbrev pub near : ℕ → Ipv4Address
near last = record { 0 = 192 ∷ 168 ∷ 1 ∷ last ∷ [] }

-- the first query, to the first place of its list
abbrev pub asked : DnsType → List ℕ → EventWords → Ipv4Address → EthernetAddress → SentAsk
asked type_ name words to hop = record {
  ask = record { query = 0; place = 0; from = near 42; to = to; request = request_for type_ name words };
  hop = hop;
}

-- The id is the low half of the second word, the port comes of the third one: 1025 and the rest of a division by 64511.
abbrev pub plain : SentAsk
plain =
    asked A (codes "www.example") (record { first = 7; second = 0x51234; third = 64516 }) (near 53)
    (record { 0 = 2 ∷ 0 ∷ 0 ∷ 0 ∷ 0 ∷ 53 ∷ [] })

abbrev pub plain_frame : List ℕ
plain_frame =
    2 ∷ 0 ∷ 0 ∷ 0 ∷ 0 ∷ 53 ∷ 2 ∷ 2 ∷ 2 ∷ 2 ∷ 2 ∷ 2 ∷ 8 ∷ 0 ∷ 69 ∷ 0 ∷ 0 ∷ 57 ∷ 0 ∷ 0 ∷ 64 ∷ 0 ∷ 64
    ∷ 17 ∷ 0xB7 ∷ 4 ∷ 0xC0 ∷ 0xA8 ∷ 1 ∷ 42 ∷ 0xC0 ∷ 0xA8 ∷ 1 ∷ 53 ∷ 4 ∷ 6 ∷ 0 ∷ 53 ∷ 0 ∷ 37 ∷ 0x8D
    ∷ 0xF9 ∷ 18 ∷ 52 ∷ 1 ∷ 0 ∷ 0 ∷ 1 ∷ 0 ∷ 0 ∷ 0 ∷ 0 ∷ 0 ∷ 0 ∷ 3 ∷ 119 ∷ 119 ∷ 119 ∷ 7 ∷ 101 ∷ 120 ∷ 97
    ∷ 109 ∷ 112 ∷ 108 ∷ 101 ∷ 0 ∷ 0 ∷ 1 ∷ 0 ∷ 1 ∷ []

-- the last port
abbrev pub local : SentAsk
local =
    asked Aaaa (codes "a.local") (record { first = 7; second = 0x1235; third = 64510 })
    (record { 0 = 224 ∷ 0 ∷ 0 ∷ 251 ∷ [] })
    (record { 0 = 1 ∷ 0 ∷ 94 ∷ 0 ∷ 0 ∷ 0xFB ∷ [] })

abbrev pub local_frame : List ℕ
local_frame =
    1 ∷ 0 ∷ 94 ∷ 0 ∷ 0 ∷ 0xFB ∷ 2 ∷ 2 ∷ 2 ∷ 2 ∷ 2 ∷ 2 ∷ 8 ∷ 0 ∷ 69 ∷ 0 ∷ 0 ∷ 53 ∷ 0 ∷ 0 ∷ 64 ∷ 0 ∷ 64
    ∷ 17 ∷ 0x97 ∷ 0xEA ∷ 0xC0 ∷ 0xA8 ∷ 1 ∷ 42 ∷ 0xE0 ∷ 0 ∷ 0 ∷ 0xFB ∷ 0xFF ∷ 0xFF ∷ 20 ∷ 0xE9 ∷ 0 ∷ 33
    ∷ 64 ∷ 34 ∷ 18 ∷ 53 ∷ 1 ∷ 0 ∷ 0 ∷ 1 ∷ 0 ∷ 0 ∷ 0 ∷ 0 ∷ 0 ∷ 0 ∷ 1 ∷ 97 ∷ 5 ∷ 108 ∷ 111 ∷ 99 ∷ 97
    ∷ 108 ∷ 0 ∷ 0 ∷ 28 ∷ 0 ∷ 1 ∷ []

pub record QueriesByExample : Type 0 where
  pub plain : IsFrameOfQuery settings plain plain_frame
  pub local : IsFrameOfQuery settings local local_frame
