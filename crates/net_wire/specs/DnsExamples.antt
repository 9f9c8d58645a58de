-- Names and records by example, one for each rule that a slip would change.
use Rattle.std.specs.Prelude.{◌≡◌, List, [], ◌∷◌, ◌++◌, drop, replicate, Some, None, codes, ℕ}
use Rattle.net_wire.specs.DnsName.{piece_at, AtPointer, name_at, name_len}
use Rattle.net_wire.specs.DnsMessage.{question_at, record_at, IsCname}
use Rattle.net_wire.specs.declared.dns.dns_type.DnsType.TheVariants as dns

-- the domain names of RFC 1035, section 4.1.4: F.ISI.ARPA at 20, FOO.F.ISI.ARPA at 40, ARPA at 64, the root
-- at 92
abbrev pub compressed : List ℕ
compressed =
    replicate 20 0 ++ 1 ∷ codes "F" ++ 3 ∷ codes "ISI" ++ 4 ∷ codes "ARPA" ++ 0 ∷ replicate 8 0
    ++ 3 ∷ codes "FOO" ++ 0xC0 ∷ 20 ∷ replicate 18 0 ++ 0xC0 ∷ 26 ∷ replicate 26 0 ++ 0 ∷ []

pub record NamesByExample : Type 0 where
  pub foo : name_at compressed (drop 40 compressed)
      ≡ Some (codes "FOO" ∷ codes "F" ∷ codes "ISI" ∷ codes "ARPA" ∷ [])
  pub arpa : name_at compressed (drop 64 compressed) ≡ Some (codes "ARPA" ∷ [])
  pub root : name_at compressed (drop 92 compressed) ≡ Some []
  -- the first pointer may lead forward, each later one leads below the last target
  pub forward : name_at (0xC0 ∷ 2 ∷ 0 ∷ []) (0xC0 ∷ 2 ∷ 0 ∷ []) ≡ Some []
  pub later_down : name_at (0 ∷ 0xC0 ∷ 0 ∷ 0xC0 ∷ 1 ∷ []) (0xC0 ∷ 1 ∷ []) ≡ Some []
  pub later_up : name_at (0xC0 ∷ 2 ∷ 0xC0 ∷ 4 ∷ 0 ∷ []) (0xC0 ∷ 2 ∷ 0xC0 ∷ 4 ∷ 0 ∷ []) ≡ None
  pub itself : name_at (0xC0 ∷ 0 ∷ []) (0xC0 ∷ 0 ∷ []) ≡ None
  pub outside : name_at (0xC0 ∷ 2 ∷ []) (0xC0 ∷ 2 ∷ []) ≡ None
  -- behind a later pointer no label passes the target before
  pub passes : name_at (2 ∷ 97 ∷ 0xC0 ∷ 0 ∷ 0xC0 ∷ 2 ∷ []) (0xC0 ∷ 2 ∷ []) ≡ None
  -- a label has at most 63 bytes, an offset 14 bits
  pub longest : name_at [] (63 ∷ replicate 63 1 ++ 0 ∷ []) ≡ Some (replicate 63 1 ∷ [])
  pub too_long : name_at [] (64 ∷ replicate 64 1 ++ 0 ∷ []) ≡ None
  pub reserved : name_at [] (0xBF ∷ 0 ∷ []) ≡ None
  pub highest : piece_at (0xFF ∷ 0xFE ∷ []) ≡ AtPointer 0x3FFE []
  -- a name has no end where the bytes end
  pub without_end : name_at [] (1 ∷ 97 ∷ []) ≡ None
  -- a pointer ends a name in place
  pub in_place : name_len (1 ∷ 97 ∷ 0xC0 ∷ 12 ∷ 7 ∷ []) ≡ Some 4

pub record RecordsByExample : Type 0 where
  pub question : question_at (0 ∷ 0 ∷ 28 ∷ 0 ∷ 1 ∷ 7 ∷ [])
      ≡ Some (record { name = 0 ∷ []; type_ = dns.Aaaa }, 7 ∷ [])
  pub other_class : question_at (0 ∷ 0 ∷ 28 ∷ 0 ∷ 3 ∷ []) ≡ None
  pub alias : record_at (0 ∷ 0 ∷ 5 ∷ 0 ∷ 1 ∷ 0 ∷ 0 ∷ 0 ∷ 9 ∷ 0 ∷ 3 ∷ 1 ∷ 97 ∷ 0 ∷ 7 ∷ [])
      ≡ Some (record { name = 0 ∷ []; ttl = 9; body = IsCname (1 ∷ 97 ∷ 0 ∷ []) }, 7 ∷ [])
  pub byte_behind : record_at (0 ∷ 0 ∷ 5 ∷ 0 ∷ 1 ∷ 0 ∷ 0 ∷ 0 ∷ 9 ∷ 0 ∷ 4 ∷ 1 ∷ 97 ∷ 0 ∷ 7 ∷ []) ≡ None
  pub short_address : record_at (0 ∷ 0 ∷ 1 ∷ 0 ∷ 1 ∷ 0 ∷ 0 ∷ 0 ∷ 9 ∷ 0 ∷ 3 ∷ 1 ∷ 2 ∷ 3 ∷ 4 ∷ []) ≡ None
  pub too_few : record_at (0 ∷ 0 ∷ 2 ∷ 0 ∷ 1 ∷ 0 ∷ 0 ∷ 0 ∷ 9 ∷ 0 ∷ 3 ∷ 1 ∷ 2 ∷ []) ≡ None
