-- Scripts byte by byte, as docs/FORMATS.md lays them out: kind, time in microseconds, and what the kind has; numbers are
-- big-endian.
use Rattle.std.specs.Prelude.{◌≡◌, ℕ, List, [], ◌∷◌, ◌++◌}
use Rattle.net_wire.specs.declared.dns.dns_type.DnsType.TheVariants.{A, Aaaa}
use Rattle.host_model.specs.declared.words.EventWords.{EventWords}
use Rattle.host_model.specs.Chronicle.{words_at}
use Rattle.host_model.specs.Script.{Arrival, Event, Tick, Reset, Frame, Query, Spells, time_limit}

-- a time whose bytes all differ
abbrev pub event_with : Arrival → Event
event_with arrival = record { at = 0x0001020304050607; arrival = arrival }

abbrev pub time_bytes : List ℕ
time_bytes = 0 ∷ 1 ∷ 2 ∷ 3 ∷ 4 ∷ 5 ∷ 6 ∷ 7 ∷ []

-- 1 a frame behind its length of two bytes, 2 a tick, 3 a query for IPv4 addresses behind the length of its name of one
-- byte, 4 a reset, 5 a query behind the number of its type
pub record ScriptByExample : Type 0 where
  pub frame : Spells (event_with (Frame (9 ∷ 8 ∷ 7 ∷ []))) (1 ∷ time_bytes ++ 0 ∷ 3 ∷ 9 ∷ 8 ∷ 7 ∷ [])
  pub tick : Spells (event_with Tick) (2 ∷ time_bytes)
  pub query : Spells (event_with (Query A (97 ∷ 46 ∷ 98 ∷ []))) (3 ∷ time_bytes ++ 3 ∷ 97 ∷ 46 ∷ 98 ∷ [])
  pub reset : Spells (event_with Reset) (4 ∷ time_bytes)
  pub typed : Spells (event_with (Query Aaaa (97 ∷ []))) (5 ∷ time_bytes ++ 0 ∷ 28 ∷ 1 ∷ 97 ∷ [])
  pub of_ipv4 : Spells (event_with (Query A (97 ∷ []))) (5 ∷ time_bytes ++ 0 ∷ 1 ∷ 1 ∷ 97 ∷ [])

-- times lie below 2^32 seconds, and an event has three words: the id of a discover, the id and the port of a query
pub record RunNumbers : Type 0 where
  pub limit : time_limit ≡ 4294967296000000
  pub first : words_at (11 ∷ 12 ∷ 13 ∷ 14 ∷ 15 ∷ 16 ∷ 17 ∷ []) 0 ≡ record { first = 11; second = 12; third = 13 }
  pub next : words_at (11 ∷ 12 ∷ 13 ∷ 14 ∷ 15 ∷ 16 ∷ 17 ∷ []) 1 ≡ record { first = 14; second = 15; third = 16 }
