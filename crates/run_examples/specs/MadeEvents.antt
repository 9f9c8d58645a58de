-- The events 0, 4, 5, 104 and 105 of a made script: a reset at 0 s, the query of the first round, no response in it; the query
-- of the second round at 104 s, and its response at 105 s, with the id and port that the words of event 104 give.
use Rattle.std.specs.Prelude.{◌≡◌, ℕ, List, [], ◌∷◌, ◌++◌, codes, replicate}
use Rattle.net_wire.specs.declared.dns.dns_type.DnsType.TheVariants.{A}
use Rattle.host_model.specs.Script.{Arrival, Event, Tick, Reset, Frame, Query}
use Rattle.made_script.specs.Made.{IsMadeAt}

-- the words of event 104 stand at 312: the id of its query is 1234, its port 1030
abbrev pub words : List ℕ
words = replicate 313 9 ++ 0x51234 ∷ 64516 ∷ 9 ∷ []

abbrev pub event_at : ℕ → Arrival → Event
event_at at arrival = record { at = at; arrival = arrival }

-- from 10.0.0.1 and port 53 to all hosts and port 1030: a response with the flags 8180, the question, and an answer for 60 s
abbrev pub response : List ℕ
response =
    0xFF ∷ 0xFF ∷ 0xFF ∷ 0xFF ∷ 0xFF ∷ 0xFF ∷ 2 ∷ 0 ∷ 0 ∷ 0 ∷ 0 ∷ 2 ∷ 8 ∷ 0 ∷ 69 ∷ 0 ∷ 0 ∷ 74 ∷ 0 ∷ 0
    ∷ 64 ∷ 0 ∷ 64 ∷ 17 ∷ 48 ∷ 0xA3 ∷ 10 ∷ 0 ∷ 0 ∷ 1 ∷ 0xFF ∷ 0xFF ∷ 0xFF ∷ 0xFF ∷ 0 ∷ 53 ∷ 4 ∷ 6 ∷ 0
    ∷ 54 ∷ 24 ∷ 0x9B ∷ 18 ∷ 52 ∷ 0x81 ∷ 0x80 ∷ 0 ∷ 1 ∷ 0 ∷ 1 ∷ 0 ∷ 0 ∷ 0 ∷ 0 ∷ 4 ∷ 116 ∷ 101 ∷ 115
    ∷ 116 ∷ 7 ∷ 101 ∷ 120 ∷ 97 ∷ 109 ∷ 112 ∷ 108 ∷ 101 ∷ 0 ∷ 0 ∷ 1 ∷ 0 ∷ 1 ∷ 0xC0 ∷ 12 ∷ 0 ∷ 1 ∷ 0 ∷ 1
    ∷ 0 ∷ 0 ∷ 0 ∷ 60 ∷ 0 ∷ 4 ∷ 10 ∷ 0 ∷ 0 ∷ 99 ∷ []

pub record MadeByExample : Type 0 where
  pub starts : IsMadeAt words 0 (event_at 0 Reset)
  pub asks : IsMadeAt words 4 (event_at 4000000 (Query A (codes "test.example")))
  pub waits : IsMadeAt words 5 (event_at 5000000 Tick)
  pub again : IsMadeAt words 104 (event_at 104000000 (Query A (codes "test.example")))
  pub answers : IsMadeAt words 105 (event_at 105000000 (Frame response))
