-- The capture of a script of one tick, byte by byte: header, and the record of the discover that the host sends then (RFC
-- 2131, table 5). Sums were worked out apart.
use Rattle.std.specs.Prelude.{◌≡◌, ℕ, List, [], ◌∷◌, ◌++◌, replicate, Some, None}
use Rattle.host_model.specs.declared.words.EventWords.{EventWords}
use Rattle.host_model.specs.Frames.{frames_of}
use Rattle.host_model.specs.Script.{Event, Tick}
use Rattle.net_host.specs.Captured.{run_capture}
use Rattle.net_host.specs.Listed.{AreListed}
use Rattle.net_host.specs.declared.report.Kind.TheVariants as kind
use Rattle.net_host.specs.declared.report.Mark.TheVariants.{Dhcp}
use Rattle.net_host.specs.declared.report.Row.{Row}
use Rattle.net_host.specs.declared.report.Sent.{Sent}
use Rattle.run_examples.specs.QueryFrames.{settings}
use Rattle.std.specs.Prelude.{pos}

abbrev pub tick : Event
tick = record { at = 0; arrival = Tick }

-- the id of the discover is the first word
abbrev pub words : EventWords
words = record { first = 0x01020304; second = 5; third = 6 }

-- From 0.0.0.0 and port 68 to all hosts and port 67: type, client identifier, greatest size 1432, request list (RFC 2132).
abbrev pub discover : List ℕ
discover =
    0xFF ∷ 0xFF ∷ 0xFF ∷ 0xFF ∷ 0xFF ∷ 0xFF ∷ 2 ∷ 2 ∷ 2 ∷ 2 ∷ 2 ∷ 2 ∷ 8 ∷ 0 ∷ 69 ∷ 0 ∷ 1 ∷ 34 ∷ 0 ∷ 0
    ∷ 64 ∷ 0 ∷ 64 ∷ 17 ∷ 57 ∷ 0xCC ∷ 0 ∷ 0 ∷ 0 ∷ 0 ∷ 0xFF ∷ 0xFF ∷ 0xFF ∷ 0xFF ∷ 0 ∷ 68 ∷ 0 ∷ 67 ∷ 1
    ∷ 14 ∷ 116 ∷ 116 ∷ 1 ∷ 1 ∷ 6 ∷ 0 ∷ 1 ∷ 2 ∷ 3 ∷ 4 ∷ 0 ∷ 0 ∷ 0 ∷ 0 ∷ 0 ∷ 0 ∷ 0 ∷ 0 ∷ 0 ∷ 0 ∷ 0 ∷ 0
    ∷ 0 ∷ 0 ∷ 0 ∷ 0 ∷ 0 ∷ 0 ∷ 0 ∷ 0 ∷ 2 ∷ 2 ∷ 2 ∷ 2 ∷ 2 ∷ 2 ∷ replicate 202 0 ++ 99 ∷ 0x82 ∷ 83 ∷ 99
    ∷ 53 ∷ 1 ∷ 1 ∷ 61 ∷ 7 ∷ 1 ∷ 2 ∷ 2 ∷ 2 ∷ 2 ∷ 2 ∷ 2 ∷ 57 ∷ 2 ∷ 5 ∷ 0x98 ∷ 55 ∷ 3 ∷ 1 ∷ 3 ∷ 6 ∷ 0xFF
    ∷ []

abbrev pub sent : List Sent
sent = record { mark = Dhcp; frame = discover } ∷ []

abbrev pub row : Row
row = record { at = pos 0; kind = kind.Tick; note = None; lease = None; sent = sent; lines = [] }

-- magic number, version 2.4, 262144 bytes, Ethernet; time 0, 304 bytes
abbrev pub capture_head : List ℕ
capture_head =
    0xD4 ∷ 0xC3 ∷ 0xB2 ∷ 0xA1 ∷ 2 ∷ 0 ∷ 4 ∷ 0 ∷ 0 ∷ 0 ∷ 0 ∷ 0 ∷ 0 ∷ 0 ∷ 0 ∷ 0 ∷ 0 ∷ 0 ∷ 4 ∷ 0 ∷ 1 ∷ 0 ∷ 0 ∷ 0
    ∷ 0 ∷ 0 ∷ 0 ∷ 0 ∷ 0 ∷ 0 ∷ 0 ∷ 0 ∷ 48 ∷ 1 ∷ 0 ∷ 0 ∷ 48 ∷ 1 ∷ 0 ∷ 0 ∷ []

pub record OneTickByExample : Type 0 where
  pub listed : AreListed settings (frames_of settings [] tick words) sent
  pub captured : run_capture (tick ∷ []) (row ∷ []) ≡ capture_head ++ discover
