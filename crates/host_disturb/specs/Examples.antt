-- Closed examples of scripts that come over a bad link. The words from the seed 1 are 00042021, 04080601, 9dcca8c5,
-- 1255994f, 8ef917d1, 2c6f5bd0, 25b2331a, 19f91cb2.
use Rattle.std.specs.Prelude.{◌≡◌, ℕ, ◌-◌, List, [], ◌∷◌, ◌++◌, codes, replicate}
use Rattle.net_wire.specs.declared.dns.dns_type.DnsType.TheVariants.{A}
use Rattle.host_model.specs.Script.{Tick, Reset, Frame, Query, Event}
use Rattle.host_disturb.specs.declared.fault_values.FaultValues.{FaultValues}
use Rattle.host_disturb.specs.Disturbed.{disturbed}

abbrev pub tick : ℕ → Event
tick at = record { at = at; arrival = Tick }

abbrev pub frame : ℕ → List ℕ → Event
frame at bytes = record { at = at; arrival = Frame bytes }

-- the seed 1 and the two chances, with no size limit and no rate
abbrev pub chances : ℕ → ℕ → FaultValues
chances drop corrupt = record {
  seed = 1;
  drop_chance = drop;
  corrupt_chance = corrupt;
  max_size = 0;
  rate = 0;
  interval = 0;
}

-- as long as an ARP packet on Ethernet
abbrev pub zeros : List ℕ
zeros = replicate 42 0

-- and one byte of it is another
abbrev pub zeros_but : ℕ → ℕ → List ℕ
zeros_but place byte = replicate place 0 ++ byte ∷ replicate (41 - place) 0

-- With a chance of 100 every frame is dropped. With one of 70 the draws 69 and 4 drop a frame, and 89 and 95 do
-- not: the draws between, which decide on a flipped bit, are made although their chance is 0.
pub record DropsByExample : Type 0 where
  pub every : disturbed (record (chances 100 0) { seed = 7 })
      (tick 0 ∷ frame 1000000 zeros ∷ tick 10000000 ∷ [])
      ≡ tick 0 ∷ tick 1000000 ∷ tick 10000000 ∷ []
  pub some : disturbed (chances 70 0) (frame 1 zeros ∷ frame 2 zeros ∷ frame 3 zeros ∷ frame 4 zeros ∷ [])
      ≡ tick 1 ∷ frame 2 zeros ∷ frame 3 zeros ∷ tick 4 ∷ []

-- the reply of 192.168.1.1 to an ARP request (RFC 826), from the station 02:00:00:00:00 and this byte
abbrev pub reply_of : ℕ → List ℕ
reply_of byte =
    replicate 6 2 ++ 2 ∷ replicate 4 0 ++ 1 ∷ 8 ∷ 6 ∷ 0 ∷ 1 ∷ 8 ∷ 0 ∷ 6 ∷ 4 ∷ 0 ∷ 2 ∷ 2 ∷ replicate 4 0 ++ byte
    ∷ 192 ∷ 168 ∷ 1 ∷ 1 ∷ replicate 6 2 ++ replicate 4 0

-- With a chance of 100 every frame has one bit flipped: the place is the third draw modulo its length, and the
-- bit the fourth one modulo 8. The next frame goes on with the words behind these.
pub record FlipsByExample : Type 0 where
  pub reply : disturbed (chances 0 100) (frame 0 (reply_of 1) ∷ []) ≡ frame 0 (reply_of 0x81) ∷ []
  pub two : disturbed (chances 0 100) (frame 0 zeros ∷ frame 0 zeros ∷ [])
      ≡ frame 0 (zeros_but 27 128) ∷ frame 0 (zeros_but 28 4) ∷ []

-- A frame over the size limit is dropped, and one of that size is not. Without a limit one of 1536 bytes passes,
-- and a longer one does not.
pub record LimitsByExample : Type 0 where
  pub limit : disturbed (record (chances 0 0) { max_size = 41 }) (frame 5 zeros ∷ frame 6 (replicate 41 0) ∷ [])
      ≡ tick 5 ∷ frame 6 (replicate 41 0) ∷ []
  pub none : disturbed (chances 0 0) (frame 5 (replicate 1537 0) ∷ frame 6 (replicate 1536 0) ∷ [])
      ≡ tick 5 ∷ frame 6 (replicate 1536 0) ∷ []

-- With a rate of 2 and an interval of 1 s no frame passes until more than 1 s has gone by, and then two do, and two
-- more when a further 1 s and more has gone by.
pub record RatesByExample : Type 0 where
  pub two : disturbed (record (chances 0 0) { rate = 2; interval = 1000000 })
      (frame 1000000 zeros ∷ frame 1000001 zeros ∷ frame 1000001 zeros ∷ frame 2000001 zeros
      ∷ frame 2000002 zeros ∷ [])
      ≡ tick 1000000 ∷ frame 1000001 zeros ∷ frame 1000001 zeros ∷ tick 2000001 ∷ frame 2000002 zeros ∷ []

-- What no frame brings draws nothing, and neither does a frame that is too long; an empty frame takes two draws,
-- and stays as it is.
pub record DrawsByExample : Type 0 where
  pub others : disturbed (chances 0 100)
      (frame 0 zeros ∷ tick 0 ∷ record { at = 0; arrival = Reset }
      ∷ record { at = 0; arrival = Query A (codes "a.example") } ∷ frame 0 zeros ∷ [])
      ≡ frame 0 (zeros_but 27 128) ∷ tick 0 ∷ record { at = 0; arrival = Reset }
      ∷ record { at = 0; arrival = Query A (codes "a.example") } ∷ frame 0 (zeros_but 28 4) ∷ []
  pub long : disturbed (chances 0 100) (frame 0 (replicate 1537 0) ∷ frame 0 zeros ∷ [])
      ≡ tick 0 ∷ frame 0 (zeros_but 27 128) ∷ []
  pub empty : disturbed (chances 0 100) (frame 0 [] ∷ frame 0 zeros ∷ [])
      ≡ frame 0 [] ∷ frame 0 (zeros_but 17 1) ∷ []
