-- The messages of a turn are spaced, so there are four at most.
use Rattle.std.proofs.Common.{ℕ, suc, ◌+◌, ◌*◌, ◌-◌, ◌^◌, ◌≤◌, Bool, true, false, cond, eqb, ltb, List, [], ◌∷◌, length, Option, Some, None, arith}
use Rattle.std.specs.Prelude.{◌&&◌, nat_lt, ⊤}
use Rattle.std.proofs.lemmas.Bool.{cond_both}
use Rattle.host_model.specs.QueryTurns.{Turn, due_in, second, turn_at, turn_span}

-- each but the first message is as many seconds behind the turn's beginning as its number, doubled, says
abbrev pub IsSpaced : ℕ → List ℕ → Type 0
IsSpaced begin [] = ⊤
IsSpaced begin (last ∷ older) = (begin + 2 ^ length older * second ≤ last + second) × (length older ≤ 3)

-- a turn whose newest look was then
pub record IsPaced (latest : ℕ) (turn : Turn) : Type 0 where
  pub begun : turn.begin ≤ latest
  pub spaced : IsSpaced turn.begin turn.sent

abbrev pub IsPacedIn : ℕ → Option Turn → Type 0
IsPacedIn latest None = ⊤
IsPacedIn latest (Some turn) = IsPaced latest turn

pub paced_later : (latest later : ℕ) (turn : Option Turn) → latest ≤ later → IsPacedIn latest turn
    → IsPacedIn later turn
paced_later latest later None on paced = tt
paced_later latest later (Some turn) on paced =
    record { begun = omega (arith, paced.begun); spaced = paced.spaced }

-- at a look a turn is not over
pub record IsOpen (at : ℕ) (turn : Turn) : Type 0 where
  pub paced : IsPaced at turn
  pub until : at ≤ turn.begin + turn_span

pub opens : (at : ℕ) (turn : Option Turn) → IsPacedIn at turn → IsOpen at (turn_at at turn)
opens at None paced = record { paced = record { begun = omega arith; spaced = tt }; until = omega arith }
opens at (Some turn) paced =
    cond_both (nat_lt (turn.begin + turn_span) at) (record { begin = at; place = turn.place + 1; sent = [] }) turn
    (IsOpen at)
    (λ over. record { paced = record { begun = omega arith; spaced = tt }; until = omega arith })
    (λ lasts. record { paced = paced; until = grind (arith, lasts) })

spaces : (begin at : ℕ) (sent : List ℕ) → begin ≤ at → at ≤ begin + turn_span → IsSpaced begin sent → due_in sent ≤ at
    → IsSpaced begin (at ∷ sent)
spaces begin at [] from until spaced due = (omega (arith, from), omega arith)
spaces begin at (last ∷ []) from until spaced due = (omega (arith, spaced.0, due), omega arith)
spaces begin at (last ∷ one ∷ []) from until spaced due = (omega (arith, spaced.0, due), omega arith)
spaces begin at (last ∷ one ∷ two ∷ []) from until spaced due = (omega (arith, spaced.0, due), omega arith)
spaces begin at (last ∷ one ∷ two ∷ three ∷ []) from until spaced due = absurd (omega (arith, spaced.0, due, until))
spaces begin at (last ∷ one ∷ two ∷ three ∷ four ∷ more) from until spaced due = absurd (omega (arith, spaced.1))

pub sends_paced : (at : ℕ) (turn : Turn) → IsOpen at turn → due_in turn.sent ≤ at
    → IsPaced at (record turn { sent = at ∷ turn.sent })
sends_paced at turn open_now due = record {
  begun = open_now.paced.begun;
  spaced = spaces turn.begin at turn.sent open_now.paced.begun open_now.until open_now.paced.spaced due;
}

-- how many messages may still go out to a place, in a turn of another one with so many sent
abbrev spare_with : ℕ → ℕ → ℕ → ℕ
spare_with place asked sent = cond (ltb asked place) 4 (cond (eqb asked place) (4 - sent) 0)

abbrev pub spare_of : ℕ → Turn → ℕ
spare_of place turn = spare_with place turn.place (length turn.sent)

abbrev pub spare_in : ℕ → Option Turn → ℕ
spare_in place None = 4
spare_in place (Some turn) = spare_of place turn

pub spare_le : (place : ℕ) (turn : Option Turn) → spare_in place turn ≤ 4
spare_le place None = omega arith
spare_le place (Some turn) = grind arith

further : (place asked sent : ℕ) → spare_with place (asked + 1) 0 ≤ spare_with place asked sent
further place asked sent = grind arith

pub spare_turned : (place at : ℕ) (turn : Option Turn) → spare_of place (turn_at at turn) ≤ spare_in place turn
spare_turned place at None = spare_le place (Some (turn_at at None))
spare_turned place at (Some turn) =
    cond_both (nat_lt (turn.begin + turn_span) at) (record { begin = at; place = turn.place + 1; sent = [] }) turn
    (λ next. spare_of place next ≤ spare_of place turn)
    (λ over. further place turn.place (length turn.sent))
    (λ lasts. omega arith)

-- a message takes one
pub spare_sent : (same : Bool) (place asked sent : ℕ) → sent ≤ 3
    → cond (same && eqb asked place) 1 0 + cond same (spare_with place asked (suc sent)) 0
    ≤ cond same (spare_with place asked sent) 0
spare_sent true place asked sent few = grind arith
spare_sent false place asked sent few = omega arith
