-- What is said of the queries of a host over all events: of each one thing, once.
use Rattle.std.specs.Prelude.{◌≡◌, ℕ, ◌+◌, ◌≤◌, ◌==◌, nat_lt, Bool, false, List, [], ◌∷◌, ◌++◌, count_by, length, if◌then◌else◌}
use Rattle.host_model.specs.declared.query_line.QueryLine.{QueryLine}
use Rattle.host_model.specs.History.{Entry}
use Rattle.host_model.specs.Queries.{lines_at, query_count, slots_before}
use Rattle.host_model.specs.QuerySlots.{Slot, Free, Live, Over}
use Rattle.host_model.specs.Settings.{Settings}

-- the lines of the events, in their order
abbrev pub all_lines : Settings → List Entry → List QueryLine
all_lines settings [] = []
all_lines settings (entry ∷ before) =
    all_lines settings before ++ lines_at settings before entry.event entry.words

abbrev pub is_line_of : ℕ → QueryLine → Bool
is_line_of number line = line.query == number

-- the query with a number waits in the slot
abbrev pub is_waiting : ℕ → Slot → Bool
is_waiting number Free = false
is_waiting number (Live query) = query.number == number
is_waiting number (Over ended addresses) = false

-- Each query event, refused or not, has one line, or its query still waits; and no other number has either.
abbrev pub OneLineEach : Type 0
OneLineEach = (settings : Settings) (entries : List Entry) (number : ℕ)
    → count_by (is_line_of number) (all_lines settings entries)
    + count_by (is_waiting number) (slots_before settings entries)
    ≡ (if nat_lt number (query_count entries) then 1 else 0)

-- There are 16 slots, and no two queries that wait have one number.
pub record AreSlotsKept (settings : Settings) (entries : List Entry) : Type 0 where
  pub sixteen : length (slots_before settings entries) ≡ 16
  pub distinct : (number : ℕ) → count_by (is_waiting number) (slots_before settings entries) ≤ 1

abbrev pub SlotsAreKept : Type 0
SlotsAreKept = (settings : Settings) (entries : List Entry) → AreSlotsKept settings entries
