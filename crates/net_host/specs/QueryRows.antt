-- What the rows of a run say of its queries, over all of them: how many frames go to one place, and how many
-- lines there are.
use Rattle.std.specs.Prelude.{◌≡◌, ℕ, ◌<◌, ◌≤◌, ◌==◌, ◌&&◌, Bool, false, List, [], ◌∷◌, ◌++◌, count_by}
use Rattle.host_model.specs.declared.query_line.QueryLine.{QueryLine}
use Rattle.host_model.specs.Chronicle.{history}
use Rattle.host_model.specs.History.{Entry}
use Rattle.host_model.specs.Queries.{query_count, slots_before}
use Rattle.host_model.specs.QueryEnds.{is_line_of, is_waiting}
use Rattle.host_model.specs.Script.{AreInOrder, Event}
use Rattle.host_model.specs.Settings.{Settings}
use Rattle.net_host.specs.declared.report.Mark.{Mark}
use Rattle.net_host.specs.declared.report.Mark.TheVariants.{Dhcp, Dns, ArpReply, ArpRequest}
use Rattle.net_host.specs.declared.report.Row.{Row}
use Rattle.net_host.specs.declared.report.Sent.{Sent}
use Rattle.net_host.specs.Rows.{AreRows}

-- the frames of the rows, in the order that they were sent
abbrev pub sent_in : List Row → List Sent
sent_in [] = []
sent_in (row ∷ rows) = row.sent ++ sent_in rows

-- the lines of the rows, in their order
abbrev pub lines_in : List Row → List QueryLine
lines_in [] = []
lines_in (row ∷ rows) = row.lines ++ lines_in rows

-- that of a message of the query with a number, to a place of the list of name servers
abbrev pub is_mark_to : ℕ → ℕ → Mark → Bool
is_mark_to number place Dhcp = false
is_mark_to number place ArpReply = false
is_mark_to number place ArpRequest = false
is_mark_to number place (Dns query at) = (query == number) && (at == place)

abbrev pub is_sent_to : ℕ → ℕ → Sent → Bool
is_sent_to number place sent = is_mark_to number place sent.mark

-- Whatever arrives, at most four frames in the rows of a script are marked as those of one query to one place.
abbrev pub RowsAskFourTimes : Type 0
RowsAskFourTimes = (settings : Settings) (words : List ℕ) (events : List Event) (rows : List Row)
    → AreInOrder 0 events → AreRows settings words events rows
    → (number place : ℕ) → count_by (is_sent_to number place) (sent_in rows) ≤ 4

-- how many lines there are of the query with a number
abbrev pub line_count : List Row → ℕ → ℕ
line_count rows number = count_by (is_line_of number) (lines_in rows)

-- No number has two lines. That of a query event has one, unless its query still waits behind the last event;
-- one that no query event has, none.
pub record HasOneLine (settings : Settings) (entries : List Entry) (rows : List Row) (number : ℕ) : Type 0 where
  pub at_most : line_count rows number ≤ 1
  pub ended : number < query_count entries
      → count_by (is_waiting number) (slots_before settings entries) ≡ 0 → line_count rows number ≡ 1
  pub other : query_count entries ≤ number → line_count rows number ≡ 0

abbrev pub RowsHaveOneLineEach : Type 0
RowsHaveOneLineEach = (settings : Settings) (words : List ℕ) (events : List Event) (rows : List Row)
    → AreRows settings words events rows
    → (number : ℕ) → HasOneLine settings (history settings words events) rows number

-- At most four frames of the rows are marked as those of one query to one place, and no number has two lines.
pub record CountsQueries (rows : List Row) : Type 0 where
  pub few : (number place : ℕ) → count_by (is_sent_to number place) (sent_in rows) ≤ 4
  pub one_line : (number : ℕ) → line_count rows number ≤ 1
