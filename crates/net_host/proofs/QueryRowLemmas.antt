-- Over all rows, the frames and the lines of queries are as many as the events list.
use Rattle.std.proofs.Common.{◌≡◌, ℕ, ◌+◌, ◌<◌, ◌≤◌, cond, List, [], ◌∷◌, ap, refl, arith}
use Rattle.std.specs.Prelude.{count_by, nat_lt}
use Rattle.std.proofs.lemmas.List.Sums.{sum_by-append, sum_by-cons}
use Rattle.host_model.specs.declared.query_line.QueryLine.{QueryLine}
use Rattle.host_model.specs.Chronicle.{entry_at, history, history_from}
use Rattle.host_model.specs.Frames.{Listed, ArpReply, ArpRequest, Dhcp, Dns, frames_of}
use Rattle.host_model.specs.History.{Entry}
use Rattle.host_model.specs.Queries.{lines_at, query_count, slots_before}
use Rattle.host_model.specs.QueryEnds.{all_lines, is_line_of, is_waiting}
use Rattle.host_model.specs.QuerySends.{all_frames, is_frame_to}
use Rattle.host_model.specs.Script.{AreInOrder, Event}
use Rattle.host_model.specs.Settings.{Settings}
use Rattle.host_model.proofs.FrameCountLemmas.{four_frames}
use Rattle.host_model.proofs.QueryLineLemmas.{one_line}
use Rattle.host_model.proofs.RisingLemmas.{rises}
use Rattle.net_host.specs.declared.report.Row.{Row}
use Rattle.net_host.specs.declared.report.Sent.{Sent}
use Rattle.net_host.specs.Listed.{AreListed, IsListed}
use Rattle.net_host.specs.QueryRows.{HasOneLine, is_sent_to, line_count, lines_in, sent_in}
use Rattle.net_host.specs.Rows.{AreRows, AreRowsFrom}

module _ (settings : Settings) (number place : ℕ) where
  abbrev sent_one : Sent → ℕ
  sent_one sent = cond (is_sent_to number place sent) 1 0

  abbrev listed_one : Listed → ℕ
  listed_one listed = cond (is_frame_to number place listed) 1 0

  abbrev sent_count : List Sent → ℕ
  sent_count sent = count_by (is_sent_to number place) sent

  abbrev frame_count : List Listed → ℕ
  frame_count frames = count_by (is_frame_to number place) frames

  one_alike : (one : Listed) (sent : Sent) → IsListed settings one sent → sent_one sent ≡ listed_one one
  one_alike (ArpReply to arp) sent is = ap sent_one is
  one_alike (ArpRequest to arp) sent is = ap sent_one is
  one_alike (Dhcp message) sent is = ap sent_one is.1
  one_alike (Dns ask) sent is = ap sent_one is.1

  as_listed : (listed : List Listed) (sent : List Sent) → AreListed settings listed sent
      → sent_count sent ≡ frame_count listed
  as_listed [] [] are = refl
  as_listed [] (sent ∷ more) are = absurd are
  as_listed (one ∷ others) [] are = absurd are
  as_listed (one ∷ others) (sent ∷ more) are = omega (
    arith,
    sum_by-cons sent_one sent more,
    sum_by-cons listed_one one others,
    one_alike one sent are.0,
    as_listed others more are.1,
  )

  sent_as_listed : (words : List ℕ) (before : List Entry) (events : List Event) (rows : List Row)
      → AreRowsFrom settings words before events rows
      → frame_count (all_frames settings before) + sent_count (sent_in rows)
      ≡ frame_count (all_frames settings (history_from settings words before events))
  sent_as_listed words before [] [] are = omega arith
  sent_as_listed words before [] (row ∷ rows) are = absurd are
  sent_as_listed words before (event ∷ events) [] are = absurd are
  sent_as_listed words before (event ∷ events) (row ∷ rows) are =
      let entry : Entry = entry_at settings words before event in
      omega (
        arith,
        sum_by-append listed_one (all_frames settings before) (frames_of settings before event entry.words),
        sum_by-append sent_one row.sent (sent_in rows),
        as_listed (frames_of settings before event entry.words) row.sent are.0.sent,
        sent_as_listed words (entry ∷ before) events rows are.1,
      )

  pub four_times : (words : List ℕ) (events : List Event) (rows : List Row) → AreInOrder 0 events
      → AreRows settings words events rows → sent_count (sent_in rows) ≤ 4
  four_times words events rows in_order are = omega (
    arith,
    sent_as_listed words [] events rows are,
    four_frames settings (history settings words events) (rises settings words [] 0 events (omega arith) in_order tt)
        number place,
  )

module _ (settings : Settings) (number : ℕ) where
  abbrev line_one : QueryLine → ℕ
  line_one line = cond (is_line_of number line) 1 0

  lines_as_told : (words : List ℕ) (before : List Entry) (events : List Event) (rows : List Row)
      → AreRowsFrom settings words before events rows
      → count_by (is_line_of number) (all_lines settings before) + line_count rows number
      ≡ count_by (is_line_of number) (all_lines settings (history_from settings words before events))
  lines_as_told words before [] [] are = omega arith
  lines_as_told words before [] (row ∷ rows) are = absurd are
  lines_as_told words before (event ∷ events) [] are = absurd are
  lines_as_told words before (event ∷ events) (row ∷ rows) are =
      let entry : Entry = entry_at settings words before event in
      omega (
        arith,
        sum_by-append line_one (all_lines settings before) (lines_at settings before event entry.words),
        sum_by-append line_one row.lines (lines_in rows),
        ap (λ lines. count_by (is_line_of number) lines) are.0.lines,
        lines_as_told words (entry ∷ before) events rows are.1,
      )

  -- the lines and the query that waits are one together, or none where no query event has the number
  told : (words : List ℕ) (events : List Event) (rows : List Row) → AreRows settings words events rows
      → line_count rows number
      + count_by (is_waiting number) (slots_before settings (history settings words events))
      ≡ cond (nat_lt number (query_count (history settings words events))) 1 0
  told words events rows are = omega (
    arith,
    lines_as_told words [] events rows are,
    one_line number settings (history settings words events),
  )

  at_most_one : (lines waiting count : ℕ) → lines + waiting ≡ cond (nat_lt number count) 1 0 → lines ≤ 1
  at_most_one lines waiting count both = grind (arith, both)

  one_ended : (lines waiting count : ℕ) → lines + waiting ≡ cond (nat_lt number count) 1 0 → number < count
      → waiting ≡ 0 → lines ≡ 1
  one_ended lines waiting count both below none = grind (arith, both, below, none)

  no_other : (lines waiting count : ℕ) → lines + waiting ≡ cond (nat_lt number count) 1 0 → count ≤ number
      → lines ≡ 0
  no_other lines waiting count both above = grind (arith, both, above)

  pub one_line_each : (words : List ℕ) (events : List Event) (rows : List Row)
      → AreRows settings words events rows → HasOneLine settings (history settings words events) rows number
  one_line_each words events rows are =
      let lines : ℕ = line_count rows number in
      let entries : List Entry = history settings words events in
      let waiting : ℕ = count_by (is_waiting number) (slots_before settings entries) in
      let count : ℕ = query_count entries in
      let both = told words events rows are in
      record {
        at_most = at_most_one lines waiting count both;
        ended = λ below none. one_ended lines waiting count both below none;
        other = λ above. no_other lines waiting count both above;
      }
