-- The counts of rows in the order of the law.
use Rattle.net_host.proofs.QueryRowLemmas.{four_times}
use Rattle.net_host.proofs.laws.rows_ask_four_times.Goals as goal

pub returns : goal.returns
returns c = λ settings words events rows in_order are number place.
    four_times settings number place words events rows in_order are
