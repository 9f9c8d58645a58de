-- The words of the events of a run.
use Rattle.std.specs.Prelude.{ℕ, ◌*◌, List, map}
use Rattle.std.specs.List.{range_with_len}
use Rattle.wire_base.specs.Xorshift.{word_at}
use Rattle.host_top.specs.declared.command.RunCommand.{RunCommand}

-- the first words of a seed, from word 0 on
unfoldable pub first_words : ℕ → ℕ → List ℕ
first_words seed count = map (word_at seed) (range_with_len 0 count)

-- three words for each event that the script may have
abbrev pub event_words : RunCommand → List ℕ
event_words run = first_words run.seed (3 * run.max_events)
