-- Words that ran out.
use Rattle.std.proofs.Common.{ℕ, List, ◌++◌, Option, Some, None, IfSome, ◌∙◌, append_assoc}
use Rattle.std.specs.Io.KnownBytes.{Consumes}
use Rattle.host_model.specs.Script.{Event, SpellsAll, AreInOrder}
use Rattle.host_model.specs.Classes.{BeginsWith}
use Rattle.net_host.specs.Outside.{Outside}
use Rattle.net_host.specs.Run.{Task, RanOut, HasFewWords}
use Rattle.net_host.specs.declared.report.Row.{Row}

read_off : (left_old left_new : Option (List ℕ)) (events : List Event) (front part : List ℕ) → AreInOrder 0 events → SpellsAll events front
    → Consumes left_old left_new (front ++ part)
    → IfSome left_old (λ bytes. (front : List ℕ) × (more : List ℕ) × BeginsWith events front more bytes)
read_off None left_new events front part in_order spelled took = tt
read_off (Some bytes) None events front part in_order spelled took = absurd took
read_off (Some bytes) (Some more) events front part in_order spelled took =
    (front, part ++ more, record { in_order = in_order; spelled = spelled; whole = took ∙ append_assoc front part more })

pub few_words : (task : Task) (before after : Outside) (report : List Row) → RanOut task before after report → HasFewWords task before
few_words task before after report out = record {
  events = out.taken.events;
  few = out.taken.few;
  short = out.short;
  read = read_off before.left after.left out.taken.events out.taken.front out.taken.part out.taken.in_order out.taken.spelled out.taken.took;
}
