-- The run that a command names.
use Rattle.std.proofs.Common.{◌≡◌, ℕ, ◌*◌, List, ap, subst, ◌∙◌, arith}
use Rattle.host_model.specs.Settings.{Settings}
use Rattle.net_host.specs.declared.report.Row.{Row}
use Rattle.net_host.specs.declared.run_script.RunError.{RunError}
use Rattle.net_host.specs.Outside.{Outside}
use Rattle.net_host.specs.Run.{Task, task_of, Leaves, HasCause}
use Rattle.host_top.specs.declared.command.RunCommand.{RunCommand}
use Rattle.host_top.specs.RunWords.{settings_named}
use Rattle.host_top.specs.Generator.{first_words, event_words}
use Rattle.host_top.specs.Ran.{task_named, Ran}

-- three words for each event
pub all_words : (run : RunCommand) (words : List ℕ) (count : ℕ) → words ≡ first_words run.seed count → count ≡ run.max_events * 3
    → words ≡ event_words run
all_words run words count are is =
    let three : count ≡ 3 * run.max_events = omega (arith, is) in
    are ∙ ap (first_words run.seed) three

pub same_task : (run : RunCommand) (settings : Settings) (words : List ℕ) → settings ≡ settings_named run → words ≡ event_words run
    → task_of settings words run.max_events ≡ task_named run
same_task run settings words is_settings are_words =
    ap (λ s. task_of s words run.max_events) is_settings ∙ ap (λ l. task_of (settings_named run) l run.max_events) are_words

-- what the run left, as the command's
pub ran : (run : RunCommand) (task : Task) (before after : Outside) (report : List Row) (error : RunError) → task ≡ task_named run
    → Leaves task before after report error → HasCause task before after error → Ran (task_named run) before after report error
ran run task before after report error same leaves cause =
    let P : Task → Type 0 = λ t. Leaves t before after report error in
    let Q : Task → Type 0 = λ t. HasCause t before after error in
    (subst P same leaves, subst Q same cause)
