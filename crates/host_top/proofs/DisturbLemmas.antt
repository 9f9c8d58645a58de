-- The words of a run over a bad link, and that run.
use Rattle.std.proofs.Common.{◌≡◌, ℕ, List, ap, subst, ◌∙◌}
use Rattle.host_disturb.specs.declared.fault_values.FaultValues.{FaultValues}
use Rattle.host_disturb.specs.Disturbed.{disturbed}
use Rattle.host_model.specs.Settings.{Settings}
use Rattle.net_host.specs.declared.report.Row.{Row}
use Rattle.net_host.specs.declared.run_script.RunError.{RunError}
use Rattle.net_host.specs.Outside.{Outside}
use Rattle.net_host.specs.Run.{Task, task_over, Leaves, HasCause}
use Rattle.host_top.specs.declared.disturb_command.DisturbCommand.{DisturbCommand}
use Rattle.host_top.specs.Disturb.{faults_named, task_disturbed}
use Rattle.host_top.specs.Generator.{event_words}
use Rattle.host_top.specs.Ran.{Ran}
use Rattle.host_top.specs.RunWords.{settings_named}

pub same_disturbed : (disturb : DisturbCommand) (faults : FaultValues) (settings : Settings) (words : List ℕ)
    → faults ≡ faults_named disturb → settings ≡ settings_named disturb.run → words ≡ event_words disturb.run
    → task_over (disturbed faults) settings words disturb.run.max_events ≡ task_disturbed disturb
same_disturbed disturb faults settings words are_faults is_settings are_words =
    ap (λ (f : FaultValues). task_over (disturbed f) settings words disturb.run.max_events) are_faults
    ∙ ap (λ s. task_over (disturbed (faults_named disturb)) s words disturb.run.max_events) is_settings
    ∙ ap (λ l. task_over (disturbed (faults_named disturb)) (settings_named disturb.run) l disturb.run.max_events) are_words

-- what the run left, as the command's
pub disturbed_ran : (disturb : DisturbCommand) (task : Task) (before after : Outside) (report : List Row) (error : RunError)
    → task ≡ task_disturbed disturb → Leaves task before after report error → HasCause task before after error
    → Ran (task_disturbed disturb) before after report error
disturbed_ran disturb task before after report error same leaves cause =
    let P : Task → Type 0 = λ t. Leaves t before after report error in
    let Q : Task → Type 0 = λ t. HasCause t before after error in
    (subst P same leaves, subst Q same cause)
