-- A run in memory whose capture was explained.
use Rattle.std.proofs.Common.{◌≡◌, ℕ, ◌<◌, inl, inr, List, [], ◌++◌, length, Option, Some, IfSome, ap, sym, subst, ◌∙◌, refl, arith}
use Rattle.std.specs.Io.KnownBytes.{Appends}
use Rattle.wire_base.specs.Causes.{IsRisen}
use Rattle.capture_explain.specs.Capture.{CaptureEntry, IsCaptureFile}
use Rattle.capture_explain.specs.Explained.{HasCause}
use Rattle.capture_explain.specs.Rows.{AreRowsOf}
use Rattle.capture_explain.specs.declared.error.ExplainError.{ExplainError}
use Rattle.capture_explain.specs.declared.error.ExplainError.TheVariants.{Header, Entry, Limit, Read, NoMemory}
use Rattle.capture_explain.specs.declared.explanation.ExplainRow.{ExplainRow}
use Rattle.capture_explain.proofs.CaptureLemmas.{file_goes_past, has_header}
use Rattle.capture_explain.proofs.OneFileLemmas.{are_one}
use Rattle.host_model.specs.Classes.{IsScript}
use Rattle.host_model.specs.Settings.{Settings}
use Rattle.host_model.specs.Sizes.{HasSix}
use Rattle.net_host.specs.declared.report.Row.{Row}
use Rattle.net_host.specs.Config.{CanRun}
use Rattle.net_host.specs.Outside.{Outside}
use Rattle.net_host.specs.Run.{task_of, Finished}
use Rattle.capture_laws.specs.Entries.{run_entries, GrowsByFile}
use Rattle.capture_laws.specs.Explained.{IsExplainedRun, IsLimitOrMemory}
use Rattle.capture_laws.proofs.RunLemmas.{finished_files}
use Rattle.capture_laws.proofs.StampLemmas.{told}

not_risen : IsRisen 0 0 → ⊥
not_risen (inl more) = omega (arith, more)
not_risen (inr last) = omega (arith, last)

-- a capture file is refused for its number of entries alone
pub accepted : (bytes : List ℕ) (error : ExplainError) → HasCause 100000 (Some bytes) 0 0 error → (max : ℕ) (entries : List CaptureEntry)
    → IsCaptureFile max bytes entries → IsLimitOrMemory error
accepted bytes Header cause max entries file = absurd (has_header max bytes entries file cause.0)
accepted bytes (Entry offset) cause max entries file =
    let broken = cause.0 in
    let past = file_goes_past entries broken.entries bytes broken.front broken.more file.is_front broken.is_front broken.whole
    broken.goes_on in
    absurd (past.begins broken.no_entry)
accepted bytes Limit cause max entries file = inl refl
accepted bytes Read cause max entries file = absurd (not_risen cause)
accepted bytes NoMemory cause max entries file = inr refl

module _ (settings : Settings) (words script captured : List ℕ) (before after : Outside) (report : List Row)
    (can : CanRun settings) (six : HasSix settings.hardware) (read : before.left ≡ Some script)
    (none : before.captured ≡ Some []) (grew : after.captured ≡ Some captured)
    (finished : Finished (task_of settings words 1000) before after report) where
  -- what was captured is a file
  pub captured_file : IsCaptureFile (length (run_entries finished.events report)) captured (run_entries finished.events report)
  captured_file =
      let grows = finished_files settings words 1000 before after report can six finished in
      let from_none = subst (λ (o : Option (List ℕ)). Appends o after.captured grows.bytes) none grows.grew in
      let bytes : captured ≡ grows.bytes = subst (λ (o : Option (List ℕ)). Appends (Some []) o grows.bytes) grew from_none in
      subst (λ l. IsCaptureFile (length (run_entries finished.events report)) l (run_entries finished.events report)) (sym bytes) grows.is_file

  -- and its explanation is that of the run's entries
  pub explained : (rows : List ExplainRow) (others : List CaptureEntry) → IsCaptureFile 100000 captured others → AreRowsOf others rows
      → IsExplainedRun settings words script report rows
  explained rows others file are =
      let same = are_one.entries 100000 (length (run_entries finished.events report)) captured others
      (run_entries finished.events report) file captured_file in
      let rows_are = subst (λ (es : List CaptureEntry). AreRowsOf es rows) same are in
      record {
        events = finished.events;
        spelled = subst (λ (o : Option (List ℕ)). IfSome o (λ l. IsScript 1000 l finished.events)) read finished.script;
        answered = finished.answered.rows;
        explained = rows_are;
        told = told settings words finished.events report rows finished.answered.rows rows_are;
      }
