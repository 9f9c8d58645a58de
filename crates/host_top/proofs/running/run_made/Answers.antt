use Rattle.std.proofs.Common.{ℕ, ◌*◌, List, Some, length, refl, ap, subst, ◌∙◌, arith}
use Rattle.made_script.specs.Made.{IsMadeScript}
use Rattle.script_source.specs.SureSource.{bytes_left}
use Rattle.host_top.specs.declared.command.RunCommand.{RunCommand}
use Rattle.host_top.specs.MakeWords.{run_of_make}
use Rattle.host_top.specs.Ran.{RanTo}
use Rattle.host_top.specs.Making.{fed_with, sink_alone}
use Rattle.host_top.proofs.MakingLemmas.{made_ran, nothing_made}
use Rattle.host_top.proofs.RanLemmas.{all_words}
use Rattle.host_top.proofs.WordLemmas.{length-first_words}
use Rattle.host_top.proofs.running.run_made.Goals as goal

pub returns-in_default : goal.returns-in_default
returns-in_default g c = nothing_made c.args.command.now (sink_alone g.C.ByteSink c.args.capture.now) c.args.report.now c.requires.runnable.limit c.requires.empty

pub make_script-requires : goal.make_script-requires
make_script-requires g c = omega (arith, ap length (c.as_slice.ensures.value ∙ c.in-Ok.ensures.value) ∙ length-first_words c.args.command.now.seed (c.args.command.now.count * 3))

pub returns-in_default-make_script : goal.returns-in_default-make_script
returns-in_default-make_script g c =
    nothing_made c.args.command.now (sink_alone g.C.ByteSink c.args.capture.now) c.args.report.now c.requires.runnable.limit c.requires.empty

pub returns : goal.returns
returns g c =
    let make = c.args.command.now in
    let before = sink_alone g.C.ByteSink c.args.capture.now in
    let after = sink_alone g.C.ByteSink c.run_script.new.capture in
    let rest = Some (bytes_left c.run_script.new.script) in
    let words = all_words (run_of_make make) c.as_slice.result.now (make.count * 3) (c.as_slice.ensures.value ∙ c.in-Ok.ensures.value) refl in
    let M : List ℕ → Type 0 = λ l. IsMadeScript l make.count c.in-Ok-make_script.bytes.items in
    let P : RunCommand → Type 0 = λ run.
    RanTo run (fed_with (Some (bytes_left c.new-script.result)) before) (fed_with rest after) c.run_script.new.report c.run_script.result in
    let Q : List ℕ → Type 0 = λ bytes.
    RanTo (run_of_make make) (fed_with (Some bytes) before) (fed_with rest after) c.run_script.new.report c.run_script.result in
    made_ran make before after c.run_script.new.report c.run_script.result c.in-Ok-make_script.bytes.items rest
    (subst M words c.in-Ok-make_script.ensures) (record { left = refl; faults = refl })
    (subst Q c.new-script.ensures (subst P c.run_of_make-run.ensures c.run_script.ensures.ran))
