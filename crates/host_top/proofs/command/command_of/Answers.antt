use Rattle.std.specs.String.{string_bytes}
use Rattle.host_top.specs.declared.command.Keyword.TheVariants as keyword
use Rattle.host_top.proofs.CommandLemmas.{opened, unworded, unwritten}
use Rattle.host_top.proofs.command.command_of.Goals as goal

pub returns-in_err-keyword-clause-refuses : goal.returns-in_err-keyword-clause-refuses
returns-in_err-keyword-clause-refuses c =
    let are = opened string_bytes c.args.words.now c.name-item.result c.as_bytes.result.now c.in-len1-up.len_at_least c.name-item.is
    c.as_bytes.ensures.value in
    rw c.from_residual.ensures (unworded _ _ c.as_bytes.result.now are c.in_err-keyword.ensures.refuses)

pub returns-in_err-run_of-in-Run-clause-refuses : goal.returns-in_err-run_of-in-Run-clause-refuses
returns-in_err-run_of-in-Run-clause-refuses c =
    let are = opened string_bytes c.args.words.now c.name-item.result c.as_bytes.result.now c.in-len1-up.len_at_least c.name-item.is
    c.as_bytes.ensures.value in
    rw c.from_residual-in_err-run_of-in-Run.ensures
    (unwritten _ _ c.as_bytes.result.now keyword.Run are (rw c.in-Run.is at c.in_ok-keyword.ensures.found)
    (λ command written. c.in_err-run_of-in-Run.ensures.refuses written.0 written.2))

pub returns-in_err-make_of-in-Make-clause-refuses : goal.returns-in_err-make_of-in-Make-clause-refuses
returns-in_err-make_of-in-Make-clause-refuses c =
    let are = opened string_bytes c.args.words.now c.name-item.result c.as_bytes.result.now c.in-len1-up.len_at_least c.name-item.is
    c.as_bytes.ensures.value in
    rw c.from_residual-in_err-make_of-in-Make.ensures
    (unwritten _ _ c.as_bytes.result.now keyword.Make are (rw c.in-Make.is at c.in_ok-keyword.ensures.found)
    (λ command written. c.in_err-make_of-in-Make.ensures.refuses written.0 written.2))

pub returns-in_err-capture_of-in-Explain-clause-refuses : goal.returns-in_err-capture_of-in-Explain-clause-refuses
returns-in_err-capture_of-in-Explain-clause-refuses c =
    let are = opened string_bytes c.args.words.now c.name-item.result c.as_bytes.result.now c.in-len1-up.len_at_least c.name-item.is
    c.as_bytes.ensures.value in
    rw c.from_residual-in_err-capture_of-in-Explain.ensures
    (unwritten _ _ c.as_bytes.result.now keyword.Explain are (rw c.in-Explain.is at c.in_ok-keyword.ensures.found)
    (λ command written. c.in_err-capture_of-in-Explain.ensures.refuses written.0 written.2))

pub returns-in_err-capture_of-in-Print-clause-refuses : goal.returns-in_err-capture_of-in-Print-clause-refuses
returns-in_err-capture_of-in-Print-clause-refuses c =
    let are = opened string_bytes c.args.words.now c.name-item.result c.as_bytes.result.now c.in-len1-up.len_at_least c.name-item.is
    c.as_bytes.ensures.value in
    rw c.from_residual-in_err-capture_of-in-Print.ensures
    (unwritten _ _ c.as_bytes.result.now keyword.Print are (rw c.in-Print.is at c.in_ok-keyword.ensures.found)
    (λ command written. c.in_err-capture_of-in-Print.ensures.refuses written.0 written.2))

pub returns-in_err-disturb_of-in-Disturb-clause-refuses : goal.returns-in_err-disturb_of-in-Disturb-clause-refuses
returns-in_err-disturb_of-in-Disturb-clause-refuses c =
    let are = opened string_bytes c.args.words.now c.name-item.result c.as_bytes.result.now c.in-len1-up.len_at_least c.name-item.is
    c.as_bytes.ensures.value in
    rw c.from_residual-in_err-disturb_of-in-Disturb.ensures
    (unwritten _ _ c.as_bytes.result.now keyword.Disturb are (rw c.in-Disturb.is at c.in_ok-keyword.ensures.found)
    (λ command written. c.in_err-disturb_of-in-Disturb.ensures.refuses written.0 written.2))

pub returns-in_err-serve_of-in-Serve-clause-refuses : goal.returns-in_err-serve_of-in-Serve-clause-refuses
returns-in_err-serve_of-in-Serve-clause-refuses c =
    let are = opened string_bytes c.args.words.now c.name-item.result c.as_bytes.result.now c.in-len1-up.len_at_least c.name-item.is
    c.as_bytes.ensures.value in
    rw c.from_residual-in_err-serve_of-in-Serve.ensures
    (unwritten _ _ c.as_bytes.result.now keyword.Serve are (rw c.in-Serve.is at c.in_ok-keyword.ensures.found)
    (λ command written. c.in_err-serve_of-in-Serve.ensures.refuses written.0 written.2))

pub returns-in_err-show_of-in-Show-clause-refuses : goal.returns-in_err-show_of-in-Show-clause-refuses
returns-in_err-show_of-in-Show-clause-refuses c =
    let are = opened string_bytes c.args.words.now c.name-item.result c.as_bytes.result.now c.in-len1-up.len_at_least c.name-item.is
    c.as_bytes.ensures.value in
    rw c.from_residual-in_err-show_of-in-Show.ensures
    (unwritten _ _ c.as_bytes.result.now keyword.Show are (rw c.in-Show.is at c.in_ok-keyword.ensures.found)
    (λ command written. c.in_err-show_of-in-Show.ensures.refuses written.0 written.2))

pub returns-in_err-show_of-in-Frames-clause-refuses : goal.returns-in_err-show_of-in-Frames-clause-refuses
returns-in_err-show_of-in-Frames-clause-refuses c =
    let are = opened string_bytes c.args.words.now c.name-item.result c.as_bytes.result.now c.in-len1-up.len_at_least c.name-item.is
    c.as_bytes.ensures.value in
    rw c.from_residual-in_err-show_of-in-Frames.ensures
    (unwritten _ _ c.as_bytes.result.now keyword.Frames are (rw c.in-Frames.is at c.in_ok-keyword.ensures.found)
    (λ command written. c.in_err-show_of-in-Frames.ensures.refuses written.0 written.2))
