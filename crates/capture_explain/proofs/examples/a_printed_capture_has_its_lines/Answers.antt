use Rattle.capture_explain.proofs.PrintLemmas.{printed}
use Rattle.capture_explain.proofs.examples.a_printed_capture_has_its_lines.Goals as goal

pub returns : goal.returns
returns c = printed
