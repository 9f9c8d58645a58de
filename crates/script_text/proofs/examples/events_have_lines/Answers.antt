-- By computing the digits.
use Rattle.std.proofs.Common.{refl}
use Rattle.std.specs.Fmt.{digits}
use Rattle.script_text.proofs.examples.events_have_lines.Goals as goal

pub returns : goal.returns
unfolding digits
returns c = record { tick = refl; reset = refl; blank = refl; hyphen = refl; no_name = refl; no_frame = refl; frame = refl }
