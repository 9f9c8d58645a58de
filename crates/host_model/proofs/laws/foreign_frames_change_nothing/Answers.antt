use Rattle.std.proofs.Common.{[]}
use Rattle.host_model.proofs.EffectLemmas.{nothing_changes}
use Rattle.host_model.proofs.laws.foreign_frames_change_nothing.Goals as goal

pub returns : goal.returns
returns c = λ settings words earlier later at bytes foreign.
    nothing_changes settings words [] earlier later at bytes foreign
