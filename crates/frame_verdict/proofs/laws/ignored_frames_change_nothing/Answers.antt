use Rattle.std.proofs.Common.{[]}
use Rattle.frame_verdict.proofs.TickedLemmas.{all_ticked, changes_none, one_ticked}
use Rattle.frame_verdict.proofs.laws.ignored_frames_change_nothing.Goals as goal

pub returns-clause-any : goal.returns-clause-any
returns-clause-any c = λ settings words events others ticked. changes_none settings words events others ticked

pub returns-clause-one : goal.returns-clause-one
returns-clause-one c = λ settings words earlier later at bytes why said.
    one_ticked settings words [] earlier later at bytes why said

pub returns-clause-all : goal.returns-clause-all
returns-clause-all c = λ settings words events. all_ticked settings words [] events
