use Rattle.std.proofs.Common.{[]}
use Rattle.host_model.proofs.ChronicleLemmas.{history_from-push}
use Rattle.host_model.proofs.laws.grows_by_entry.Goals as goal

pub returns : goal.returns
returns c = λ settings words events event. history_from-push settings words [] events event
