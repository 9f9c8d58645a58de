use Rattle.host_model.proofs.PartLemmas.{refused, cut_off}
use Rattle.host_model.proofs.laws.no_event_is_refused.Goals as goal

pub returns : goal.returns
returns c = record { refused = refused; cut_off = cut_off }
