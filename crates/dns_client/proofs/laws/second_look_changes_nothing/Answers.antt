use Rattle.dns_client.proofs.RepeatedLemmas.{repeated}
use Rattle.dns_client.proofs.laws.second_look_changes_nothing.Goals as goal

pub returns : goal.returns
returns c = λ source later servers now slots early timed. repeated now early source servers later slots timed
