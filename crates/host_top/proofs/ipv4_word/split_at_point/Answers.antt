use Rattle.host_top.proofs.Ipv4WordLemmas.{pieces_whole}
use Rattle.host_top.proofs.ipv4_word.split_at_point.Goals as goal

pub loop-place-init : goal.loop-place-init
loop-place-init c = pieces_whole c.args.word.now
