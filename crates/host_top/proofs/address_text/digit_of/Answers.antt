use Rattle.host_top.proofs.HexLemmas.{digit_from}
use Rattle.host_top.proofs.address_text.digit_of.Goals as goal

pub returns : goal.returns
returns c = digit_from _ _ c.from-at.ensures c.requires
