use Rattle.ether_link.proofs.LayoutLemmas.{one}
use Rattle.ether_link.proofs.laws.one_layout.Goals as goal

pub returns : goal.returns
returns g c = λ grammar turn start end. one grammar c.args.frame.now turn start end
