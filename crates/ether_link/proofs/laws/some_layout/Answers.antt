use Rattle.ether_link.proofs.LayoutLemmas.{some}
use Rattle.ether_link.proofs.laws.some_layout.Goals as goal

pub returns : goal.returns
returns g c = λ grammar orderly turn start end. some grammar c.args.frame.now orderly turn start end
