use Rattle.ether_link.proofs.LayoutLemmas.{nested}
use Rattle.ether_link.proofs.laws.layouts_are_nested.Goals as goal

pub returns : goal.returns
returns g c = λ grammar orderly turn start end places stop right. nested grammar c.args.frame.now orderly places turn start end stop right
