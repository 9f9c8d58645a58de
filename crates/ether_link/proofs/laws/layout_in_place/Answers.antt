use Rattle.ether_link.proofs.PlaceLemmas.{moved_by}
use Rattle.ether_link.proofs.laws.layout_in_place.Goals as goal

pub returns : goal.returns
returns g c = λ grammar turn start end places stop within right.
    moved_by grammar c.args.frame.now c.args.from c.args.to places turn start end stop within right
