use Rattle.ether_link.proofs.FormLemmas.{same_part}
use Rattle.ether_link.proofs.laws.same_part.Goals as goal

pub returns : goal.returns
returns g c = λ form open_end accepted. same_part form c.args.n c.args.bytes.now open_end accepted
