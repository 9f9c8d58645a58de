use Rattle.ether_link.proofs.FormLemmas.{kept_part}
use Rattle.ether_link.proofs.laws.kept_part.Goals as goal

pub returns : goal.returns
returns g c = λ form open_end accepted room. kept_part form c.args.n c.args.bytes.now open_end accepted room
