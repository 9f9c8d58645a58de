use Rattle.ether_link.proofs.CutLemmas.{cut}
use Rattle.ether_link.proofs.laws.cut_law.Goals as goal

pub returns : goal.returns
returns g c = λ grammar is_last cuttable turn start end places kept stop last within right right_cut.
    cut grammar is_last cuttable c.args.frame.now c.args.n turn start end places kept stop last within right right_cut
