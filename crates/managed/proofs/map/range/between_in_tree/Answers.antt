use Rattle.std.proofs.Common.{sym}
use Rattle.managed.proofs.RangeLemmas.{none_backwards}
use Rattle.managed.proofs.map.range.between_in_tree.Goals as goal

pub returns-then-not-is_forward-clause-rest : goal.returns-then-not-is_forward-clause-rest
returns-then-not-is_forward-clause-rest g c =
    sym (none_backwards g.met.K.Ord.total _ _ _ (λ forward. (let yes = c.is_forward.ensures.1 forward in cc)))
