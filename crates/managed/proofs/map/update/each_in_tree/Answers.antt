use Rattle.std.proofs.Common.{rules}
use denote.Param.Always.{always_mut}
use Rattle.managed.proofs.UpdateLemmas.{callable_each, updated_from_retain}
use Rattle.managed.proofs.map.update.each_in_tree.Goals as goal

pub retain-requires : goal.retain-requires
retain-requires g c = callable_each _ (λ s. always_mut g.F.FnMut s.0) (λ s k v b w t i called. search rules) _ (λ s k v i p q k-is v-is. i) _ _ c.requires

pub returns : goal.returns
returns g c = updated_from_retain _ g.F.FnMut (λ s. s.0) (λ s k v b w t called. search rules) _ _ _ c.retain.ensures.filtered
