use denote.Param.Always.{always_mut}
use Rattle.managed.proofs.UpdateLemmas.{IsUpdatedTo}
use Rattle.managed.proofs.map.update.each_in_places.Given as goal

abbrev pub invariant-loop-place : goal.invariant-loop-place
invariant-loop-place g l = record {
  callable : always_mut g.F.FnMut l.f;
  updated : IsUpdatedTo g.F.FnMut l.fn.f l.fn.places l.places l.place-index l.f;
}
