use Rattle.std.proofs.Common.{◌≡◌, ◌≤◌, length, get_or, Some, None, refl, subst, add-one, arith, ◌∙◌}
use Rattle.std.proofs.Math.ListN.{get_or-eq_default}
use Rattle.std.proofs.lemmas.Grind.{common_steps}
use denote.Param.Always.{mut_next}
use Rattle.managed.proofs.PlaceLoans.{same_place}
use Rattle.managed.proofs.UpdateLemmas.{updated_one_more, updated_all, packed_all}
use Rattle.managed.proofs.map.update.each_in_places.Goals as goal

-- the rest is empty
pub returns-in-None : goal.returns-in-None
returns-in-None g c =
    let at = c.loop-place in
    let is = c.place-item.is ∙ c.in-None.is in
    let none = subst (λ r. get_or at.places at.place-index r ≡ None) is c.in-None.is in
    rw (is, same_place at.places at.place-index) (record {
      updated = updated_all g.F.FnMut _ _ _ _ _ at.invariant.updated none;
      packed = packed_all g.F.FnMut _ _ _ _ _ at.invariant.updated;
    })

pub loop-place-preserved : goal.loop-place-preserved
loop-place-preserved g c =
    let at = c.loop-place in
    let some : get_or at.places at.place-index None ≡ Some c.in-Some.pair = grind (arith, common_steps) in
    record {
      callable = mut_next g.F.FnMut _ _ _ _ _ c.f.ensures refl at.invariant.callable;
      updated = rw (add-one at.place-index) (updated_one_more g.F.FnMut _ _ _ _ _ c.in-Some.pair _ _ at.invariant.updated some (record { key = _; value = _; shows = (refl, refl); left = _; called = c.f.ensures; leaves = refl }));
    }

-- each place had a pair
pub returns : goal.returns
returns g c =
    let at = c.loop-place in
    let past : length at.places ≤ at.place-index = omega arith in
    let none = get_or-eq_default at.places None past in
    record {
      updated = updated_all g.F.FnMut _ _ _ _ _ at.invariant.updated none;
      packed = packed_all g.F.FnMut _ _ _ _ _ at.invariant.updated;
    }
