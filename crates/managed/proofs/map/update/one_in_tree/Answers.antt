use Rattle.std.proofs.Common.{refl, sym, ap, ◌∙◌}
use Rattle.std.specs.Option.{option_copied_mut}
use Rattle.managed.proofs.map.update.one_in_tree.Goals as goal

pub returns-in-Some-clause-written : goal.returns-in-Some-clause-written
returns-in-Some-clause-written g c = λ _.
    let there = sym c.get_mut.ensures.value ∙ ap option_copied_mut c.in-Some.is in
    record {
      value = c.f.new.arg2;
      called = rw there (record { shown = c.in-Some.value; shows = refl; left = _; met = c.f.ensures; leaves = refl });
      pairs = (c.get_mut.follows.holds c.f.new.arg2).0;
    }
