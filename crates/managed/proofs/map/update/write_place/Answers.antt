use Rattle.std.proofs.Common.{refl}
use Rattle.managed.proofs.map.update.write_place.Goals as goal

pub returns-in-Some : goal.returns-in-Some
returns-in-Some g c = rw c.in-Some.is (record {
  value = c.f.new.arg2;
  called = record { shown = _; shows = refl; left = _; met = c.f.ensures; leaves = refl };
  pair = refl;
})
