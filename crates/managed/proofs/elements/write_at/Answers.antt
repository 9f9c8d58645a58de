use Rattle.std.proofs.Common.{refl}
use Rattle.std.proofs.lemmas.Option.{slice_get-get_or}
use Rattle.managed.proofs.elements.write_at.Goals as goal

pub returns : goal.returns
returns g c = record {
  item = c.f.new.arg2;
  called = rw (slice_get-get_or c.args.items.now c.args.index c.index-items-index.result c.requires.room) (record { shown = _; shows = refl; left = _; met = c.f.ensures; leaves = refl });
  items = refl;
}
