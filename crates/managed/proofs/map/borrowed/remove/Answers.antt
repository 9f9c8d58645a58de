use Rattle.std.proofs.Common.{sym, ap, ◌∙◌}
use Rattle.std.specs.Option.{option_map}
use Rattle.std.specs.BTreeMap.{is_at}
use Rattle.managed.specs.SortedMap.{filled}
use Rattle.managed.proofs.FoundLemmas.{found_value, found_no_gap, gap_value, sorted_removed, removed_none}
use Rattle.managed.proofs.EditLemmas.{filled-closed_up, packed-closed_up}
use Rattle.managed.proofs.map.borrowed.remove.Goals as goal

-- the key is there, and its pair is taken out
pub returns-in-Some : goal.returns-in-Some
returns-in-Some g c =
    let places = c.args.places.now in
    let found = c.in-Ok.ensures.found in
    let compare = g.K.Ord.cmp c.args.key.now in
    let pairs = filled-closed_up compare places c.in-Ok.at found in
    record {
      value = sym (found_value compare places c.in-Ok.at found ∙ ap (option_map (λ e. e.1)) (sym c.take_at.ensures.value ∙ c.in-Some.is));
      rest = rw c.take_at.ensures.rest pairs;
      within = rw c.take_at.ensures.rest (packed-closed_up compare places c.in-Ok.at found c.requires.0, rw pairs (sorted_removed g.K.Ord.cmp (is_at compare) (filled places) c.requires.1));
    }

pub returns-in-Ok : goal.returns-in-Ok
returns-in-Ok g c =
    absurd (found_no_gap (g.K.Ord.cmp c.args.key.now) c.args.places.now c.in-Ok.at c.in-Ok.ensures.found (sym c.take_at.ensures.value ∙ c.in-None.is))

-- the key is not there
pub returns : goal.returns
returns g c =
    let absent = gap_value g.met.K.Ord.total c.args.key.now _ _ c.requires.1 c.in-Err.ensures.empty in
    record {
      value = sym absent;
      rest = sym (removed_none (is_at (g.K.Ord.cmp c.args.key.now)) (filled c.args.places.now) absent);
      within = c.requires;
    }
