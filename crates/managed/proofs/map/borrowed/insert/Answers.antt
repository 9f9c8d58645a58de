use Rattle.std.proofs.Common.{◌≡◌, ◌<◌, length, refl, sym, ◌∙◌, arith}
use Rattle.managed.specs.SortedMap.{filled}
use Rattle.managed.proofs.FoundLemmas.{found_value, found_there, gap_value, sorted_with_pair}
use Rattle.managed.proofs.PackedLemmas.{filled_le}
use Rattle.managed.proofs.EditLemmas.{filled-set, packed-set, filled-inserted, packed-inserted}
use Rattle.managed.proofs.map.borrowed.insert.Goals as goal

-- the key is there, and its pair is replaced
pub returns-in-Ok : goal.returns-in-Ok
returns-in-Ok g c =
    let total = g.met.K.Ord.total in
    let places = c.args.places.now in
    let found = c.in-Ok.ensures.found in
    let compare = g.K.Ord.cmp c.args.key in
    let pairs = filled-set total c.args.key places c.in-Ok.at c.args.value found in
    record {
      value = c.replace_at.ensures.value ∙ sym (found_value compare places c.in-Ok.at found);
      ok = rw c.replace_at.ensures.rest pairs;
      err = tt;
      cause = tt;
      refuses = λ full absent. absurd (found_there compare places c.in-Ok.at found absent);
      within = rw c.replace_at.ensures.rest (packed-set compare places c.in-Ok.at (c.args.key, c.args.value) found c.requires.0, rw pairs (sorted_with_pair total (filled places) c.args.key c.args.value c.requires.1));
    }

-- each place has a pair
pub returns-then-is_full : goal.returns-then-is_full
returns-then-is_full g c = record {
  value = tt;
  ok = tt;
  err = refl;
  cause = (c.is_full.ensures.0 c.if-is_full.true, gap_value g.met.K.Ord.total c.args.key _ _ c.requires.1 c.in-Err.ensures.empty, refl, refl);
  refuses = λ full absent. refl;
  within = c.requires;
}

-- a new pair goes into the gap
pub returns-else-is_full : goal.returns-else-is_full
returns-else-is_full g c =
    let total = g.met.K.Ord.total in
    let places = c.args.places.now in
    let gap = c.in-Err.ensures.empty in
    let differs : length (filled places) ≡ length places → ⊥ = λ full. (let yes = c.is_full.ensures.1 full in cc) in
    let room : length (filled places) < length places = omega (arith, filled_le places, differs) in
    let pairs = filled-inserted total c.args.key places c.in-Err.at c.args.value c.requires.0 room gap in
    record {
      value = sym (gap_value total c.args.key _ _ c.requires.1 gap);
      ok = rw c.put_at.ensures pairs;
      err = tt;
      cause = tt;
      refuses = λ full absent. absurd (differs full);
      within = rw c.put_at.ensures (packed-inserted total c.args.key places c.in-Err.at c.args.value c.requires.0 gap, rw pairs (sorted_with_pair total (filled places) c.args.key c.args.value c.requires.1));
    }
