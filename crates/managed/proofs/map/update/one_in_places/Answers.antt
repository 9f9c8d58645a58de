use Rattle.std.proofs.Common.{refl, sym, subst, ap, ◌∙◌}
use Rattle.std.specs.Option.{option_map}
use Rattle.managed.specs.MapLoans.{with_value}
use Rattle.managed.specs.Updates.{MayLeave}
use Rattle.managed.proofs.FoundLemmas.{found_value, found_place, found_default, gap_value}
use Rattle.managed.proofs.PlaceLoans.{written_at}
use Rattle.managed.proofs.map.update.one_in_places.Goals as goal

-- the key is there
pub write_place-requires : goal.write_place-requires
write_place-requires g c =
    let compare = g.K.Ord.cmp c.args.key.now in let places = c.args.places.now in let found = c.in-Ok.ensures.found in
    let read = found_default compare places c.in-Ok.at c.index-places-at.result found in
    record {
      there = rw (read, (found_place compare places c.in-Ok.at found).1) refl;
      callable = λ x is. c.requires.callable x (found_value compare places c.in-Ok.at found ∙ ap (option_map (λ e. e.1)) (sym read) ∙ is);
    }

pub returns-in-Ok : goal.returns-in-Ok
returns-in-Ok g c =
    let compare = g.K.Ord.cmp c.args.key.now in let places = c.args.places.now in let at = c.in-Ok.at in let found = c.in-Ok.ensures.found in
    let read = found_default compare places at c.index-places-at.result found in
    let value = found_value compare places at found in
    let w = c.write_place.ensures in
    let same = w.pair ∙ ap (λ o. with_value o w.value) read in
    let now = written_at c.args.key.now places at w.value found c.requires.sorted in
    record {
      found = rw (value, (found_place compare places at found).1) ((λ t. refl), (λ t. refl));
      written = λ _. record {
        value = w.value;
        called = subst (λ o. MayLeave g.F.FnOnce c.args.f o w.value) (ap (option_map (λ e. e.1)) read ∙ sym value) w.called;
        pairs = rw same now.pairs.written;
      };
      empty = λ is. cc;
      within = rw same now.sorted;
    }

-- the key is not there
pub returns-in-Err-clause-found : goal.returns-in-Err-clause-found
returns-in-Err-clause-found g c = rw (gap_value g.met.K.Ord.total c.args.key.now _ _ c.requires.sorted.1 c.in-Err.ensures.empty) ((λ t. t), (λ t. t))
