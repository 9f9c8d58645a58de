use Rattle.std.proofs.Common.{rules}
use Rattle.std.proofs.lemmas.Fn.{always_returns_same}
use Rattle.managed.specs.Places.{place_order}
use Rattle.managed.proofs.SearchLemmas.{searched}
use Rattle.managed.proofs.map.search.search.Goals as goal

-- the closure compares a place's key with the one that is sought
pub returns : goal.returns
returns g c =
    let facts = c.binary_search_by.ensures in
    let by_place = facts.position (place_order g.K.Ord.cmp c.args.key.now) (always_returns_same _ _ _ (λ a r f called. (search rules, search rules))) in
    searched g.met.K.Ord.total c.args.key.now c.args.places.now c.requires _ facts.bound by_place
