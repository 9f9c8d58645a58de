use Rattle.std.proofs.Common.{sym}
use Rattle.managed.proofs.FoundLemmas.{found_some, found_none, gap_value}
use Rattle.managed.proofs.map.borrowed.get.Goals as goal

-- the key is at its place, and the pair there was read
pub returns-in-Some : goal.returns-in-Some
returns-in-Some g c =
    found_some (g.K.Ord.cmp c.args.key.now) c.args.places.now c.in-Ok.at _ _ _ c.in-Ok.ensures.found c.index-places-at.is c.in-Some.is

pub returns-in-None : goal.returns-in-None
returns-in-None g c =
    absurd (found_none (g.K.Ord.cmp c.args.key.now) c.args.places.now c.in-Ok.at _ c.in-Ok.ensures.found c.index-places-at.is c.in-None.is)

-- the key is not there
pub returns-in-Err : goal.returns-in-Err
returns-in-Err g c = sym (gap_value g.met.K.Ord.total c.args.key.now _ _ c.requires.1 c.in-Err.ensures.empty)
