use Rattle.std.proofs.Common.{add-one}
use Rattle.managed.proofs.CutLemmas.{le_found, lt_found, le_gap, lt_gap, cut_end}
use Rattle.managed.proofs.map.range.end_of.Goals as goal

pub returns-in-Ok-clause-cut : goal.returns-in-Ok-clause-cut
returns-in-Ok-clause-cut g c = rw (c.in-Included.is, add-one) (lt_found g.met.K.Ord.total _ _ _ c.requires.1 c.in-Ok.ensures.found)

pub returns-in-Err-clause-cut : goal.returns-in-Err-clause-cut
returns-in-Err-clause-cut g c = rw c.in-Included.is (lt_gap g.met.K.Ord.total _ _ _ c.requires.1 c.in-Err.ensures.empty)

pub returns-in-Ok-search-clause-cut : goal.returns-in-Ok-search-clause-cut
returns-in-Ok-search-clause-cut g c = rw c.in-Excluded.is (le_found g.met.K.Ord.total _ _ _ c.requires.1 c.in-Ok-search.ensures.found)

pub returns-in-Err-search-clause-cut : goal.returns-in-Err-search-clause-cut
returns-in-Err-search-clause-cut g c = rw c.in-Excluded.is (le_gap g.met.K.Ord.total _ _ _ c.requires.1 c.in-Err-search.ensures.empty)

pub returns-in-Unbounded-clause-cut : goal.returns-in-Unbounded-clause-cut
returns-in-Unbounded-clause-cut g c = rw (c.in-Unbounded.is, c.len.ensures.value) (cut_end _)
