use Rattle.std.proofs.Common.{is_some, None, arith, rules}
use Rattle.std.proofs.lemmas.List.Sorted.{IsPartitionPoint-from_clause}
use Rattle.managed.proofs.PackedLemmas.{packed_parted, parted_len}
use Rattle.managed.proofs.map.borrowed.len.Goals as goal

-- the pairs come first
pub returns-clause-value : goal.returns-clause-value
returns-clause-value g c =
    let call = c.partition_point.ensures in
    let places = c.args.places.now in
    let split = IsPartitionPoint-from_clause is_some places _ call.partitioned (packed_parted places c.requires) (λ a r f called. (search rules, search rules)) in
    parted_len places _ call.bound (λ k lt. split.0 k None (omega arith) lt) (λ k le lt. split.1 k None le lt)
