-- `lookup::numbers::Asked::first_at` meets its contract.
use Rattle.std.proofs.Common.{ltb, rules}
use Rattle.std.proofs.lemmas.List.Sorted.{IsPartitionPoint-from_clause, IsPartitionedBy-ltb}
use Rattle.lookup.proofs.Ascending.{rising, part-first}
use Rattle.lookup.proofs.numbers.Asked.first_at.Goals as goal

pub returns : goal.returns
returns c =
    let s = c.args.self in
    let parted = IsPartitionedBy-ltb (λ x. x) _ c.args.a (rising _ s.ascend) in
    part-first c.args.a _ _ s.ascend c.partition_point.ensures.bound
    (IsPartitionPoint-from_clause (λ x. ltb x c.args.a) _ _ c.partition_point.ensures.partitioned parted (λ a r q k. search rules))
