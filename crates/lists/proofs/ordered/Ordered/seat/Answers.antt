-- `lists::ordered::Ordered::seat` meets its contract.
use Rattle.std.proofs.Common.{rules, tests}
use Rattle.std.proofs.lemmas.List.Sorted.{IsPartitionPoint-from_clause}
use Rattle.lists.proofs.Scanning.{stands_before, parted, seat-parted}
use Rattle.lists.proofs.ordered.Ordered.seat.Goals as goal

pub returns : goal.returns
returns c =
    let s = c.args.self.now in
    let k = c.as_chunks.ensures in
    let b = s.list.now in
    seat-parted b c.args.z s.in_order _ k.front k.front_len _ c.partition_point.ensures.bound
    (IsPartitionPoint-from_clause (stands_before b c.args.z s.in_order _ k.front k.front_len) _ _ c.partition_point.ensures.partitioned
    (parted b c.args.z s.in_order _ k.front k.front_len)
    (λ a b q h. search (rules, tests)))
