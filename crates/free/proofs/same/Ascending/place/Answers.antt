-- `free::same::Ascending::place` meets its contract.
use native.Mathlib.Omega.{arith}
use Rattle.std.proofs.Common.{rules, tests}
use Rattle.std.proofs.lemmas.List.{length-map}
use Rattle.std.proofs.lemmas.List.Sorted.{IsPartitionPoint-from_clause}
use Rattle.codec.specs.Records.{free_extents}
use Rattle.free.proofs.Searching.{starts_before, parted, place-is}
use Rattle.free.proofs.same.Ascending.place.Goals as goal

pub returns : goal.returns
returns c =
    let s = c.args.self.now in
    let r = c.reach-low in
    let k = length-map s.extents.now free_extents.decode in
    place-is _ c.args.start r.result.start r.result.end (omega (arith, k, r.ensures.within)) _ r.ensures c.partition_point.ensures.bound
    (IsPartitionPoint-from_clause (starts_before s.extents.now c.args.start) _ _ c.partition_point.ensures.partitioned
    (parted _ c.args.start r.result.start r.result.end (omega (arith, k, r.ensures.within)) s.in_order)
    (λ a b q h. search (rules, tests)))
