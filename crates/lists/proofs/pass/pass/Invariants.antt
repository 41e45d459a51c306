-- `lists::pass::pass` meets its contract: what is carried along and the records to come decide and write as the whole list does.
use Prim.Native.Nat.{◌+◌, ◌-◌, ◌/◌, ◌≤◌}
use lib.ListN.{length, drop}
use Rattle.codec.specs.Records.{records_of, refcounts}
use Rattle.lists.specs.Inner.Passes.{raises, writes_counts, writes_free}
use Rattle.lists.proofs.Passing.{Carrying}
use Rattle.lists.proofs.pass.pass.Given as goal

abbrev pub invariant-loop-i : goal.invariant-loop-i
invariant-loop-i l =
    (l.i ≤ length l.counts / 12)
    × Carrying (raises l.how) (writes_counts l.pass) (writes_free l.pass) (records_of refcounts l.counts) l.startblock (l.startblock + l.blockcount) l.initial.new l.initial.free l.new l.free l.w (drop l.i (records_of refcounts l.counts))

abbrev pub decreases-loop-i : goal.decreases-loop-i
decreases-loop-i l = length l.counts / 12 - l.i
