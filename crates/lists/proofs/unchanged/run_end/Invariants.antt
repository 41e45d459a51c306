-- `lists::unchanged::run_end` meets its contract. The invariant: whatever stays behind the records passed stays behind all of them.
use mathlib.Core.List.{List, ◌++◌}
use Rattle.codec.specs.Records.{records_of, refcounts}
use Rattle.codec.specs.declared.refcount.Refcount.{Refcount}
use Rattle.lists.specs.Splice.{between}
use Rattle.lists.specs.Inner.Staying.{AllStay}
use Rattle.lists.proofs.unchanged.run_end.Given as goal

abbrev pub invariant-loop-j : goal.invariant-loop-j
invariant-loop-j l =
    ((rest : List Refcount) → AllStay l.last_stop l.last_owners l.s l.high rest → AllStay l.stop l.owners l.s l.high (between (records_of refcounts l.counts) l.i l.j ++ rest))
