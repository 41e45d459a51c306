-- `lists::unchanged::run_end` meets its contract. The invariant: whatever stays behind the records passed stays behind all of them.
use Prim.Native.Nat.{◌/◌}
use native.Mathlib.Omega.{arith}
use mathlib.Core.Path.{◌≡◌}
use lib.ListN.{length}
use Rattle.codec.specs.Records.{records_of, refcounts}
use Rattle.lists.proofs.Passing.{next}
use Rattle.lists.proofs.Staying.{stay-next, stay-done}
use Rattle.lists.proofs.unchanged.run_end.Goals as goal

pub returns-then-not-stays-clause-all_stay : goal.returns-then-not-stays-clause-all_stay
returns-then-not-stays-clause-all_stay c = let a = c.args in
    let l = c.loop-j in
    stay-done (records_of refcounts a.counts.now) a.i a.stop a.owners a.s a.high l.j l.last_stop l.last_owners l.invariant

pub loop-j-preserved : goal.loop-j-preserved
loop-j-preserved c = let a = c.args in
    let b = a.counts.now in
    let l = c.loop-j in
    let d = c.decode-r in
    stay-next (records_of refcounts b) a.i a.stop a.owners a.s a.high l.j l.last_stop l.last_owners l.invariant d.result _ (omega arith)
    (next b l.j d.result c.loop-j-test.true d.ensures) (c.stays.ensures (c.if-not-stays.false))

pub returns-clause-all_stay : goal.returns-clause-all_stay
returns-clause-all_stay c = let a = c.args in
    let l = c.loop-j in
    let end : l.j ≡ length a.counts.now / 12 = omega (arith, c.requires) in
    let stay = stay-done (records_of refcounts a.counts.now) a.i a.stop a.owners a.s a.high l.j l.last_stop l.last_owners l.invariant in
    rw end at stay
