-- `lists::held::held` meets its contract. The invariant: the records from i on reach from `reach` as far as the whole list from the start.
use native.Mathlib.Omega.{arith}
use Rattle.lists.proofs.Holding.{reach-stops, reach-next, reach-ends}
use Rattle.lists.proofs.held.held.Goals as goal

pub returns-then-reach-r : goal.returns-then-reach-r
returns-then-reach-r c =
    let q = c.loop-i in
    reach-stops c.args.list.now c.args.startblock c.args.blockcount q.i q.reach c.requires q.invariant c.decode-r.result c.loop-i-test.true c.decode-r.ensures c.if-reach-r.true

pub loop-i-preserved : goal.loop-i-preserved
loop-i-preserved c =
    let q = c.loop-i in
    let d = c.decode-r in
    reach-next c.args.list.now c.args.startblock c.args.blockcount q.i q.reach c.requires q.invariant d.result c.loop-i-test.true d.ensures c.if-reach-r.false _
    (omega (arith, c.max-reach.ensures, c.end.ensures))

pub returns : goal.returns
returns c =
    let q = c.loop-i in
    reach-ends c.args.list.now c.args.startblock c.args.blockcount q.i q.reach c.requires q.invariant c.loop-i-test.false
