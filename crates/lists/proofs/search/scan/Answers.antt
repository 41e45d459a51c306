-- `lists::search::scan` meets its contract. The invariant: the records from i on are in order behind the last one tested exactly when the whole
-- list is, and each search has found what there is among the first i.
use native.Mathlib.Omega.{arith}
use mathlib.Core.Path.{refl, sym, ◌∙◌}
use Rattle.codec.specs.Records.{rmaps}
use Rattle.codec.specs.Rmaps.{good, follows}
use Rattle.codec.proofs.ListOrder.{order-end}
use Rattle.lists.proofs.Scanning.{scan-start, scan-room, scan-next, scan-end, order-stops, order-goes-on}
use Rattle.lists.proofs.search.scan.Goals as goal

pub loop-i-init : goal.loop-i-init
loop-i-init c = (refl, scan-start _ _ c.args.list.now)

pub returns-then-not-passes : goal.returns-then-not-passes
returns-then-not-passes c =
    let q = c.loop-i in
    q.invariant.0 ∙ order-stops c.args.list.now q.i q.prev c.decode-r.result c.loop-i-test.true c.decode-r.ensures (sym c.passes.ensures ∙ c.if-not-passes.true)

pub noted-s-requires : goal.noted-s-requires
noted-s-requires c =
    let q = c.loop-i in
    scan-room _ _ c.args.list.now q.i q.s q.invariant.1 (omega arith)

pub loop-i-preserved : goal.loop-i-preserved
loop-i-preserved c =
    let b = c.args.list.now in
    let q = c.loop-i in
    let t = c.loop-i-test.true in (
      q.invariant.0 ∙ order-goes-on b q.i q.prev c.decode-r.result t c.decode-r.ensures (sym c.passes.ensures ∙ c.if-not-passes.false),
      scan-next _ _ b q.i q.s q.invariant.1 c.decode-r.result _ t c.decode-r.ensures c.noted-s.ensures,
    )

pub returns : goal.returns
returns c =
    let b = c.args.list.now in
    let q = c.loop-i in
    scan-end _ _ b q.i q.s q.invariant.1 c.loop-i-test.false (q.invariant.0 ∙ order-end rmaps good follows b q.i q.prev c.loop-i-test.false)
