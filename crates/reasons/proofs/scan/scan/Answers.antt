-- `reasons::scan::scan` meets its contract. The invariant: the records from i on are in order behind the last one tested exactly when the whole
-- list is, and each search has found what there is among the first i.
use Rattle.std.proofs.Common.{◌∙◌, sym, refl, arith}
use Rattle.codec.specs.Records.{rmaps}
use Rattle.codec.specs.Rmaps.{good, follows}
use Rattle.codec.proofs.ListOrder.{order-end}
use Rattle.lists.proofs.Cases.{and_l}
use Rattle.lists.proofs.Scanning.{order-stops, order-goes-on}
use Rattle.reasons.proofs.Finding.{found-start, found_within, found-next, found-end}
use Rattle.reasons.proofs.scan.scan.Goals as goal

pub loop-i-init : goal.loop-i-init
loop-i-init c = (omega arith, refl, found-start _ _ c.args.map.now)

pub returns-then-not-may_stand : goal.returns-then-not-may_stand
returns-then-not-may_stand c =
    let q = c.loop-i in
    q.invariant.1 ∙ order-stops c.args.map.now q.i q.prev c.decode-r.result c.loop-i-test.true c.decode-r.ensures (sym c.may_stand.ensures ∙ c.if-not-may_stand.true)

pub noted-s-requires : goal.noted-s-requires
noted-s-requires c =
    let q = c.loop-i in (
      found_within _ _ c.args.map.now q.i q.s q.invariant.2 q.invariant.0,
      and_l (good c.decode-r.result) _ (sym c.may_stand.ensures ∙ c.if-not-may_stand.false),
    )

pub loop-i-preserved : goal.loop-i-preserved
loop-i-preserved c =
    let b = c.args.map.now in
    let q = c.loop-i in
    let t = c.loop-i-test.true in (
      omega arith,
      q.invariant.1 ∙ order-goes-on b q.i q.prev c.decode-r.result t c.decode-r.ensures (sym c.may_stand.ensures ∙ c.if-not-may_stand.false),
      found-next _ _ b q.i q.s q.invariant.2 c.decode-r.result _ t c.decode-r.ensures c.noted-s.ensures,
    )

pub returns : goal.returns
returns c =
    let b = c.args.map.now in
    let q = c.loop-i in
    (q.invariant.1 ∙ order-end rmaps good follows b q.i q.prev c.loop-i-test.false, found-end _ _ b q.i q.s q.invariant.2 c.loop-i-test.false)
