-- `trees::build::Source::write_leaves` meets its contract. The invariant is `LeavesSo`; `round` has what one turn of the loop needs.
use Prim.Native.Nat.{◌^◌, ◌<◌}
use mathlib.Core.Path.{◌≡◌}
use native.Mathlib.Omega.{arith}
use lib.ListN.{length, length-take, length-drop}
use Rattle.trees.proofs.LeafWriting.{leaves-start, leaves-done, leaf-round}
use borrow.Author.Rules.{rules}
use Rattle.trees.proofs.build.Source.write_leaves.Goals as goal

pub loop-i-init : goal.loop-i-init
loop-i-init c =
    let a = c.args in
    leaves-start a.self.now.g a.self.now.kind a.self.now.list.now a.blocks.now a.out.now a.self.now.given c.requires

pub overflow_mul-to : goal.overflow_mul-to
overflow_mul-to c =
    let list-small : length c.args.self.now.list.now < 2 ^ 63 = search rules in
    let uuid_long : length c.args.self.now.g.meta_uuid ≡ 16 = search rules in
    let round = leaf-round _ _ _ _ c.args.self.now.given c.requires uuid_long c.loop-i.invariant c.loop-i-test.true c.record_len-w.ensures c.share-count.ensures in
    omega (arith, round.inside, list-small)

pub overflow_add-to : goal.overflow_add-to
overflow_add-to c =
    let list-small : length c.args.self.now.list.now < 2 ^ 63 = search rules in
    let uuid_long : length c.args.self.now.g.meta_uuid ≡ 16 = search rules in
    let round = leaf-round _ _ _ _ c.args.self.now.given c.requires uuid_long c.loop-i.invariant c.loop-i-test.true c.record_len-w.ensures c.share-count.ensures in
    omega (arith, round.inside, list-small)

pub overflow_mul-a : goal.overflow_mul-a
overflow_mul-a c =
    let out-small : length c.args.out.now < 2 ^ 63 = search rules in
    let uuid_long : length c.args.self.now.g.meta_uuid ≡ 16 = search rules in
    let round = leaf-round _ _ _ _ c.args.self.now.given c.requires uuid_long c.loop-i.invariant c.loop-i-test.true c.record_len-w.ensures c.share-count.ensures in
    omega (arith, round.ends, out-small)

pub overflow_add-e : goal.overflow_add-e
overflow_add-e c =
    let out-small : length c.args.out.now < 2 ^ 63 = search rules in
    let uuid_long : length c.args.self.now.g.meta_uuid ≡ 16 = search rules in
    let round = leaf-round _ _ _ _ c.args.self.now.given c.requires uuid_long c.loop-i.invariant c.loop-i-test.true c.record_len-w.ensures c.share-count.ensures in
    omega (arith, round.ends, out-small)

pub overflow_cast-count : goal.overflow_cast-count
overflow_cast-count c =
    let uuid_long : length c.args.self.now.g.meta_uuid ≡ 16 = search rules in
    let round = leaf-round _ _ _ _ c.args.self.now.given c.requires uuid_long c.loop-i.invariant c.loop-i-test.true c.record_len-w.ensures c.share-count.ensures in
    omega (arith, round.small)

pub slice_bounds-write_leaf-end : goal.slice_bounds-write_leaf-end
slice_bounds-write_leaf-end c =
    let uuid_long : length c.args.self.now.g.meta_uuid ≡ 16 = search rules in
    let round = leaf-round _ _ _ _ c.args.self.now.given c.requires uuid_long c.loop-i.invariant c.loop-i-test.true c.record_len-w.ensures c.share-count.ensures in
    omega (arith, round.inside)

pub slice_bounds-write_leaf-end-in-loop-i : goal.slice_bounds-write_leaf-end-in-loop-i
slice_bounds-write_leaf-end-in-loop-i c =
    let uuid_long : length c.args.self.now.g.meta_uuid ≡ 16 = search rules in
    let round = leaf-round _ _ _ _ c.args.self.now.given c.requires uuid_long c.loop-i.invariant c.loop-i-test.true c.record_len-w.ensures c.share-count.ensures in
    omega (arith, round.ends, c.loop-i.invariant.written.long)

pub write_leaf-requires : goal.write_leaf-requires
write_leaf-requires c =
    let uuid_long : length c.args.self.now.g.meta_uuid ≡ 16 = search rules in
    let round = leaf-round _ _ _ _ c.args.self.now.given c.requires uuid_long c.loop-i.invariant c.loop-i-test.true c.record_len-w.ensures c.share-count.ensures in (
      simp (length-take, length-drop) (omega (arith, round.ends, c.loop-i.invariant.written.long)),
      simp (length-take, length-drop) (omega (arith, round.inside, round.room)),
    )

pub loop-i-preserved : goal.loop-i-preserved
loop-i-preserved c =
    let uuid_long : length c.args.self.now.g.meta_uuid ≡ 16 = search rules in
    let round = leaf-round _ _ _ _ c.args.self.now.given c.requires uuid_long c.loop-i.invariant c.loop-i-test.true c.record_len-w.ensures c.share-count.ensures in
    round.next _ _ c.after-right.ensures c.write_leaf.ensures

pub returns : goal.returns
returns c =
    let a = c.args in
    let l = c.loop-i in
    leaves-done a.self.now.g a.self.now.kind a.self.now.list.now a.blocks.now a.out.now l.out l.i l.from l.left l.invariant (omega (arith, l.invariant.most))
