-- `trees::build::Source::write_nodes` meets its contract. The invariant is `NodesSo`; `round` has what one turn of the loop needs.
use Prim.Native.Nat.{◌^◌, ◌<◌}
use mathlib.Core.Path.{◌≡◌}
use native.Mathlib.Omega.{arith}
use lib.ListN.{length, length-take, length-drop}
use Rattle.trees.proofs.NodesWriting.{nodes-start, nodes-done, node-round}
use borrow.Author.Rules.{rules}
use Rattle.trees.proofs.build.Source.write_nodes.Goals as goal

pub loop-i-init : goal.loop-i-init
loop-i-init c =
    let a = c.args in
    nodes-start a.self.now.g a.self.now.kind a.self.now.list.now a.self.now.levels.now a.level a.below.now a.blocks.now a.out.now c.requires

pub overflow_add-to : goal.overflow_add-to
overflow_add-to c =
    let below-small : length c.args.below.now < 2 ^ 62 = search rules in
    let uuid_long : length c.args.self.now.g.meta_uuid ≡ 16 = search rules in
    let round = node-round _ _ _ _ _ _ _ c.args.self.now.given c.requires uuid_long c.loop-i.invariant c.loop-i-test.true c.share-count.ensures in
    omega (arith, round.inside, below-small)

pub overflow_mul-a : goal.overflow_mul-a
overflow_mul-a c =
    let out-small : length c.args.out.now < 2 ^ 63 = search rules in
    let uuid_long : length c.args.self.now.g.meta_uuid ≡ 16 = search rules in
    let round = node-round _ _ _ _ _ _ _ c.args.self.now.given c.requires uuid_long c.loop-i.invariant c.loop-i-test.true c.share-count.ensures in
    omega (arith, round.ends, out-small)

pub overflow_add-e : goal.overflow_add-e
overflow_add-e c =
    let out-small : length c.args.out.now < 2 ^ 63 = search rules in
    let uuid_long : length c.args.self.now.g.meta_uuid ≡ 16 = search rules in
    let round = node-round _ _ _ _ _ _ _ c.args.self.now.given c.requires uuid_long c.loop-i.invariant c.loop-i-test.true c.share-count.ensures in
    omega (arith, round.ends, out-small)

pub slice_bounds-write_node-end : goal.slice_bounds-write_node-end
slice_bounds-write_node-end c =
    let uuid_long : length c.args.self.now.g.meta_uuid ≡ 16 = search rules in
    let round = node-round _ _ _ _ _ _ _ c.args.self.now.given c.requires uuid_long c.loop-i.invariant c.loop-i-test.true c.share-count.ensures in
    omega (arith, round.inside)

pub slice_bounds-write_node-end-in-loop-i : goal.slice_bounds-write_node-end-in-loop-i
slice_bounds-write_node-end-in-loop-i c =
    let uuid_long : length c.args.self.now.g.meta_uuid ≡ 16 = search rules in
    let round = node-round _ _ _ _ _ _ _ c.args.self.now.given c.requires uuid_long c.loop-i.invariant c.loop-i-test.true c.share-count.ensures in
    omega (arith, round.ends, c.loop-i.invariant.written.long)

pub write_node-requires : goal.write_node-requires
write_node-requires c =
    let uuid_long : length c.args.self.now.g.meta_uuid ≡ 16 = search rules in
    let round = node-round _ _ _ _ _ _ _ c.args.self.now.given c.requires uuid_long c.loop-i.invariant c.loop-i-test.true c.share-count.ensures in
    round.node-for _ (simp (length-take, length-drop) (omega (arith, round.ends, c.loop-i.invariant.written.long)))

pub loop-i-preserved : goal.loop-i-preserved
loop-i-preserved c =
    let uuid_long : length c.args.self.now.g.meta_uuid ≡ 16 = search rules in
    let round = node-round _ _ _ _ _ _ _ c.args.self.now.given c.requires uuid_long c.loop-i.invariant c.loop-i-test.true c.share-count.ensures in
    round.next _ _ c.after-right.ensures c.write_node.ensures

pub returns : goal.returns
returns c =
    let a = c.args in
    let l = c.loop-i in
    nodes-done a.self.now.g a.self.now.kind a.self.now.list.now a.self.now.levels.now a.level a.below.now a.blocks.now a.out.now l.out l.i l.child l.left l.invariant (omega (arith, l.invariant.most, c.loop-i-test.false))
