-- `trees::build::Source::build_levels` meets its contract.
use native.Mathlib.Omega.{arith}
use mathlib.Core.Path.{◌≡◌}
use Prim.Native.Nat.{◌^◌, ◌<◌}
use lib.ListN.{length}
use Rattle.blocks.proofs.Laws.{blocksize-within}
use Rattle.trees.proofs.BuildLaws.{not-17, not-18, fits-18, tree-18, done-18}
use borrow.Author.Rules.{rules}
use Rattle.trees.proofs.build.Source.build_levels.Goals as goal

pub returns-then-total-count : goal.returns-then-total-count
returns-then-total-count c =
    let a = c.args in
    not-17 a.self.now.g a.self.now.kind a.self.now.list.now a.self.now.levels.now a.numbers.now a.out.now a.total a.self.now.given a.self.now.laid c.requires (omega (arith, c.if-total-count.true))

pub nonzero_div-out : goal.nonzero_div-out
nonzero_div-out c =
    let a = c.args in
    omega (arith, (blocksize-within a.self.now.g a.self.now.given.ok).0)

pub returns-then-out-size : goal.returns-then-out-size
returns-then-out-size c =
    let a = c.args in
    not-18 a.self.now.g a.self.now.kind a.self.now.list.now a.self.now.levels.now a.numbers.now a.out.now a.total a.self.now.given a.self.now.laid c.requires (omega (arith, c.if-total-count.false)) c.if-out-size.true

pub write_tree-requires : goal.write_tree-requires
write_tree-requires c =
    let a = c.args in
    tree-18 a.self.now.g a.self.now.kind a.self.now.list.now a.self.now.levels.now a.numbers.now a.out.now a.total a.self.now.given a.self.now.laid c.requires (omega (arith, c.if-total-count.false)) (omega (arith, c.if-out-size.false))

pub overflow_mul-result : goal.overflow_mul-result
overflow_mul-result c =
    let out-small : length c.args.out.now < 2 ^ 63 = search rules in
    let a = c.args in
    omega (arith, fits-18 a.self.now.g a.self.now.kind a.self.now.list.now a.self.now.levels.now a.numbers.now a.out.now a.total a.self.now.given a.self.now.laid c.requires (omega (arith, c.if-total-count.false)) (omega (arith, c.if-out-size.false)), out-small)

pub returns : goal.returns
returns c =
    let uuid_long : length c.args.self.now.g.meta_uuid ≡ 16 = search rules in
    let a = c.args in
    done-18 a.self.now.g a.self.now.kind a.self.now.list.now a.self.now.levels.now a.numbers.now a.out.now a.total a.self.now.given a.self.now.laid c.requires (omega (arith, c.if-total-count.false)) (omega (arith, c.if-out-size.false)) (uuid_long) _ c.write_tree.ensures
