-- `trees::build::Source::put_all_keys` meets its contract. The invariant is `KeysSo`; `round` has what one turn of the loop needs.
use Prim.Native.Nat.{ℕ, ◌/◌, ◌^◌, ◌<◌}
use mathlib.Core.Path.{ap, ◌∙◌}
use native.Mathlib.Nat.{div-le_self}
use native.Mathlib.Omega.{arith}
use Rattle.blocks.specs.Tree.{record_len}
use lib.ListN.{length}
use Rattle.trees.specs.Plan.{first_of}
use Rattle.trees.proofs.NodeWriting.{keys-start, keys-done, key-round, planned-by, level-most}
use borrow.Author.Rules.{rules}
use Rattle.trees.proofs.build.Source.put_all_keys.Goals as goal

pub first-from-requires : goal.first-from-requires
first-from-requires c =
    let a = c.args in
    (planned-by a.self.now.kind a.self.now.list.now a.self.now.levels.now a.level c.record_len.result c.record_len.ensures c.requires.0.planned, omega (arith, c.requires.0.last))

pub loop-j-init : goal.loop-j-init
loop-j-init c =
    let a = c.args in
    let w = c.record_len in
    keys-start a.self.now.kind a.self.now.list.now a.self.now.levels.now a.level a.child a.below.now a.b.now a.at c.first-from.result
    (c.first-from.ensures.0 ∙ ap (λ (x : ℕ). first_of (length a.self.now.list.now / x) a.self.now.levels.now a.level a.child) w.ensures)

pub overflow_add-child : goal.overflow_add-child
overflow_add-child c =
    let list-small : length c.args.self.now.list.now < 2 ^ 63 = search rules in
    omega (arith, c.requires.0.last, c.loop-j-test.true, level-most _ _ _ c.requires.0.planned, div-le_self (length c.args.self.now.list.now) (record_len c.args.self.now.kind))

pub overflow_add-child-in-loop-j : goal.overflow_add-child-in-loop-j
overflow_add-child-in-loop-j c =
    let list-small : length c.args.self.now.list.now < 2 ^ 63 = search rules in
    omega (arith, c.requires.0.last, c.loop-j-test.true, level-most _ _ _ c.requires.0.planned, div-le_self (length c.args.self.now.list.now) (record_len c.args.self.now.kind))

pub first-to-requires : goal.first-to-requires
first-to-requires c =
    let a = c.args in
    let w = c.record_len in
    (planned-by a.self.now.kind a.self.now.list.now a.self.now.levels.now a.level w.result w.ensures c.requires.0.planned, omega (arith, c.requires.0.last, c.loop-j-test.true))

pub overflow_mul-j : goal.overflow_mul-j
overflow_mul-j c =
    let b-small : length c.args.b.now < 2 ^ 63 = search rules in
    omega (arith, (key-round _ _ _ _ _ _ _ _ c.requires.0 c.requires.1 c.loop-j.invariant c.loop-j-test.true c.keys_len-long.ensures c.record_len.ensures c.first-to.ensures.0).room, b-small)

pub overflow_add-at : goal.overflow_add-at
overflow_add-at c =
    let b-small : length c.args.b.now < 2 ^ 63 = search rules in
    omega (arith, (key-round _ _ _ _ _ _ _ _ c.requires.0 c.requires.1 c.loop-j.invariant c.loop-j-test.true c.keys_len-long.ensures c.record_len.ensures c.first-to.ensures.0).room, b-small)

pub put_keys-requires : goal.put_keys-requires
put_keys-requires c =
    let r = key-round _ _ _ _ _ _ _ _ c.requires.0 c.requires.1 c.loop-j.invariant c.loop-j-test.true c.keys_len-long.ensures c.record_len.ensures c.first-to.ensures.0 in
    (r.under, omega (arith, r.room, c.loop-j.invariant.long))

pub loop-j-preserved : goal.loop-j-preserved
loop-j-preserved c =
    (key-round _ _ _ _ _ _ _ _ c.requires.0 c.requires.1 c.loop-j.invariant c.loop-j-test.true c.keys_len-long.ensures c.record_len.ensures c.first-to.ensures.0).next _ (search rules) c.put_keys.ensures

pub returns : goal.returns
returns c =
    let a = c.args in
    let l = c.loop-j in
    keys-done a.self.now.kind a.self.now.list.now a.self.now.levels.now a.level a.child a.below.now a.b.now a.at l.b l.from l.j l.invariant (omega (arith, l.invariant.most, c.loop-j-test.false))
