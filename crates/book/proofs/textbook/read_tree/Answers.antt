-- `book::textbook::read_tree` meets its contract.
use native.Mathlib.Omega.{arith}
use mathlib.Core.Path.{refl, ◌∙◌}
use mathlib.Core.List.{[], ◌∷◌}
use Prim.Native.Nat.{◌-◌}
use lib.ListN.{length}
use Rattle.blocks.specs.Tree.{record_len}
use Rattle.walks.specs.Walk.{visit_of, Trace, look_in}
use Rattle.walks.specs.Shapes.{shape_of}
use Rattle.walks.specs.WalkCall.{walk_in}
use Rattle.walks.proofs.WalkLaws.{walking-first, walking-ended, walking-seen, walking-read, end_whole}
use Rattle.walks.proofs.CallLaws.{call-read, call-refused}
use Rattle.book.specs.Inner.Subtree.{Reached}
use Rattle.book.proofs.textbook.read_tree.Goals as goal
use Rattle.book.proofs.textbook.read_tree.Goals.{After-read_block}

-- where the walk stands after its root and all below it
reached : (c : After-read_block) → let a = c.args in
    Reached (look_in (shape_of a.tree.now.g a.tree.now.kind) a.tree.now.image.now) (record { visits = c.limit_of.result; blocks = length a.blocks.now }) (length a.out.now) (record_len a.tree.now.kind)
    (walk_in (shape_of a.tree.now.g a.tree.now.kind) a.tree.now.image.now a.root a.levels c.limit_of.result (length a.blocks.now) (length a.out.now)) a.out.now
    c.read_block.new.scratch c.read_block.new.out c.read_block.result []
unfolding walk_in
reached c =
    let a = c.args in
    c.read_block.ensures.reads _ a.out.now []
    (walking-first (look_in (shape_of a.tree.now.g a.tree.now.kind) a.tree.now.image.now) c.limit_of.result (length a.blocks.now) (record_len a.tree.now.kind) a.scratch.now a.out.now
    (visit_of a.root (a.levels - 1) ∷ []) c.requires.noting)

pub finish-requires : goal.finish-requires
finish-requires c =
    let h = reached (goal.at.finish-requires c).After-read_block in
    let k = rw c.in-Ok.is at h in
    (omega (arith, k.placed, k.noting), k.placed)

pub returns-in-Err : goal.returns-in-Err
returns-in-Err c =
    let a = c.args in
    let d = c.read_block in
    let total : Trace = walk_in (shape_of a.tree.now.g a.tree.now.kind) a.tree.now.image.now a.root a.levels c.limit_of.result (length a.blocks.now) (length a.out.now) in
    let h = reached (goal.at.returns-in-Err c).After-read_block in
    let k = rw c.in-Err.is at h in
    rw (← c.limit_of.ensures.0)
    (call-refused (record_len a.tree.now.kind) a.levels total [] [] [] a.scratch.now d.new.scratch _ a.blocks.now _ a.out.now d.new.out
    refl d.auto.scratch refl c.wipe.ensures.0 _ c.in-Err.stopped _ refl
    (k ∙ end_whole (record_len a.tree.now.kind) total)
    d.auto.out c.wipe.ensures.1 c.wipe.ensures.2)

pub returns-in-Ok : goal.returns-in-Ok
returns-in-Ok c =
    let a = c.args in
    let d = c.read_block in
    let total : Trace = walk_in (shape_of a.tree.now.g a.tree.now.kind) a.tree.now.image.now a.root a.levels c.limit_of.result (length a.blocks.now) (length a.out.now) in
    let h = reached (goal.at.returns-in-Ok c).After-read_block in
    let k = rw c.in-Ok.is at h in
    rw (← c.limit_of.ensures.0, c.read_all.ensures)
    (call-read (record_len a.tree.now.kind) a.levels total [] [] [] a.scratch.now d.new.scratch _ a.blocks.now _ a.out.now d.new.out
    refl d.auto.scratch refl c.finish.ensures.1 _ _ refl
    (walking-ended k refl ∙ end_whole (record_len a.tree.now.kind) total) (walking-seen k refl, walking-read k refl) c.finish.ensures.0)
