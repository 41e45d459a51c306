-- The level falls from call to call. The invariant: where the walk stood before the first child it stands, after
-- the children read, before the next.
use Rattle.std.proofs.Common.{◌*◌, ◌-◌, ℕ, List, ◌++◌, length}
use Rattle.blocks.specs.Tree.{record_len}
use Rattle.walks.specs.Walk.{Visit, Trace, look_in}
use Rattle.walks.specs.Shapes.{shape_of}
use Rattle.walks.specs.Path.{every, due_in}
use Rattle.walks.specs.OneVisit.{Fitting}
use Rattle.walks.specs.Underway.{Walking}
use Rattle.book.proofs.subtree.+read_block_read_children.Given as goal

abbrev pub decreases-read_block : goal.decreases-read_block
decreases-read_block l = l.level * 2

abbrev pub decreases-read_children : goal.decreases-read_children
decreases-read_children l = l.level * 2 - 1

abbrev pub invariant-read_children-loop-i : goal.invariant-read_children-loop-i
invariant-read_children-loop-i l =
    Fitting l.scratch l.out l.limits.blocks l.count
    × ((total : Trace) (o : List ℕ) (later : List Visit)
    → Walking (look_in (shape_of l.tree.g l.tree.kind) l.tree.image.now) l.limits.visits l.limits.blocks (length l.initial.out) (record_len l.tree.kind) total o l.initial.scratch l.initial.out l.initial.count.visits l.initial.count.bytes
    (due_in every (shape_of l.tree.g l.tree.kind) l.tree.image.now l.level l.node 0 ++ later)
    → Walking (look_in (shape_of l.tree.g l.tree.kind) l.tree.image.now) l.limits.visits l.limits.blocks (length l.initial.out) (record_len l.tree.kind) total o l.scratch l.out l.count.visits l.count.bytes
    (due_in every (shape_of l.tree.g l.tree.kind) l.tree.image.now l.level l.node l.i ++ later))
