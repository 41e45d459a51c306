-- `sheets::write::put_blocks` meets its contract. The invariant is `Laid`: what is there, with the blocks from i on, is the whole.
use Prim.Native.Nat.{◌+◌, ◌*◌, ◌^◌, ◌≤◌, ◌<◌, min}
use native.Mathlib.Omega.{arith}
use mathlib.Core.Path.{◌≡◌}
use lib.ListN.{length, length-take, length-drop}
use borrow.Author.Rules.{rules}
use Rattle.sheets.proofs.Writing.{lay-start, lay_done, starts, numbered, ends, part-most, lay-more}
use Rattle.sheets.proofs.write.put_blocks.Goals as goal
use Rattle.sheets.proofs.write.put_blocks.Goals.{In-loop-i, After-min-to}

pub loop-i-init : goal.loop-i-init
loop-i-init c = lay-start _ _ _

-- where block i and its changes begin, and that it has room
begins : (c : In-loop-i) → c.loop-i.i * 480 ≤ length c.args.list.now
begins c = starts _ _ _ _ _ c.blocks_for-n.ensures c.requires.0 c.requires.1 c.loop-i.invariant c.loop-i-test.true

few : (c : In-loop-i) → c.loop-i.i < 65536
few c = numbered _ _ _ _ _ c.blocks_for-n.ensures c.requires.0 c.requires.1 c.loop-i.invariant c.loop-i-test.true

fits : (c : In-loop-i) → c.loop-i.i * 512 + 512 ≤ length c.loop-i.sheet
fits c = ends _ _ _ _ _ c.blocks_for-n.ensures c.requires.0 c.requires.1 c.loop-i.invariant c.loop-i-test.true

-- where its changes end
until : (c : After-min-to) → c.min-to.result ≡ min (c.loop-i.i * 480 + 480) (length c.args.list.now)
until c = omega (arith, c.min-to.ensures)

pub overflow_mul-from : goal.overflow_mul-from
overflow_mul-from c =
    let b = begins (goal.at.overflow_mul-from c).In-loop-i in
    let small : length c.args.list.now < 2 ^ 63 = search rules in
    omega (arith, b)

pub overflow_mul-a : goal.overflow_mul-a
overflow_mul-a c = omega (arith, few (goal.at.overflow_mul-a c).In-loop-i)

pub overflow_add-e : goal.overflow_add-e
overflow_add-e c = omega (arith, few (goal.at.overflow_add-e c).In-loop-i)

pub slice_bounds-put_block-count : goal.slice_bounds-put_block-count
slice_bounds-put_block-count c =
    let at = goal.at.slice_bounds-put_block-count c in
    omega (arith, begins at.In-loop-i, until at.After-min-to)

pub slice_bounds-put_block-start : goal.slice_bounds-put_block-start
slice_bounds-put_block-start c =
    let at = goal.at.slice_bounds-put_block-start c in
    omega (arith, begins at.In-loop-i, until at.After-min-to)

pub slice_bounds-put_block-end : goal.slice_bounds-put_block-end
slice_bounds-put_block-end c = omega (arith, until (goal.at.slice_bounds-put_block-end c).After-min-to)

pub overflow_cast-i : goal.overflow_cast-i
overflow_cast-i c = omega (arith, few (goal.at.overflow_cast-i c).In-loop-i)

pub overflow_add-i : goal.overflow_add-i
overflow_add-i c = omega (arith, few (goal.at.overflow_add-i c).In-loop-i)

pub slice_bounds-put_block-end-in-loop-i : goal.slice_bounds-put_block-end-in-loop-i
slice_bounds-put_block-end-in-loop-i c = omega (arith, fits (goal.at.slice_bounds-put_block-end-in-loop-i c).In-loop-i)

pub put_block-requires : goal.put_block-requires
put_block-requires c =
    let at = goal.at.put_block-requires c in
    let f = fits at.In-loop-i in (
      simp (length-take, length-drop) (omega arith),
      part-most _ _ _ _ _ c.blocks_for-n.ensures c.requires.0 c.requires.1 c.loop-i.invariant c.loop-i-test.true _ (until at.After-min-to),
    )

pub loop-i-preserved : goal.loop-i-preserved
loop-i-preserved c =
    lay-more _ _ _ _ _ c.blocks_for-n.ensures c.requires.0 c.requires.1 c.loop-i.invariant c.loop-i-test.true _ (until (goal.at.loop-i-preserved c).After-min-to) _
    c.put_block.ensures

pub shape_of-sheet : goal.shape_of-sheet
shape_of-sheet c = c.loop-i.invariant.same

pub returns : goal.returns
returns c = lay_done _ _ _ _ _ c.blocks_for-n.ensures c.loop-i.invariant c.loop-i-test.false
