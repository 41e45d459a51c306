-- `sheets::read::copy_changes` meets its contract. The invariant is `Copied`: what is there, with the changes of the blocks from the index on, is the whole.
use Prim.Native.Nat.{◌*◌, ◌/◌, ◌^◌, ◌<◌, ◌≤◌}
use native.Mathlib.Omega.{arith}
use mathlib.Core.List.{[]}
use mathlib.Core.Path.{◌≡◌}
use lib.ListN.{length, get_or}
use borrow.Author.Rules.{rules}
use Rattle.codec.specs.Bytes.{bytes_at}
use Rattle.codec.proofs.Chunks.{chunk-at}
use Rattle.sheets.proofs.Reading.{copy_start, copy_done, few, fits, copy_more}
use Rattle.sheets.proofs.read.copy_changes.Goals as goal
use Rattle.sheets.proofs.read.copy_changes.Goals.{After-be16}

pub loop-b-init : goal.loop-b-init
loop-b-init c = copy_start _ _ c.requires.0

-- the block read, and where
inside : (c : After-be16) → c.loop-b.b-index < length c.args.sheet.now / 512
inside c = omega (arith, c.as_chunks.ensures.front_len)

block-is : (c : After-be16) → get_or c.as_chunks.result.0.now c.loop-b.b-index [] ≡ bytes_at c.args.sheet.now (c.loop-b.b-index * 512) 512
block-is c = chunk-at 512 c.args.sheet.now c.as_chunks.ensures.front c.loop-b.b-index (inside c)

counted : (c : After-be16) → c.be16.result ≤ 15
counted c = few _ _ _ _ _ _ c.requires.1 c.loop-b.invariant (inside c) _ (block-is c) c.be16.ensures

pub slice_bounds-copy-end : goal.slice_bounds-copy-end
slice_bounds-copy-end c = omega (arith, counted (goal.at.slice_bounds-copy-end c).After-be16)

pub copy-requires : goal.copy-requires
copy-requires c =
    let b = (goal.at.copy-requires c).After-be16 in
    fits _ _ _ _ _ _ c.requires.1 c.loop-b.invariant (inside b) _ (block-is b) c.be16.ensures

pub loop-b-preserved : goal.loop-b-preserved
loop-b-preserved c =
    let b = (goal.at.loop-b-preserved c).After-be16 in
    copy_more _ _ _ _ _ _ c.requires.1 c.loop-b.invariant (inside b) _ (block-is b) c.be16.ensures _ c.copy.ensures

pub overflow_add-at : goal.overflow_add-at
overflow_add-at c =
    let b = (goal.at.overflow_add-at c).After-be16 in
    let m = copy_more _ _ _ _ _ _ c.requires.1 c.loop-b.invariant (inside b) _ (block-is b) c.be16.ensures _ c.copy.ensures in
    let small : length c.args.changes.now < 2 ^ 63 = search rules in
    omega (arith, m.far)

pub shape_of-changes : goal.shape_of-changes
shape_of-changes c = c.loop-b.invariant.same

pub returns : goal.returns
returns c = copy_done _ _ _ _ _ c.loop-b.invariant (omega (arith, c.as_chunks.ensures.front_len))
