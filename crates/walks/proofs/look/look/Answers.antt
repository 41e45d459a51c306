use mathlib.Core.Path.{◌≡◌, sym, ap, ◌∙◌}
use mathlib.Core.List.{List}
use lib.ListN.{length, take, drop}
use Prim.Native.Nat.{ℕ, ◌+◌, ◌-◌, ◌*◌, ◌≤◌}
use Rattle.blocks.specs.Refusal.{checked_outcome}
use Rattle.blocks.specs.declared.geometry.Geometry.{Geometry}
use Rattle.blocks.specs.declared.kind.TreeKind.{TreeKind}
use Rattle.blocks.specs.Check.{check_block}
use Rattle.walks.specs.Walk.{visit_of}
use Rattle.walks.specs.Shapes.{shape_of, header_in}
use Rattle.walks.proofs.LookLaws.{header-checked, part_is}
use Rattle.walks.proofs.look.look.Goals as goal

-- the part of the image that is checked is the block
block-checked : (g : Geometry) (kind : TreeKind) (image : List ℕ) (block level : ℕ) → block * g.blocksize + g.blocksize ≤ length image
    → check_block g kind block level (take (block * g.blocksize + g.blocksize - block * g.blocksize) (drop (block * g.blocksize) image)) ≡ header_in g kind image (visit_of block level)
block-checked g kind image block level h =
    ap (check_block g kind block level) (part_is (shape_of g kind) image block level) ∙ sym (header-checked g kind image block level h)

pub returns-in_default : goal.returns-in_default
returns-in_default c =
    let a = c.args in
    rw c.from.ensures (sym (ap checked_outcome c.unwrap_err.ensures) ∙ c.check_block-checked.ensures ∙ block-checked a.g a.kind a.image.now a.block.0 a.level c.if-image-end.false)

pub returns : goal.returns
returns c =
    let a = c.args in
    sym (ap checked_outcome c.in-Ok.is) ∙ c.check_block-checked.ensures ∙ block-checked a.g a.kind a.image.now a.block.0 a.level c.if-image-end.false
