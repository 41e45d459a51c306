-- `blocks::geometry::AgBlock::linear` meets its contract: the product and the sum fit 64 bits (`product32`).
use borrow.Author.Rules.{rules}
use native.Mathlib.Omega.{arith}
use Rattle.blocks.proofs.Laws.{product32}
use Rattle.blocks.proofs.geometry.AgBlock.linear.Goals as goal

pub overflow_mul-result : goal.overflow_mul-result
overflow_mul-result c =
    let g = c.args.g in
    omega (arith, product32 g.agno g.agblocks (search rules) (search rules))

pub overflow_add-result : goal.overflow_add-result
overflow_add-result c =
    let g = c.args.g in
    omega (arith, product32 g.agno g.agblocks (search rules) (search rules))
