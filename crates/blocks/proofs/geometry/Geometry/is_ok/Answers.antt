-- `blocks::geometry::Geometry::is_ok` meets its contract: the quotient decides the product (`product64`).
use native.Mathlib.Omega.{arith}
use mathlib.Core.Path.{◌≡◌, sym, ◌∙◌}
use mathlib.Core.Bool.{true}
use Rattle.std.proofs.lemmas.Grind.{common_steps}
use Rattle.blocks.specs.Geometry.{is_version, is_block_size, linear_of, geometry_ok}
use Rattle.blocks.proofs.Laws.{size-within, product64}
use Rattle.blocks.proofs.geometry.Geometry.is_ok.Goals as goal

pub returns-then-not-is_version : goal.returns-then-not-is_version
unfolding geometry_ok
returns-then-not-is_version c = grind (arith, common_steps)

pub nonzero_div-result : goal.nonzero_div-result
nonzero_div-result c =
    let g = c.args.self in
    let s : is_block_size g.blocksize ≡ true = sym c.is_block_size.ensures ∙ c.if-not-is_block_size.false in
    omega (arith, size-within g.blocksize s)

pub returns : goal.returns
unfolding geometry_ok
returns c =
    let g = c.args.self in
    let v : is_version g.version ≡ true = sym c.is_version.ensures ∙ c.if-not-is_version.false in
    let s : is_block_size g.blocksize ≡ true = sym c.is_block_size.ensures ∙ c.if-not-is_block_size.false in
    rw (v, s) (product64 (linear_of g 4294967295) g.blocksize (omega (arith, size-within g.blocksize s)) _ c.linear.ensures)
