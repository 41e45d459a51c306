-- `lists::rmap_edits::later` meets its contract.
use native.Mathlib.Omega.{arith}
use Rattle.lists.proofs.Placing.{good-end, later-is}
use Rattle.lists.proofs.rmap_edits.later.Goals as goal

pub overflow_cast-result : goal.overflow_cast-result
overflow_cast-result c = omega (arith, good-end _ c.requires.0)

pub returns : goal.returns
returns c = later-is c.args.x c.args.w _ _ _ c.end-stop.ensures c.end-whole.ensures c.moved.ensures
