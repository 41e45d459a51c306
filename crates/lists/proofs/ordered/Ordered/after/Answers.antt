-- `lists::ordered::Ordered::after` meets its contract.
use native.Mathlib.Omega.{arith}
use mathlib.Core.Path.{◌∙◌}
use Rattle.lists.proofs.Placing.{good-end}
use Rattle.lists.proofs.Scanning.{seat-beyond}
use Rattle.lists.proofs.ordered.Ordered.after.Goals as goal

pub overflow_add-x : goal.overflow_add-x
overflow_add-x c = omega (arith, good-end _ c.requires)

pub returns : goal.returns
returns c = c.seat.ensures ∙ seat-beyond c.args.x _
