-- `lists::rmap_edits::moved` meets its contract.
use native.Mathlib.Omega.{arith}
use mathlib.Core.Path.{sym, ◌∙◌}
use Rattle.lists.proofs.Placing.{moved-fits}
use Rattle.lists.proofs.rmap_edits.moved.Goals as goal

pub overflow_add-result : goal.overflow_add-result
overflow_add-result c = omega (arith, moved-fits c.args.w c.args.n c.requires.0 (sym c.exempt.ensures ∙ c.if-exempt.false) c.requires.1 (omega arith))
