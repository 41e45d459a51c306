-- `trees::keys::high_key` meets its contract.
use mathlib.Core.Path.{sym, ◌∙◌}
use native.Mathlib.Omega.{arith}
use Rattle.trees.proofs.KeyLaws.{good-means, high-exempt, high-plain, high_fits}
use Rattle.trees.proofs.keys.high_key.Goals as goal

pub overflow_sub-more : goal.overflow_sub-more
overflow_sub-more c = omega (arith, (good-means _ c.requires).0)

pub overflow_add-start : goal.overflow_add-start
overflow_add-start c = let g = good-means _ c.requires in omega (arith, g.0, g.1)

pub overflow_add-offset : goal.overflow_add-offset
overflow_add-offset c = omega (arith, high_fits c.args.r.offset c.args.r.blockcount (omega arith) ((good-means _ c.requires).2 (sym c.exempt.ensures ∙ c.if-exempt.false)))

pub returns-then-exempt : goal.returns-then-exempt
returns-then-exempt c = high-exempt _ (sym c.exempt.ensures ∙ c.if-exempt.true)

pub returns-else-exempt : goal.returns-else-exempt
returns-else-exempt c = high-plain _ (sym c.exempt.ensures ∙ c.if-exempt.false)
