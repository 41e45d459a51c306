-- `trees::keys::greater_key` meets its contract.
use mathlib.Core.Path.{sym, ◌∙◌}
use Rattle.trees.proofs.KeyLaws.{greater-old, greater-new}
use Rattle.trees.proofs.keys.greater_key.Goals as goal

pub returns-then-is_below : goal.returns-then-is_below
returns-then-is_below c = greater-old _ _ (sym c.is_below.ensures ∙ c.if-is_below.true)

pub returns-else-is_below : goal.returns-else-is_below
returns-else-is_below c = greater-new _ _ (sym c.is_below.ensures ∙ c.if-is_below.false)
