-- `lists::search::noted` meets its contract.
use mathlib.Core.Path.{sym, ◌∙◌}
use Rattle.lists.proofs.Scanning.{noted-apart}
use Rattle.lists.proofs.search.noted.Goals as goal

pub returns-then-not-touches : goal.returns-then-not-touches
returns-then-not-touches c = noted-apart _ _ _ _ _ _ (sym c.touches.ensures ∙ c.if-not-touches.true) c.requires
