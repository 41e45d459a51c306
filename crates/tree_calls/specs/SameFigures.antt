-- What the call on two lists of free extents says.
-- Assumes nothing.
use Rattle.std.specs.Prelude.{ℕ, Bool, List, [], ◌∷◌}
use Rattle.tree_calls.specs.WalkFigures.{yes_figure}

-- 1 where both hold the same extents, equally often, else 0
abbrev pub same_figures : Bool → List ℕ
same_figures so = yes_figure so ∷ 0 ∷ 0 ∷ 0 ∷ []
