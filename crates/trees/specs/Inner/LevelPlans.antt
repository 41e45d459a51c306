-- The levels of a plan before 16 is answered.
-- Assumes nothing.
use Rattle.std.specs.Prelude.{ℕ, ◌≡◌, true, false, List, leb, length, Option, Some, None}
use Rattle.trees.specs.declared.plan.Planned.{Planned}
use Rattle.trees.specs.Plan.{sum}
use Rattle.trees.specs.PlanAnswer.{places_of}

-- a plan of the levels ls, of which there are up to 9
pub record PlanOf (ls : List ℕ) (p : Planned) : Type 0 where
  pub few : leb (length ls) 9 ≡ true
  pub levels : p.levels ≡ length ls
  pub places : p.blocks ≡ places_of ls
  pub all : p.total ≡ sum ls

-- their plan, or none where there are more
abbrev pub LevelsAre : List ℕ → Option Planned → Type 0
LevelsAre ls (Some p) = PlanOf ls p
LevelsAre ls None = leb (length ls) 9 ≡ false
