-- The figures of a checked block, of a plan and of a build, and what a plan and a build say and leave, each with what was lent before and after it.
-- Assumes nothing.
use Rattle.std.specs.Prelude.{ℕ, ◌≡◌, List, [], ◌∷◌, length}
use Rattle.codec.specs.Question.{Outcome, done, refused, map_outcome}
use Rattle.trees.specs.PlanAnswer.{places_of}
use Rattle.codec.specs.Output.{out_after}
use Rattle.interface.specs.Interface.{Says}
use Rattle.blocks.specs.declared.check.Header.{Header}
use Rattle.trees.specs.Plan.{sum}

-- of a checked block: its records, how many it could hold, and the blocks that it names before and after it on its level
abbrev pub header_figures : Header → List ℕ
header_figures h = h.numrecs ∷ h.maxrecs ∷ h.leftsib.0 ∷ h.rightsib.0 ∷ []

-- of a plan: its levels, and the blocks of all of them
abbrev pub plan_figures : List ℕ → List ℕ
plan_figures ls = length ls ∷ sum ls ∷ 0 ∷ 0 ∷ []

-- of a build: its blocks and their bytes
abbrev pub build_figures : ℕ → ℕ → List ℕ
build_figures blocks bytes = blocks ∷ bytes ∷ 0 ∷ 0 ∷ []

-- the nine lent places of a plan afterwards: the blocks of each level and zeros after them; a refusal leaves them as they were
abbrev pub places_after : Outcome (List ℕ) → List ℕ → List ℕ
places_after (done ls) levels = places_of ls
places_after (refused n v) levels = levels

-- a plan that comes to o
pub record PlanSays (o : Outcome (List ℕ)) (r : ℕ) (said levels levels' : List ℕ) : Type 0 where
  pub answer : Says plan_figures o r said
  pub places : levels' ≡ places_after o levels

-- a build that comes to o, of blocks with these numbers
pub record BuildSays (o : Outcome (List ℕ)) (numbers : List ℕ) (r : ℕ) (said out out' : List ℕ) : Type 0 where
  pub answer : Says (build_figures (length numbers)) (map_outcome length o) r said
  pub wrote : out' ≡ out_after o out
