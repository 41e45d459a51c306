-- What the steps of a descent promise one another.
-- Assumes nothing.
use Rattle.std.specs.Prelude.{◌≡◌, ℕ, ◌+◌, ◌-◌, ◌^◌, ◌<◌, ◌≤◌, List, [], ◌∷◌, length, slice_index, Option, Some, None, Result, Ok, Err}
use Rattle.codec.specs.declared.rmap.Rmap.{Rmap}
use Rattle.walks.specs.declared.path.Due.{Due}
use Rattle.walks.specs.Walk.{Visit, visit_of, Shape}
use Rattle.walks.specs.WalkCall.{stack_places}
use Rattle.walks.specs.Path.{path_of, Opened}
use Rattle.lookup.specs.declared.lookup.LookedUp.{LookedUp}
use Rattle.lookup.specs.declared.refusal.StoppedLookup.{StoppedLookup}
use Rattle.lookup.specs.Inner.Tally.{tallied, summed}

-- the next block due, and the pairs without it
pub record Taken (due : ℕ → ℕ → ℕ → List Visit) (s : Shape) (image : List ℕ) (block level low levels : ℕ) (p p' : List ℕ) : Type 0 where
  pub small : block < 2 ^ 32
  pub inside : level + 1 < levels
  pub opened : Opened s image p' (level + 1) levels
  pub path : path_of due p low (levels - low) ≡ visit_of block level ∷ path_of due p' (level + 1) (levels - (level + 1))

abbrev pub TakenIs : (ℕ → ℕ → ℕ → List Visit) → Shape → List ℕ → Option Due → ℕ → ℕ → List ℕ → List ℕ → Type 0
TakenIs due s image (Some d) low levels p p' = Taken due s image d.block d.level low levels p p'
TakenIs due s image None low levels p p' = path_of due p low (levels - low) ≡ []

-- the numbers' answers are zero
abbrev pub Zeroed : List ℕ → List ℕ → Type 0
Zeroed asked l = (i : ℕ) → i < length asked → slice_index l i ≡ 0

-- what holds once 11, 12 and 29 are asked
pub record Ready (levels limit : ℕ) (asked stack answers : List ℕ) : Type 0 where
  pub least : 1 ≤ levels
  pub most : levels ≤ 9
  pub deep : stack_places ≤ length stack
  pub few : limit < 2 ^ 32
  pub room : length asked ≤ length answers

-- what a finished descent adds to the counts
abbrev pub Added : Result LookedUp StoppedLookup → List Rmap → List ℕ → List ℕ → List ℕ → Type 0
Added (Ok l) rs asked answers answers' = summed (length asked) answers' ≡ tallied rs asked (summed (length asked) answers)
Added (Err s) rs asked answers answers' = Unit {0}
