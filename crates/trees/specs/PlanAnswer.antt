-- What a plan comes to, and what its answer says.
-- Assumes nothing.
use Rattle.std.specs.Prelude.{ℕ, ◌-◌, ◌≤◌, ◌≡◌, List, [], ◌∷◌, ◌++◌, length, take, replicate, Result, Ok, Err}
use Rattle.codec.specs.Question.{Values, none, Outcome, done, refused, ask, answer}
use Rattle.blocks.specs.declared.geometry.Geometry.{Geometry}
use Rattle.blocks.specs.declared.kind.TreeKind.{TreeKind}
use Rattle.blocks.specs.Geometry.{geometry_ok}
use Rattle.trees.specs.declared.plan.PlanRefusal.{PlanRefusal}
use Rattle.trees.specs.declared.plan.PlanRefusal.TheVariants as why
use Rattle.trees.specs.declared.plan.Planned.{Planned}
use Rattle.trees.specs.Plan.{planned, sum}
use Rattle.walks.specs.Walk.{per_leaf, per_node}
use Rattle.walks.specs.Shapes.{shape_of}

-- 1, then 16: the blocks of each level, leaves first
abbrev pub plan_outcome : Geometry → TreeKind → ℕ → Outcome (List ℕ)
plan_outcome g kind records =
    answer (ask 1 (geometry_ok g) ∷ []) (planned (per_leaf (shape_of g kind)) (per_node (shape_of g kind)) records)

-- the levels of a plan that was accepted
abbrev pub levels_in : Outcome (List ℕ) → List ℕ
levels_in (done ls) = ls
levels_in (refused n x) = []

-- the nine places of an answer: the blocks of each level, and zeros after them
abbrev pub places_of : List ℕ → List ℕ
places_of ls = ls ++ replicate (9 - length ls) 0

abbrev pub plan_number : PlanRefusal → ℕ
plan_number why.BadGeometry = 1
plan_number why.Levels = 16

-- no question of a plan has values
abbrev pub plan_values : PlanRefusal → Values
plan_values r = none

abbrev pub answer_outcome : Result Planned PlanRefusal → Outcome (List ℕ)
answer_outcome (Ok p) = done (take p.levels p.blocks)
answer_outcome (Err r) = refused (plan_number r) (plan_values r)

-- how many levels an answer says, its nine places, and the number of all blocks: a refusal has none
abbrev pub levels_said : Result Planned PlanRefusal → ℕ
levels_said (Ok p) = p.levels
levels_said (Err r) = 0

abbrev pub places_said : Result Planned PlanRefusal → List ℕ
places_said (Ok p) = p.blocks
places_said (Err r) = replicate 9 0

abbrev pub total_said : Result Planned PlanRefusal → ℕ
total_said (Ok p) = p.total
total_said (Err r) = 0

-- an answer that says what a plan comes to, with its places and the number of all blocks, which are zero where it was refused
pub record PlanIs (o : Outcome (List ℕ)) (p : Result Planned PlanRefusal) : Type 0 where
  pub outcome : answer_outcome p ≡ o
  pub levels : levels_said p ≡ length (levels_in o)
  pub few : levels_said p ≤ 9
  pub places : places_said p ≡ places_of (levels_in o)
  pub all : total_said p ≡ sum (levels_in o)
