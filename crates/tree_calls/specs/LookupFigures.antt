-- What a lookup says and leaves. Where it is refused its third figure is the visits, as of a walk.
-- Assumes nothing.
use Rattle.std.specs.Prelude.{ℕ, ◌≡◌, List, [], ◌∷◌}
use Rattle.codec.specs.Question.{Outcome}
use Rattle.walks.specs.Walk.{Trace}
use Rattle.walks.specs.WalkCall.{scratch_after}
use Rattle.lookup.specs.Lookup.{answers_after}
use Rattle.lookup.specs.Answer.{Visited, visits_report}
use Rattle.tree_calls.specs.WalkFigures.{TellsVisits}

-- its visits
abbrev pub lookup_figures : ℕ → List ℕ
lookup_figures visits = visits ∷ 0 ∷ 0 ∷ 0 ∷ []

abbrev pub ReportsVisits : Visited → ℕ → List ℕ → Type 0
ReportsVisits p r said = TellsVisits lookup_figures p.outcome p.passed r said

-- a lookup of these numbers that comes to o, and the two lent slices after it
pub record LookupSays (asked : List ℕ) (o : Outcome Trace) (r : ℕ) (said stack stack' answers answers' : List ℕ) : Type 0 where
  pub answer : ReportsVisits (visits_report o) r said
  pub stack_is : stack' ≡ scratch_after o stack
  pub answers_are : answers' ≡ answers_after asked o answers
