-- The number of each refusal of build (docs/QUESTIONS.md), and what each answer says.
-- Assumes nothing.
use Rattle.std.specs.Prelude.{ℕ, ◌≡◌, List, length, Result, Ok, Err}
use Rattle.codec.specs.Question.{Values, none, Outcome, done, refused, map_outcome}
use Rattle.codec.specs.ListRefusal.{list_number}
use Rattle.trees.specs.declared.build.BuildRefusal.{BuildRefusal}
use Rattle.trees.specs.declared.build.BuildRefusal.TheVariants as why
use Rattle.codec.specs.Output.{out_after}

abbrev pub build_number : BuildRefusal → ℕ
build_number why.BadGeometry = 1
build_number why.NoTree = 3
build_number (why.List r) = list_number r
build_number why.Levels = 16
build_number why.Blocks = 17
build_number why.Output = 18

-- no question of build has values
abbrev pub build_values : BuildRefusal → Values
build_values r = none

-- how many bytes were written, or the refusal
abbrev pub built_outcome : Result ℕ BuildRefusal → Outcome ℕ
built_outcome (Ok n) = done n
built_outcome (Err r) = refused (build_number r) (build_values r)

-- an answer that says what a call comes to, and the output before and after it
pub record Builds (o : Outcome (List ℕ)) (r : Result ℕ BuildRefusal) (out out' : List ℕ) : Type 0 where
  pub outcome : built_outcome r ≡ map_outcome length o
  pub output : out' ≡ out_after o out
