-- What the questions before the first visit come to, and what holds once they are asked.
-- Assumes nothing.
use Rattle.std.specs.Prelude.{ℕ, ◌≤◌, ◌≡◌, Bool, true, Result, Ok, Err}
use Rattle.codec.specs.Question.{Outcome, refused, answer}
use Rattle.blocks.specs.declared.geometry.Geometry.{Geometry}
use Rattle.blocks.specs.Geometry.{geometry_ok}
use Rattle.walks.specs.declared.refusal.WalkRefusal.{WalkRefusal}
use Rattle.walks.specs.Walk.{Trace}
use Rattle.walks.specs.WalkCall.{stack_places, walk_questions}
use Rattle.walks.specs.WalkAnswer.{walk_number, walk_values}

-- what holds once 1, 11 and 12 are asked, of a stack and a level scratch of so many places: nine pairs lie on the stack
pub record Begun (ok : Bool) (levels stack scratch places : ℕ) : Type 0 where
  pub good : ok ≡ true
  pub least : 1 ≤ levels
  pub most : levels ≤ 9
  pub deep : stack_places ≤ stack
  pub noting : places ≤ scratch

-- 1, 11 and 12 hold: what follows them is what the call comes to
pub record ReadyIs (g : Geometry) (levels stack scratch blocks : ℕ) : Type 0 where
  pub holds : (bytes : ℕ) (o : Outcome Trace)
      → answer (walk_questions g levels (record { stack = stack; scratch = scratch; blocks = blocks; bytes = bytes })) o ≡ o
  pub begun : Begun (geometry_ok g) levels stack scratch blocks

-- or one of them refuses, whatever follows
abbrev pub FirstIs : Geometry → (levels stack scratch blocks : ℕ) → Result (Unit {0}) WalkRefusal → Type 0
FirstIs g levels stack scratch blocks (Err r) =
    (bytes : ℕ) (o : Outcome Trace)
    → answer (walk_questions g levels (record { stack = stack; scratch = scratch; blocks = blocks; bytes = bytes })) o
    ≡ refused (walk_number r) (walk_values r)
FirstIs g levels stack scratch blocks (Ok u) = ReadyIs g levels stack scratch blocks
