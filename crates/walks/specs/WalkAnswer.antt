-- The number and values of each refusal of a walk (docs/QUESTIONS.md), and what each answer says.
-- Assumes nothing.
use Rattle.std.specs.Prelude.{ℕ, ◌≡◌, List, Result, Ok, Err}
use Rattle.codec.specs.Question.{Values, none, Outcome, done, refused}
use Rattle.blocks.specs.declared.check.Header.{Header}
use Rattle.blocks.specs.Refusal.{refusal_number, refusal_values}
use Rattle.walks.specs.declared.refusal.WalkRefusal.{WalkRefusal}
use Rattle.walks.specs.declared.refusal.WalkRefusal.TheVariants as why
use Rattle.walks.specs.declared.refusal.StoppedWalk.{StoppedWalk}
use Rattle.walks.specs.declared.walk.Walked.{Walked}
use Rattle.walks.specs.Walk.{Trace}
use Rattle.walks.specs.WalkCall.{Report, report, scratch_after, blocks_after, records_after}

abbrev pub walk_number : WalkRefusal → ℕ
walk_number why.Levels = 11
walk_number why.Scratch = 12
walk_number why.Visits = 13
walk_number why.Outside = 14
walk_number (why.Block r) = refusal_number r
walk_number why.Full = 15

abbrev pub walk_values : WalkRefusal → Values
walk_values why.Levels = none
walk_values why.Scratch = none
walk_values why.Visits = none
walk_values why.Outside = none
walk_values (why.Block r) = refusal_values r
walk_values why.Full = none

-- a look: the block's header, or its refusal
abbrev pub looked_outcome : Result Header WalkRefusal → Outcome Header
looked_outcome (Ok h) = done h
looked_outcome (Err r) = refused (walk_number r) (walk_values r)

-- a walk: its counts or its refusal, and how many blocks passed 13
abbrev pub walked_report : Result Walked StoppedWalk → Report
walked_report (Ok w) = record { outcome = done (record { visits = w.visits; records = w.records; bytes = w.bytes }); passed = w.visits }
walked_report (Err s) = record { outcome = refused (walk_number s.refusal) (walk_values s.refusal); passed = s.visits }

-- a call's answer, and the four lent slices after it, where what it comes to is o: for records of w bytes, and a tree of so many levels
pub record WalkIs (w levels : ℕ) (o : Outcome Trace) (r : Result Walked StoppedWalk) (stack stack' scratch scratch' blocks blocks' out out' : List ℕ) : Type 0 where
  pub answer : walked_report r ≡ report w o
  pub stack_is : stack' ≡ scratch_after o stack
  pub scratch_is : scratch' ≡ scratch_after o scratch
  pub blocks_are : blocks' ≡ blocks_after levels o blocks
  pub records_are : out' ≡ records_after o out
