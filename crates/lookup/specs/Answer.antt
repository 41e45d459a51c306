-- The number and values of each refusal of a lookup (docs/QUESTIONS.md), and what each answer says.
-- Assumes nothing.
use Rattle.std.specs.Prelude.{◌≡◌, ℕ, List, Result, Ok, Err}
use Rattle.codec.specs.Question.{Values, none, Outcome, done, refused, map_outcome}
use Rattle.blocks.specs.declared.kind.TreeKind.TheVariants as kind
use Rattle.blocks.specs.Tree.{record_len}
use Rattle.walks.specs.Walk.{Trace}
use Rattle.walks.specs.WalkCall.{report, scratch_after}
use Rattle.walks.specs.WalkAnswer.{walk_number, walk_values}
use Rattle.lookup.specs.declared.refusal.LookupRefusal.{LookupRefusal}
use Rattle.lookup.specs.declared.refusal.LookupRefusal.TheVariants as why
use Rattle.lookup.specs.declared.lookup.LookedUp.{LookedUp}
use Rattle.lookup.specs.declared.refusal.StoppedLookup.{StoppedLookup}
use Rattle.lookup.specs.Lookup.{answers_after}

abbrev pub lookup_number : LookupRefusal → ℕ
lookup_number (why.Walk r) = walk_number r
lookup_number why.Asked = 29

abbrev pub lookup_values : LookupRefusal → Values
lookup_values (why.Walk r) = walk_values r
lookup_values why.Asked = none

-- what is reported: how many blocks were visited, or the refusal; and how many passed 13
pub record Visited : Type 0 where
  pub outcome : Outcome ℕ
  pub passed : ℕ

-- by an answer
abbrev pub looked_up_report : Result LookedUp StoppedLookup → Visited
looked_up_report (Ok l) = record { outcome = done l.visits; passed = l.visits }
looked_up_report (Err s) = record { outcome = refused (lookup_number s.refusal) (lookup_values s.refusal); passed = s.visits }

-- of a descent: the walk's own report, of which the visits alone are told
abbrev pub visits_report : Outcome Trace → Visited
visits_report o = record { outcome = map_outcome (λ c. c.visits) (report (record_len kind.Rmap) o).outcome; passed = (report (record_len kind.Rmap) o).passed }

-- a call's answer, and the two lent slices after it, where what it comes to is o
pub record LookupIs (asked : List ℕ) (o : Outcome Trace) (r : Result LookedUp StoppedLookup) (stack stack' answers answers' : List ℕ) : Type 0 where
  pub answer : looked_up_report r ≡ visits_report o
  pub stack_is : stack' ≡ scratch_after o stack
  pub answers_are : answers' ≡ answers_after asked o answers
