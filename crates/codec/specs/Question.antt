-- Questions asked in order. The first that fails gives the refusal: its number, of docs/QUESTIONS.md, and, where both are numbers, what was
-- expected and what was found.
-- Assumes nothing.
use Rattle.std.specs.Prelude.{ℕ, Bool, cond, List, [], ◌∷◌, leb, eqb}

pub data Values : Type 0 where
  none : Values
  two : (expected found : ℕ) → Values

-- what a call comes to: a result, or a refusal with its number and values
pub data Outcome (A : Type 0) : Type 0 where
  done : A → Outcome A
  refused : ℕ → Values → Outcome A

pub record Question : Type 0 where
  pub number : ℕ
  pub values : Values
  pub holds : Bool

-- a question with no numbers to show
abbrev pub ask : ℕ → Bool → Question
ask n t = record { number = n; values = none; holds = t }

-- is the number found the one expected?
abbrev pub ask_equal : ℕ → ℕ → ℕ → Question
ask_equal n expected found = record { number = n; values = two expected found; holds = eqb found expected }

-- is it at most the one expected?
abbrev pub ask_most : ℕ → ℕ → ℕ → Question
ask_most n expected found = record { number = n; values = two expected found; holds = leb found expected }

-- the refusal of the first question that fails, or the outcome given where all hold
abbrev pub answer : {A : Type 0} → List Question → Outcome A → Outcome A
answer [] o = o
answer (q ∷ qs) o = cond q.holds (answer qs o) (refused q.number q.values)

-- the same outcome, with f of its result
abbrev pub map_outcome : {A B : Type 0} → (A → B) → Outcome A → Outcome B
map_outcome f (done x) = done (f x)
map_outcome f (refused n v) = refused n v
