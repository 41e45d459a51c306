-- The number (docs/QUESTIONS.md) and the values of each refusal of a list, and what a check of a list comes to.
-- Assumes nothing.
use Rattle.std.specs.Prelude.{ℕ, Result, Ok, Err}
use Rattle.codec.specs.Question.{Values, none, Outcome, done, refused}
use Rattle.codec.specs.declared.check.ListRefusal.{ListRefusal}
use Rattle.codec.specs.declared.check.ListRefusal.TheVariants.{Length, RmapOrder, ExtentOrder}

abbrev pub list_number : ListRefusal → ℕ
list_number Length = 19
list_number RmapOrder = 20
list_number ExtentOrder = 21

-- no question on a list has values
abbrev pub list_values : ListRefusal → Values
list_values r = none

abbrev pub list_outcome : Result ℕ ListRefusal → Outcome ℕ
list_outcome (Ok n) = done n
list_outcome (Err r) = refused (list_number r) (list_values r)
