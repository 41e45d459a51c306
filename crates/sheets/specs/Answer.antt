-- The number (docs/QUESTIONS.md) and the values of each refusal of a sheet, what an answer says, and what each call answers and leaves in what was lent.
-- Assumes nothing.
use Rattle.std.specs.Prelude.{ℕ, ◌≡◌, List, length, Result, Ok, Err}
use Rattle.codec.specs.Output.{out_after}
use Rattle.codec.specs.Question.{Values, none, Outcome, done, refused, map_outcome}
use Rattle.sheets.specs.declared.SheetRefusal.{SheetRefusal}
use Rattle.sheets.specs.declared.SheetRefusal.TheVariants as why
use Rattle.sheets.specs.Sheet.{read_outcome, write_outcome}

abbrev pub sheet_number : SheetRefusal → ℕ
sheet_number why.Room = 26
sheet_number why.Crc = 32
sheet_number why.Rule = 33

-- no question on a sheet has values
abbrev pub sheet_values : SheetRefusal → Values
sheet_values r = none

abbrev pub sheet_outcome : Result ℕ SheetRefusal → Outcome ℕ
sheet_outcome (Ok n) = done n
sheet_outcome (Err r) = refused (sheet_number r) (sheet_values r)

-- a call that comes to o: the answer has the length of its result in bytes
pub record SheetIs (o : Outcome (List ℕ)) (r : Result ℕ SheetRefusal) (out out' : List ℕ) : Type 0 where
  pub said : sheet_outcome r ≡ map_outcome length o
  pub wrote : out' ≡ out_after o out

abbrev pub Reads : List ℕ → Result ℕ SheetRefusal → (changes changes' : List ℕ) → Type 0
Reads sheet r changes changes' = SheetIs (read_outcome sheet (length changes)) r changes changes'

abbrev pub Writes : List ℕ → Result ℕ SheetRefusal → (sheet sheet' : List ℕ) → Type 0
Writes list r sheet sheet' = SheetIs (write_outcome list (length sheet)) r sheet sheet'
