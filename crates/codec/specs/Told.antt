-- A refusal as code tells it: by its number and its values.
-- Assumes nothing.
use Rattle.std.specs.Prelude.{ℕ, ◌≡◌, Option, Some, None}
use Rattle.codec.specs.Question.{Values, none, two}
use Rattle.codec.specs.declared.refusal.Mismatch.{Mismatch}
use Rattle.codec.specs.declared.refusal.Told.{Told}

abbrev pub values_of : Option Mismatch → Values
values_of None = none
values_of (Some m) = two m.expected m.found

-- t tells the number n and the values v
abbrev pub Tells : Told → ℕ → Values → Type 0
Tells t n v = (t.number ≡ n) × (values_of t.values ≡ v)
