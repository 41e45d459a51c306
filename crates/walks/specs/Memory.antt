-- Lent memory that is made zero.
-- Assumes nothing.
use Rattle.std.specs.Prelude.{ℕ, List, length, replicate}

-- zeros throughout
abbrev pub zeros : List ℕ → List ℕ
zeros l = replicate (length l) 0
