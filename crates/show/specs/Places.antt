-- A list that holds one number throughout.
-- Assumes nothing.
use Rattle.std.specs.Prelude.{ℕ, Bool, ◌&&◌, ◌==◌, List, leb, length, drop}
use Rattle.std.specs.List.{list_all}

abbrev pub throughout : List ℕ → ℕ → Bool
throughout l v = list_all (λ x. x == v) l

-- stack, scratch, block list and record list of a walk that hold it
abbrev pub walk_throughout : (stack scratch blocks records : List ℕ) → ℕ → Bool
walk_throughout stack scratch blocks records v = throughout stack v && (throughout scratch v && (throughout blocks v && throughout records v))

-- a list that holds it from a place on, where it is as long
abbrev pub tail_throughout : List ℕ → ℕ → ℕ → Bool
tail_throughout l from v = leb from (length l) && throughout (drop from l) v
