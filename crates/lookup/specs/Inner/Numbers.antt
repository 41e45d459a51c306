-- Where a number stands among ascending ones.
-- Assumes nothing.
use Rattle.std.specs.Prelude.{ℕ, suc, Bool, cond, ◌&&◌, List, [], ◌∷◌, length, nat_lt, slice_index}

-- how many of the numbers, from the first on, are below a
unfoldable pub first_at : ℕ → List ℕ → ℕ
first_at a [] = 0
first_at a (x ∷ l) = cond (nat_lt x a) (suc (first_at a l)) 0

-- there is a number i, and it is below a
abbrev pub is_below : List ℕ → ℕ → ℕ → Bool
is_below l i a = nat_lt i (length l) && nat_lt (slice_index l i) a
