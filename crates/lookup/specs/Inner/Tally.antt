-- How a lookup keeps its counts in the lent places for answers: each place has the difference to the count before it, so that a record costs two places however
-- many numbers it lies over. Sums and differences are those of 64-bit places, which come round.
-- Assumes nothing.
use Rattle.std.specs.Prelude.{ℕ, ◌+◌, ◌%◌, ◌^◌, ◌<◌, List, [], ◌∷◌, length, take, slice_index}
use Rattle.codec.specs.Bytes.{with_bytes}
use Rattle.codec.specs.declared.rmap.Rmap.{Rmap}
use Rattle.lists.specs.Holders.{holders}

-- each number's count with how many of the records lie over it added; places past the numbers as they were
unfoldable pub tallied : List Rmap → List ℕ → List ℕ → List ℕ
tallied rs [] l = l
tallied rs (a ∷ more) [] = []
tallied rs (a ∷ more) (n ∷ l) = (n + holders rs a) ∷ tallied rs more l

-- running sums from c on
unfoldable pub sums : ℕ → List ℕ → List ℕ
sums c [] = []
sums c (d ∷ l) = ((c + d) % 2 ^ 64) ∷ sums ((c + d) % 2 ^ 64) l

-- the counts that the first n places stand for, and the places past them as they are
abbrev pub summed : ℕ → List ℕ → List ℕ
summed n l = with_bytes l 0 (sums 0 (take n l))

-- n more can be added to each number's count
abbrev pub Room : ℕ → List ℕ → List ℕ → Type 0
Room n asked l = (i : ℕ) → i < length asked → slice_index l i + n < 2 ^ 64
