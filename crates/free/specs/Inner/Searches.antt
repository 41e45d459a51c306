-- What the searches of an extent in an accepted list by block promise.
-- Assumes nothing.
use Rattle.std.specs.Prelude.{ℕ, ◌≤◌, ◌<◌, Bool, true, ◌&&◌, List, [], ◌∷◌, ltb, length, get_or, map}
use Rattle.codec.specs.Records.{free_extents}
use Rattle.codec.specs.declared.free_extent.FreeExtent.{FreeExtent}
use Rattle.free.specs.Free.{least}
use Rattle.free.specs.Same.{alike, occurs}

-- the extents that chunks of a list hold
abbrev pub extents_in : List (List ℕ) → List FreeExtent
extents_in chunks = map free_extents.decode chunks

-- the start of the i-th extent
abbrev pub start_of : List FreeExtent → ℕ → ℕ
start_of l i = (get_or l i least).startblock

-- the first r extents start before a block
pub record StartBefore (l : List FreeExtent) (start r : ℕ) : Type 0 where
  pub within : r ≤ length l
  pub below : (i : ℕ) → i < r → start_of l i < start

-- those before `low` do, those from `high` on do not
pub record RangeIs (l : List FreeExtent) (start low high : ℕ) : Type 0 where
  pub below : StartBefore l start low
  pub wide : low ≤ high
  pub within : high ≤ length l
  pub from : (i : ℕ) → high ≤ i → i < length l → start ≤ start_of l i

-- the first r do, and no other does
pub record PlaceIs (l : List FreeExtent) (start r : ℕ) : Type 0 where
  pub below : StartBefore l start r
  pub from : (i : ℕ) → r ≤ i → i < length l → start ≤ start_of l i

-- is e the i-th extent?
abbrev pub is_at : FreeExtent → List FreeExtent → ℕ → Bool
is_at e l i = ltb i (length l) && alike e (get_or l i least)

-- is e in the list?
abbrev pub is_in : FreeExtent → List FreeExtent → Bool
is_in e l = ltb 0 (occurs e l)

-- is each extent of a list in another?
unfoldable pub all_in : List FreeExtent → List FreeExtent → Bool
all_in [] m = true
all_in (e ∷ l) m = is_in e m && all_in l m
