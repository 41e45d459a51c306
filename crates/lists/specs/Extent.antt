-- Extents: a start and a count of blocks. An extent lies over the blocks start to start + count - 1.
-- Assumes nothing.
use Rattle.std.specs.Prelude.{ℕ, zero, suc, ◌+◌, ◌≤◌, ◌<◌, ◌≡◌, Bool, false, cond, ◌&&◌, ◌||◌, List, [], ◌∷◌, ltb, leb, eqb}
use Rattle.codec.specs.Accepted.{end_limit}
use Rattle.codec.specs.declared.free_extent.FreeExtent.{FreeExtent}

-- does the extent lie over block b?
unfoldable pub over : ℕ → ℕ → ℕ → Bool
over start count b = leb start b && ltb b (start + count)

-- n at the blocks of the extent, and 0 elsewhere
unfoldable pub within : ℕ → ℕ → ℕ → ℕ → ℕ
unfolding over
within start count n b = cond (over start count b) n 0

-- 22 by start and count: a count above 0, and an end at most 2,147,483,648
unfoldable pub good_extent : ℕ → ℕ → Bool
good_extent start count = ltb 0 count && leb (start + count) end_limit

-- block b in front of the runs that begin after it
unfoldable pub grow : ℕ → List FreeExtent → List FreeExtent
grow b [] = record { startblock = b; blockcount = 1 } ∷ []
grow b (f ∷ fs) =
    cond (eqb f.startblock (suc b)) (record { startblock = b; blockcount = suc f.blockcount } ∷ fs) (record { startblock = b; blockcount = 1 } ∷ f ∷ fs)

-- the longest runs of blocks that pass the test, among n blocks from b, ascending
unfoldable pub runs : (ℕ → Bool) → ℕ → ℕ → List FreeExtent
unfolding grow
runs p b zero = []
runs p b (suc n) = cond (p b) (grow b (runs p (suc b) n)) (runs p (suc b) n)

-- ---- what `runs` means: proofs/Longest.antt shows that it is `Longest` for every test, and that no other list is

-- does one of the extents lie over block b?
unfoldable pub lies : List FreeExtent → ℕ → Bool
lies [] b = false
lies (f ∷ fs) b = over f.startblock f.blockcount b || lies fs b

-- none begins before a, none is empty, and a block lies between each and the next
abbrev pub Apart : ℕ → List FreeExtent → Type 0
Apart a [] = Unit {0}
Apart a (f ∷ fs) = (a ≤ f.startblock) × (0 < f.blockcount) × Apart (suc (f.startblock + f.blockcount)) fs

-- each lies within the n blocks from b
abbrev pub Inside : ℕ → ℕ → List FreeExtent → Type 0
Inside b n [] = Unit {0}
Inside b n (f ∷ fs) = (b ≤ f.startblock) × (f.startblock + f.blockcount ≤ b + n) × Inside b n fs

-- the longest runs of the blocks that pass the test, among n blocks from b, ascending
pub record Longest (p : ℕ → Bool) (b n : ℕ) (fs : List FreeExtent) : Type 0 where
  pub inside : Inside b n fs
  -- they lie over exactly the blocks that pass
  pub blocks : (k : ℕ) → lies fs k ≡ (over b n k && p k)
  -- no two touch, and they ascend
  pub apart : Apart b fs
