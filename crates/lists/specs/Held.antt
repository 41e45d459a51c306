-- Whether the blocks of an extent are held: every one of them, or none.
-- Assumes nothing.
use Rattle.std.specs.Prelude.{ℕ, zero, suc, ◌≡◌, Bool, true, not, ◌&&◌, List, ltb, eqb}
use Rattle.codec.specs.Rmaps.{good, accepted}
use Rattle.codec.specs.declared.rmap.Rmap.{Rmap}
use Rattle.lists.specs.Holders.{holders}
use Rattle.lists.specs.RmapEdits.{any, overlaps}

-- does each of the n blocks from b on pass the test?
unfoldable pub each_block : (ℕ → Bool) → ℕ → ℕ → Bool
each_block p b zero = true
each_block p b (suc n) = p b && each_block p (suc b) n

-- 27: is every block of the extent held?
abbrev pub held_all : List Rmap → ℕ → ℕ → Bool
held_all l start count = each_block (λ b. ltb 0 (holders l b)) start count

-- 23 of `insert`: is no block of the extent held?
abbrev pub held_none : List Rmap → ℕ → ℕ → Bool
held_none l start count = each_block (λ b. eqb (holders l b) 0) start count

-- the same by the records, not the blocks: does none of them overlap x?
abbrev pub no_overlap : Rmap → List Rmap → Bool
no_overlap x l = not (any (overlaps x) l)

-- the two agree on accepted lists; proofs/Holding.antt shows it
abbrev pub OverlapsTell : Type 0
OverlapsTell = (x : Rmap) (l : List Rmap) → accepted l ≡ true → good x ≡ true → held_none l x.startblock x.blockcount ≡ no_overlap x l
