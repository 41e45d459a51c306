-- Blocks let go: the edit of the shared counts, as a list of records, and the blocks that are free again.
-- Assumes nothing.
use Rattle.std.specs.Prelude.{ℕ, ◌+◌, ◌-◌, min, max, Bool, true, not, cond, ◌&&◌, List, [], ◌∷◌, ◌++◌, ltb, leb, eqb}
use Rattle.codec.specs.Refcounts.{staging, block, end}
use Rattle.codec.specs.declared.refcount.Refcount.{Refcount}
use Rattle.codec.specs.declared.free_extent.FreeExtent.{FreeExtent}
use Rattle.lists.specs.Extent.{within, runs}

-- the owners of the shared records over block b; 0 where there is none. Staging is no shared count.
unfoldable pub owners : List Refcount → ℕ → ℕ
owners [] b = 0
owners (r ∷ l) b = cond (staging r) 0 (within r.startblock r.blockcount r.refcount b) + owners l b

-- 25: are the blocks from s up to e clear of staging records?
unfoldable pub clear : ℕ → ℕ → List Refcount → Bool
clear s e [] = true
clear s e (r ∷ l) = not (staging r && (ltb (block r) e && ltb s (end r))) && clear s e l

-- ---- one shared record: its start is its block

-- where it ends
abbrev pub stop : Refcount → ℕ
stop r = r.startblock + r.blockcount

-- does it meet the blocks from s up to e?
abbrev pub meets : ℕ → ℕ → Refcount → Bool
meets s e r = not (staging r) && (ltb s (stop r) && ltb r.startblock e)

-- the blocks from a up to z with n owners; none where there is no block
unfoldable pub piece : ℕ → ℕ → ℕ → List Refcount
piece a z n = cond (ltb a z) (record { startblock = a; blockcount = z - a; refcount = n } ∷ []) []

-- the same, and none where nobody owns them
unfoldable pub share : ℕ → ℕ → ℕ → List Refcount
share a z n = cond (eqb n 0) [] (piece a z n)

-- the block s, or the nearer end of the record r
unfoldable pub clamp : Refcount → ℕ → ℕ
clamp r s = max r.startblock (min s (stop r))

-- r cut at s and e: what lies before s, what m makes of the blocks between and their owners, and what lies from e on
abbrev pub cut_by : (ℕ → ℕ → ℕ → List Refcount) → ℕ → ℕ → Refcount → List Refcount
cut_by m s e r =
    piece r.startblock (clamp r s) r.refcount
    ++ (m (clamp r s) (clamp r e) r.refcount ++ piece (clamp r e) (stop r) r.refcount)

-- one owner fewer, and none where one is left
unfoldable pub fewer : ℕ → ℕ
fewer n = cond (leb n 2) 0 (n - 1)

-- r with one owner fewer from s up to e
unfoldable pub lowered : ℕ → ℕ → Refcount → List Refcount
lowered s e r = cut_by (λ a z n. share a z (fewer n)) s e r

-- ---- the whole list

-- owners drop by one from s up to e; staging stays
unfoldable pub lower_all : ℕ → ℕ → List Refcount → List Refcount
lower_all s e [] = []
lower_all s e (r ∷ l) = cond (staging r) (r ∷ []) (lowered s e r) ++ lower_all s e l

-- are both shared, or both staging?
unfoldable pub same_kind : Refcount → Refcount → Bool
same_kind r s = cond (staging r) (staging s) (not (staging s))

-- does s begin at the block where r ends, being of the same kind and with as many owners?
unfoldable pub continues : Refcount → Refcount → Bool
continues r s = same_kind r s && (eqb (end r) (block s) && eqb r.refcount s.refcount)

abbrev pub joined : Refcount → Refcount → Refcount
joined r s = record { startblock = r.startblock; blockcount = r.blockcount + s.blockcount; refcount = r.refcount }

-- all adjacent equals joined: in what comes of it no record continues the one before it (`Settled` of specs/Settled.antt)
unfoldable pub join_from : Refcount → List Refcount → List Refcount
join_from r [] = r ∷ []
join_from r (s ∷ l) = cond (continues r s) (join_from (joined r s) l) (r ∷ join_from s l)

unfoldable pub join_all : List Refcount → List Refcount
join_all [] = []
join_all (r ∷ l) = join_from r l

-- the counts after the blocks from s up to e are let go once
abbrev pub release : ℕ → ℕ → List Refcount → List Refcount
release s e l = join_all (lower_all s e l)

-- the longest runs of the extent that no shared record covered before, ascending
abbrev pub unshared : List Refcount → ℕ → ℕ → List FreeExtent
unshared l start count = runs (λ b. eqb (owners l b) 0) start count
