-- Why a block of a letting go is free now, still held, or staging, and the record that decides.
-- Assumes nothing.
use Rattle.std.specs.Prelude.{◌*◌, ◌&&◌, ◌||◌, ◌∷◌, ◌++◌, ℕ, zero, suc, Bool, cond, not, List, [], length, nat_lt}
use Rattle.codec.specs.Bytes.{bytes_at}
use Rattle.codec.specs.Question.{Outcome, done, Question, ask, answer}
use Rattle.codec.specs.Records.{records_of, rmaps, refcounts}
use Rattle.codec.specs.Rmaps as rmap
use Rattle.codec.specs.Refcounts as refcount
use Rattle.codec.specs.declared.rmap.Rmap.{Rmap}
use Rattle.codec.specs.declared.refcount.Refcount.{Refcount}
use Rattle.lists.specs.Extent.{over}
use Rattle.lists.specs.RmapEdits.{index_where, cut_at}
use Rattle.lists.specs.Release.{clear}
use Rattle.groups.specs.LetGo.{let_go_questions_with}
use Rattle.reasons.specs.declared.explain.Why.{Why}
use Rattle.reasons.specs.declared.explain.Why.TheVariants.{Free, HeldInMap, HeldInCounts, Staging}

-- ---- records over a block

-- does a record of the reverse map, a shared count, a staging record lie over block b?
abbrev pub map_over : ℕ → Rmap → Bool
map_over b r = over r.startblock r.blockcount b

abbrev pub shared_over : ℕ → Refcount → Bool
shared_over b r = not (refcount.staging r) && over r.startblock r.blockcount b

abbrev pub staged_over : ℕ → Refcount → Bool
staged_over b r = refcount.staging r && over (refcount.block r) r.blockcount b

-- ---- places in a list

-- the index of the first record that passes the test, the k-th left out; or the length
unfoldable pub index_but : {R : Type 0} → (R → Bool) → ℕ → List R → ℕ
index_but p k [] = 0
index_but p zero (r ∷ l) = suc (index_where p l)
index_but p (suc k) (r ∷ l) = cond (p r) 0 (suc (index_but p k l))

-- is there a record at the index?
abbrev pub stands : {R : Type 0} → ℕ → List R → Bool
stands i l = nat_lt i (length l)

-- ---- what decides

-- a block that is not staging is still held exactly if a shared count lies over it: by the record `other`, or by that count where there is no such record.
-- Else it is free now.
unfoldable pub held_of : (other b : ℕ) → List Rmap → List Refcount → Why
held_of other b m c =
    let shared : ℕ = index_where (shared_over b) c in
    cond (stands shared c) (cond (stands other m) (HeldInMap other) (HeldInCounts shared)) Free

-- a block under a staging record gets that record; any other goes by the first record of the reverse map over it other than the one cut, by its place in the
-- list
unfoldable pub why_of : Rmap → ℕ → List Rmap → List Refcount → Why
why_of x b m c =
    let staged : ℕ = index_where (staged_over b) c in
    let other : ℕ = index_but (map_over b) (cut_at x m) m in
    cond (stands staged c) (Staging staged) (held_of other b m c)

-- the bytes handed back: a part of the one list or of the other; a free block gets an empty part
abbrev pub deciding_bytes : List ℕ → List ℕ → Why → List ℕ
deciding_bytes map counts Free = []
deciding_bytes map counts (HeldInMap i) = bytes_at map (i * rmaps.size) rmaps.size
deciding_bytes map counts (HeldInCounts i) = bytes_at counts (i * refcounts.size) refcounts.size
deciding_bytes map counts (Staging i) = bytes_at counts (i * refcounts.size) refcounts.size

-- ---- the call

-- is block b under a staging record?
abbrev pub staged_at : ℕ → List Refcount → Bool
staged_at b c = stands (index_where (staged_over b) c) c

-- the whole letting go's own questions without 26; 25 only if the block is not under a staging record itself; then 31
abbrev pub why_questions : List ℕ → List ℕ → Rmap → ℕ → List Question
why_questions map counts x b =
    let c : List Refcount = records_of refcounts counts in
    let_go_questions_with (clear x.startblock (rmap.end x) c || staged_at b c) map counts x
    ++ (ask 31 (over x.startblock x.blockcount b) ∷ [])

unfoldable pub explain_outcome : List ℕ → List ℕ → Rmap → ℕ → Outcome Why
explain_outcome map counts x b = answer (why_questions map counts x b) (done (why_of x b (records_of rmaps map) (records_of refcounts counts)))
