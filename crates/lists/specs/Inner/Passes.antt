-- A release or a raise goes along the counts twice: a first pass decides and adds up the lengths, a second one writes. What the inner functions
-- of both passes promise one another.
-- Assumes nothing.
use Rattle.std.specs.Prelude.{ℕ, ◌+◌, ◌-◌, ◌*◌, ◌^◌, ◌≤◌, ◌<◌, min, max, ◌≡◌, Bool, true, false, not, cond, ◌&&◌, List, [], ◌∷◌, ◌++◌, ltb, leb, eqb, length, Result}
use Rattle.codec.specs.Accepted.{end_limit}
use Rattle.codec.specs.Bytes.{with_bytes}
use Rattle.codec.specs.Question.{Outcome, done, ask, answer}
use Rattle.codec.specs.Records.{records_of, bytes_of, refcounts, free_extents}
use Rattle.codec.specs.Refcounts.{max_refcount, cow_flag, staging, block, end, least, accepted}
use Rattle.codec.specs.declared.refcount.Refcount.{Refcount}
use Rattle.codec.specs.declared.free_extent.FreeExtent.{FreeExtent}
use Rattle.lists.specs.declared.EditRefusal.{EditRefusal}
use Rattle.lists.specs.declared.Lengths.{Lengths}
use Rattle.lists.specs.declared.carried.Change.{Change}
use Rattle.lists.specs.declared.carried.Change.TheVariants.{Lower, Raise}
use Rattle.lists.specs.declared.carried.Pass.{Pass}
use Rattle.lists.specs.declared.carried.Pass.TheVariants.{Measure, Counts, Both}
use Rattle.lists.specs.declared.carried.Joiner.{Joiner}
use Rattle.lists.specs.declared.carried.Carried.{Carried}
use Rattle.lists.specs.Release.{clear, stop, fewer, share, cut_by, join_from, join_all, release, unshared}
use Rattle.lists.specs.Raise.{raise, full, owners_fit}
use Rattle.lists.specs.Edits.{extent_questions, Freed}
use Rattle.lists.specs.Answer.{released_outcome, lengths_of}

-- is one owner more asked for?
abbrev pub raises : Change → Bool
raises Lower = false
raises Raise = true

-- does the pass write the new counts?
abbrev pub writes_counts : Pass → Bool
writes_counts Measure = false
writes_counts Counts = true
writes_counts Both = true

-- does it write the free extents?
abbrev pub writes_free : Pass → Bool
writes_free Measure = false
writes_free Counts = false
writes_free Both = true

-- the bytes b from place at on where they are written, and the buffer as it was where they are only counted
unfoldable pub put_if : Bool → List ℕ → ℕ → List ℕ → List ℕ
put_if w s at b = cond w (with_bytes s at b) s

-- ---- joining

abbrev pub record_of : Joiner → Refcount
record_of j = record { startblock = j.start; blockcount = j.count; refcount = j.owners }

-- the record that waits, if there is one
unfoldable pub pending : Joiner → List Refcount
pending j = cond (eqb j.count 0) [] (record_of j ∷ [])

-- what the record that waits and those to come are joined to
unfoldable pub join_on : Joiner → List Refcount → List Refcount
join_on j l = cond (eqb j.count 0) (join_all l) (join_from (record_of j) l)

-- do n owners from place a on join the record that waits?
unfoldable pub goes_on : Joiner → ℕ → ℕ → Bool
goes_on j a n = not (eqb j.count 0) && (eqb (j.start + j.count) a && eqb j.owners n)

-- one owner more, as long as 4 bytes hold the number
unfoldable pub more : ℕ → ℕ
more n = cond (leb max_refcount n) n (n + 1)

-- what becomes of n owners: one fewer in a release, one more in a raise (up)
unfoldable pub next : Bool → ℕ → ℕ
next up n = cond up (more n) (fewer n)

-- what becomes of blocks that no record tells of: in a raise they are held once, and have 2 owners then
unfoldable pub fresh : Bool → ℕ
fresh up = cond up 2 0

-- r with its owners from s up to e changed
unfoldable pub changed : Bool → ℕ → ℕ → Refcount → List Refcount
changed up s e r = cut_by (λ a z n. share a z (next up n)) s e r

-- the blocks before r that no record tells of, from gap on, and then r
abbrev pub changed_from : Bool → (s e gap : ℕ) → Refcount → List Refcount
changed_from up s e gap r = share gap (min r.startblock e) (fresh up) ++ changed up s e r

-- the owners from s up to e changed in the whole list, where no record tells of a block between s and gap
unfoldable pub change_all : Bool → (s e gap : ℕ) → List Refcount → List Refcount
change_all up s e gap [] = share gap e (fresh up)
change_all up s e gap (r ∷ l) = changed_from up s e gap r ++ change_all up s e (max gap (stop r)) l

-- where n owners may lie, from a up to z: shared records below 2^31, staging ones from there on
pub record Lies (a z n : ℕ) : Type 0 where
  pub end : z ≤ 2 ^ 32
  pub owners : n < 2 ^ 32
  pub shared : 2 ≤ n → z ≤ end_limit
  pub staging : n ≡ 1 → cow_flag ≤ a

-- the record that waits can be stored, and no more are finished than places lie before it
pub record Fits (j : Joiner) : Type 0 where
  pub lies : Lies j.start (j.start + j.count) j.owners
  pub count : j.count < 2 ^ 32
  pub place : j.at ≤ refcounts.size * j.start

-- a buffer of n bytes that is to be written has room for the record that waits
abbrev pub Room : Bool → Joiner → ℕ → Type 0
Room w j n = w ≡ true → 0 < j.count → j.at + refcounts.size ≤ n

-- the record r stands behind the one that waits, and a buffer of n bytes that is to be written has room for all that r comes to
pub record Cut (up w : Bool) (s e : ℕ) (j : Joiner) (r : Refcount) (n : ℕ) : Type 0 where
  pub extent : s ≤ e
  pub end : e ≤ end_limit
  pub fits : Fits j
  pub lies : Lies r.startblock (stop r) r.refcount
  pub owned : 0 < r.refcount
  pub behind : j.start + j.count ≤ r.startblock
  pub room : w ≡ true → j.at + length (bytes_of refcounts (join_on j (changed up s e r))) ≤ n

-- k comes of j by the records p, which stop by z: whatever follows them, the finished list is the same, and so is the buffer that it will
-- stand in
pub record Pushed (w : Bool) (j : Joiner) (out : List ℕ) (p : List Refcount) (z : ℕ) (k : Joiner) (out' : List ℕ) : Type 0 where
  pub fits : Fits k
  pub behind : k.start + k.count ≤ z
  pub size : (l : List Refcount) → k.at + length (bytes_of refcounts (join_on k l)) ≡ j.at + length (bytes_of refcounts (join_on j (p ++ l)))
  pub bytes : (l : List Refcount) → put_if w out' k.at (bytes_of refcounts (join_on k l)) ≡ put_if w out j.at (bytes_of refcounts (join_on j (p ++ l)))

-- ---- free extents

-- the blocks from a up to z as one free extent, if there are any
unfoldable pub gap_of : ℕ → ℕ → List FreeExtent
gap_of a z = cond (ltb a z) (record { startblock = a; blockcount = z - a } ∷ []) []

-- ---- one record of the pass

-- what is carried before the first record, for an extent from s on
abbrev pub begun : ℕ → Carried
begun s = record { prev = least; joiner = record { start = 0; count = 0; owners = 0; at = 0 }; gap = s; free = 0; clear = true; fit = true }

-- what a step asks of what is carried to the record r, which is good and in order
pub record StepAsks (up write list : Bool) (s e : ℕ) (w : Carried) (r : Refcount) (new_room free_room : ℕ) : Type 0 where
  pub extent : s ≤ e
  pub end : e ≤ end_limit
  pub fits : Fits w.joiner
  pub lies : Lies r.startblock (stop r) r.refcount
  pub owned : 0 < r.refcount
  pub behind : w.joiner.start + w.joiner.count ≤ r.startblock
  pub gap : w.joiner.start + w.joiner.count ≤ w.gap
  pub counts : write ≡ true → w.joiner.at + length (bytes_of refcounts (join_on w.joiner (changed_from up s e w.gap r))) ≤ new_room
  pub place : w.free ≤ 2 ^ 36
  pub room : list ≡ true → w.free + length (bytes_of free_extents (gap_of w.gap (min r.startblock e))) ≤ free_room

-- k is carried on from w behind the record r
pub record Stepped (up write list : Bool) (s e : ℕ) (w : Carried) (r : Refcount) (new free : List ℕ) (k : Carried) (new' free' : List ℕ) : Type 0 where
  pub prev : k.prev ≡ r
  pub joiner : Pushed write w.joiner new (changed_from up s e w.gap r) (stop r) k.joiner new'
  pub gap : k.gap ≡ max w.gap (stop r)
  pub place : k.free ≡ w.free + length (bytes_of free_extents (gap_of w.gap (min r.startblock e)))
  pub bytes : free' ≡ put_if list free w.free (bytes_of free_extents (gap_of w.gap (min r.startblock e)))
  pub clear : k.clear ≡ (w.clear && not (staging r && (ltb (block r) e && ltb s (end r))))
  pub fit : k.fit ≡ (w.fit && not (full s e r))

-- ---- the pass as a whole, for an extent that is good: a release, or with `up` a raise

-- the counts after the edit
abbrev pub counts_after : Bool → ℕ → ℕ → List Refcount → List Refcount
counts_after up s e l = cond up (raise s e l) (release s e l)

-- 28, which only a raise asks
abbrev pub fit_if : Bool → ℕ → ℕ → List Refcount → Bool
fit_if up s e l = cond up (owners_fit s e l) true

-- 21, 25, 28
unfoldable pub pass_outcome : Bool → List Refcount → ℕ → ℕ → Outcome Freed
pass_outcome up l start count =
    answer (ask 21 (accepted l) ∷ ask 25 (clear start (start + count) l) ∷ ask 28 (fit_if up start (start + count) l) ∷ [])
    (done (record { counts = counts_after up start (start + count) l; free = unshared l start count }))

-- the questions hold and the new counts fit if they are written, and so do the free extents if these are
pub record Passable (up : Bool) (l : List Refcount) (start count : ℕ) (write list : Bool) (room free_room : ℕ) : Type 0 where
  pub end : start + count ≤ end_limit
  pub listed : list ≡ true → write ≡ true
  pub accepted : write ≡ true → accepted l ≡ true
  pub clear : write ≡ true → clear start (start + count) l ≡ true
  pub owners : write ≡ true → fit_if up start (start + count) l ≡ true
  pub counts : write ≡ true → length (bytes_of refcounts (counts_after up start (start + count) l)) ≤ room
  pub free : list ≡ true → length (bytes_of free_extents (unshared l start count)) ≤ free_room

-- the answer r, and both buffers where they are written
pub record PassIs (up write list : Bool) (l : List Refcount) (start count : ℕ) (r : Result Lengths EditRefusal) (new new' free free' : List ℕ) : Type 0 where
  pub said : released_outcome r ≡ lengths_of (pass_outcome up l start count)
  pub counts : write ≡ true → new' ≡ with_bytes new 0 (bytes_of refcounts (counts_after up start (start + count) l))
  pub extents : list ≡ true → free' ≡ with_bytes free 0 (bytes_of free_extents (unshared l start count))

-- ---- the first step of a release or a raise: 19, 21, 22, 25, 28

unfoldable pub measured_outcome : Bool → List ℕ → ℕ → ℕ → Outcome Freed
measured_outcome up c start count =
    let l : List Refcount = records_of refcounts c in
    answer (extent_questions c start count ++ (ask 28 (fit_if up start (start + count) l) ∷ []))
    (done (record { counts = counts_after up start (start + count) l; free = unshared l start count }))
