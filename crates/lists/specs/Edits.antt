-- What each edit of a list comes to: its questions in order (docs/QUESTIONS.md), then the new list. A list is lent bytes, and `room` is how many bytes
-- were lent for the new one.
-- Assumes nothing.
use Rattle.std.specs.Prelude.{ℕ, ◌+◌, Bool, ◌&&◌, List, [], ◌∷◌, ◌++◌, leb, length}
use Rattle.codec.specs.Bytes.{with_bytes}
use Rattle.codec.specs.Question.{Outcome, done, refused, Question, ask, answer}
use Rattle.codec.specs.Records.{Kind, records_of, bytes_of, rmaps, refcounts, free_extents}
use Rattle.codec.specs.Accepted.{whole}
use Rattle.codec.specs.Rmaps as rmap
use Rattle.codec.specs.Refcounts as refcount
use Rattle.codec.specs.declared.rmap.Rmap.{Rmap}
use Rattle.codec.specs.declared.refcount.Refcount.{Refcount}
use Rattle.codec.specs.declared.free_extent.FreeExtent.{FreeExtent}
use Rattle.lists.specs.declared.splice.Edit.{Edit}
use Rattle.lists.specs.declared.splice.Edit.TheVariants.{Insert, InsertShared, Remove}
use Rattle.lists.specs.Extent.{good_extent}
use Rattle.lists.specs.Held.{held_none}
use Rattle.lists.specs.RmapEdits as rmaps-after
use Rattle.lists.specs.Release as counts-after

-- the reverse map's list questions, and whether the extent is good by 20's first three rules
abbrev pub map_questions : List ℕ → Rmap → List Question
map_questions b x = ask 19 (whole rmaps.size b) ∷ ask 20 (rmap.accepted (records_of rmaps b)) ∷ ask 22 (rmap.good x) ∷ []

-- the counts' list questions
abbrev pub count_questions : List ℕ → List Question
count_questions c = ask 19 (whole refcounts.size c) ∷ ask 21 (refcount.accepted (records_of refcounts c)) ∷ []

-- 26: does the list fit?
abbrev pub fits : {R : Type 0} → Kind R → List R → ℕ → Bool
fits k rs room = leb (length (bytes_of k rs)) room

-- ---- the reverse map

-- 23 or 24. A first take asks that no block of the extent is held; a take of an extent whose blocks others may hold, that no overlapping record
-- clashes; a removal, that a record contains the extent.
abbrev pub allowed : Edit → Rmap → List Rmap → Question
allowed Insert x l = ask 23 (held_none l x.startblock x.blockcount)
allowed InsertShared x l = ask 23 (rmaps-after.unclashed x l)
allowed Remove x l = ask 24 (rmaps-after.contained x l)

-- the new list
abbrev pub edited : Edit → Rmap → List Rmap → List Rmap
edited Insert = rmaps-after.insert
edited InsertShared = rmaps-after.insert_shared
edited Remove = rmaps-after.remove

-- the questions of an edit before 26
abbrev pub edit_questions : Edit → List ℕ → Rmap → List Question
edit_questions e b x = map_questions b x ++ (allowed e x (records_of rmaps b) ∷ [])

-- what it comes to, with 26
abbrev pub edit_with_room : Edit → List ℕ → Rmap → ℕ → Outcome (List Rmap)
edit_with_room e b x room =
    let after : List Rmap = edited e x (records_of rmaps b) in
    answer (edit_questions e b x ++ (ask 26 (fits rmaps after room) ∷ [])) (done after)

unfoldable pub insert_outcome : List ℕ → Rmap → ℕ → Outcome (List Rmap)
insert_outcome b x room = edit_with_room Insert b x room

unfoldable pub insert_shared_outcome : List ℕ → Rmap → ℕ → Outcome (List Rmap)
insert_shared_outcome b x room = edit_with_room InsertShared b x room

unfoldable pub remove_outcome : List ℕ → Rmap → ℕ → Outcome (List Rmap)
remove_outcome b x room = edit_with_room Remove b x room

-- ---- the shared counts

-- the questions of a release or a raise of an extent before 26 and 28
abbrev pub extent_questions : List ℕ → ℕ → ℕ → List Question
extent_questions c start count =
    count_questions c ++ (ask 22 (good_extent start count) ∷ ask 25 (counts-after.clear start (start + count) (records_of refcounts c)) ∷ [])

-- the counts after a release, and the blocks that are free again
pub record Freed : Type 0 where
  pub counts : List Refcount
  pub free : List FreeExtent

abbrev pub freed : List Refcount → ℕ → ℕ → Freed
freed l start count = record { counts = counts-after.release start (start + count) l; free = counts-after.unshared l start count }

unfoldable pub release_outcome : List ℕ → ℕ → ℕ → ℕ → ℕ → Outcome Freed
release_outcome c start count room free_room =
    let f : Freed = freed (records_of refcounts c) start count in
    answer (extent_questions c start count ++ (ask 26 (fits refcounts f.counts room && fits free_extents f.free free_room) ∷ [])) (done f)

-- ---- what is written

-- what a buffer holds after a call that writes the list rs to it, or refuses: past the list nothing changes
unfoldable pub written : {R : Type 0} → Kind R → List ℕ → Outcome (List R) → List ℕ
written k out (done rs) = with_bytes out 0 (bytes_of k rs)
written k out (refused n v) = out
