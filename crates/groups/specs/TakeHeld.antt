-- A take of blocks that others hold: the mapping goes into the reverse map beside theirs, and each of its blocks has one owner more.
-- Assumes nothing.
use Rattle.std.specs.Prelude.{ℕ, List, [], ◌∷◌, ◌++◌}
use Rattle.codec.specs.Question.{Outcome, Question, ask}
use Rattle.codec.specs.Records.{records_of, rmaps, refcounts}
use Rattle.codec.specs.Accepted.{whole}
use Rattle.codec.specs.Rmaps as rmap
use Rattle.codec.specs.declared.rmap.Rmap.{Rmap}
use Rattle.codec.specs.declared.refcount.Refcount.{Refcount}
use Rattle.lists.specs.Held.{held_all}
use Rattle.lists.specs.RmapEdits.{unclashed, insert_shared}
use Rattle.lists.specs.Release.{clear}
use Rattle.lists.specs.Raise.{raise, owners_fit}
use Rattle.lists.specs.Edits.{count_questions}
use Rattle.groups.specs.Joint.{NewLists, joint_outcome}

-- what a take of the extent x leaves: nothing is free again
abbrev pub raising : Rmap → List Rmap → List Refcount → NewLists
raising x m c = record { map = insert_shared x m; counts = raise x.startblock (rmap.end x) c; free = [] }

-- the reverse map's list questions, the counts', then 22, 23, 25, 27 and 28
abbrev pub take_held_questions : List ℕ → List ℕ → Rmap → List Question
take_held_questions map counts x =
    let m : List Rmap = records_of rmaps map in
    let c : List Refcount = records_of refcounts counts in
    ask 19 (whole rmaps.size map)
    ∷ ask 20 (rmap.accepted m)
    ∷ count_questions counts
    ++ (ask 22 (rmap.good x)
    ∷ ask 23 (unclashed x m)
    ∷ ask 25 (clear x.startblock (rmap.end x) c)
    ∷ ask 27 (held_all m x.startblock x.blockcount)
    ∷ ask 28 (owners_fit x.startblock (rmap.end x) c)
    ∷ [])

-- and 26; no bytes are lent for free extents
unfoldable pub take_held_outcome : List ℕ → List ℕ → Rmap → ℕ → ℕ → Outcome NewLists
take_held_outcome map counts x room counts_room =
    joint_outcome (take_held_questions map counts x) (raising x (records_of rmaps map) (records_of refcounts counts)) room counts_room 0
