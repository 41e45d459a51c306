-- The whole letting go: an owner gives an extent up, the counts of its blocks are lowered, and the blocks that nobody shared are free again.
-- Assumes nothing.
use Rattle.std.specs.Prelude.{ℕ, Bool, List, [], ◌∷◌, ◌++◌}
use Rattle.codec.specs.Question.{Outcome, Question, ask}
use Rattle.codec.specs.Records.{records_of, rmaps, refcounts}
use Rattle.codec.specs.Rmaps.{end}
use Rattle.codec.specs.declared.rmap.Rmap.{Rmap}
use Rattle.codec.specs.declared.refcount.Refcount.{Refcount}
use Rattle.lists.specs.RmapEdits.{contained, remove}
use Rattle.lists.specs.Release.{clear, release, unshared}
use Rattle.lists.specs.Edits.{map_questions, count_questions}
use Rattle.groups.specs.Joint.{NewLists, joint_outcome}

-- what letting the extent x go leaves
abbrev pub letting : Rmap → List Rmap → List Refcount → NewLists
letting x m c = record { map = remove x m; counts = release x.startblock (end x) c; free = unshared c x.startblock x.blockcount }

-- both lists' questions, reverse map first: 19, 20, 22, 24, then 19, 21, and 25 with its test
abbrev pub let_go_questions_with : Bool → List ℕ → List ℕ → Rmap → List Question
let_go_questions_with unstaged map counts x =
    map_questions map x
    ++ (ask 24 (contained x (records_of rmaps map)) ∷ count_questions counts ++ (ask 25 unstaged ∷ []))

-- 25: is the extent clear of staging records?
abbrev pub let_go_questions : List ℕ → List ℕ → Rmap → List Question
let_go_questions map counts x = let_go_questions_with (clear x.startblock (end x) (records_of refcounts counts)) map counts x

-- and 26
unfoldable pub let_go_outcome : List ℕ → List ℕ → Rmap → ℕ → ℕ → ℕ → Outcome NewLists
let_go_outcome map counts x room counts_room free_room =
    joint_outcome (let_go_questions map counts x) (letting x (records_of rmaps map) (records_of refcounts counts)) room counts_room free_room
