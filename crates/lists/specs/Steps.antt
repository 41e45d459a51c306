-- A release in two steps: the first asks 19, 21, 22 and 25 and measures, the second writes. Between them a caller asks 26.
-- Assumes nothing.
use Rattle.std.specs.Prelude.{ℕ, ◌+◌, ◌≤◌, ◌≡◌, true, List, length}
use Rattle.codec.specs.Accepted.{end_limit}
use Rattle.codec.specs.Question.{Outcome, done, answer}
use Rattle.codec.specs.Records.{records_of, bytes_of, refcounts, free_extents}
use Rattle.codec.specs.Refcounts.{accepted}
use Rattle.codec.specs.declared.refcount.Refcount.{Refcount}
use Rattle.lists.specs.Release.{clear, release, unshared}
use Rattle.lists.specs.Edits.{extent_questions, Freed, freed}

-- 19, 21, 22, 25
unfoldable pub measure_outcome : List ℕ → ℕ → ℕ → Outcome Freed
measure_outcome c start count =
    answer (extent_questions c start count) (done (freed (records_of refcounts c) start count))

-- the questions hold that the second step needs, and both lists fit what was lent
pub record Writable (l : List Refcount) (start count room free_room : ℕ) : Type 0 where
  pub end : start + count ≤ end_limit
  pub accepted : accepted l ≡ true
  pub clear : clear start (start + count) l ≡ true
  pub counts : length (bytes_of refcounts (release start (start + count) l)) ≤ room
  pub free : length (bytes_of free_extents (unshared l start count)) ≤ free_room
