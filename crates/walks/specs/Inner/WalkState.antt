-- The blocks of a level in the level scratch, and what a descent leaves once it has read its last block.
-- Assumes nothing.
use Rattle.std.specs.Prelude.{ℕ, ◌≡◌, List, take, Result, Ok, Err}
use Rattle.codec.specs.Bytes.{with_bytes}
use Rattle.walks.specs.declared.walk.Walked.{Walked}
use Rattle.walks.specs.declared.refusal.StoppedWalk.{StoppedWalk}
use Rattle.walks.specs.Walk.{Trace, visits, records, at_level}
use Rattle.walks.specs.OneVisit.{seen_of}

-- the blocks of one level among the visits in places of the level scratch
abbrev pub level_in : ℕ → List ℕ → List ℕ
level_in level ps = at_level level (seen_of ps)

-- what a walk that has read its last block leaves in the level scratch and the record list
abbrev pub Leaves : Result Walked StoppedWalk → Trace → List ℕ → List ℕ → List ℕ → Type 0
Leaves (Ok w) t scratch out out' = (seen_of (take w.visits scratch) ≡ visits t) × (out' ≡ with_bytes out 0 (records t))
Leaves (Err s) t scratch out out' = Unit {0}
