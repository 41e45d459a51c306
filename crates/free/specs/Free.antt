-- Free extents as a list, in either order of the two free-space trees: questions 19 and 21.
-- Assumes nothing.
use Rattle.std.specs.Prelude.{ℕ, ◌+◌, ◌/◌, Bool, cond, ◌&&◌, List, [], ◌∷◌, ltb, leb, eqb, length}
use Rattle.codec.specs.Question.{Outcome, done, Question, ask, answer}
use Rattle.codec.specs.Records.{records_of, free_extents}
use Rattle.codec.specs.Accepted.{end_limit, whole, in_order}
use Rattle.codec.specs.declared.free_extent.FreeExtent.{FreeExtent}
use Rattle.free.specs.declared.order.Order.{Order}
use Rattle.free.specs.declared.order.Order.TheVariants.{ByBlock, BySize}

-- an extent lies over the blocks from its start up to its end
abbrev pub end : FreeExtent → ℕ
end e = e.startblock + e.blockcount

-- no count 0, an end at most 2,147,483,648
unfoldable pub good : FreeExtent → Bool
good e = ltb 0 e.blockcount && leb (end e) end_limit

-- by count, then start: does q come before e?
unfoldable pub smaller : FreeExtent → FreeExtent → Bool
smaller q e = cond (eqb q.blockcount e.blockcount) (ltb q.startblock e.startblock) (ltb q.blockcount e.blockcount)

-- by block none starts before its predecessor ends; by size strictly ascending by count, then start
unfoldable pub follows : Order → FreeExtent → FreeExtent → Bool
follows ByBlock q e = leb (end q) e.startblock
follows BySize q e = smaller q e

-- any good extent may follow this one, in either order
abbrev pub least : FreeExtent
least = record { startblock = 0; blockcount = 0 }

-- 21
abbrev pub accepted : Order → List FreeExtent → Bool
accepted order l = in_order good (follows order) least l

-- 19 and 21 on a list
abbrev pub list_questions : Order → List ℕ → List Question
list_questions order b = ask 19 (whole free_extents.size b) ∷ ask 21 (accepted order (records_of free_extents b)) ∷ []

-- the result is how many extents there are
unfoldable pub check_order : Order → List ℕ → Outcome ℕ
check_order order b = answer (list_questions order b) (done (length b / free_extents.size))
