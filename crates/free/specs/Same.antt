-- Whether two lists hold the same extents, equally often: the questions on both lists, then yes or no.
-- Assumes nothing.
use Rattle.std.specs.Prelude.{ℕ, ◌+◌, Bool, true, cond, ◌&&◌, List, [], ◌∷◌, ◌++◌, eqb, Result, Ok, Err}
use Rattle.codec.specs.Question.{Outcome, done, refused, answer}
use Rattle.codec.specs.Records.{records_of, free_extents}
use Rattle.codec.specs.ListRefusal.{list_number, list_values}
use Rattle.codec.specs.declared.check.ListRefusal.{ListRefusal}
use Rattle.codec.specs.declared.free_extent.FreeExtent.{FreeExtent}
use Rattle.free.specs.declared.order.Order.TheVariants.{ByBlock, BySize}
use Rattle.free.specs.Free.{list_questions}

-- are two extents the same
abbrev pub alike : FreeExtent → FreeExtent → Bool
alike e x = eqb e.startblock x.startblock && eqb e.blockcount x.blockcount

-- how often an extent is in a list
unfoldable pub occurs : FreeExtent → List FreeExtent → ℕ
occurs e [] = 0
occurs e (x ∷ l) = cond (alike e x) 1 0 + occurs e l

-- is each of some extents as often in one list as in another?
unfoldable pub equally_often : List FreeExtent → List FreeExtent → List FreeExtent → Bool
equally_often [] l m = true
equally_often (e ∷ es) l m = eqb (occurs e l) (occurs e m) && equally_often es l m

-- do the lists hold the same extents, equally often? `EverySame` of specs/Claims.antt: exactly then every extent whatever is as often in either
abbrev pub same_extents : List FreeExtent → List FreeExtent → Bool
same_extents l m = equally_often (l ++ m) l m

-- 19 and 21 on the list by block, 19 and 21 on the list by size; then yes or no
unfoldable pub same_outcome : List ℕ → List ℕ → Outcome Bool
same_outcome b s =
    answer (list_questions ByBlock b ++ list_questions BySize s) (done (same_extents (records_of free_extents b) (records_of free_extents s)))

-- what an answer says
abbrev pub same_said : Result Bool ListRefusal → Outcome Bool
same_said (Ok so) = done so
same_said (Err r) = refused (list_number r) (list_values r)
