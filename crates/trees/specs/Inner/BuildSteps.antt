-- What build comes to from a question on, for the functions that ask them.
-- Assumes nothing.
use Rattle.std.specs.Prelude.{ℕ, List, [], ◌∷◌, leb, length}
use Rattle.codec.specs.Question.{Outcome, done, ask, answer}
use Rattle.codec.specs.Rmaps as rmap
use Rattle.codec.specs.Refcounts as refcount
use Rattle.free.specs.Free as free
use Rattle.free.specs.declared.order.Order.TheVariants as order
use Rattle.blocks.specs.declared.geometry.Geometry.{Geometry}
use Rattle.blocks.specs.declared.kind.TreeKind.{TreeKind}
use Rattle.blocks.specs.declared.kind.TreeKind.TheVariants.{Rmap, Refcount, ByBlock, BySize}
use Rattle.walks.specs.Shapes.{shape_of}
use Rattle.trees.specs.Build.{plan_of}
use Rattle.trees.specs.BuildCall.{room_questions, built_bytes}

-- 19, and 20 or 21
abbrev pub check_list : TreeKind → List ℕ → Outcome ℕ
check_list Rmap l = rmap.check_order l
check_list Refcount l = refcount.check_order l
check_list ByBlock l = free.check_order order.ByBlock l
check_list BySize l = free.check_order order.BySize l

-- 17 and 18
unfoldable pub room_outcome : Geometry → TreeKind → List ℕ → List ℕ → ℕ → Outcome (List ℕ)
room_outcome g kind list numbers room =
    answer (room_questions g (plan_of (shape_of g kind) list) (length numbers) room) (done (built_bytes g kind list numbers))

-- 16 to 18
unfoldable pub plan_then_room : Geometry → TreeKind → List ℕ → List ℕ → ℕ → Outcome (List ℕ)
plan_then_room g kind list numbers room =
    answer (ask 16 (leb (length (plan_of (shape_of g kind) list)) 9) ∷ []) (room_outcome g kind list numbers room)
