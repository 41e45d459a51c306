-- What a call of build comes to: its questions in order (docs/QUESTIONS.md), and the bytes of the blocks.
-- Assumes nothing.
use Rattle.std.specs.Prelude.{ℕ, ◌*◌, Bool, cond, List, [], ◌∷◌, leb, eqb, length}
use Rattle.codec.specs.Question.{Outcome, done, Question, ask, answer}
use Rattle.codec.specs.Records.{records_of, rmaps, refcounts, free_extents}
use Rattle.codec.specs.Accepted.{whole}
use Rattle.codec.specs.Rmaps as rmap
use Rattle.codec.specs.Refcounts as refcount
use Rattle.free.specs.Free as free
use Rattle.free.specs.declared.order.Order.TheVariants as order
use Rattle.blocks.specs.declared.geometry.Geometry.{Geometry}
use Rattle.blocks.specs.declared.kind.TreeKind.{TreeKind}
use Rattle.blocks.specs.declared.kind.TreeKind.TheVariants.{Rmap, Refcount, ByBlock, BySize}
use Rattle.blocks.specs.Geometry.{geometry_ok}
use Rattle.blocks.specs.Tree.{has_tree, overlapping, record_len, keys_len}
use Rattle.blocks.specs.Stamp.{stamped}
use Rattle.trees.specs.Plan.{sum}
use Rattle.walks.specs.Shapes.{shape_of}
use Rattle.trees.specs.BlockLayout.{Layout}
use Rattle.trees.specs.Build.{plan_of, build, output}
use Rattle.trees.specs.Keys.{rmap_keys, first_key}

-- ---- the kinds of tree

-- the keys of a child, from the bytes of the records under it: the reverse map alone has a function of its own
unfoldable pub keys_under : TreeKind → List ℕ → List ℕ
keys_under kind b = cond (overlapping kind) (rmap_keys (records_of rmaps b)) (first_key (keys_len kind) b)

abbrev pub layout_of : Geometry → TreeKind → Layout
layout_of g kind =
    record { shape = shape_of g kind; keys = keys_under kind; stamp = λ block level n x b. stamped g kind block level n x.left x.right b }

-- ---- the questions

-- 20 for the reverse map, 21 for the counts and for free space
abbrev pub order_number : TreeKind → ℕ
order_number Rmap = 20
order_number Refcount = 21
order_number ByBlock = 21
order_number BySize = 21

abbrev pub ordered : TreeKind → List ℕ → Bool
ordered Rmap l = rmap.accepted (records_of rmaps l)
ordered Refcount l = refcount.accepted (records_of refcounts l)
ordered ByBlock l = free.accepted order.ByBlock (records_of free_extents l)
ordered BySize l = free.accepted order.BySize (records_of free_extents l)

-- 17 and 18: as many numbers as the plan has blocks, and an output as long as they
abbrev pub room_questions : Geometry → List ℕ → ℕ → ℕ → List Question
room_questions g plan numbers room = ask 17 (eqb numbers (sum plan)) ∷ ask 18 (leb (sum plan * g.blocksize) room) ∷ []

-- 1 and 3; 19, and 20 or 21, on the list; up to 9 levels (16); then 17 and 18
abbrev pub build_questions : Geometry → TreeKind → List ℕ → ℕ → ℕ → List Question
build_questions g kind list numbers room =
    ask 1 (geometry_ok g)
    ∷ ask 3 (has_tree kind g.version)
    ∷ ask 19 (whole (record_len kind) list)
    ∷ ask (order_number kind) (ordered kind list)
    ∷ ask 16 (leb (length (plan_of (shape_of g kind) list)) 9)
    ∷ room_questions g (plan_of (shape_of g kind) list) numbers room

-- ---- the outcome

-- the bytes of the blocks, one after another
abbrev pub built_bytes : Geometry → TreeKind → List ℕ → List ℕ → List ℕ
built_bytes g kind list numbers = output (build (layout_of g kind) numbers list)

unfoldable pub build_outcome : Geometry → TreeKind → List ℕ → List ℕ → ℕ → Outcome (List ℕ)
build_outcome g kind list numbers room =
    answer (build_questions g kind list (length numbers) room) (done (built_bytes g kind list numbers))
