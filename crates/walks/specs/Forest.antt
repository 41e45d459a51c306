-- Trees side by side, as a finished walk reads them. The statement is `EveryWalk`, at the end; proofs/FinishedWalks.antt proves it.
-- Assumes nothing.
use Rattle.std.specs.Prelude.{ℕ, zero, suc, ◌+◌, ◌-◌, ◌≡◌, List, [], ◌∷◌, ◌++◌}
use Rattle.codec.specs.Question.{Outcome, done}
use Rattle.blocks.specs.declared.geometry.Geometry.{Geometry}
use Rattle.blocks.specs.declared.kind.TreeKind.{TreeKind}
use Rattle.walks.specs.Walk.{Visit, visit_of, Look, good, Trace, finished, met, visits, records, ending, look_in}
use Rattle.walks.specs.WalkCall.{Counts, Lent, walk_of, report}
use Rattle.walks.specs.Shapes.{shape_of}

-- trees side by side: a root with its records' bytes, the trees below it, and the trees to its right
pub data Forest : Type 0 where
  empty : Forest
  tree : Visit → List ℕ → Forest → Forest → Forest

-- the roots from left to right
unfoldable pub roots : Forest → List Visit
roots empty = []
roots (tree v b below right) = v ∷ roots right

-- all blocks, a root before what is below it, and all records' bytes from left to right
unfoldable pub blocks_in : Forest → List Visit
blocks_in empty = []
blocks_in (tree v b below right) = v ∷ blocks_in below ++ blocks_in right

unfoldable pub bytes_in : Forest → List ℕ
bytes_in empty = []
bytes_in (tree v b below right) = b ++ (bytes_in below ++ bytes_in right)

-- every block of the forest, looked at, is as it was laid out
abbrev pub Stands : (Visit → Look) → Forest → Type 0
Stands look empty = Unit {0}
Stands look (tree v b below right) = (look v ≡ good (roots below) b) × Stands look below × Stands look right

-- the first n trees, and those after them
unfoldable pub first : ℕ → Forest → Forest
first zero f = empty
first (suc n) empty = empty
first (suc n) (tree v b below right) = tree v b below (first n right)

unfoldable pub rest : ℕ → Forest → Forest
rest zero f = f
rest (suc n) empty = empty
rest (suc n) (tree v b below right) = rest n right

-- the walk that reads a forest and goes on
unfoldable pub through : Forest → Trace → Trace
through empty t = t
through (tree v b below right) t = met v b (through below (through right t))

-- how many blocks it has
unfoldable pub size_of : Forest → ℕ
size_of empty = 0
size_of (tree v b below right) = suc (size_of below + size_of right)

-- ---- the claim

-- a walk from a root read one tree, which stands: its visits are the tree's blocks, each before those below it and these from left to right, and
-- its records are the tree's
pub record ReadTree (look : Visit → Look) (root : Visit) (t : Trace) : Type 0 where
  pub forest : Forest
  pub rooted : roots forest ≡ root ∷ []
  pub stands : Stands look forest
  pub visited : visits t ≡ blocks_in forest
  pub in_order : records t ≡ bytes_in forest

-- "The walk goes left to right, depth first", of a call that comes to o
pub record DepthFirst (look : Visit → Look) (root : Visit) (o : Outcome Trace) : Type 0 where
  -- a walk that finished read one tree
  pub reads : (t : Trace) → o ≡ done t → ending t ≡ finished → ReadTree look root t
  -- a walk that answers with counts finished
  pub finishes : (w : ℕ) (c : Counts) → (report w o).outcome ≡ done c → (t : Trace) × (o ≡ done t) × (ending t ≡ finished)

-- every call of the walk goes so
abbrev pub EveryWalk : Type 0
EveryWalk =
    (g : Geometry) (kind : TreeKind) (image : List ℕ) (root levels : ℕ) (m : Lent)
    → DepthFirst (look_in (shape_of g kind) image) (visit_of root (levels - 1)) (walk_of g kind image root levels m)
