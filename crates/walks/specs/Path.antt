-- Nine pairs: for each level a block and its next child. What is due is each pair's later children, the lowest level first.
-- Assumes nothing.
use Rattle.std.specs.Prelude.{ℕ, zero, suc, ◌+◌, ◌-◌, ◌*◌, ◌^◌, ◌≤◌, ◌<◌, ◌≡◌, Bool, true, cond, List, [], ◌∷◌, ◌++◌, eqb, length, get_or, set, Option, Some, None}
use Rattle.codec.specs.Bytes.{bytes_at, be_of}
use Rattle.blocks.specs.Offsets.{numrecs_at}
use Rattle.blocks.specs.Tree.{ptr_len}
use Rattle.walks.specs.declared.path.Due.{Due}
use Rattle.walks.specs.Walk.{Visit, visit_of, Shape, per_node, block_in, first_pointer}
use Rattle.walks.specs.WalkCall.{stack_places}

-- ---- the children of a node

-- child i of a node, and how many it says it has
abbrev pub child_at : Shape → List ℕ → ℕ → ℕ → Visit
child_at s part level i = visit_of (be_of (bytes_at part (first_pointer s + i * ptr_len) ptr_len)) level

abbrev pub fan_of : List ℕ → ℕ
fan_of part = be_of (bytes_at part numrecs_at 2)

-- the children from the i-th on, k of them, without those that are skipped
unfoldable pub children_from : (ℕ → Bool) → Shape → List ℕ → ℕ → ℕ → ℕ → List Visit
children_from keep s part level i zero = []
children_from keep s part level i (suc k) =
    cond (keep i) (child_at s part level i ∷ children_from keep s part level (suc i) k) (children_from keep s part level (suc i) k)

-- a walk skips none
abbrev pub every : List ℕ → ℕ → Bool
every part i = true

-- ---- the pairs

-- the children that are still due of a block of an image, at a level above 0, from its i-th on
abbrev pub due_in : (List ℕ → ℕ → Bool) → Shape → List ℕ → ℕ → ℕ → ℕ → List Visit
due_in keep s image level block i =
    children_from (keep (block_in s.size image block)) s (block_in s.size image block) (level - 1) i (fan_of (block_in s.size image block) - i)

-- how many children a block of an image says it has
abbrev pub fan_in : ℕ → List ℕ → ℕ → ℕ
fan_in size image block = fan_of (block_in size image block)

-- what is due on the pairs of the levels from `level` on, n of them: level l has its block at 2 l and its next child at 2 l + 1
unfoldable pub path_of : (ℕ → ℕ → ℕ → List Visit) → List ℕ → ℕ → ℕ → List Visit
path_of due p level zero = []
path_of due p level (suc n) = due level (get_or p (level * 2) 0) (get_or p (level * 2 + 1) 0) ++ path_of due p (suc level) n

-- the block of a pair lies in the image, has no more children than a node holds, and its next child is one of them or none
pub record Opened (s : Shape) (image p : List ℕ) (low levels : ℕ) : Type 0 where
  pub places : stack_places ≤ length p
  pub few : levels ≤ 9
  pub above : 1 ≤ low
  pub within : low ≤ levels
  pub inside : (l : ℕ) → low ≤ l → l < levels → (get_or p (l * 2) 0 + 1) * s.size ≤ length image
  pub most : (l : ℕ) → low ≤ l → l < levels → fan_of (block_in s.size image (get_or p (l * 2) 0)) ≤ per_node s
  pub next : (l : ℕ) → low ≤ l → l < levels → get_or p (l * 2 + 1) 0 ≤ fan_of (block_in s.size image (get_or p (l * 2) 0))

-- a block's own pair, where it is a node
abbrev pub with_pair : List ℕ → ℕ → ℕ → List ℕ
with_pair p block level = cond (eqb level 0) p (set (set p (level * 2) block) (level * 2 + 1) 0)

-- the lowest level that has a pair
abbrev pub low_of : ℕ → ℕ
low_of level = cond (eqb level 0) 1 level

-- no child is left on the levels from `low` on, below `top`
abbrev pub NoneLeft : ℕ → List ℕ → List ℕ → ℕ → ℕ → Type 0
NoneLeft size image p low top = (l : ℕ) → low ≤ l → l < top → fan_in size image (get_or p (l * 2) 0) ≤ get_or p (l * 2 + 1) 0

-- the next child of the block on a level's pair
abbrev pub next_child : Shape → List ℕ → List ℕ → ℕ → Visit
next_child s image p l = child_at s (block_in s.size image (get_or p (l * 2) 0)) (l - 1) (get_or p (l * 2 + 1) 0)

-- a child is taken: no child is left on the levels below its parent's, and the parent's pair then has the child after it
pub record Moved (s : Shape) (image : List ℕ) (block level low levels : ℕ) (p p' : List ℕ) : Type 0 where
  pub small : block < 2 ^ 32
  pub least : low ≤ level + 1
  pub inside : level + 1 < levels
  pub none_left : NoneLeft s.size image p low (level + 1)
  pub one_left : get_or p ((level + 1) * 2 + 1) 0 < fan_in s.size image (get_or p ((level + 1) * 2) 0)
  pub child : visit_of block level ≡ next_child s image p (level + 1)
  pub stored : p' ≡ set p ((level + 1) * 2 + 1) (get_or p ((level + 1) * 2 + 1) 0 + 1)

-- or there is none
abbrev pub Advanced : Shape → List ℕ → Option Due → ℕ → ℕ → List ℕ → List ℕ → Type 0
Advanced s image (Some d) low levels p p' = Moved s image d.block d.level low levels p p'
Advanced s image None low levels p p' = NoneLeft s.size image p low levels × (p' ≡ p)
