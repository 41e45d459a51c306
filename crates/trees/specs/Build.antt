-- The blocks of a fresh tree, over any layout.
-- Assumes nothing.
use Rattle.std.specs.Prelude.{ℕ, suc, ◌+◌, ◌-◌, ◌*◌, ◌/◌, ◌^◌, ◌≤◌, ◌<◌, ◌≡◌, List, [], ◌∷◌, ◌++◌, length, take, drop, get_or, replicate}
use Rattle.codec.specs.Bytes.{with_bytes, be_bytes}
use Rattle.blocks.specs.Geometry.{null_ag_block}
use Rattle.trees.specs.Plan.{levels_of, shares}
use Rattle.walks.specs.Walk.{Shape, per_leaf, per_node, block_in}
use Rattle.walks.specs.Links.{next}
use Rattle.trees.specs.BlockLayout.{Links, Layout}

-- a block of the tree as the level above sees it: its number, and the bytes of the records under it
pub record Child : Type 0 where
  pub block : ℕ
  pub below : List ℕ

-- what a block holds: how many records or entries, the bytes after its header, and the bytes of the records under it
pub record Part : Type 0 where
  pub count : ℕ
  pub body : List ℕ
  pub below : List ℕ

-- a built block, and where in the group it goes
pub record Block : Type 0 where
  pub number : ℕ
  pub bytes : List ℕ

-- l with zeros after it, n long
abbrev pub padded : ℕ → List ℕ → List ℕ
padded n l = l ++ replicate (n - length l) 0

-- the children's keys, their pointers, and the records under them
unfoldable pub keys_of : (List ℕ → List ℕ) → List Child → List ℕ
keys_of keys [] = []
keys_of keys (c ∷ cs) = keys c.below ++ keys_of keys cs

unfoldable pub pointers_of : List Child → List ℕ
pointers_of [] = []
pointers_of (c ∷ cs) = be_bytes 4 c.block ++ pointers_of cs

unfoldable pub below_of : List Child → List ℕ
below_of [] = []
below_of (c ∷ cs) = c.below ++ below_of cs

-- a leaf holds records; a node its children's keys and, after room for the capacity's keys, their pointers
abbrev pub leaf_part : ℕ → List ℕ → Part
leaf_part n bytes = record { count = n; body = bytes; below = bytes }

abbrev pub node_part : Layout → List Child → Part
node_part t cs =
    record {
      count = length cs;
      body = padded (per_node t.shape * t.shape.keys_length) (keys_of t.keys cs) ++ pointers_of cs;
      below = below_of cs;
    }

-- a leaf for each count of records, and a node for each count of children, left to right
unfoldable pub leaf_parts : Layout → List ℕ → List ℕ → List Part
leaf_parts t [] bytes = []
leaf_parts t (n ∷ ns) bytes =
    leaf_part n (take (n * t.shape.record_length) bytes) ∷ leaf_parts t ns (drop (n * t.shape.record_length) bytes)

unfoldable pub node_parts : Layout → List ℕ → List Child → List Part
node_parts t [] cs = []
node_parts t (n ∷ ns) cs = node_part t (take n cs) ∷ node_parts t ns (drop n cs)

-- a block: the header stamped over zeros, the body, and zeros up to the block size
abbrev pub block_bytes : Layout → ℕ → ℕ → Links → Part → List ℕ
block_bytes t level number x p = t.stamp number level p.count x (padded t.shape.size (replicate t.shape.header 0 ++ p.body))

-- the blocks of one level over their numbers, where `left` stands before them: each names the block before it and the one after
unfoldable pub blocks_of : Layout → ℕ → ℕ → List ℕ → List Part → List Block
blocks_of t level left [] ps = []
blocks_of t level left (n ∷ ns) [] = []
blocks_of t level left (n ∷ ns) (p ∷ ps) =
    record { number = n; bytes = block_bytes t level n (record { left = left; right = next ns }) p } ∷ blocks_of t level n ns ps

-- a level as the one above sees it
unfoldable pub children_of : List ℕ → List Part → List Child
children_of [] ps = []
children_of (n ∷ ns) [] = []
children_of (n ∷ ns) (p ∷ ps) = record { block = n; below = p.below } ∷ children_of ns ps

-- the levels above children, where the plan says how many blocks each has
unfoldable pub build_above : Layout → ℕ → List ℕ → List ℕ → List Child → List Block
build_above t level [] numbers cs = []
build_above t level (k ∷ ks) numbers cs =
    let parts : List Part = node_parts t (shares (length cs) k) cs in
    blocks_of t level null_ag_block (take k numbers) parts ++ build_above t (suc level) ks (drop k numbers) (children_of (take k numbers) parts)

-- the tree of a plan: the leaves, then each level
unfoldable pub build_plan : Layout → List ℕ → List ℕ → List ℕ → List Block
build_plan t [] numbers bytes = []
build_plan t (k ∷ ks) numbers bytes =
    let parts : List Part = leaf_parts t (shares (length bytes / t.shape.record_length) k) bytes in
    blocks_of t 0 null_ag_block (take k numbers) parts ++ build_above t 1 ks (drop k numbers) (children_of (take k numbers) parts)

abbrev pub plan_of : Shape → List ℕ → List ℕ
plan_of s bytes = levels_of (per_leaf s) (per_node s) (length bytes / s.record_length)

-- the blocks of the tree, leaves first and root last
unfoldable pub build : Layout → List ℕ → List ℕ → List Block
build t numbers bytes = build_plan t (plan_of t.shape bytes) numbers bytes

-- blocks one after another
unfoldable pub output : List Block → List ℕ
output [] = []
output (b ∷ bs) = b.bytes ++ output bs

-- numbers that 32 bits hold
abbrev pub AreNumbers : List ℕ → Type 0
AreNumbers ns = (i : ℕ) → get_or ns i 0 < 2 ^ 32

-- the root is the last block
abbrev pub root_of : List ℕ → ℕ
root_of numbers = get_or numbers (length numbers - 1) 0

-- ---- blocks in an image

-- an image holds blocks that stand one after another in bytes, each whole at its number
abbrev pub Holds : ℕ → List ℕ → List ℕ → List ℕ → Type 0
Holds size image [] bytes = Unit {0}
Holds size image (n ∷ ns) bytes =
    ((n + 1) * size ≤ length image) × (block_in size image n ≡ take size bytes) × Holds size image ns (drop size bytes)

-- an image with the blocks stored at their numbers
unfoldable pub stored : ℕ → List ℕ → List ℕ → List ℕ → List ℕ
stored size image [] bytes = image
stored size image (n ∷ ns) bytes = with_bytes (stored size image ns (drop size bytes)) (n * size) (take size bytes)

-- numbers of blocks that lie whole in an image of so many bytes, no two the same
abbrev pub Other : ℕ → List ℕ → Type 0
Other n [] = Unit {0}
Other n (m ∷ ms) = (n ≡ m → ⊥) × Other n ms

abbrev pub Places : ℕ → ℕ → List ℕ → Type 0
Places size long [] = Unit {0}
Places size long (n ∷ ns) = ((n + 1) * size ≤ long) × Other n ns × Places size long ns
