-- What the writers of a tree's blocks are asked, and the forms in which they have a level in hand.
-- Assumes nothing.
use Rattle.std.specs.Prelude.{ℕ, suc, ◌+◌, ◌-◌, ◌*◌, ◌/◌, ◌≤◌, ◌<◌, ◌≡◌, true, List, [], ◌∷◌, ◌++◌, length, get_or, take, drop}
use Rattle.codec.specs.Bytes.{bytes_at, be_bytes}
use Rattle.blocks.specs.declared.geometry.Geometry.{Geometry}
use Rattle.blocks.specs.declared.kind.TreeKind.{TreeKind}
use Rattle.blocks.specs.Geometry.{geometry_ok, null_ag_block}
use Rattle.blocks.specs.Tree.{has_tree, overlapping, record_len}
use Rattle.trees.specs.Plan.{sum, shares, first_of}
use Rattle.walks.specs.Walk.{per_leaf, per_node}
use Rattle.trees.specs.Build.{Child, Block, node_parts, blocks_of, build_above, plan_of}
use Rattle.trees.specs.Keys.{AllGood}
use Rattle.walks.specs.Shapes.{shape_of}
use Rattle.trees.specs.BuildCall.{layout_of}

-- a list whose keys can be worked out: in the reverse map each record is good
abbrev pub Keyed : TreeKind → List ℕ → Type 0
Keyed kind list = overlapping kind ≡ true → AllGood list

-- a geometry and a list that passed 1, 3, 19, and 20 or 21
pub record Given (g : Geometry) (kind : TreeKind) (list : List ℕ) : Type 0 where
  pub ok : geometry_ok g ≡ true
  pub tree : has_tree kind g.version ≡ true
  pub whole : length list / record_len kind * record_len kind ≡ length list
  pub keyed : Keyed kind list

-- the records under a child: those from one to another
pub record Under (kind : TreeKind) (list : List ℕ) (from to : ℕ) : Type 0 where
  pub some : from < to
  pub inside : to ≤ length list / record_len kind

-- a plan up to a level, where no block of the level is without records
pub record Planned (records : ℕ) (levels : List ℕ) (level : ℕ) : Type 0 where
  pub inside : level < length levels
  pub some : (l : ℕ) → l ≤ level → 0 < get_or levels l 0
  pub rises : (j : ℕ) → j < get_or levels level 0 → first_of records levels level j < first_of records levels level (suc j)

-- the pointers to blocks
unfoldable pub pointer_bytes : List ℕ → List ℕ
pointer_bytes [] = []
pointer_bytes (n ∷ ns) = be_bytes 4 n ++ pointer_bytes ns

-- children with these numbers from the s-th on, where the records under child i are those from f i to f (i + 1), of w bytes each
unfoldable pub span_children : ℕ → List ℕ → (ℕ → ℕ) → ℕ → List ℕ → List Child
span_children w list f s [] = []
span_children w list f s (n ∷ ns) =
    record { block = n; below = bytes_at list (f s * w) (f (suc s) * w - f s * w) } ∷ span_children w list f (suc s) ns

-- the children of a level
abbrev pub level_children : TreeKind → List ℕ → List ℕ → ℕ → ℕ → List ℕ → List Child
level_children kind list levels level s ns =
    span_children (record_len kind) list (first_of (length list / record_len kind) levels level) s ns

-- the leaves: as many as the list needs, and an output as long as they
pub record Leaves (g : Geometry) (kind : TreeKind) (list blocks out : List ℕ) : Type 0 where
  pub some : 0 < length blocks
  pub room : length list / record_len kind ≤ length blocks * per_leaf (shape_of g kind)
  pub long : length blocks * g.blocksize ≤ length out

-- some children of a level
pub record Children (kind : TreeKind) (list levels : List ℕ) (level child : ℕ) (below : List ℕ) : Type 0 where
  pub planned : Planned (length list / record_len kind) levels level
  pub last : child + length below ≤ get_or levels level 0

-- a node over them, in a block as long as a block
pub record Node (g : Geometry) (kind : TreeKind) (list levels : List ℕ) (level child : ℕ) (below b : List ℕ) : Type 0 where
  pub children : Children kind list levels level child below
  pub most : length below ≤ per_node (shape_of g kind)
  pub shallow : level < 9
  pub long : length b ≡ g.blocksize

-- the nodes above a level: as many as its children need, and an output as long as they
pub record Nodes (g : Geometry) (kind : TreeKind) (list levels : List ℕ) (level : ℕ) (below blocks out : List ℕ) : Type 0 where
  pub planned : Planned (length list / record_len kind) levels level
  pub all : length below ≡ get_or levels level 0
  pub some : 0 < length blocks
  pub room : length below ≤ length blocks * per_node (shape_of g kind)
  pub shallow : level < 9
  pub long : length blocks * g.blocksize ≤ length out

abbrev pub nodes_above : Geometry → TreeKind → List ℕ → List ℕ → ℕ → List ℕ → List ℕ → List Block
nodes_above g kind list levels level below blocks =
    blocks_of (layout_of g kind) (level + 1) null_ag_block blocks
    (node_parts (layout_of g kind) (shares (length below) (length blocks)) (level_children kind list levels level 0 below))

-- the levels above the leaves
abbrev pub levels_above : Geometry → TreeKind → List ℕ → List ℕ → List ℕ → List Block
levels_above g kind list levels numbers =
    let k : ℕ = get_or levels 0 0 in
    build_above (layout_of g kind) 1 (drop 1 levels) (drop k numbers) (level_children kind list levels 0 0 (take k numbers))

-- a plan of the list, of up to 9 levels (16)
pub record Laid (g : Geometry) (kind : TreeKind) (list levels : List ℕ) : Type 0 where
  pub plan : levels ≡ plan_of (shape_of g kind) list
  pub few : length levels ≤ 9

-- a tree: there are as many numbers as its plan has blocks (17), and the output is as long as they (18)
pub record Tree (g : Geometry) (levels numbers out : List ℕ) : Type 0 where
  pub blocks : length numbers ≡ sum levels
  pub long : length numbers * g.blocksize ≤ length out
