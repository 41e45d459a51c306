-- In the small reverse map a lookup of one block reads the root and the leaf that has the block, and skips the other leaf.
-- Assumes nothing.
use Rattle.std.proofs.Common.{◌≡◌, ℕ, zero, suc, ◌+◌, ◌*◌, ◌<◌, ◌≤◌, Bool, true, false, ◌&&◌, ◌||◌, leb, List, [], ◌∷◌, ◌++◌, take, drop, refl, ap, ◌∙◌, arith}
use Rattle.codec.specs.Bytes as bytes
use Rattle.codec.specs.Bytes.{bytes_at, be_of}
use Rattle.codec.specs.Question.{done}
use Rattle.codec.specs.Records as records
use Rattle.codec.specs.Rmaps as rmap
use Rattle.blocks.specs.declared.kind.TreeKind.TheVariants as kind
use Rattle.blocks.specs.Geometry as geometry
use Rattle.blocks.specs.Geometry.{null_ag_block}
use Rattle.blocks.specs.Tree as tree
use Rattle.walks.specs.Walk.{Visit, visit_of, Look, good, Trace, finished, met, run, visits, Shape, block_in, look_in}
use Rattle.walks.specs.Shapes.{shape_of}
use Rattle.walks.proofs.RunLaws.{run_none}
use Rattle.trees.specs.Plan as plan
use Rattle.trees.specs.BlockLayout.{Links, Layout, Sound}
use Rattle.trees.specs.Keys as keys
use Rattle.trees.specs.Build as building
use Rattle.trees.specs.Build.{Child, Block, AreNumbers, node_part, leaf_parts, keys_of, block_bytes, blocks_of, build_above, build}
use Rattle.trees.specs.BuildCall as call
use Rattle.trees.specs.BuildCall.{layout_of}
use Rattle.trees.proofs.LevelWalk as level
use Rattle.trees.proofs.TreeKinds.{sound}
use Rattle.trees.proofs.Stored.{build-made, held-blocks}
use Rattle.trees.proofs.BlockBytes.{Held, held_both, belows-leaves, above-seen, leaves-seen}
use Rattle.trees.proofs.SmallTree.{small, small-fits, numbers}
use Rattle.lookup.specs.Lookup as lookup
use Rattle.lookup.specs.Lookup.{low_start, high_start, keeps, look_asked, lookup_of}
use Rattle.lookup.proofs.BuiltKeys.{keys-at}
use Rattle.lookup.proofs.SmallLookup.{shared, list, list_bytes, image, image_holds}

abbrev t : Layout
t = layout_of small kind.Rmap

abbrev sh : Shape
sh = shape_of small kind.Rmap

s : Sound t
unfolding geometry.is_version geometry.is_block_size geometry.geometry_ok
s = sound small kind.Rmap refl refl small-fits

-- the two leaves as the root sees them, each with ten records
abbrev kids : List Child
kids = record { block = 0; below = take 240 list } ∷ record { block = 1; below = take 240 (drop 240 list) } ∷ []

-- no block stands beside the root
abbrev alone : Links
alone = record { left = null_ag_block; right = null_ag_block }

abbrev leaf_blocks : List Block
leaf_blocks = blocks_of t 0 null_ag_block (0 ∷ 1 ∷ []) (leaf_parts t (10 ∷ 10 ∷ []) list)

abbrev root_block : List Block
root_block = build_above t 1 (1 ∷ []) (2 ∷ []) kids

-- the image holds them
all_held : Held t image (leaf_blocks ++ root_block)
unfolding build building.build_plan building.children_of leaf_parts shared bytes.be_bytes records.field_bytes records.bytes_of tree.header_len plan.ceil plan.leaves plan.above plan.levels_of plan.sum plan.share_of plan.shares_from
all_held = held-blocks t image (build t numbers list) numbers (build-made t s.sized numbers list (omega arith) refl) image_holds

held : Held t image leaf_blocks × Held t image root_block
held = held_both t s image leaf_blocks root_block all_held

two-numbers : AreNumbers (0 ∷ 1 ∷ [])
two-numbers zero = omega arith
two-numbers (suc zero) = omega arith
two-numbers (suc (suc i)) = omega arith

one_number : AreNumbers (2 ∷ [])
one_number zero = omega arith
one_number (suc i) = omega arith

-- ---- what the walk's look shows

root-look : look_in sh image (visit_of 2 1) ≡ good (visit_of 0 0 ∷ visit_of 1 0 ∷ []) []
unfolding building.children_of leaf_parts tree.header_len plan.sum plan.share_of plan.shares_from level.visits_to level.numbers_of
root-look =
    (above-seen t s image 0 (1 ∷ []) (2 ∷ []) kids one_number two-numbers (belows-leaves t (0 ∷ 1 ∷ []) (10 ∷ 10 ∷ []) list list_bytes) (omega arith) (omega arith, omega arith, refl) refl held.1).0.0

leaf-look : look_in sh image (visit_of 1 0) ≡ good [] (take 240 (drop 240 list))
unfolding shared bytes.be_bytes records.field_bytes records.bytes_of tree.header_len plan.sum
leaf-look =
    (leaves-seen t s image null_ag_block (0 ∷ 1 ∷ []) (10 ∷ 10 ∷ []) list (omega arith) two-numbers list_bytes (omega arith, (omega arith, tt)) (omega arith) held.0).1.0

-- ---- the keys in the root

abbrev root : List ℕ
root = block_in 512 image 2

root_is : root ≡ block_bytes t 1 2 alone (node_part t kids)
unfolding blocks_of build_above building.node_parts tree.header_len plan.share_of plan.shares_from
root_is = held.1.1

key_in : (i o : ℕ) → i < 2 → o + 4 ≤ 40 → be_of (bytes_at root (sh.header + i * 40 + o) 4) ≡ be_of (bytes_at (keys_of t.keys kids) (i * 40 + o) 4)
unfolding tree.header_len
key_in i o h k = ap (λ (p : List ℕ). be_of (bytes_at p (sh.header + i * 40 + o) 4)) root_is ∙ ap be_of (keys-at t s 2 0 alone kids i o 4 (omega arith) h k)

-- the first leaf's records end with block 22; the second's lie from 24 to 42
starts : (high_start sh root 0 ≡ 22) × (low_start sh root 1 ≡ 24) × (high_start sh root 1 ≡ 42)
unfolding shared bytes.bytes_at bytes.be_of bytes.be_bytes records.fields_of records.field_bytes records.first_records records.records_of records.bytes_of rmap.reserved rmap.mapping rmap.exempt keys.high_key keys.key_below keys.greater keys.greatest keys.rmap_keys keys_of call.keys_under tree.header_len
starts =
    (key_in 0 20 (omega arith) (omega arith), key_in 1 0 (omega arith) (omega arith), key_in 1 20 (omega arith) (omega arith))

-- ---- the lookup of block 42

abbrev pub one : List ℕ
one = 42 ∷ []

first_out : keeps one sh root 0 ≡ false
unfolding lookup.any_between
first_out = rw starts.0 (either (leb (low_start sh root 0) 42))
  where
    either : (b : Bool) → ((b && false) || false) ≡ false
    either true = refl
    either false = refl

second-kept : keeps one sh root 1 ≡ true
unfolding lookup.any_between
second-kept = rw (starts.1, starts.2) refl

root-asked : look_asked one sh image (visit_of 2 1) ≡ good (visit_of 1 0 ∷ []) []
unfolding look_asked lookup.kept_from
root-asked = rw (root-look, first_out, second-kept) refl

leaf-asked : look_asked one sh image (visit_of 1 0) ≡ good [] (take 240 (drop 240 list))
unfolding look_asked lookup.kept_from
leaf-asked = rw leaf-look refl

-- a root with one child, which is a leaf
two-met : (look : Visit → Look) (n : ℕ) (v w : Visit) (b : List ℕ) → look v ≡ good (w ∷ []) [] → look w ≡ good [] b → run look (suc (suc n)) (v ∷ []) ≡ met v [] (met w b finished)
unfolding run
two-met look n v w b p q = rw (p, q) (ap (λ (x : Trace). met v [] (met w b x)) (run_none look n))

-- the root and the second leaf are read, the first leaf is not
pub small-descent : (d : Trace) × (lookup_of small image 2 2 40 one 1 ≡ done d) × (visits d ≡ visit_of 2 1 ∷ visit_of 1 0 ∷ [])
unfolding lookup.ascending lookup.descent_of visits geometry.is_version geometry.is_block_size geometry.geometry_ok tree.header_len
small-descent =
    let b : List ℕ = take 240 (drop 240 list) in
    let e : run (look_asked one sh image) 64 (visit_of 2 1 ∷ []) ≡ met (visit_of 2 1) [] (met (visit_of 1 0) b finished) =
    two-met (look_asked one sh image) 62 (visit_of 2 1) (visit_of 1 0) b root-asked leaf-asked in
    (met (visit_of 2 1) [] (met (visit_of 1 0) b finished), ap done e, refl)
