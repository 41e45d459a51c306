-- What build gives are bytes, and so is an image of bytes in which they are stored.
-- Assumes nothing beyond what a sound layout says of the stamp.
use Prim.Native.Nat.{ℕ, suc, ◌-◌, ◌*◌, ◌/◌, ◌≤◌}
use native.Mathlib.Omega.{arith}
use mathlib.Core.Path.{◌≡◌, sym, subst}
use mathlib.Core.Bool.{true}
use mathlib.Core.List.{List, [], ◌∷◌, ◌++◌}
use lib.ListN.{length, take, drop, replicate, length-append, length-replicate}
use Rattle.codec.specs.Bytes.{IsBytes}
use Rattle.codec.proofs.FieldLists.{IsBytes-take, IsBytes-drop, IsBytes-append}
use Rattle.codec.proofs.Overwrites.{IsBytes-with_bytes}
use Rattle.blocks.specs.declared.geometry.Geometry.{Geometry}
use Rattle.blocks.specs.declared.kind.TreeKind.{TreeKind}
use Rattle.blocks.specs.Geometry.{geometry_ok, null_ag_block, Fits}
use Rattle.blocks.specs.Tree.{has_tree}
use Rattle.blocks.proofs.Stamped.{stamped-bytes}
use Rattle.walks.specs.Links.{next}
use Rattle.trees.specs.Plan.{shares}
use Rattle.trees.specs.BlockLayout.{Links, Layout, Sound}
use Rattle.trees.specs.Build.{Child, Part, Block, leaf_parts, node_parts, blocks_of, children_of, build_above, build_plan, plan_of, build, output, stored}
use Rattle.trees.specs.BuildCall.{layout_of, built_bytes}
use Rattle.trees.proofs.BlockBytes.{Belows, belows-take, belows-drop, belows-leaves, belows-nodes, fresh, node-bytes, fresh-bytes}
use Rattle.trees.proofs.TreeKinds.{sound}
use Rattle.trees.proofs.Writing.{output-append}

-- the bodies of some blocks are bytes
abbrev Bodies : List Part → Type 0
Bodies [] = Unit {0}
Bodies (p ∷ ps) = IsBytes p.body × Bodies ps

module _ (t : Layout) (s : Sound t)
    (stamps : (block level n : ℕ) (x : Links) (b : List ℕ) → IsBytes b → t.shape.header ≤ length b → IsBytes (t.stamp block level n x b)) where
  -- a block to stamp has room for its header
  fresh-long : (p : Part) → t.shape.header ≤ length (fresh t p)
  fresh-long p =
      let z : List ℕ = replicate t.shape.header 0 in
      omega (arith, length-append (z ++ p.body) (replicate (t.shape.size - length (z ++ p.body)) 0), length-append z p.body, length-replicate {A = ℕ} t.shape.header 0)

  blocks-bytes : (level left : ℕ) (ns : List ℕ) (ps : List Part) → Bodies ps → IsBytes (output (blocks_of t level left ns ps))
  unfolding blocks_of output
  blocks-bytes level left [] ps h = λ i. omega arith
  blocks-bytes level left (n ∷ ns) [] h = λ i. omega arith
  blocks-bytes level left (n ∷ ns) (p ∷ ps) h =
      let x : Links = record { left = left; right = next ns } in
      IsBytes-append (t.stamp n level p.count x (fresh t p)) (output (blocks_of t level n ns ps))
      (stamps n level p.count x (fresh t p) (fresh-bytes t s p h.0) (fresh-long p)) (blocks-bytes level n ns ps h.1)

  nodes-are : (counts : List ℕ) (cs : List Child) → Belows cs → Bodies (node_parts t counts cs)
  unfolding node_parts
  nodes-are [] cs y = tt
  nodes-are (c ∷ counts) cs y = (node-bytes t s (take c cs) (belows-take c cs y), nodes-are counts (drop c cs) (belows-drop c cs y))

  leaves-are : (counts bytes : List ℕ) → IsBytes bytes → Bodies (leaf_parts t counts bytes)
  unfolding leaf_parts
  leaves-are [] bytes h = tt
  leaves-are (c ∷ counts) bytes h =
      let w : ℕ = t.shape.record_length in
      (IsBytes-take (c * w) bytes h, leaves-are counts (drop (c * w) bytes) (IsBytes-drop (c * w) bytes h))

  both : (xs ys : List Block) → IsBytes (output xs) → IsBytes (output ys) → IsBytes (output (xs ++ ys))
  both xs ys h k = subst IsBytes (sym (output-append xs ys)) (IsBytes-append (output xs) (output ys) h k)

  above_bytes : (level : ℕ) (ks numbers : List ℕ) (cs : List Child) → Belows cs → IsBytes (output (build_above t level ks numbers cs))
  unfolding build_above output
  above_bytes level [] numbers cs y = λ i. omega arith
  above_bytes level (k ∷ ks) numbers cs y =
      let ps : List Part = node_parts t (shares (length cs) k) cs in
      both (blocks_of t level null_ag_block (take k numbers) ps) (build_above t (suc level) ks (drop k numbers) (children_of (take k numbers) ps))
      (blocks-bytes level null_ag_block (take k numbers) ps (nodes-are (shares (length cs) k) cs y))
      (above_bytes (suc level) ks (drop k numbers) (children_of (take k numbers) ps) (belows-nodes t (take k numbers) (shares (length cs) k) cs y))

  plan-bytes : (plan numbers bytes : List ℕ) → IsBytes bytes → IsBytes (output (build_plan t plan numbers bytes))
  unfolding build_plan output
  plan-bytes [] numbers bytes h = λ i. omega arith
  plan-bytes (k ∷ ks) numbers bytes h =
      let ps : List Part = leaf_parts t (shares (length bytes / t.shape.record_length) k) bytes in
      both (blocks_of t 0 null_ag_block (take k numbers) ps) (build_above t 1 ks (drop k numbers) (children_of (take k numbers) ps))
      (blocks-bytes 0 null_ag_block (take k numbers) ps (leaves-are (shares (length bytes / t.shape.record_length) k) bytes h))
      (above_bytes 1 ks (drop k numbers) (children_of (take k numbers) ps) (belows-leaves t (take k numbers) (shares (length bytes / t.shape.record_length) k) bytes h))

  build-bytes : (numbers bytes : List ℕ) → IsBytes bytes → IsBytes (output (build t numbers bytes))
  unfolding build
  build-bytes numbers bytes h = plan-bytes (plan_of t.shape bytes) numbers bytes h

pub built-bytes : (g : Geometry) (kind : TreeKind) (list numbers : List ℕ) → geometry_ok g ≡ true → has_tree kind g.version ≡ true → Fits g → IsBytes list
    → IsBytes (built_bytes g kind list numbers)
built-bytes g kind list numbers ok tree fits h =
    build-bytes (layout_of g kind) (sound g kind ok tree fits)
    (λ block level n x b are long. stamped-bytes g kind block level n x.left x.right b fits long are) numbers list h

pub stored_bytes : (size : ℕ) (image numbers bytes : List ℕ) → IsBytes image → IsBytes bytes → IsBytes (stored size image numbers bytes)
unfolding stored
stored_bytes size image [] bytes h k = h
stored_bytes size image (n ∷ ns) bytes h k =
    IsBytes-with_bytes (stored size image ns (drop size bytes)) (n * size) (take size bytes)
    (stored_bytes size image ns (drop size bytes) h (IsBytes-drop size bytes k)) (IsBytes-take size bytes k)
