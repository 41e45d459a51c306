-- Every built block is as long as a block and has the number given for it; stored at distinct numbers, an image holds them.
-- Assumes nothing beyond what a sound layout says of the stamp and the check.
use Prim.Native.Nat.{ℕ, suc, ◌+◌, ◌*◌, ◌/◌, ◌≤◌}
use native.Mathlib.Nat.{zero-mul, mul-le-mul_right}
use native.Mathlib.Omega.{arith}
use mathlib.Core.Path.{◌≡◌, refl, sym, ap, ◌∙◌, subst}
use mathlib.Core.List.{List, [], ◌∷◌, ◌++◌}
use lib.ListN.{length, take, drop, length-append, length-take, length-drop, take-append-drop}
use lib.Seq.{take_at, drop_at, length-take-le}
use lib.Dec.{ltb}
use borrow.Author.Tests.{ltb-true, ltb-false}
use Rattle.codec.specs.Bytes.{bytes_at, with_bytes}
use Rattle.codec.proofs.Parts.{length-with_bytes, bytes_at-same, bytes_at-before, bytes_at-after}
use Rattle.blocks.specs.Geometry.{null_ag_block}
use Rattle.trees.specs.Plan.{leaves, above, levels_of, sum, shares}
use Rattle.trees.specs.BlockLayout.{Layout, Sized}
use Rattle.walks.specs.Links.{next}
use Rattle.walks.specs.Walk.{per_leaf, per_node, block_in}
use Rattle.trees.specs.Build.{Child, Part, Block, leaf_part, node_part, leaf_parts, node_parts, blocks_of, children_of, build_above, build_plan, plan_of, build, output, Holds, stored, Other, Places}
use Rattle.trees.proofs.Sharing.{split, Shaped, Most, shares-most, shares-length, leaves-some, leaves-room, above-shaped}
use Rattle.trees.proofs.LevelWalk.{next-length, numbers-length, numbers-of-children}
use Rattle.trees.proofs.LeafWalk.{leaf-parts-length}
use Rattle.trees.proofs.BlockBytes.{Held, block-length, leaf-roomy, node-roomy}

-- blocks of one length, with these numbers
abbrev pub Made : ℕ → List Block → List ℕ → Type 0
Made size [] [] = Unit {0}
Made size [] (n ∷ ns) = ⊥
Made size (b ∷ bs) [] = ⊥
Made size (b ∷ bs) (n ∷ ns) = (length b.bytes ≡ size) × (b.number ≡ n) × Made size bs ns

pub made-append : (size : ℕ) (xs ys : List Block) (ns ms : List ℕ) → Made size xs ns → Made size ys ms → Made size (xs ++ ys) (ns ++ ms)
made-append size [] ys [] ms h k = k
made-append size [] ys (n ∷ ns) ms h k = absurd h
made-append size (x ∷ xs) ys [] ms h k = absurd h
made-append size (x ∷ xs) ys (n ∷ ns) ms h k = (h.0, h.1, made-append size xs ys ns ms h.2 k)

pub output-length : (size : ℕ) (bs : List Block) (ns : List ℕ) → Made size bs ns → length (output bs) ≡ length ns * size
unfolding output
output-length size [] [] h = sym (zero-mul size)
output-length size [] (n ∷ ns) h = absurd h
output-length size (b ∷ bs) [] h = absurd h
output-length size (b ∷ bs) (n ∷ ns) h = omega (arith, length-append b.bytes (output bs), output-length size bs ns h.2, h.0)

module _ (t : Layout) (s : Sized t) where
  pub nodes-made : (level left : ℕ) (ns counts : List ℕ) (cs : List Child) → length ns ≡ length counts → Most (per_node t.shape) counts → Made t.shape.size (blocks_of t level left ns (node_parts t counts cs)) ns
  unfolding blocks_of node_parts
  nodes-made level left [] counts cs e m = tt
  nodes-made level left (n ∷ ns) [] cs e m = absurd (omega arith)
  nodes-made level left (n ∷ ns) (c ∷ counts) cs e m =
      let k : length (take c cs) ≤ per_node t.shape = omega (arith, length-take c cs, m.0) in
      (block-length t s level n (record { left = left; right = next ns }) (node_part t (take c cs)) (node-roomy t s (take c cs) k), refl, nodes-made level n ns counts (drop c cs) (omega arith) m.1)

  pub leaves-made : (left : ℕ) (ns counts bytes : List ℕ) → length ns ≡ length counts → Most (per_leaf t.shape) counts → Made t.shape.size (blocks_of t 0 left ns (leaf_parts t counts bytes)) ns
  unfolding blocks_of leaf_parts
  leaves-made left [] counts bytes e m = tt
  leaves-made left (n ∷ ns) [] bytes e m = absurd (omega arith)
  leaves-made left (n ∷ ns) (c ∷ counts) bytes e m =
      let p : List ℕ = take (c * t.shape.record_length) bytes in
      (block-length t s 0 n (record { left = left; right = next ns }) (leaf_part c p) (leaf-roomy t s c p m.0 (omega (arith, length-take (c * t.shape.record_length) bytes))), refl, leaves-made n ns counts (drop (c * t.shape.record_length) bytes) (omega arith) m.1)

  above-made : (level : ℕ) (ks nums : List ℕ) (cs : List Child) → Shaped (per_node t.shape) (length cs) ks → length nums ≡ sum ks → Made t.shape.size (build_above t level ks nums cs) nums
  unfolding build_above sum
  above-made level [] [] cs e z = tt
  above-made level [] (n ∷ nums) cs e z = absurd (omega arith)
  above-made level (k ∷ ks) nums cs e z =
      let ps : List Part = node_parts t (shares (length cs) k) cs in
      let cs' : List Child = children_of (take k nums) ps in
      let i : length cs' ≡ k = next-length t k nums cs (omega arith) in
      subst (Made t.shape.size (blocks_of t level null_ag_block (take k nums) ps ++ build_above t (suc level) ks (drop k nums) cs')) (take-append-drop k nums)
      (made-append t.shape.size (blocks_of t level null_ag_block (take k nums) ps) (build_above t (suc level) ks (drop k nums) cs') (take k nums) (drop k nums)
      (nodes-made level null_ag_block (take k nums) (shares (length cs) k) cs (length-take-le k nums (omega arith) ∙ sym (shares-length (length cs) k 0 k)) (shares-most (length cs) k 0 k (per_node t.shape) e.0 e.1))
      (above-made (suc level) ks (drop k nums) cs' (subst (λ (x : ℕ). Shaped (per_node t.shape) x ks) (sym i) e.2) (omega (arith, length-drop k nums))))

  -- every block of a built tree, of any bytes
  pub build-made : (numbers bytes : List ℕ) → length (plan_of t.shape bytes) ≤ 9 → length numbers ≡ sum (plan_of t.shape bytes) → Made t.shape.size (build t numbers bytes) numbers
  unfolding build build_plan levels_of sum
  build-made numbers bytes few long =
      let n : ℕ = length bytes / t.shape.record_length in
      let k : ℕ = leaves (per_leaf t.shape) n in
      let ks : List ℕ = above (per_node t.shape) k 9 in
      let ps : List Part = leaf_parts t (shares n k) bytes in
      let cs : List Child = children_of (take k numbers) ps in
      let kn : length (take k numbers) ≡ k = length-take-le k numbers (omega arith) in
      let st : length (take k numbers) ≡ length (shares n k) = kn ∙ sym (shares-length n k 0 k) in
      let i : length cs ≡ k = sym (numbers-length cs) ∙ ap length (numbers-of-children (take k numbers) ps (st ∙ sym (leaf-parts-length t (shares n k) bytes))) ∙ kn in
      let sh : Shaped (per_node t.shape) k ks = above-shaped (per_node t.shape) k 9 s.node_some (leaves-some (per_leaf t.shape) n) (omega arith) in
      subst (Made t.shape.size (blocks_of t 0 null_ag_block (take k numbers) ps ++ build_above t 1 ks (drop k numbers) cs)) (take-append-drop k numbers)
      (made-append t.shape.size (blocks_of t 0 null_ag_block (take k numbers) ps) (build_above t 1 ks (drop k numbers) cs) (take k numbers) (drop k numbers)
      (leaves-made null_ag_block (take k numbers) (shares n k) bytes st (shares-most n k 0 k (per_leaf t.shape) (leaves-some (per_leaf t.shape) n) (leaves-room (per_leaf t.shape) n s.leaf_some)))
      (above-made 1 ks (drop k numbers) cs (subst (λ (x : ℕ). Shaped (per_node t.shape) x ks) (sym i) sh) (omega (arith, length-drop k numbers))))

-- ---- blocks stored in an image

-- the output of blocks, held block by block
pub held-blocks : (t : Layout) (image : List ℕ) (bs : List Block) (ns : List ℕ) → Made t.shape.size bs ns → Holds t.shape.size image ns (output bs) → Held t image bs
unfolding output
held-blocks t image [] ns m h = tt
held-blocks t image (b ∷ bs) [] m h = absurd m
held-blocks t image (b ∷ bs) (n ∷ ns) m h =
    let size : ℕ = t.shape.size in (
      rw m.1 h.0,
      rw m.1 (h.1 ∙ take_at b.bytes (output bs) size m.0),
      held-blocks t image bs ns m.2 (subst (Holds size image ns) (drop_at b.bytes (output bs) size m.0) h.2),
    )

module _ (size : ℕ) where
  module _ (image : List ℕ) (n : ℕ) (bytes : List ℕ) (long : length bytes ≡ size) (inside : (n + 1) * size ≤ length image) where
    ends : n * size + length bytes ≤ length image
    ends = omega arith

    pub store_length : length (with_bytes image (n * size) bytes) ≡ length image
    store_length = length-with_bytes image (n * size) bytes ends

    pub store_same : block_in size (with_bytes image (n * size) bytes) n ≡ bytes
    store_same = ap (bytes_at (with_bytes image (n * size) bytes) (n * size)) (sym long) ∙ bytes_at-same image (n * size) bytes ends

    pub store_other : (m : ℕ) → (n ≡ m → ⊥) → block_in size (with_bytes image (n * size) bytes) m ≡ block_in size image m
    store_other m ne =
        split (ltb m n)
        (λ e. let lt : suc m ≤ n = ltb-true m n e in bytes_at-before image (n * size) bytes ends (m * size) size (omega (arith, mul-le-mul_right size lt)))
        (λ e. let ge : suc n ≤ m = omega (arith, ltb-false m n e, ne) in bytes_at-after image (n * size) bytes ends (m * size) size (omega (arith, mul-le-mul_right size ge)))

  holds-store : (image : List ℕ) (n : ℕ) (bytes : List ℕ) (ns rest : List ℕ) → length bytes ≡ size → (n + 1) * size ≤ length image → Other n ns → Holds size image ns rest → Holds size (with_bytes image (n * size) bytes) ns rest
  holds-store image n bytes [] rest l i o h = tt
  holds-store image n bytes (m ∷ ns) rest l i o h = (
    omega (arith, store_length image n bytes l i, h.0),
    store_other image n bytes l i m o.0 ∙ h.1,
    holds-store image n bytes ns (drop size rest) l i o.1 h.2,
  )

  -- blocks stored at distinct numbers inside an image are held by it
  pub stored-held : (image ns bytes : List ℕ) → length bytes ≡ length ns * size → Places size (length image) ns → Holds size (stored size image ns bytes) ns bytes × (length (stored size image ns bytes) ≡ length image)
  unfolding stored
  stored-held image [] bytes l p = (tt, refl)
  stored-held image (n ∷ ns) bytes l p =
      let b : List ℕ = take size bytes in
      let bl : length b ≡ size = length-take-le size bytes (omega arith) in
      let r = stored-held image ns (drop size bytes) (omega (arith, length-drop size bytes)) p.2 in
      let im : List ℕ = stored size image ns (drop size bytes) in
      let i : (n + 1) * size ≤ length im = rw r.1 p.0 in (
        (
          omega (arith, store_length im n b bl i),
          store_same im n b bl i,
          holds-store im n b ns (drop size bytes) bl i p.1 r.0,
        ),
        store_length im n b bl i ∙ r.1,
      )
