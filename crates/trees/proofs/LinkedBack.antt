-- What build builds is linked: each level of the tree, read from an image that holds it.
-- Assumes nothing beyond what a sound layout says of the stamp and the check.
use Prim.Native.Nat.{ℕ, zero, suc, ◌+◌, ◌*◌, ◌/◌, ◌^◌, ◌≤◌, ◌<◌}
use native.Mathlib.Nat.{mul-div_cancel}
use native.Mathlib.Decide.{dec_lt}
use native.Mathlib.Omega.{arith}
use mathlib.Core.Path.{◌≡◌, refl, sym, ap, ap₂, ◌∙◌, subst}
use mathlib.Core.Bool.{Bool, true, ◌&&◌}
use mathlib.Core.List.{List, [], ◌∷◌, ◌++◌}
use borrow.Author.Tests.{eq-eqb}
use lib.ListN.{length, take, drop, length-take, length-drop}
use lib.Seq.{length-take-le}
use Rattle.codec.specs.Bytes.{IsBytes}
use Rattle.codec.proofs.FieldLists.{IsBytes-take, IsBytes-drop}
use Rattle.blocks.specs.Check.{leftsib_in, rightsib_in}
use Rattle.blocks.specs.Geometry.{null_ag_block}
use Rattle.trees.specs.Plan.{leaves, above, levels_of, sum, shares}
use Rattle.trees.specs.BlockLayout.{Links, Layout, Sound, Fresh}
use Rattle.walks.specs.Walk.{per_leaf, per_node, Visit, at_level}
use Rattle.walks.specs.Links.{next, leftsib_of, rightsib_of, linked, levels_linked}
use Rattle.trees.specs.Build.{Child, Part, leaf_part, node_part, leaf_parts, node_parts, blocks_of, children_of, build_above, build_plan, plan_of, build, AreNumbers}
use Rattle.trees.proofs.Sharing.{Shaped, Most, shares-most, shares-length, leaves-some, leaves-room, above-shaped}
use Rattle.trees.proofs.LevelWalk.{Tops, numbers_of, numbers-length, numbers-of-children, next-length}
use Rattle.trees.proofs.LeafWalk.{leaf-parts-length}
use Rattle.trees.proofs.BlockBytes.{Held, held_both, Belows, belows-take, belows-drop, belows-leaves, belows-nodes, fresh, fresh-node, fresh-leaf, numbers-take, numbers-drop}

all-levels : (left right : ℕ → ℕ) (n : ℕ) (vs : List Visit)
    → ((j : ℕ) → j < n → linked left right null_ag_block (at_level j vs) ≡ true) → levels_linked left right n vs ≡ true
unfolding levels_linked
all-levels left right zero vs h = refl
all-levels left right (suc n) vs h = ap₂ (λ (x y : Bool). x && y) (all-levels left right n vs (λ j k. h j (omega arith))) (h n (omega arith))

first-and-rest : (P : ℕ → Type 0) (n : ℕ) → P 0 → ((m : ℕ) → 0 < m → m < n → P m) → (m : ℕ) → m < n → P m
first-and-rest P n l h zero r = l
first-and-rest P n l h (suc m) r = h (suc m) (omega arith) r

module _ (t : Layout) (s : Sound t) (image : List ℕ) where
  abbrev left : ℕ → ℕ
  left = leftsib_of t.shape.size image

  abbrev right : ℕ → ℕ
  right = rightsib_of t.shape.size image

  -- a block of a level, and those after it
  one : (before n : ℕ) (ns : List ℕ) → left n ≡ before → right n ≡ next ns → linked left right n ns ≡ true → linked left right before (n ∷ ns) ≡ true
  unfolding linked
  one before n ns l r h = rw (eq-eqb (left n) before l, eq-eqb (right n) (next ns) r) h

  nodes-linked : (l before : ℕ) (ns counts : List ℕ) (cs : List Child) → before < 2 ^ 32 → AreNumbers ns → Belows cs → suc l ≤ 9
      → length ns ≡ length counts → Most (per_node t.shape) counts
      → Held t image (blocks_of t (suc l) before ns (node_parts t counts cs)) → linked left right before ns ≡ true
  unfolding blocks_of node_parts linked
  nodes-linked l before [] counts cs z a y f e m h = refl
  nodes-linked l before (n ∷ ns) [] cs z a y f e m h = absurd (omega arith)
  nodes-linked l before (n ∷ ns) (c ∷ counts) cs z a y f e m h =
      let k : length (take c cs) ≤ per_node t.shape = omega (arith, length-take c cs, m.0) in
      let x : Links = record { left = before; right = next ns } in
      let p : Part = node_part t (take c cs) in
      let r : Fresh t.shape n (suc l) p.count x (fresh t p) = fresh-node t s n l before ns (take c cs) (a 0) f z (λ i. a (suc i)) (belows-take c cs y) k in
      one before n ns
      (ap leftsib_in h.1 ∙ s.stamp_left n (suc l) p.count x (fresh t p) r)
      (ap rightsib_in h.1 ∙ s.stamp_right n (suc l) p.count x (fresh t p) r)
      (nodes-linked l n ns counts (drop c cs) (a 0) (λ i. a (suc i)) (belows-drop c cs y) f (omega arith) m.1 h.2)

  leaves-linked : (before : ℕ) (ns counts bytes : List ℕ) → before < 2 ^ 32 → AreNumbers ns → IsBytes bytes
      → length ns ≡ length counts → Most (per_leaf t.shape) counts
      → Held t image (blocks_of t 0 before ns (leaf_parts t counts bytes)) → linked left right before ns ≡ true
  unfolding blocks_of leaf_parts linked
  leaves-linked before [] counts bytes z a y e m h = refl
  leaves-linked before (n ∷ ns) [] bytes z a y e m h = absurd (omega arith)
  leaves-linked before (n ∷ ns) (c ∷ counts) bytes z a y e m h =
      let w : ℕ = t.shape.record_length in
      let b : List ℕ = take (c * w) bytes in
      let x : Links = record { left = before; right = next ns } in
      let p : Part = leaf_part c b in
      let r : Fresh t.shape n 0 p.count x (fresh t p) =
      fresh-leaf t s n before ns c b (a 0) z (λ i. a (suc i)) (IsBytes-take (c * w) bytes y) m.0 (omega (arith, length-take (c * w) bytes)) in
      one before n ns
      (ap leftsib_in h.1 ∙ s.stamp_left n 0 p.count x (fresh t p) r)
      (ap rightsib_in h.1 ∙ s.stamp_right n 0 p.count x (fresh t p) r)
      (leaves-linked n ns counts (drop (c * w) bytes) (a 0) (λ i. a (suc i)) (IsBytes-drop (c * w) bytes y) (omega arith) m.1 h.2)

  above-linked : (l : ℕ) (ks nums : List ℕ) (cs : List Child) (vs : List Visit) → AreNumbers nums → Belows cs → l + length ks ≤ 9
      → Shaped (per_node t.shape) (length cs) ks → length nums ≡ sum ks → Held t image (build_above t (suc l) ks nums cs) → Tops (suc l) ks nums vs
      → (j : ℕ) → l < j → j < suc (l + length ks) → linked left right null_ag_block (at_level j vs) ≡ true
  unfolding build_above sum
  above-linked l [] nums cs vs a y f e z h o j low high = absurd (omega arith)
  above-linked l (k ∷ ks) nums cs vs a y f e z h o j low high =
      let ps : List Part = node_parts t (shares (length cs) k) cs in
      let cs' : List Child = children_of (take k nums) ps in
      let i : length cs' ≡ k = next-length t k nums cs (omega arith) in
      let b = held_both t s image (blocks_of t (suc l) null_ag_block (take k nums) ps) (build_above t (suc (suc l)) ks (drop k nums) cs') h in
      elim (dec_lt (suc l) j) [
        | yes q ↦
            above-linked (suc l) ks (drop k nums) cs' vs (numbers-drop k nums a) (belows-nodes t (take k nums) (shares (length cs) k) cs y) (omega arith)
            (subst (λ (x : ℕ). Shaped (per_node t.shape) x ks) (sym i) e.2) (omega (arith, length-drop k nums)) b.1 o.1 j q (omega arith)
        | no q ↦ (
            let same : suc l ≡ j = omega arith in
            subst (λ (x : ℕ). linked left right null_ag_block (at_level x vs) ≡ true) same
            (ap (linked left right null_ag_block) o.0
            ∙ nodes-linked l null_ag_block (take k nums) (shares (length cs) k) cs (omega arith) (numbers-take k nums a) y (omega arith)
            (length-take-le k nums (omega arith) ∙ sym (shares-length (length cs) k 0 k))
            (shares-most (length cs) k 0 k (per_node t.shape) e.0 e.1) b.0))
      ]

  plan-linked : (k : ℕ) (ks numbers bytes : List ℕ) (n : ℕ) (vs : List Visit) → 0 < k → n ≤ k * per_leaf t.shape
      → Shaped (per_node t.shape) k ks → length ks ≤ 9 → length numbers ≡ k + sum ks → AreNumbers numbers → IsBytes bytes
      → length bytes ≡ n * t.shape.record_length → Held t image (build_plan t (k ∷ ks) numbers bytes) → Tops 0 (k ∷ ks) numbers vs
      → levels_linked left right (suc (length ks)) vs ≡ true
  unfolding build_plan
  plan-linked k ks numbers bytes n vs some room shaped few long small bytes-are are holds o =
      let q : length bytes / t.shape.record_length ≡ n =
      ap (λ (x : ℕ). x / t.shape.record_length) are ∙ mul-div_cancel n s.sized.record_some in
      let ps : List Part = leaf_parts t (shares n k) bytes in
      let cs : List Child = children_of (take k numbers) ps in
      let held : Held t image (blocks_of t 0 null_ag_block (take k numbers) ps ++ build_above t 1 ks (drop k numbers) cs) = rw q at holds in
      let b = held_both t s image (blocks_of t 0 null_ag_block (take k numbers) ps) (build_above t 1 ks (drop k numbers) cs) held in
      let kn : length (take k numbers) ≡ k = length-take-le k numbers (omega arith) in
      let j : numbers_of cs ≡ take k numbers =
      numbers-of-children (take k numbers) ps (kn ∙ sym (shares-length n k 0 k) ∙ sym (leaf-parts-length t (shares n k) bytes)) in
      let i : length cs ≡ k = sym (numbers-length cs) ∙ ap length j ∙ kn in
      let low : linked left right null_ag_block (at_level 0 vs) ≡ true =
      ap (linked left right null_ag_block) o.0
      ∙ leaves-linked null_ag_block (take k numbers) (shares n k) bytes (omega arith) (numbers-take k numbers small) bytes-are
      (kn ∙ sym (shares-length n k 0 k)) (shares-most n k 0 k (per_leaf t.shape) some room) b.0 in
      let high : (m : ℕ) → 0 < m → m < suc (length ks) → linked left right null_ag_block (at_level m vs) ≡ true =
      λ m p r.
      above-linked 0 ks (drop k numbers) cs vs (numbers-drop k numbers small) (belows-leaves t (take k numbers) (shares n k) bytes bytes-are) (omega arith)
      (subst (λ (x : ℕ). Shaped (per_node t.shape) x ks) (sym i) shaped) (omega (arith, length-drop k numbers)) b.1 o.1 m p (omega arith) in
      all-levels left right (suc (length ks)) vs
      (first-and-rest (λ (m : ℕ). linked left right null_ag_block (at_level m vs) ≡ true) (suc (length ks)) low high)

  -- the tree that is built over as many blocks as planned is linked, in any image that holds it
  pub built-linked : (numbers bytes : List ℕ) (n : ℕ) (vs : List Visit)
      → length bytes ≡ n * t.shape.record_length
      → length (plan_of t.shape bytes) ≤ 9
      → length numbers ≡ sum (plan_of t.shape bytes)
      → AreNumbers numbers
      → IsBytes bytes
      → Held t image (build t numbers bytes)
      → Tops 0 (plan_of t.shape bytes) numbers vs
      → levels_linked left right (length (plan_of t.shape bytes)) vs ≡ true
  unfolding build levels_of sum
  built-linked numbers bytes n vs are few long small bytes-are holds o =
      let q : length bytes / t.shape.record_length ≡ n =
      ap (λ (x : ℕ). x / t.shape.record_length) are ∙ mul-div_cancel n s.sized.record_some in
      let m : ℕ = length bytes / t.shape.record_length in
      let k : ℕ = leaves (per_leaf t.shape) m in
      let room : n ≤ k * per_leaf t.shape = omega (arith, leaves-room (per_leaf t.shape) m s.sized.leaf_some) in
      plan-linked k (above (per_node t.shape) k 9) numbers bytes n vs (leaves-some (per_leaf t.shape) m) room
      (above-shaped (per_node t.shape) k 9 s.sized.node_some (leaves-some (per_leaf t.shape) m) (omega arith))
      (omega arith) long small bytes-are are holds o
