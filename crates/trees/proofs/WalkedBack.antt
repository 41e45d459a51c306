-- What build builds, the walk returns: over any sound layout.
-- Assumes nothing beyond what a sound layout says of the stamp and the check.
use Prim.Native.Nat.{ℕ, zero, suc, ◌+◌, ◌-◌, ◌*◌, ◌/◌, ◌≤◌, ◌<◌}
use native.Mathlib.Nat.{mul-div_cancel}
use native.Mathlib.Omega.{arith}
use mathlib.Core.Path.{◌≡◌, refl, sym, ap, ◌∙◌, subst}
use mathlib.Core.List.{List, [], ◌∷◌, ◌++◌}
use lib.ListN.{length, take, drop, length-append, length-drop}
use lib.Seq.{length-take-le}
use borrow.Author.Tests.{lt-ltb, le-leb}
use Rattle.codec.specs.Bytes.{IsBytes}
use Rattle.blocks.specs.Geometry.{null_ag_block}
use Rattle.trees.specs.Plan.{leaves, above, levels_of, sum, shares}
use Rattle.trees.specs.BlockLayout.{Layout, Sound}
use Rattle.walks.specs.Walk.{per_leaf, per_node, Visit, visit_of, Look, Trace, finished, met, run, fit, visits, records, ending, by_level, look_in}
use Rattle.trees.specs.Build.{Child, Part, blocks_of, children_of, leaf_parts, build_above, build_plan, plan_of, build, root_of, AreNumbers}
use Rattle.walks.proofs.Steps.{Step, meet, visits_in, records_in, meet-records, meet-visits, meet-ending, visits-length, Walked}
use Rattle.trees.proofs.Sharing.{Shaped, shares-most, shares_sum, shares-length, leaves-some, leaves-room, above-shaped}
use Rattle.trees.proofs.LevelWalk.{Tops, numbers_of, numbers-length, numbers-of-children}
use Rattle.trees.proofs.LeafWalk.{Tree, tree, leaf-parts-length}
use Rattle.trees.proofs.BlockBytes.{Held, held_both, belows-leaves, above-seen, leaves-seen, numbers-take, numbers-drop}

-- a trace that returns what was built: it ends with nothing due; the records come back in order, the blocks by level in
-- the order given, one visit to each; and lists long enough for both take them
pub record Back (plan numbers bytes : List ℕ) (w : Trace) : Type 0 where
  pub ended : ending w ≡ finished
  pub in_order : records w ≡ bytes
  pub visits_by_level : by_level (length plan) (visits w) ≡ numbers
  pub tops : Tops 0 plan numbers (visits w)
  pub visited : length (visits w) ≡ length numbers
  pub fits : (places room : ℕ) → length numbers ≤ places → length bytes ≤ room → fit places room w ≡ w

run_none : (look : Visit → Look) (m : ℕ) → run look m [] ≡ finished
unfolding run
run_none look zero = refl
run_none look (suc m) = refl

pub meet-fits : (ss : List Step) (places room : ℕ) → length ss ≤ places → length (records_in ss) ≤ room → fit places room (meet ss finished) ≡ meet ss finished
unfolding fit meet records_in
meet-fits [] places room h k = refl
meet-fits (s ∷ ss) places room h k =
    let n : length (s.bytes ++ records_in ss) ≡ length s.bytes + length (records_in ss) = length-append s.bytes (records_in ss) in
    rw (lt-ltb 0 places (omega arith), le-leb (length s.bytes) room (omega arith))
    (ap (met s.visit s.bytes) (meet-fits ss (places - 1) (room - length s.bytes) (omega arith) (omega arith)))

-- a root whose walk is known, walked alone
pub returned : (look : Visit → Look) (limit : ℕ) (plan numbers bytes : List ℕ) (root : Visit) (ss : List Step) → Walked look (root ∷ []) ss → records_in ss ≡ bytes → by_level (length plan) (visits_in ss) ≡ numbers → Tops 0 plan numbers (visits_in ss)
    → length ss ≡ length numbers → length numbers ≤ limit → Back plan numbers bytes (run look limit (root ∷ []))
returned look limit plan numbers bytes root ss f i b tops v h =
    let e : limit ≡ length ss + (limit - length ss) = omega arith in
    let is : run look limit (root ∷ []) ≡ meet ss finished =
    ap (λ (n : ℕ). run look n (root ∷ [])) e ∙ f (limit - length ss) [] ∙ ap (meet ss) (run_none look (limit - length ss)) in
    rw is
    (record {
      ended = meet-ending ss;
      in_order = meet-records ss ∙ i;
      visits_by_level = ap (by_level (length plan)) (meet-visits ss) ∙ b;
      tops = subst (Tops 0 plan numbers) (sym (meet-visits ss)) tops;
      visited = ap length (meet-visits ss) ∙ visits-length ss ∙ v;
      fits = λ places room p r. meet-fits ss places room (omega arith) (omega (arith, ap length i));
    })

module _ (t : Layout) (s : Sound t) (image : List ℕ) where
  plan-returned : (k : ℕ) (ks numbers bytes : List ℕ) (n limit : ℕ) → 0 < k → n ≤ k * per_leaf t.shape → Shaped (per_node t.shape) k ks → length ks ≤ 9 → length numbers ≡ k + sum ks → AreNumbers numbers → IsBytes bytes → length bytes ≡ n * t.shape.record_length
      → Held t image (build_plan t (k ∷ ks) numbers bytes) → length numbers ≤ limit
      → Back (k ∷ ks) numbers bytes (run (look_in t.shape image) limit (visit_of (root_of numbers) (suc (length ks) - 1) ∷ []))
  unfolding build_plan
  plan-returned k ks numbers bytes n limit some room shaped few long small bytes-are are holds most =
      let q : length bytes / t.shape.record_length ≡ n = ap (λ (x : ℕ). x / t.shape.record_length) are ∙ mul-div_cancel n s.sized.record_some in
      let ps : List Part = leaf_parts t (shares n k) bytes in
      let cs : List Child = children_of (take k numbers) ps in
      let held : Held t image (blocks_of t 0 null_ag_block (take k numbers) ps ++ build_above t 1 ks (drop k numbers) cs) = rw q at holds in
      let b = held_both t s image (blocks_of t 0 null_ag_block (take k numbers) ps) (build_above t 1 ks (drop k numbers) cs) held in
      let kn : length (take k numbers) ≡ k = length-take-le k numbers (omega arith) in
      let j : numbers_of cs ≡ take k numbers = numbers-of-children (take k numbers) ps (kn ∙ sym (shares-length n k 0 k) ∙ sym (leaf-parts-length t (shares n k) bytes)) in
      let i : length cs ≡ k = sym (numbers-length cs) ∙ ap length j ∙ kn in
      let sw : sum (shares n k) * t.shape.record_length ≤ length bytes = rw (shares_sum n k some) (omega arith) in
      let v : Tree t (look_in t.shape image) (k ∷ ks) numbers bytes =
      tree t (look_in t.shape image) (per_node t.shape) k ks numbers bytes n some shaped long are
      (leaves-seen t s image null_ag_block (take k numbers) (shares n k) bytes (omega arith) (numbers-take k numbers small) bytes-are (shares-most n k 0 k (per_leaf t.shape) some room) sw b.0)
      (above-seen t s image 0 ks (drop k numbers) cs (numbers-drop k numbers small) (rw j (numbers-take k numbers small)) (belows-leaves t (take k numbers) (shares n k) bytes bytes-are) (omega arith) (subst (λ (x : ℕ). Shaped (per_node t.shape) x ks) (sym i) shaped) (omega (arith, length-drop k numbers)) b.1) in
      returned (look_in t.shape image) limit (k ∷ ks) numbers bytes (visit_of (root_of numbers) (suc (length ks) - 1)) v.steps v.walked v.in_order v.visits_by_level v.tops v.visited most

  -- the tree that is built over as many blocks as planned is walked back, from any image that holds it
  pub built-returned : (numbers bytes : List ℕ) (n limit : ℕ)
      → length bytes ≡ n * t.shape.record_length
      → length (plan_of t.shape bytes) ≤ 9
      → length numbers ≡ sum (plan_of t.shape bytes)
      → AreNumbers numbers
      → IsBytes bytes
      → Held t image (build t numbers bytes)
      → length numbers ≤ limit
      → Back (plan_of t.shape bytes) numbers bytes (run (look_in t.shape image) limit (visit_of (root_of numbers) (length (plan_of t.shape bytes) - 1) ∷ []))
  unfolding build levels_of sum
  built-returned numbers bytes n limit are few long small bytes-are holds most =
      let q : length bytes / t.shape.record_length ≡ n = ap (λ (x : ℕ). x / t.shape.record_length) are ∙ mul-div_cancel n s.sized.record_some in
      let m : ℕ = length bytes / t.shape.record_length in
      let k : ℕ = leaves (per_leaf t.shape) m in
      let room : n ≤ k * per_leaf t.shape = omega (arith, leaves-room (per_leaf t.shape) m s.sized.leaf_some) in
      plan-returned k (above (per_node t.shape) k 9) numbers bytes n limit (leaves-some (per_leaf t.shape) m) room
      (above-shaped (per_node t.shape) k 9 s.sized.node_some (leaves-some (per_leaf t.shape) m) (omega arith))
      (omega arith) long small bytes-are are holds most
