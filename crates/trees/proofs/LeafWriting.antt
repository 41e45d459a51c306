-- The leaves written left to right: what one round of the loop needs, and what it leaves.
-- Assumes nothing.
use Prim.Native.Nat.{ℕ, suc, ◌+◌, ◌-◌, ◌*◌, ◌/◌, ◌^◌, ◌≤◌, ◌<◌}
use native.Mathlib.Nat.{zero-mul, sub-zero, zero-add, add-mul, add-sub_cancel_left, mul-le-mul_right, div-mul-le_self}
use native.Mathlib.Numerals.{add-one}
use native.Mathlib.Omega.{arith}
use mathlib.Core.Path.{◌≡◌, refl, sym, ap, ap₂, ◌∙◌, subst, subst₂}
use mathlib.Core.List.{List, [], ◌∷◌, ◌++◌}
use borrow.Rule.Slice.PartMut.{put_mid}
use lib.ListN.{length, take, drop, get_or, length-take, drop_of_length-le}
use lib.Seq.{drop-drop, drop-cons}
use Rattle.codec.specs.Bytes.{with_bytes}
use Rattle.blocks.specs.declared.geometry.Geometry.{Geometry}
use Rattle.blocks.specs.declared.kind.TreeKind.{TreeKind}
use Rattle.blocks.specs.Geometry.{null_ag_block}
use Rattle.blocks.specs.Tree.{header_len, record_len}
use Rattle.trees.specs.Plan.{sum, share_of, shares_from, shares}
use Rattle.walks.specs.Walk.{per_leaf}
use Rattle.walks.specs.Links.{next}
use Rattle.trees.specs.BlockLayout.{Links, Layout, Sized}
use Rattle.trees.specs.Build.{Block, output, leaf_part, leaf_parts, blocks_of, block_bytes}
use Rattle.trees.specs.BuildCall.{layout_of}
use Rattle.trees.specs.Inner.BuildNeeds.{Given, Leaves}
use Rattle.trees.proofs.Sharing.{share-most, shares_sum}
use Rattle.trees.proofs.BlockBytes.{block-length, leaf-roomy}
use Rattle.trees.proofs.TreeKinds.{sized, count_small}
use Rattle.trees.proofs.Writing.{Written, written_none, written-more, written_all, part-put, output-one}

-- one block's share more
pub share-next : (n k i : ℕ) → i < k → sum (shares_from n k i (k - i)) ≡ share_of n k i + sum (shares_from n k (i + 1) (k - (i + 1)))
unfolding shares_from sum
share-next n k i h = let less : k - i ≡ suc (k - (i + 1)) = omega arith in rw (less, add-one i)

module _ (g : Geometry) (kind : TreeKind) (list blocks : List ℕ) where
  abbrev t : Layout
  t = layout_of g kind

  abbrev w : ℕ
  w = record_len kind

  abbrev n : ℕ
  n = length list / record_len kind

  abbrev k : ℕ
  k = length blocks

  -- the leaves from the i-th on, whose records begin at a byte, and before which `left` stands
  abbrev pub leaves_from : ℕ → ℕ → ℕ → List Block
  leaves_from i from left = blocks_of t 0 left (drop i blocks) (leaf_parts t (shares_from n k i (k - i)) (drop from list))

  -- the neighbours of the i-th
  abbrev pub beside : ℕ → ℕ → Links
  beside i left = record { left = left; right = next (drop (i + 1) blocks) }

  abbrev leaf : ℕ → ℕ → ℕ → ℕ → Block
  leaf i from left c = record { number = get_or blocks i 0; bytes = block_bytes t 0 (get_or blocks i 0) (beside i left) (leaf_part c (take (c * w) (drop from list))) }

  leaves-next : (i from left : ℕ) → i < k → leaves_from i from left ≡ leaf i from left (share_of n k i) ∷ leaves_from (i + 1) (from + share_of n k i * w) (get_or blocks i 0)
  unfolding blocks_of leaf_parts shares_from
  leaves-next i from left h =
      let less : k - i ≡ suc (k - (i + 1)) = omega arith in
      rw (less, drop-cons blocks i 0 h, add-one i, drop-drop (share_of n k i * w) from list)

  leaves-end : (i from left : ℕ) → i ≡ k → leaves_from i from left ≡ []
  unfolding blocks_of
  leaves-end i from left e = rw (drop_of_length-le blocks {i = i} (omega arith))

  -- the loop's invariant
  pub record LeavesSo (before out : List ℕ) (i from left : ℕ) : Type 0 where
    pub most : i ≤ k
    pub written : Written before out (output (leaves_from 0 0 null_ag_block)) (i * g.blocksize) (leaves_from i from left)
    pub all : from + sum (shares_from n k i (k - i)) * w ≡ length list

  pub leaves-start : (before : List ℕ) → Given g kind list → Leaves g kind list blocks before → LeavesSo before before 0 0 null_ag_block
  leaves-start before gv q =
      record {
        most = omega arith;
        written = rw zero-mul (written_none before (output (leaves_from 0 0 null_ag_block)) (leaves_from 0 0 null_ag_block) refl);
        all = rw (sub-zero, zero-add) (ap (λ (x : ℕ). x * w) (shares_sum n k q.some) ∙ gv.whole);
      }

  pub leaves-done : (before out : List ℕ) (i from left : ℕ) → LeavesSo before out i from left → i ≡ k
      → out ≡ with_bytes before 0 (output (blocks_of t 0 null_ag_block blocks (leaf_parts t (shares n k) list)))
  leaves-done before out i from left s e =
      written_all before out (output (leaves_from 0 0 null_ag_block)) (i * g.blocksize) (subst (Written before out (output (leaves_from 0 0 null_ag_block)) (i * g.blocksize)) (leaves-end i from left e) s.written)
      ∙ rw (sub-zero) refl

  -- what a round needs and leaves, where r is the block's share and v the record's length
  pub record LeafRound (before out : List ℕ) (i from left r v : ℕ) : Type 0 where
    pub inside : from + r * v ≤ length list
    pub room : header_len g.version + r * v ≤ g.blocksize
    pub small : r < 2 ^ 16
    pub ends : i * g.blocksize + g.blocksize ≤ length before
    pub next : (right : ℕ) (ys : List ℕ) → right ≡ (beside i left).right
        → ys ≡ block_bytes t 0 (get_or blocks i 0) (record { left = left; right = right }) (leaf_part r (take (from + r * v - from) (drop from list)))
        → LeavesSo before (put_mid (i * g.blocksize) (i * g.blocksize + g.blocksize - i * g.blocksize) out ys) (i + 1) (from + r * v) (get_or blocks i 0)

  module _ {before out : List ℕ} {i from left r v : ℕ} (gv : Given g kind list) (q : Leaves g kind list blocks before) (uuid : length g.meta_uuid ≡ 16)
      (s : LeavesSo before out i from left) (h : i < k) (ve : v ≡ w) (re : r ≡ share_of (length list / v) k i) where
    abbrev c : ℕ
    c = share_of n k i

    z : Sized t
    z = sized g kind gv.ok gv.tree uuid

    count-is : r ≡ c
    count-is = re ∙ ap (λ (x : ℕ). share_of (length list / x) k i) ve

    bytes-are : r * v ≡ c * w
    bytes-are = ap₂ ◌*◌ count-is ve

    count_most : c ≤ per_leaf t.shape
    count_most = share-most n k i (per_leaf t.shape) q.some q.room

    all-next : from + c * w + sum (shares_from n k (i + 1) (k - (i + 1))) * w ≡ length list
    all-next = omega (arith, s.all, ap (λ (x : ℕ). x * w) (share-next n k i h), add-mul c (sum (shares_from n k (i + 1) (k - (i + 1)))) w)

    ends : i * g.blocksize + g.blocksize ≤ length before
    ends = let m : suc i ≤ k = h in omega (arith, mul-le-mul_right g.blocksize m, q.long)

    step : (right : ℕ) (ys : List ℕ) → right ≡ (beside i left).right
        → ys ≡ block_bytes t 0 (get_or blocks i 0) (record { left = left; right = right }) (leaf_part r (take (from + r * v - from) (drop from list)))
        → LeavesSo before (put_mid (i * g.blocksize) (i * g.blocksize + g.blocksize - i * g.blocksize) out ys) (i + 1) (from + r * v) (get_or blocks i 0)
    step right ys er e =
        let far : ℕ = i * g.blocksize in
        let size : ℕ = g.blocksize in
        let part : List ℕ = take (c * w) (drop from list) in
        let b : Block = leaf i from left c in
        let is : ys ≡ b.bytes =
        e
        ∙ ap (λ (x : ℕ). block_bytes t 0 (get_or blocks i 0) (record { left = left; right = x }) (leaf_part r (take (from + r * v - from) (drop from list)))) er
        ∙ ap₂ (λ (x y : ℕ). block_bytes t 0 (get_or blocks i 0) (beside i left) (leaf_part x (take y (drop from list)))) count-is (add-sub_cancel_left from (r * v) ∙ bytes-are) in
        let pl : length part ≤ c * w = omega (arith, length-take (c * w) (drop from list)) in
        let l : length b.bytes ≡ size = block-length t z 0 (get_or blocks i 0) (beside i left) (leaf_part c part) (leaf-roomy t z c part count_most pl) in
        let far' : far + size ≡ (i + 1) * size = omega arith in
        let out' : List ℕ = put_mid far (far + size - far) out ys in
        let wr : Written before out (output (leaves_from 0 0 null_ag_block)) far ((b ∷ []) ++ leaves_from (i + 1) (from + c * w) (get_or blocks i 0)) =
        subst (Written before out (output (leaves_from 0 0 null_ag_block)) far) (leaves-next i from left h) s.written in
        record {
          most = omega arith;
          written =
              subst₂ (λ (x y : ℕ). Written before out' (output (leaves_from 0 0 null_ag_block)) x (leaves_from (i + 1) (from + y) (get_or blocks i 0))) far' (sym bytes-are)
              (written-more before out (output (leaves_from 0 0 null_ag_block)) far size (b ∷ []) (leaves_from (i + 1) (from + c * w) (get_or blocks i 0)) out' (ap length (output-one b) ∙ l) ends wr
              (part-put out ys b.bytes far size is l ∙ ap (with_bytes out far) (sym (output-one b))));
          all = ap (λ (x : ℕ). from + x + sum (shares_from n k (i + 1) (k - (i + 1))) * w) bytes-are ∙ all-next;
        }

    pub leaf-round : LeafRound before out i from left r v
    leaf-round =
        record {
          inside = omega (arith, bytes-are, all-next);
          room = omega (arith, bytes-are, mul-le-mul_right w count_most, div-mul-le_self (g.blocksize - header_len g.version) w, z.header_fits);
          small = omega (arith, count-is, count_small g kind gv.ok gv.tree 0 c count_most);
          ends = ends;
          next = step;
        }
