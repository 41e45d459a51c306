-- A node, and the nodes above a level written left to right.
-- Assumes nothing.
use Prim.Native.Nat.{ℕ, suc, ◌+◌, ◌-◌, ◌*◌, ◌/◌, ◌^◌, ◌≤◌, ◌<◌}
use native.Mathlib.Nat.{zero-mul, sub-zero, zero-add, mul-add, add-sub_cancel_left, mul-le-mul_right, div-mul-le_self}
use native.Mathlib.Numerals.{add-one}
use native.Mathlib.Omega.{arith}
use mathlib.Core.Path.{◌≡◌, refl, sym, ap, ap₂, ◌∙◌, subst}
use mathlib.Core.List.{List, [], ◌∷◌, ◌++◌}
use borrow.Rule.Slice.PartMut.{put_mid}
use lib.ListN.{length, take, drop, get_or, replicate, length-drop, drop_of_length-le}
use lib.Seq.{drop-drop, drop-cons, length-take-le}
use Rattle.codec.specs.Bytes.{with_bytes}
use Rattle.blocks.specs.Geometry.{null_ag_block}
use Rattle.blocks.specs.declared.geometry.Geometry.{Geometry}
use Rattle.blocks.specs.declared.kind.TreeKind.{TreeKind}
use Rattle.blocks.specs.Tree.{header_len, record_len, keys_len, entry_len}
use Rattle.blocks.specs.Stamp.{stamped}
use Rattle.blocks.proofs.Laws.{blocksize-within}
use Rattle.trees.specs.Plan.{sum, share_of, shares_from, first_of}
use Rattle.walks.specs.Walk.{per_node}
use Rattle.walks.specs.Links.{next}
use Rattle.trees.specs.BlockLayout.{Links, Layout, Sized}
use Rattle.trees.specs.Build.{Child, Block, output, keys_of, pointers_of, node_part, node_parts, blocks_of, block_bytes}
use Rattle.trees.specs.BuildCall.{keys_under, layout_of}
use Rattle.trees.specs.Inner.BuildNeeds.{level_children, pointer_bytes, Given, Node, Nodes, nodes_above}
use Rattle.trees.proofs.Sharing.{share-most, shares_sum}
use Rattle.trees.proofs.BlockBytes.{block-length, node-roomy}
use Rattle.trees.proofs.TreeKinds.{sized, count_small, header-within, keys_long}
use Rattle.trees.proofs.Writing.{Written, written_none, written-more, written_all, part-put, output-one, node-fresh}
use Rattle.trees.proofs.LeafWriting.{share-next}
use Rattle.trees.proofs.NodeWriting.{pointer-length, keys-total, span-count, span-take, span-drop, span-pointers}

-- ---- one node

module _ (g : Geometry) (kind : TreeKind) (list levels : List ℕ) (level child : ℕ) (below b : List ℕ) where
  abbrev cs : List Child
  cs = level_children kind list levels level child below

  -- what the writer of a node needs, where the lengths of a header, an entry and its keys are at hand
  pub record NodeRoom (head entry keys : ℕ) : Type 0 where
    pub header : header_len g.version ≤ g.blocksize
    pub head_in : head ≤ g.blocksize
    pub room_in : (g.blocksize - head) / entry * keys ≤ g.blocksize
    pub keys_in : head + length below * keys_len kind ≤ g.blocksize
    pub pointers-in : head + (g.blocksize - head) / entry * keys + length below * 4 ≤ g.blocksize
    pub small : length below < 2 ^ 16
    pub made : (number : ℕ) (x : Links)
        → stamped g kind number (level + 1) (length below) x.left x.right
        (with_bytes (with_bytes (replicate (length b) 0) head (keys_of (keys_under kind) cs)) (head + (g.blocksize - head) / entry * keys) (pointer_bytes below))
        ≡ block_bytes (layout_of g kind) (level + 1) number x (node_part (layout_of g kind) cs)

  pub node-room : {head entry keys : ℕ} → Given g kind list → Node g kind list levels level child below b → head ≡ header_len g.version → entry ≡ entry_len kind → keys ≡ keys_len kind
      → NodeRoom head entry keys
  node-room {head} {entry} {keys} gv q he ee ke =
      let t : Layout = layout_of g kind in
      let size : ℕ = g.blocksize in
      let header : ℕ = header_len g.version in
      let per : ℕ = per_node t.shape in
      let f : ℕ → ℕ = first_of (length list / record_len kind) levels level in
      let h56 : header ≤ 56 = header-within g kind gv.ok gv.tree in
      let big : 512 ≤ size = (blocksize-within g gv.ok).0 in
      let room : (size - head) / entry * keys ≡ per * keys_len kind =
      ap₂ (λ (x y : ℕ). (size - x) / y * keys) he ee ∙ ap (λ (x : ℕ). per * x) ke in
      let d : per * (keys_len kind + 4) ≤ size - header = div-mul-le_self (size - header) (keys_len kind + 4) in
      let d2 : per * (keys_len kind + 4) ≡ per * keys_len kind + per * 4 = mul-add per (keys_len kind) 4 in
      let most : length below * keys_len kind ≤ per * keys_len kind = mul-le-mul_right (keys_len kind) q.most in
      let kl : length (keys_of (keys_under kind) cs) ≡ length below * keys_len kind =
      keys-total (keys_under kind) (keys_len kind) (keys_long kind) cs ∙ ap (λ (x : ℕ). x * keys_len kind) (span-count (record_len kind) list f child below) in
      let points : pointers_of cs ≡ pointer_bytes below = span-pointers (record_len kind) list f child below in
      let pl : length (pointers_of cs) ≡ length below * 4 = ap length points ∙ pointer-length below in
      record {
        header = omega arith;
        head_in = omega arith;
        room_in = omega arith;
        keys_in = omega arith;
        pointers-in = omega (arith, q.most);
        small = count_small g kind gv.ok gv.tree 1 (length below) q.most;
        made = λ number links.
            ap₂ (λ (x : ℕ) (y : List ℕ). stamped g kind number (level + 1) x links.left links.right y)
            (sym (span-count (record_len kind) list f child below))
            (ap₂ (λ (x y : ℕ). with_bytes (with_bytes (replicate x 0) y (keys_of (keys_under kind) cs)) (y + (size - head) / entry * keys) (pointer_bytes below)) q.long he
            ∙ ap₂ (λ (x : ℕ) (y : List ℕ). with_bytes (with_bytes (replicate size 0) header (keys_of (keys_under kind) cs)) (header + x) y) room (sym points)
            ∙ node-fresh size header (per * keys_len kind) (keys_of (keys_under kind) cs) (pointers_of cs) (omega arith) (omega (arith, q.most)));
      }

-- ---- the nodes above a level

module _ (g : Geometry) (kind : TreeKind) (list levels : List ℕ) (level : ℕ) (below blocks : List ℕ) where
  abbrev t : Layout
  t = layout_of g kind

  abbrev f : ℕ → ℕ
  f = first_of (length list / record_len kind) levels level

  abbrev m : ℕ
  m = length below

  abbrev k : ℕ
  k = length blocks

  -- the nodes from the i-th on, the first of whose children is the child-th, and before which `left` stands
  abbrev pub nodes_from : ℕ → ℕ → ℕ → List Block
  nodes_from i child left = blocks_of t (level + 1) left (drop i blocks) (node_parts t (shares_from m k i (k - i)) (level_children kind list levels level child (drop child below)))

  -- the neighbours of the i-th
  abbrev pub beside : ℕ → ℕ → Links
  beside i left = record { left = left; right = next (drop (i + 1) blocks) }

  abbrev node : ℕ → ℕ → ℕ → ℕ → Block
  node i child left c =
      record { number = get_or blocks i 0; bytes = block_bytes t (level + 1) (get_or blocks i 0) (beside i left) (node_part t (level_children kind list levels level child (take c (drop child below)))) }

  nodes-next : (i child left : ℕ) → i < k → nodes_from i child left ≡ node i child left (share_of m k i) ∷ nodes_from (i + 1) (child + share_of m k i) (get_or blocks i 0)
  unfolding blocks_of node_parts shares_from
  nodes-next i child left h =
      let less : k - i ≡ suc (k - (i + 1)) = omega arith in
      let c : ℕ = share_of m k i in
      rw (less, drop-cons blocks i 0 h, add-one i, span-take (record_len kind) list f c child (drop child below), span-drop (record_len kind) list f c child (drop child below), drop-drop c child below)

  nodes-end : (i child left : ℕ) → i ≡ k → nodes_from i child left ≡ []
  unfolding blocks_of
  nodes-end i child left e = rw (drop_of_length-le blocks {i = i} (omega arith))

  nodes-all : nodes_from 0 0 null_ag_block ≡ nodes_above g kind list levels level below blocks
  nodes-all = rw sub-zero refl

  -- the loop's invariant
  pub record NodesSo (before out : List ℕ) (i child left : ℕ) : Type 0 where
    pub most : i ≤ k
    pub written : Written before out (output (nodes_above g kind list levels level below blocks)) (i * g.blocksize) (nodes_from i child left)
    pub all : child + sum (shares_from m k i (k - i)) ≡ m

  pub nodes-start : (before : List ℕ) → Nodes g kind list levels level below blocks before → NodesSo before before 0 0 null_ag_block
  nodes-start before q =
      record {
        most = omega arith;
        written = rw zero-mul (written_none before (output (nodes_above g kind list levels level below blocks)) (nodes_from 0 0 null_ag_block) (ap output nodes-all));
        all = rw (sub-zero, zero-add) (shares_sum m k q.some);
      }

  pub nodes-done : (before out : List ℕ) (i child left : ℕ) → NodesSo before out i child left → i ≡ k
      → out ≡ with_bytes before 0 (output (nodes_above g kind list levels level below blocks))
  nodes-done before out i child left s e =
      written_all before out (output (nodes_above g kind list levels level below blocks)) (i * g.blocksize)
      (subst (Written before out (output (nodes_above g kind list levels level below blocks)) (i * g.blocksize)) (nodes-end i child left e) s.written)

  -- what a round needs and leaves, where r is the node's share
  pub record NodeRound (before out : List ℕ) (i child left r : ℕ) : Type 0 where
    pub inside : child + r ≤ length below
    pub ends : i * g.blocksize + g.blocksize ≤ length before
    pub node-for : (b : List ℕ) → length b ≡ g.blocksize → Node g kind list levels level child (take (child + r - child) (drop child below)) b
    pub next : (right : ℕ) (ys : List ℕ) → right ≡ (beside i left).right
        → ys ≡ block_bytes t (level + 1) (get_or blocks i 0) (record { left = left; right = right }) (node_part t (level_children kind list levels level child (take (child + r - child) (drop child below))))
        → NodesSo before (put_mid (i * g.blocksize) (i * g.blocksize + g.blocksize - i * g.blocksize) out ys) (i + 1) (child + r) (get_or blocks i 0)

  module _ {before out : List ℕ} {i child left r : ℕ} (gv : Given g kind list) (q : Nodes g kind list levels level below blocks before) (uuid : length g.meta_uuid ≡ 16)
      (s : NodesSo before out i child left) (h : i < k) (re : r ≡ share_of m k i) where
    abbrev whole : List ℕ
    whole = output (nodes_above g kind list levels level below blocks)

    z : Sized t
    z = sized g kind gv.ok gv.tree uuid

    count_most : r ≤ per_node t.shape
    count_most = subst (λ (x : ℕ). x ≤ per_node t.shape) (sym re) (share-most m k i (per_node t.shape) q.some q.room)

    all-next : child + r + sum (shares_from m k (i + 1) (k - (i + 1))) ≡ m
    all-next = omega (arith, s.all, share-next m k i h)

    ends : i * g.blocksize + g.blocksize ≤ length before
    ends = let j : suc i ≤ k = h in omega (arith, mul-le-mul_right g.blocksize j, q.long)

    cut : take (child + r - child) (drop child below) ≡ take r (drop child below)
    cut = ap (λ (x : ℕ). take x (drop child below)) (add-sub_cancel_left child r)

    part_length : length (take r (drop child below)) ≡ r
    part_length = length-take-le r (drop child below) (omega (arith, length-drop child below, all-next))

    node-here : (b : List ℕ) → length b ≡ g.blocksize → Node g kind list levels level child (take r (drop child below)) b
    node-here b e =
        record {
          children = record { planned = q.planned; last = omega (arith, part_length, all-next, q.all) };
          most = omega (arith, part_length, count_most);
          shallow = q.shallow;
          long = e;
        }

    step : (right : ℕ) (ys : List ℕ) → right ≡ (beside i left).right
        → ys ≡ block_bytes t (level + 1) (get_or blocks i 0) (record { left = left; right = right }) (node_part t (level_children kind list levels level child (take (child + r - child) (drop child below))))
        → NodesSo before (put_mid (i * g.blocksize) (i * g.blocksize + g.blocksize - i * g.blocksize) out ys) (i + 1) (child + r) (get_or blocks i 0)
    step right ys er e =
        let far : ℕ = i * g.blocksize in
        let size : ℕ = g.blocksize in
        let b : Block = node i child left r in
        let cs : List Child = level_children kind list levels level child (take r (drop child below)) in
        let is : ys ≡ b.bytes =
        e
        ∙ ap (λ (x : ℕ). block_bytes t (level + 1) (get_or blocks i 0) (record { left = left; right = x }) (node_part t (level_children kind list levels level child (take (child + r - child) (drop child below))))) er
        ∙ ap (λ (x : List ℕ). block_bytes t (level + 1) (get_or blocks i 0) (beside i left) (node_part t (level_children kind list levels level child x))) cut in
        let few : length cs ≤ per_node t.shape = omega (arith, span-count (record_len kind) list f child (take r (drop child below)), part_length, count_most) in
        let l : length b.bytes ≡ size = block-length t z (level + 1) (get_or blocks i 0) (beside i left) (node_part t cs) (node-roomy t z cs few) in
        let far' : far + size ≡ (i + 1) * size = omega arith in
        let out' : List ℕ = put_mid far (far + size - far) out ys in
        let wr : Written before out whole far ((b ∷ []) ++ nodes_from (i + 1) (child + r) (get_or blocks i 0)) =
        subst (Written before out whole far) (nodes-next i child left h ∙ ap (λ (x : ℕ). node i child left x ∷ nodes_from (i + 1) (child + x) (get_or blocks i 0)) (sym re)) s.written in
        record {
          most = omega arith;
          written =
              subst (λ (x : ℕ). Written before out' whole x (nodes_from (i + 1) (child + r) (get_or blocks i 0))) far'
              (written-more before out whole far size (b ∷ []) (nodes_from (i + 1) (child + r) (get_or blocks i 0)) out' (ap length (output-one b) ∙ l) ends wr
              (part-put out ys b.bytes far size is l ∙ ap (with_bytes out far) (sym (output-one b))));
          all = all-next;
        }

    pub node-round : NodeRound before out i child left r
    node-round =
        record {
          inside = omega (arith, all-next);
          ends = ends;
          node-for = λ b e. subst (λ (x : List ℕ). Node g kind list levels level child x b) (sym cut) (node-here b e);
          next = step;
        }
