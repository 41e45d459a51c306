-- A tree written level by level: what the plan gives each level, and what one round of the loop needs and leaves.
-- Assumes nothing.
use Prim.Native.Nat.{ℕ, zero, suc, ◌+◌, ◌-◌, ◌*◌, ◌/◌, ◌≤◌, ◌<◌}
use native.Mathlib.Nat.{zero-mul, sub-zero, zero-add, add-zero, add-mul, add-sub_cancel_left, mul-le-mul_right, mul-le-mul_left, div-lt_iff_lt-mul}
use native.Mathlib.Numerals.{add-one}
use native.Mathlib.Omega.{arith}
use mathlib.Core.Path.{◌≡◌, refl, sym, ap, ap₂, ◌∙◌, subst, subst₂}
use mathlib.Core.List.{List, [], ◌∷◌, ◌++◌, append_assoc}
use borrow.Rule.Slice.PartMut.{put_mid, Post-is}
use lib.Dec.{leb}
use lib.ListN.{length, take, drop, get_or, length-append, length-drop, drop_of_length-le}
use lib.Seq.{drop-drop, drop-cons, length-take-le}
use Rattle.codec.specs.Bytes.{bytes_at, with_bytes}
use Rattle.codec.proofs.Parts.{with_bytes-add}
use Rattle.codec.proofs.Stores.{with_bytes-all}
use Rattle.blocks.specs.declared.geometry.Geometry.{Geometry}
use Rattle.blocks.specs.declared.kind.TreeKind.{TreeKind}
use Rattle.blocks.specs.Tree.{record_len}
use Rattle.blocks.specs.Geometry.{null_ag_block}
use Rattle.trees.specs.Plan.{ceil, leaves, above, levels_of, sum, shares_from, shares, start_of, first_of}
use Rattle.walks.specs.Walk.{per_leaf, per_node}
use Rattle.trees.specs.BlockLayout.{Layout, Sized}
use Rattle.trees.specs.Build.{Child, Block, output, leaf_parts, node_parts, blocks_of, children_of, build_above, build_plan, build}
use Rattle.trees.specs.BuildCall.{layout_of, built_bytes}
use Rattle.trees.specs.Inner.BuildNeeds.{Given, Laid, Planned, level_children, span_children, Leaves, Nodes, nodes_above, levels_above, Tree}
use Rattle.trees.proofs.Sharing.{split, tests, ceil-some, Shaped, shares-most, shares_sum, shares-length, leaves-some, leaves-room, above-shaped}
use Rattle.trees.proofs.PlanLaws.{ceil-zero}
use Rattle.trees.proofs.LevelWalk.{numbers_of, numbers-of-children, parts-length}
use Rattle.trees.proofs.LeafWalk.{leaf-parts-length}
use Rattle.trees.proofs.Spans.{Spanned, leaves-spanned, nodes-spanned, start-zero}
use Rattle.trees.proofs.Stored.{Made, output-length, nodes-made, leaves-made}
use Rattle.trees.proofs.Going.{first-rises}
use Rattle.trees.proofs.TreeKinds.{sized}
use Rattle.trees.proofs.Writing.{Written, written-more, written_all, output-append}
use Rattle.trees.proofs.NodeWriting.{span-count}

-- ---- the plan: no level is wider than the one below

ceil-most : (b p : ℕ) → 0 < b → 0 < p → ceil b p ≤ b
unfolding ceil
ceil-most b p h k =
    let e : b * 1 ≤ b * p = mul-le-mul_left b k in
    let lt : b + (p - 1) < suc b * p = omega arith in
    let d : (b + (p - 1)) / p < suc b = (div-lt_iff_lt-mul k).1 lt in
    omega arith

abbrev Narrow : ℕ → List ℕ → Type 0
Narrow b [] = Unit {0}
Narrow b (k ∷ ks) = (0 < k) × (k ≤ b) × Narrow k ks

above-narrow : (p b n : ℕ) → 0 < p → 0 < b → Narrow b (above p b n)
unfolding above
above-narrow p b zero h k = tt
above-narrow p b (suc n) h k =
    split (leb b 1) (λ e. rw e tt)
    (λ e. let c : 0 < ceil b p = ceil-some b p k h in rw e (c, ceil-most b p k h, above-narrow p (ceil b p) n h c))

narrow-some : (b : ℕ) (ks : List ℕ) → 0 < b → Narrow b ks → (l : ℕ) → l ≤ length ks → 0 < get_or (b ∷ ks) l 0
narrow-some b ks h w zero e = h
narrow-some b [] h w (suc l) e = absurd (omega arith)
narrow-some b (k ∷ ks) h w (suc l) e = narrow-some k ks w.0 w.2 l (omega arith)

narrow-less : (b : ℕ) (ks : List ℕ) → Narrow b ks → (l : ℕ) → suc l ≤ length ks → get_or (b ∷ ks) (suc l) 0 ≤ get_or (b ∷ ks) l 0
narrow-less b [] w l e = absurd (omega arith)
narrow-less b (k ∷ ks) w zero e = w.1
narrow-less b (k ∷ ks) w (suc l) e = narrow-less k ks w.2 l (omega arith)

-- where there is more than one level there are as many records as leaves
leaves-most : (p n : ℕ) → 0 < p → 1 < leaves p n → leaves p n ≤ n
unfolding leaves
leaves-most p n h e =
    split (leb n 0)
    (λ z. let n0 : n ≡ 0 = omega tests in let c : ceil n p ≡ 0 = ap (λ (x : ℕ). ceil x p) n0 ∙ ceil-zero p h in absurd (omega arith))
    (λ z. let some : 0 < n = omega tests in omega (arith, ceil-most n p some h))

above-some : (p b n : ℕ) → 0 < length (above p b n) → 1 < b
unfolding above
above-some p b zero h = absurd (omega arith)
above-some p b (suc n) h = split (leb b 1) (λ e. let z : 0 < 0 = rw e at h in absurd (omega arith)) (λ e. omega tests)

-- what the plan gives each level that has one above it
pub plan-planned : (p q n l : ℕ) (levels : List ℕ) → 0 < p → 0 < q → levels ≡ levels_of p q n → suc l < length levels → Planned n levels l
unfolding levels_of
plan-planned p q n l levels hp hq e h =
    let k : ℕ = leaves p n in
    let ks : List ℕ = above q k 9 in
    let w : Narrow k ks = above-narrow q k 9 hq (leaves-some p n) in
    let len : length levels ≡ suc (length ks) = ap length e in
    let some : (m : ℕ) → m ≤ l → 0 < get_or levels m 0 = λ m x. subst (λ (y : List ℕ). 0 < get_or y m 0) (sym e) (narrow-some k ks (leaves-some p n) w m (omega arith)) in
    let less : (m : ℕ) → suc m ≤ l → get_or levels (suc m) 0 ≤ get_or levels m 0 = λ m x. subst (λ (y : List ℕ). get_or y (suc m) 0 ≤ get_or y m 0) (sym e) (narrow-less k ks w m (omega arith)) in
    let more : 1 < k = above-some q k 9 (omega arith) in
    let first : get_or levels 0 0 ≤ n = subst (λ (y : List ℕ). get_or y 0 0 ≤ n) (sym e) (leaves-most p n hp more) in
    record { inside = omega arith; some = some; rises = first-rises n levels l first some less }

-- ---- a level as the one above sees it

spans-of : (w : ℕ) (list : List ℕ) (f : ℕ → ℕ) (s : ℕ) (ns : List ℕ) → ((j : ℕ) → j < length ns → f (s + j) ≤ f (suc (s + j))) → Spanned w list f s (span_children w list f s ns)
unfolding span_children bytes_at
spans-of w list f s [] h = tt
spans-of w list f s (n ∷ ns) h =
    let z : s + 0 ≡ s = add-zero s in (
      subst (λ (x : ℕ). f x ≤ f (suc x)) z (h 0 (omega arith)),
      refl,
      spans-of w list f (suc s) ns (λ j x. let e : s + suc j ≡ suc s + j = omega arith in subst (λ (y : ℕ). f y ≤ f (suc y)) e (h (suc j) (omega arith))),
    )

spanned-children : (w : ℕ) (list : List ℕ) (f : ℕ → ℕ) (s : ℕ) (cs : List Child) → Spanned w list f s cs → cs ≡ span_children w list f s (numbers_of cs)
unfolding span_children numbers_of bytes_at
spanned-children w list f s [] h = refl
spanned-children w list f s (c ∷ cs) h = ap₂ (λ (x : List ℕ) (y : List Child). record { block = c.block; below = x } ∷ y) h.1 (spanned-children w list f (suc s) cs h.2)

module _ (g : Geometry) (kind : TreeKind) (list levels : List ℕ) where
  abbrev lay : Layout
  lay = layout_of g kind

  abbrev wide : ℕ
  wide = record_len kind

  abbrev many : ℕ
  many = length list / record_len kind

  leaves-are : (ns : List ℕ) → length ns ≡ get_or levels 0 0 → children_of ns (leaf_parts lay (shares many (get_or levels 0 0)) list) ≡ level_children kind list levels 0 0 ns
  unfolding first_of
  leaves-are ns e =
      let k : ℕ = get_or levels 0 0 in
      let cs : List Child = children_of ns (leaf_parts lay (shares many k) list) in
      let none : drop (start_of many k 0 * wide) list ≡ list = ap (λ (x : ℕ). drop (x * wide) list) (start-zero many k) ∙ ap (λ (x : ℕ). drop x list) (zero-mul wide) in
      let sp : Spanned wide list (start_of many k) 0 cs =
      subst (λ (l : List ℕ). Spanned wide list (start_of many k) 0 (children_of ns (leaf_parts lay (shares many k) l))) none (leaves-spanned lay list many k k 0 ns) in
      spanned-children wide list (start_of many k) 0 cs sp
      ∙ ap (span_children wide list (start_of many k) 0) (numbers-of-children ns (leaf_parts lay (shares many k) list) (e ∙ sym (shares-length many k 0 k) ∙ sym (leaf-parts-length lay (shares many k) list)))

  nodes-are : (l : ℕ) (below ns : List ℕ) → Planned many levels l → length below ≡ get_or levels l 0 → 0 < get_or levels (suc l) 0 → length ns ≡ get_or levels (suc l) 0
      → children_of ns (node_parts lay (shares (length (level_children kind list levels l 0 below)) (get_or levels (suc l) 0)) (level_children kind list levels l 0 below))
      ≡ level_children kind list levels (suc l) 0 ns
  unfolding first_of
  nodes-are l below ns p e some long =
      let m : ℕ = get_or levels l 0 in
      let k : ℕ = get_or levels (suc l) 0 in
      let f : ℕ → ℕ = first_of many levels l in
      let cs : List Child = level_children kind list levels l 0 below in
      let cl : length cs ≡ m = span-count wide list f 0 below ∙ e in
      let rising : (j : ℕ) → j < length below → f (0 + j) ≤ f (suc (0 + j)) = λ j h. (let r : f (0 + j) < f (suc (0 + j)) = p.rises (0 + j) (omega arith) in omega arith) in
      let sp : Spanned wide list f (start_of m k 0) cs = rw (start-zero m k) (spans-of wide list f 0 below rising) in
      let all : length cs ≡ sum (shares_from m k 0 k) = cl ∙ sym (shares_sum m k some) in
      let up : List Child = children_of ns (node_parts lay (shares m k) cs) in
      let sp' : Spanned wide list (λ j. f (start_of m k j)) 0 up = nodes-spanned lay list m k f k 0 ns cs all sp in
      ap (λ (x : ℕ). children_of ns (node_parts lay (shares x k) cs)) cl
      ∙ spanned-children wide list (λ j. f (start_of m k j)) 0 up sp'
      ∙ ap (span_children wide list (λ j. f (start_of m k j)) 0)
      (numbers-of-children ns (node_parts lay (shares m k) cs) (long ∙ sym (shares-length m k 0 k) ∙ sym (parts-length lay (shares m k) cs)))

-- ---- a part of the output, from one place to another

pub part-put-to : (out part ys bytes : List ℕ) (a e : ℕ) → a ≤ e → length part ≡ e - a → length bytes ≡ e - a → ys ≡ with_bytes part 0 bytes → put_mid a (e - a) out ys ≡ with_bytes out a bytes
unfolding with_bytes
part-put-to out part ys bytes a e le pl bl is =
    ap (λ (y : List ℕ). put_mid a (e - a) out y) (is ∙ with_bytes-all part bytes (bl ∙ sym pl))
    ∙ ap (λ (z : List ℕ). take a out ++ (bytes ++ z)) (Post-is a e out le ∙ ap (λ (x : ℕ). drop x out) (let z : e ≡ a + length bytes = omega arith in z))
    ∙ sym (append_assoc (take a out) bytes (drop (a + length bytes) out))

-- what stands, written again with more after it
with_bytes-after : (l : List ℕ) (a : ℕ) (bs : List ℕ) → a ≤ length l → with_bytes l 0 (take a l ++ bs) ≡ with_bytes l a bs
unfolding with_bytes
with_bytes-after l a bs h = ap (λ (x : ℕ). (take a l ++ bs) ++ drop x l) (let e : 0 + length (take a l ++ bs) ≡ a + length bs = omega (arith, length-append (take a l) bs, length-take-le a l h) in e)

-- ---- the loop over the levels

module _ (g : Geometry) (kind : TreeKind) (list levels numbers before : List ℕ) where
  abbrev t : Layout
  t = layout_of g kind

  abbrev per : ℕ
  per = per_node t.shape

  abbrev size : ℕ
  size = g.blocksize

  -- where the leaves end
  abbrev far : ℕ
  far = get_or levels 0 0 * g.blocksize

  -- the numbers from one to another
  abbrev part : ℕ → ℕ → List ℕ
  part a e = take (e - a) (drop a numbers)

  -- the levels above level l, whose numbers are those from low to base
  abbrev above_from : ℕ → ℕ → ℕ → List Block
  above_from l low base = build_above t (suc l) (drop (suc l) levels) (drop base numbers) (level_children kind list levels l 0 (part low base))

  -- the leaves as they stand, and the levels above them
  abbrev whole : List ℕ
  whole = take far before ++ output (levels_above g kind list levels numbers)

  -- the loop's invariant: the levels up to l are written
  pub record TreeSo (out : List ℕ) (l low base : ℕ) : Type 0 where
    pub inside : l < length levels
    pub base-is : base ≡ low + get_or levels l 0
    pub left : length numbers ≡ base + sum (drop (suc l) levels)
    pub shaped : Shaped per (get_or levels l 0) (drop (suc l) levels)
    pub written : Written before out whole (base * size) (above_from l low base)

  pub tree-done : (out : List ℕ) (l low base : ℕ) → far ≤ length before → TreeSo out l low base → length levels ≤ l + 1 → out ≡ with_bytes before far (output (levels_above g kind list levels numbers))
  unfolding build_above
  tree-done out l low base le s h =
      let none : drop (suc l) levels ≡ [] = drop_of_length-le levels {i = suc l} (omega arith) in
      written_all before out whole (base * size)
      (subst (λ (x : List ℕ). Written before out whole (base * size) (build_above t (suc l) x (drop base numbers) (level_children kind list levels l 0 (part low base)))) none s.written)
      ∙ with_bytes-after before far (output (levels_above g kind list levels numbers)) le

  module _ (gv : Given g kind list) (ld : Laid g kind list levels) (q : Tree g levels numbers before) (uuid : length g.meta_uuid ≡ 16) where
    z : Sized t
    z = sized g kind gv.ok gv.tree uuid

    -- ---- the leaves

    abbrev k₀ : ℕ
    k₀ = leaves (per_leaf t.shape) (length list / record_len kind)

    abbrev ks₀ : List ℕ
    ks₀ = above per k₀ 9

    levels-are : levels ≡ k₀ ∷ ks₀
    unfolding levels_of
    levels-are = ld.plan

    first-is : get_or levels 0 0 ≡ k₀
    first-is = ap (λ (x : List ℕ). get_or x 0 0) levels-are

    sum_is : length numbers ≡ k₀ + sum ks₀
    unfolding sum
    sum_is = q.blocks ∙ ap sum levels-are

    rest-is : drop (suc 0) levels ≡ ks₀
    rest-is = ap (drop 1) levels-are

    build-is : (k : ℕ) → k ≡ k₀ → k ≡ get_or levels 0 0 → build t numbers list ≡ blocks_of t 0 null_ag_block (take k numbers) (leaf_parts t (shares (length list / record_len kind) k) list) ++ levels_above g kind list levels numbers
    unfolding build build_plan levels_of
    build-is k e f =
        let n : ℕ = length list / record_len kind in
        let le : k₀ ≤ length numbers = omega (arith, sum_is) in
        let len : length (take k₀ numbers) ≡ get_or levels 0 0 = length-take-le k₀ numbers le ∙ sym first-is in
        let cs : children_of (take k₀ numbers) (leaf_parts t (shares n k₀) list) ≡ level_children kind list levels 0 0 (take k₀ numbers) =
        ap (λ (x : ℕ). children_of (take k₀ numbers) (leaf_parts t (shares n x) list)) (sym first-is) ∙ leaves-are g kind list levels (take k₀ numbers) len in
        ap₂ (λ (x : List ℕ) (y : List Child). blocks_of t 0 null_ag_block (take k₀ numbers) (leaf_parts t (shares n k₀) list) ++ build_above t 1 x (drop k₀ numbers) y) (sym rest-is) cs
        ∙ ap₂ (λ (x y : ℕ). blocks_of t 0 null_ag_block (take x numbers) (leaf_parts t (shares n x) list) ++ build_above t 1 (drop 1 levels) (drop y numbers) (level_children kind list levels 0 0 (take y numbers))) (sym e) (sym first-is)

    far-in : far ≤ length before
    far-in =
        let le : get_or levels 0 0 ≤ length numbers = omega (arith, sum_is, first-is) in
        omega (arith, mul-le-mul_right size le, q.long)

    -- what the loop begins with
    pub record Begun : Type 0 where
      pub some_level : 0 < length levels
      pub room : far ≤ length before
      pub so : TreeSo before 0 0 (get_or levels 0 0)

    pub begun : Begun
    begun =
        let n : ℕ = length list / record_len kind in
        let sh : Shaped per k₀ ks₀ = above-shaped per k₀ 9 z.node_some (leaves-some (per_leaf t.shape) n) (omega (arith, ld.few, ap length levels-are)) in
        let same : levels_above g kind list levels numbers ≡ above_from 0 0 (get_or levels 0 0) = rw sub-zero refl in
        record {
          some_level = omega (arith, ap length levels-are);
          room = far-in;
          so =
              record {
                inside = omega (arith, ap length levels-are);
                base-is = omega arith;
                left = sum_is ∙ ap₂ (λ (x : ℕ) (y : List ℕ). x + sum y) (sym first-is) (sym rest-is);
                shaped = subst₂ (λ (x : ℕ) (y : List ℕ). Shaped per x y) (sym first-is) (sym rest-is) sh;
                written = record { long = refl; inside = far-in; front = ap (λ (x : List Block). take far before ++ output x) (sym same); back = refl };
              };
        }

    -- what the leaves need and leave, where there are k of them
    pub record LeavesFirst (k : ℕ) : Type 0 where
      pub some_level : 0 < length levels
      pub inside : k ≤ length numbers
      pub room : k * size ≤ length before
      pub leaves-for : (out : List ℕ) → length out ≡ k * size - 0 → Leaves g kind list (take (k - 0) (drop 0 numbers)) out
      pub whole-for : (part ys out : List ℕ) → length part ≡ k * size - 0
          → ys ≡ with_bytes part 0 (output (blocks_of t 0 null_ag_block (take (k - 0) (drop 0 numbers)) (leaf_parts t (shares (length list / record_len kind) (length (take (k - 0) (drop 0 numbers)))) list)))
          → out ≡ with_bytes (put_mid 0 (k * size - 0) before ys) far (output (levels_above g kind list levels numbers))
          → out ≡ with_bytes before 0 (built_bytes g kind list numbers)
      pub again : (out : List ℕ) → length out ≡ length before → Tree g levels numbers out

    pub leaves-first : (k : ℕ) → k ≡ get_or levels 0 0 → LeavesFirst k
    leaves-first k ke =
        let n : ℕ = length list / record_len kind in
        let kk : k ≡ k₀ = ke ∙ first-is in
        let le : k ≤ length numbers = omega (arith, sum_is) in
        let fit : k * size ≤ length before = omega (arith, mul-le-mul_right size le, q.long) in
        let cut : take (k - 0) (drop 0 numbers) ≡ take k numbers = rw sub-zero refl in
        let len : length (take k numbers) ≡ k = length-take-le k numbers le in
        let some : 0 < k = omega (arith, leaves-some (per_leaf t.shape) n) in
        let room : n ≤ k * per_leaf t.shape = subst (λ (x : ℕ). n ≤ x * per_leaf t.shape) (sym kk) (leaves-room (per_leaf t.shape) n z.leaf_some) in
        let X : List Block = blocks_of t 0 null_ag_block (take k numbers) (leaf_parts t (shares n k) list) in
        let made : Made size X (take k numbers) =
        leaves-made t z null_ag_block (take k numbers) (shares n k) list (len ∙ sym (shares-length n k 0 k)) (shares-most n k 0 k (per_leaf t.shape) some room) in
        let xl : length (output X) ≡ k * size = output-length size X (take k numbers) made ∙ ap (λ (x : ℕ). x * size) len in
        let above-all : List ℕ = output (levels_above g kind list levels numbers) in
        record {
          some_level = omega (arith, ap length levels-are);
          inside = le;
          room = fit;
          leaves-for = λ out e.
              rw cut
              (record {
                some = omega (arith, len);
                room = rw len room;
                long = omega (arith, ap (λ (x : ℕ). x * size) len);
              });
          whole-for = λ part ys out pl e last.
              let is : ys ≡ with_bytes part 0 (output X) =
              e ∙ ap (λ (x : List ℕ). with_bytes part 0 (output (blocks_of t 0 null_ag_block x (leaf_parts t (shares n (length x)) list)))) cut
              ∙ ap (λ (x : ℕ). with_bytes part 0 (output (blocks_of t 0 null_ag_block (take k numbers) (leaf_parts t (shares n x) list)))) len in
              last
              ∙ ap₂ (λ (x : List ℕ) (y : ℕ). with_bytes x y above-all) (part-put-to before part ys (output X) 0 (k * size) (omega arith) pl (omega arith) is)
              (let y : far ≡ 0 + length (output X) = ap (λ (x : ℕ). x * size) (sym ke) ∙ sym xl ∙ sym (zero-add (length (output X))) in y)
              ∙ with_bytes-add before 0 (output X) above-all (omega arith)
              ∙ ap (with_bytes before 0) (sym (output-append X (levels_above g kind list levels numbers)) ∙ ap output (sym (build-is k kk ke)));
          again = λ out e. record { blocks = q.blocks; long = omega (arith, q.long) };
        }

    -- ---- the level above level l

    module _ {out : List ℕ} {l low base k : ℕ} (s : TreeSo out l low base) (h : suc l < length levels) (ke : k ≡ get_or levels (suc l) 0) where
      abbrev ks : List ℕ
      ks = drop (suc (suc l)) levels

      abbrev m : ℕ
      m = get_or levels l 0

      abbrev below : List ℕ
      below = take (base - low) (drop low numbers)

      abbrev cs : List Child
      cs = level_children kind list levels l 0 below

      abbrev X : List Block
      X = blocks_of t (suc l) null_ag_block (take k (drop base numbers)) (node_parts t (shares (length cs) k) cs)

      dropped : drop (suc l) levels ≡ k ∷ ks
      dropped = drop-cons levels (suc l) 0 h ∙ ap (λ (x : ℕ). x ∷ ks) (sym ke)

      left-next : length numbers ≡ base + (k + sum ks)
      unfolding sum
      left-next = s.left ∙ ap (λ (x : List ℕ). base + sum x) dropped

      shaped-next : Shaped per m (k ∷ ks)
      shaped-next = subst (Shaped per m) dropped s.shaped

      below_length : length below ≡ m
      below_length = length-take-le (base - low) (drop low numbers) (omega (arith, s.base-is, left-next, length-drop low numbers)) ∙ (let e : base - low ≡ m = omega (arith, s.base-is) in e)

      children-length : length cs ≡ m
      children-length = span-count (record_len kind) list (first_of (length list / record_len kind) levels l) 0 below ∙ below_length

      numbers-length' : length (take k (drop base numbers)) ≡ k
      numbers-length' = length-take-le k (drop base numbers) (omega (arith, left-next, length-drop base numbers))

      cut : take (base + k - base) (drop base numbers) ≡ take k (drop base numbers)
      cut = ap (λ (x : ℕ). take x (drop base numbers)) (add-sub_cancel_left base k)

      planned : Planned (length list / record_len kind) levels l
      planned = plan-planned (per_leaf t.shape) per (length list / record_len kind) l levels z.leaf_some z.node_some ld.plan h

      ends : (base + k) * size ≤ length before
      ends = let le : base + k ≤ length numbers = omega (arith, left-next) in omega (arith, mul-le-mul_right size le, q.long)

      made : Made size X (take k (drop base numbers))
      made =
          nodes-made t z (suc l) null_ag_block (take k (drop base numbers)) (shares (length cs) k) cs (numbers-length' ∙ sym (shares-length (length cs) k 0 k))
          (shares-most (length cs) k 0 k per shaped-next.0 (omega (arith, children-length, shaped-next.1)))

      long : length (output X) ≡ k * size
      long = output-length size X (take k (drop base numbers)) made ∙ ap (λ (x : ℕ). x * size) numbers-length'

      above-is : above_from l low base ≡ X ++ above_from (suc l) base (base + k)
      unfolding build_above
      above-is =
          let up : children_of (take k (drop base numbers)) (node_parts t (shares (length cs) k) cs) ≡ level_children kind list levels (suc l) 0 (take k (drop base numbers)) =
          ap (λ (x : ℕ). children_of (take k (drop base numbers)) (node_parts t (shares (length cs) x) cs)) ke
          ∙ nodes-are g kind list levels l below (take k (drop base numbers)) planned below_length (omega (arith, shaped-next.0)) (numbers-length' ∙ ke) in
          ap (λ (x : List ℕ). build_above t (suc l) x (drop base numbers) cs) dropped
          ∙ ap₂ (λ (x : List ℕ) (y : List Child). X ++ build_above t (suc (suc l)) ks x y) (drop-drop k base numbers)
          (up ∙ ap (level_children kind list levels (suc l) 0) (sym cut))

      nodes-here : nodes_above g kind list levels l below (take (base + k - base) (drop base numbers)) ≡ X
      nodes-here =
          ap (λ (x : List ℕ). nodes_above g kind list levels l below x) cut
          ∙ ap₂ (λ (x y : ℕ). blocks_of t (l + 1) null_ag_block (take k (drop base numbers)) (node_parts t (shares x y) cs)) (below_length ∙ sym children-length) numbers-length'
          ∙ ap (λ (x : ℕ). blocks_of t x null_ag_block (take k (drop base numbers)) (node_parts t (shares (length cs) k) cs)) (add-one l)

      -- what a round needs and leaves
      pub record TreeRound : Type 0 where
        pub low-in : low ≤ base
        pub below_in : base ≤ length numbers
        pub blocks-in : base + k ≤ length numbers
        pub ahead : base * size ≤ (base + k) * size
        pub room : (base + k) * size ≤ length before
        pub nodes-for : (part : List ℕ) → length part ≡ (base + k) * size - base * size
            → Nodes g kind list levels l below (take (base + k - base) (drop base numbers)) part
        pub next : (part ys : List ℕ) → length part ≡ (base + k) * size - base * size
            → ys ≡ with_bytes part 0 (output (nodes_above g kind list levels l below (take (base + k - base) (drop base numbers))))
            → TreeSo (put_mid (base * size) ((base + k) * size - base * size) out ys) (l + 1) base (base + k)

      pub tree-round : TreeRound
      tree-round =
          let both : (base + k) * size ≡ base * size + k * size = add-mul base k size in
          record {
            low-in = omega (arith, s.base-is);
            below_in = omega (arith, left-next);
            blocks-in = omega (arith, left-next);
            ahead = omega arith;
            room = ends;
            nodes-for = λ part e.
                rw cut
                (record {
                  planned = planned;
                  all = below_length;
                  some = omega (arith, numbers-length', shaped-next.0);
                  room = subst₂ (λ (x y : ℕ). x ≤ y * per) (sym below_length) (sym numbers-length') shaped-next.1;
                  shallow = omega (arith, ld.few);
                  long = omega (arith, ap (λ (x : ℕ). x * size) numbers-length');
                });
            next = λ part ys pl e.
                let is : ys ≡ with_bytes part 0 (output X) = e ∙ ap (λ (x : List Block). with_bytes part 0 (output x)) nodes-here in
                let out' : List ℕ = put_mid (base * size) ((base + k) * size - base * size) out ys in
                let wr : Written before out whole (base * size) (X ++ above_from (suc l) base (base + k)) = subst (Written before out whole (base * size)) above-is s.written in
                subst (λ (x : ℕ). TreeSo out' x base (base + k)) (sym (add-one l))
                (record {
                  inside = h;
                  base-is = ap (λ (x : ℕ). base + x) ke;
                  left = omega (arith, left-next);
                  shaped = subst (λ (x : ℕ). Shaped per x ks) ke shaped-next.2;
                  written =
                      subst (λ (x : ℕ). Written before out' whole x (above_from (suc l) base (base + k))) (sym both)
                      (written-more before out whole (base * size) (k * size) X (above_from (suc l) base (base + k)) out' long (omega (arith, ends)) wr
                      (part-put-to out part ys (output X) (base * size) ((base + k) * size) (omega arith) pl (omega (arith, long)) is));
                });
          }
