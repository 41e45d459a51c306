-- Laws of a node's children and of the pairs.
-- Assumes nothing.
use Prim.Native.Nat.{ℕ, zero, suc, ◌+◌, ◌-◌, ◌*◌, ◌≤◌, ◌<◌, ◌^◌}
use native.Mathlib.Nat.{mul-le-mul, mul-add, add-mul, one-mul, le_refl}
use native.Mathlib.Numerals.{add-one}
use native.Mathlib.Omega.{arith}
use native.Mathlib.Decide.{dec_lt}
use mathlib.Core.Path.{◌≡◌, refl, sym, ap, ap₂, ◌∙◌, subst}
use mathlib.Core.Bool.{Bool, true, false, cond}
use mathlib.Core.List.{List, [], ◌∷◌, ◌++◌}
use lib.ListN.{length, get_or, set}
use lib.Seq.{get_or-set_same, get_or-set_other}
use Rattle.codec.specs.Bytes.{bytes_at}
use Rattle.codec.proofs.Parts.{bytes_at-bytes_at}
use Rattle.blocks.specs.declared.geometry.Geometry.{Geometry}
use Rattle.blocks.specs.declared.kind.TreeKind.{TreeKind}
use Rattle.blocks.specs.Geometry.{geometry_ok}
use Rattle.blocks.specs.Tree.{header_len, keys_len}
use Rattle.blocks.proofs.Laws.{places-fit, header_fits, blocksize-within}
use Rattle.walks.specs.Walk.{Visit, visit_of, Shape, per_node, block_in, first_pointer}
use Rattle.walks.specs.Shapes.{shape_of}
use Rattle.walks.specs.WalkCall.{stack_places}
use Rattle.walks.specs.Path.{child_at, fan_of, children_from, due_in, fan_in, path_of, NoneLeft, Moved}

-- ---- a field of a block of an image

pub in_block : (image : List ℕ) (block size : ℕ) → (block + 1) * size ≡ block * size + size
in_block image block size = add-mul block 1 size ∙ ap (λ (x : ℕ). block * size + x) (one-mul size)

pub field : (image : List ℕ) (block size i w : ℕ) → i + w ≤ size → bytes_at image (block * size + i) w ≡ bytes_at (block_in size image block) i w
field image block size i w h = sym (bytes_at-bytes_at image (block * size) size i w h)

module _ (g : Geometry) (kind : TreeKind) (ok : geometry_ok g ≡ true) where
  abbrev c : ℕ
  c = per_node (shape_of g kind)

  node-fits : header_len g.version + c * keys_len kind + c * 4 ≤ g.blocksize
  node-fits =
      let k : header_len g.version + c * (keys_len kind + 4) ≤ g.blocksize = places-fit kind g.version 1 g.blocksize c (header_fits g kind 1 ok) (le_refl c) in
      let m : c * (keys_len kind + 4) ≡ c * keys_len kind + c * 4 = mul-add c (keys_len kind) 4 in
      omega arith

  pub pointer-inside : (i : ℕ) → i < c → first_pointer (shape_of g kind) + i * 4 + 4 ≤ g.blocksize
  pointer-inside i h = omega (arith, node-fits)

  pub small : (block : ℕ) → block < 2 ^ 32 → block * g.blocksize + g.blocksize ≤ 281474976776192
  small block b =
      let k : block ≤ 2 ^ 32 = omega arith in
      let s : g.blocksize ≤ 65536 = (blocksize-within g ok).1 in
      let m : block * g.blocksize ≤ 2 ^ 32 * 65536 = mul-le-mul k s in
      omega arith

-- ---- the pairs

module _ (due : ℕ → ℕ → ℕ → List Visit) where
  -- a store below the levels changes none of them
  pub path-below : (p : List ℕ) (x v level n : ℕ) → x < level * 2 → path_of due (set p x v) level n ≡ path_of due p level n
  unfolding path_of
  path-below p x v level zero h = refl
  path-below p x v level (suc n) h =
      let b : level * 2 ≡ x → ⊥ = omega arith in
      let c : level * 2 + 1 ≡ x → ⊥ = omega arith in
      rw (get_or-set_other p x (level * 2) v 0 b, get_or-set_other p x (level * 2 + 1) v 0 c)
      (ap (λ (l : List Visit). due level (get_or p (level * 2) 0) (get_or p (level * 2 + 1) 0) ++ l) (path-below p x v (suc level) n (omega arith)))

  pub path-cons : (p : List ℕ) (level levels : ℕ) → level < levels
      → path_of due p level (levels - level) ≡ due level (get_or p (level * 2) 0) (get_or p (level * 2 + 1) 0) ++ path_of due p (suc level) (levels - suc level)
  unfolding path_of
  path-cons p level levels h = let e : levels - level ≡ suc (levels - suc level) = omega arith in rw e

  pub path-end : (p : List ℕ) (level levels : ℕ) → levels ≤ level → path_of due p level (levels - level) ≡ []
  unfolding path_of
  path-end p level levels h = let e : levels - level ≡ 0 = omega arith in rw e

  -- nor do levels that have nothing due count
  pub path-skip : (p : List ℕ) (d low levels : ℕ) → low + d ≤ levels
      → ((l : ℕ) → low ≤ l → l < low + d → due l (get_or p (l * 2) 0) (get_or p (l * 2 + 1) 0) ≡ [])
      → path_of due p low (levels - low) ≡ path_of due p (low + d) (levels - (low + d))
  path-skip p zero low levels h none = let e : low ≡ low + 0 = omega arith in ap (λ (x : ℕ). path_of due p x (levels - x)) e
  path-skip p (suc d) low levels h none =
      let e : suc low + d ≡ low + suc d = omega arith in
      path-cons p low levels (omega arith)
      ∙ ap (λ (l : List Visit). l ++ path_of due p (suc low) (levels - suc low)) (none low (omega arith) (omega arith))
      ∙ path-skip p d (suc low) levels (omega arith) (λ l a b. none l (omega arith) (omega arith))
      ∙ ap (λ (x : ℕ). path_of due p x (levels - x)) e

  -- a pair with a later child
  pub path-set : (p : List ℕ) (level levels x : ℕ) → level < levels → level * 2 + 1 < length p
      → due level (get_or p (level * 2) 0) x ++ path_of due p (suc level) (levels - suc level) ≡ path_of due (set p (level * 2 + 1) x) level (levels - level)
  path-set p level levels x h long =
      let p' : List ℕ = set p (level * 2 + 1) x in
      let d : level * 2 ≡ level * 2 + 1 → ⊥ = omega arith in
      ap₂ (λ (l m : List Visit). l ++ m)
      (ap₂ (due level) (sym (get_or-set_other p (level * 2 + 1) (level * 2) x 0 d)) (sym (get_or-set_same p (level * 2 + 1) x 0 long)))
      (sym (path-below p (level * 2 + 1) x (suc level) (levels - suc level) (omega arith)))
      ∙ sym (path-cons p' level levels h)

-- no child is left on one level more
pub none-left-next : (size : ℕ) (image p : List ℕ) (low level : ℕ) → NoneLeft size image p low level → fan_in size image (get_or p (level * 2) 0) ≤ get_or p (level * 2 + 1) 0
    → NoneLeft size image p low (level + 1)
none-left-next size image p low level gone here l a b =
    elim (dec_lt l level) [ yes q ↦ gone l a q | no q ↦ subst (λ (x : ℕ). fan_in size image (get_or p (x * 2) 0) ≤ get_or p (x * 2 + 1) 0) (let e : level ≡ l = omega (arith, b, q) in e) here ]

-- ---- children skipped or not

-- v before l, where it is kept
abbrev pub kept : Bool → Visit → List Visit → List Visit
kept b v l = cond b (v ∷ l) l

module _ (keep : List ℕ → ℕ → Bool) (s : Shape) (image : List ℕ) where
  abbrev due : ℕ → ℕ → ℕ → List Visit
  due = due_in keep s image

  abbrev part : ℕ → List ℕ
  part block = block_in s.size image block

  pub due-none : (level block i : ℕ) → fan_of (part block) ≤ i → due level block i ≡ []
  unfolding children_from
  due-none level block i h = let z : fan_of (part block) - i ≡ 0 = omega arith in rw z

  pub due-next : (level block i : ℕ) → i < fan_of (part block)
      → due level block i ≡ kept (keep (part block) i) (child_at s (part block) (level - 1) i) (due level block (i + 1))
  unfolding children_from
  due-next level block i h =
      let z : fan_of (part block) - i ≡ suc (fan_of (part block) - suc i) = omega arith in
      ap (children_from (keep (part block)) s (part block) (level - 1) i) z
      ∙ ap (λ (x : ℕ). kept (keep (part block) i) (child_at s (part block) (level - 1) i) (due level block x)) (sym (add-one i))

  kept_append : (b : Bool) (v : Visit) (l m : List Visit) → kept b v l ++ m ≡ kept b v (l ++ m)
  kept_append true v l m = refl
  kept_append false v l m = refl

  -- where no child is left nothing is due
  pub path-none-left : (p : List ℕ) (low levels : ℕ) → low ≤ levels → NoneLeft s.size image p low levels → path_of due p low (levels - low) ≡ []
  path-none-left p low levels h gone =
      let e : low + (levels - low) ≡ levels = omega arith in
      path-skip due p (levels - low) low levels (omega arith) (λ l a b. due-none l (get_or p (l * 2) 0) (get_or p (l * 2 + 1) 0) (gone l a (omega arith)))
      ∙ path-end due p (low + (levels - low)) levels (omega arith)

  -- a child that is taken was the first that is due, unless it is skipped
  pub path-moved : (p p' : List ℕ) (block level low levels : ℕ) → stack_places ≤ length p → levels ≤ 9 → Moved s image block level low levels p p'
      → path_of due p low (levels - low)
      ≡ kept (keep (part (get_or p ((level + 1) * 2) 0)) (get_or p ((level + 1) * 2 + 1) 0)) (visit_of block level) (path_of due p' (level + 1) (levels - (level + 1)))
  path-moved p p' block level low levels long few m =
      let up : ℕ = level + 1 in
      let at : low + (up - low) ≡ up = omega (arith, m.least) in
      let b : ℕ = get_or p (up * 2) 0 in
      let i : ℕ = get_or p (up * 2 + 1) 0 in
      let k : Bool = keep (part b) i in
      let above : List Visit = path_of due p (suc up) (levels - suc up) in
      path-skip due p (up - low) low levels (omega (arith, m.inside)) (λ l a c. due-none l (get_or p (l * 2) 0) (get_or p (l * 2 + 1) 0) (m.none_left l a (omega arith)))
      ∙ ap (λ (x : ℕ). path_of due p x (levels - x)) at
      ∙ path-cons due p up levels m.inside
      ∙ ap (λ (l : List Visit). l ++ above) (due-next up b i m.one_left)
      ∙ kept_append k (child_at s (part b) (up - 1) i) (due up b (i + 1)) above
      ∙ ap₂ (kept k) (sym m.child) (path-set due p up levels (i + 1) m.inside (omega (arith, m.inside)) ∙ ap (λ (q : List ℕ). path_of due q up (levels - up)) (sym m.stored))
