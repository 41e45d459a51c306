-- Laws of the children that a lookup keeps: where their keys lie, and how the pairs go on past those that are skipped.
-- Assumes nothing.
use Rattle.std.proofs.Common.{◌≡◌, ℕ, ◌+◌, ◌-◌, ◌*◌, ◌<◌, ◌≤◌, Bool, true, false, List, length, get_or, sym, ap, ◌∙◌, ap₂, le_refl, arith, get_or-set_other, get_or-set_same}
use Rattle.blocks.specs.declared.geometry.Geometry.{Geometry}
use Rattle.blocks.specs.declared.kind.TreeKind.TheVariants as kind
use Rattle.blocks.specs.Geometry.{geometry_ok}
use Rattle.blocks.specs.Tree.{header_len, keys_len}
use Rattle.blocks.proofs.Laws.{places-fit, header_fits}
use Rattle.walks.specs.Walk.{Visit, visit_of, Shape, per_node, block_in}
use Rattle.walks.specs.Shapes.{shape_of}
use Rattle.walks.specs.Path.{every, due_in, path_of, Opened, Moved}
use Rattle.walks.proofs.PathLaws.{kept, path-moved}
use Rattle.walks.proofs.DescendLaws.{opened-moved}
use Rattle.lookup.specs.Inner.Descent.{Taken}

-- the keys of a child lie in the block
pub keys-inside : (g : Geometry) → geometry_ok g ≡ true → (i : ℕ) → i < per_node (shape_of g kind.Rmap) → header_len g.version + i * 40 + 40 ≤ g.blocksize
keys-inside g ok i h =
    let c : ℕ = per_node (shape_of g kind.Rmap) in
    let k : header_len g.version + c * 44 ≤ g.blocksize = places-fit kind.Rmap g.version 1 g.blocksize c (header_fits g kind.Rmap 1 ok) (le_refl c) in
    omega arith

-- the same where the lengths of a header and of a child's keys are at hand
pub keys-at : (g : Geometry) {i head keys : ℕ} → geometry_ok g ≡ true → i < per_node (shape_of g kind.Rmap) → head ≡ header_len g.version → keys ≡ keys_len kind.Rmap → head + i * keys + 40 ≤ g.blocksize
keys-at g {i} ok h he ke = rw (he, ke) (keys-inside g ok i h)

module _ (s : Shape) (image : List ℕ) (p p' : List ℕ) (block level from levels : ℕ) (o : Opened s image p from levels) (m : Moved s image block level from levels p p') where
  abbrev up : ℕ
  up = level + 1

  long : up * 2 + 1 < length p
  long = omega (arith, o.places, o.few, m.inside)

  -- the pair of the child's parent
  pub same_block : get_or p' (up * 2) 0 ≡ get_or p (up * 2) 0
  same_block = ap (λ (q : List ℕ). get_or q (up * 2) 0) m.stored ∙ get_or-set_other p (up * 2 + 1) (up * 2) (get_or p (up * 2 + 1) 0 + 1) 0 (omega arith)

  pub next-after : get_or p' (up * 2 + 1) 0 ≡ get_or p (up * 2 + 1) 0 + 1
  next-after = ap (λ (q : List ℕ). get_or q (up * 2 + 1) 0) m.stored ∙ get_or-set_same p (up * 2 + 1) (get_or p (up * 2 + 1) 0 + 1) 0 long

  pub this-child : get_or p' (up * 2 + 1) 0 - 1 ≡ get_or p (up * 2 + 1) 0
  this-child = omega (arith, next-after)

  pub parent-inside : (get_or p' (up * 2) 0 + 1) * s.size ≤ length image
  parent-inside = rw same_block (o.inside up m.least m.inside)

  pub child-few : get_or p' (up * 2 + 1) 0 - 1 < per_node s
  child-few = omega (arith, this-child, m.one_left, o.most up m.least m.inside)

  -- one child fewer is left
  pub fewer : length (path_of (due_in every s image) p' up (levels - up)) < length (path_of (due_in every s image) p from (levels - from))
  fewer = omega (arith, ap length (path-moved every s image p p' block level from levels o.places o.few m))

  module _ (keep : List ℕ → ℕ → Bool) where
    abbrev due : ℕ → ℕ → ℕ → List Visit
    due = due_in keep s image

    -- it is the first that is due, unless it is skipped
    next-path : (k : Bool) → k ≡ keep (block_in s.size image (get_or p' (up * 2) 0)) (get_or p' (up * 2 + 1) 0 - 1)
        → path_of due p from (levels - from) ≡ kept k (visit_of block level) (path_of due p' up (levels - up))
    next-path k e =
        path-moved keep s image p p' block level from levels o.places o.few m
        ∙ ap (λ (b : Bool). kept b (visit_of block level) (path_of due p' up (levels - up)))
        (sym (e ∙ ap₂ (λ (x y : ℕ). keep (block_in s.size image x) y) same_block this-child))

    pub next-skipped : false ≡ keep (block_in s.size image (get_or p' (up * 2) 0)) (get_or p' (up * 2 + 1) 0 - 1)
        → path_of due p from (levels - from) ≡ path_of due p' up (levels - up)
    next-skipped e = next-path false e

    pub next-taken : true ≡ keep (block_in s.size image (get_or p' (up * 2) 0)) (get_or p' (up * 2 + 1) 0 - 1)
        → (p₀ : List ℕ) (low : ℕ) → path_of due p₀ low (levels - low) ≡ path_of due p from (levels - from)
        → Taken due s image block level low levels p₀ p'
    next-taken e p₀ low w =
        record {
          small = m.small;
          inside = m.inside;
          opened = opened-moved s image p p' block level from levels o m;
          path = w ∙ next-path true e;
        }
