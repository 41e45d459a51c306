-- Laws of a look at a block of an image.
-- Assumes nothing.
use Prim.Native.Nat.{ℕ, zero, suc, ◌+◌, ◌-◌, ◌*◌, ◌≤◌, ◌<◌, ◌^◌}
use native.Mathlib.Nat.{mul-le-mul, mul-add, add-sub_cancel_left, add-mul, one-mul, le_refl}
use native.Mathlib.Omega.{arith}
use mathlib.Core.Path.{◌≡◌, refl, sym, ap, ◌∙◌, subst}
use mathlib.Core.List.{List, []}
use mathlib.Core.Bool.{Bool, true, false, cond}
use lib.ListN.{length, take, drop}
use lib.Dec.{leb}
use borrow.Author.Tests.{le-leb, lt-leb, leb-true}
use Rattle.codec.specs.Bytes.{bytes_at}
use Rattle.codec.specs.Question.{Values, none, Outcome, done, refused, map_outcome}
use Rattle.codec.proofs.Parts.{length-bytes_at}
use Rattle.codec.proofs.Stores.{bytes_at-is}
use Rattle.blocks.specs.declared.geometry.Geometry.{Geometry}
use Rattle.blocks.specs.declared.kind.TreeKind.{TreeKind}
use Rattle.blocks.specs.declared.check.Header.{Header}
use Rattle.blocks.specs.Geometry.{geometry_ok}
use Rattle.blocks.specs.Tree.{header_len, record_len, keys_len, place_len, capacity}
use Rattle.blocks.specs.Check.{check_block}
use Rattle.blocks.proofs.Laws.{place-above, places-fit, capacity-some, capacity-small, header_fits}
use Rattle.blocks.proofs.Accepted.{Accepted, accepted}
use Rattle.walks.specs.Walk.{Visit, visit_of, Look, bad, good, pointers, Shape, per_node, block_in, first_pointer, under, look_of, look_in}
use Rattle.walks.specs.Shapes.{numrecs_of, shape_of, header_in}
use Rattle.walks.proofs.StackLaws.{Below, pointers-length}
use Rattle.walks.proofs.RunLaws.{Falls}

-- ---- over any shape

module _ (s : Shape) (image : List ℕ) (block level : ℕ) where
  next_start : (block + 1) * s.size ≡ block * s.size + s.size
  next_start = add-mul block 1 s.size ∙ ap (λ (x : ℕ). block * s.size + x) (one-mul s.size)

  pub look-outside : length image < block * s.size + s.size → look_in s image (visit_of block level) ≡ bad 14 none
  unfolding look_in
  look-outside h = rw (next_start, lt-leb (block * s.size + s.size) (length image) h)

  look-checked : block * s.size + s.size ≤ length image
      → look_in s image (visit_of block level) ≡ look_of (map_outcome (under s (block_in s.size image block) level) (s.check block level (block_in s.size image block)))
  unfolding look_in
  look-checked h = rw (next_start, le-leb (block * s.size + s.size) (length image) h)

  pub look-bad : (n : ℕ) (x : Values) → block * s.size + s.size ≤ length image → s.check block level (block_in s.size image block) ≡ refused n x
      → look_in s image (visit_of block level) ≡ bad n x
  look-bad n x h k = look-checked h ∙ ap (λ (o : Outcome ℕ). look_of (map_outcome (under s (block_in s.size image block) level) o)) k

  pub look-good : (n : ℕ) → block * s.size + s.size ≤ length image → s.check block level (block_in s.size image block) ≡ done n
      → look_in s image (visit_of block level) ≡ under s (block_in s.size image block) level n
  look-good n h k = look-checked h ∙ ap (λ (o : Outcome ℕ). look_of (map_outcome (under s (block_in s.size image block) level) o)) k

  -- the part of the image that the code takes is the block
  pub part_is : take (block * s.size + s.size - block * s.size) (drop (block * s.size) image) ≡ block_in s.size image block
  part_is =
      ap (λ (k : ℕ). take k (drop (block * s.size) image)) (add-sub_cancel_left (block * s.size) s.size)
      ∙ sym (bytes_at-is image (block * s.size) s.size)

  pub part-long : block * s.size + s.size ≤ length image → length (block_in s.size image block) ≡ s.size
  part-long h = length-bytes_at image (block * s.size) s.size h

module _ (s : Shape) (part : List ℕ) (level n : ℕ) where
  pub under-leaf : level ≡ 0 → under s part level n ≡ good [] (bytes_at part s.header (n * s.record_length))
  unfolding under
  under-leaf z = rw z

  pub under-node : 0 < level → under s part level n ≡ good (pointers part (first_pointer s) (level - 1) n) []
  unfolding under
  under-node h = let e : level ≡ suc (level - 1) = omega arith in ap (λ (l : ℕ). under s part l n) e

-- where a block starts fits 64 bits
pub start_small : (block size : ℕ) → block < 2 ^ 32 → size ≤ 65536 → block * size ≤ 2 ^ 32 * 65536
start_small block size b s = let k : block ≤ 2 ^ 32 = omega arith in mul-le-mul k s

-- ---- over the trees of a group

module _ (g : Geometry) (kind : TreeKind) (ok : geometry_ok g ≡ true) where
  pub node_some : 10 ≤ per_node (shape_of g kind)
  node_some = capacity-some g kind 1 ok

  pub node-small : per_node (shape_of g kind) ≤ 8192
  node-small = capacity-small g kind 1 ok

  -- a node's pointers lie in the block, after room for the capacity's keys
  pub pointers-inside : (n : ℕ) → n ≤ per_node (shape_of g kind) → first_pointer (shape_of g kind) + n * 4 ≤ g.blocksize
  pointers-inside n h =
      let c : ℕ = per_node (shape_of g kind) in
      let k : header_len g.version + c * (keys_len kind + 4) ≤ g.blocksize = places-fit kind g.version 1 g.blocksize c (header_fits g kind 1 ok) (le_refl c) in
      let m : c * (keys_len kind + 4) ≡ c * keys_len kind + c * 4 = mul-add c (keys_len kind) 4 in
      omega arith

  module _ (block level : ℕ) (part : List ℕ) (h : Header) (long : length part ≡ g.blocksize) (e : check_block g kind block level part ≡ done h) where
    told : Accepted g kind level part h
    told = accepted g kind block level part h e

    pub header-body : h.body ≡ header_len g.version
    header-body = told.body_is

    pub leaf-inside : level ≡ 0 → header_len g.version + h.numrecs * record_len kind ≤ g.blocksize
    leaf-inside z = subst (λ (l : ℕ). header_len g.version + h.numrecs * place_len kind l ≤ g.blocksize) z (rw (← long) told.places)

    capacity-above : 0 < level → capacity kind g.version level (length part) ≡ per_node (shape_of g kind)
    capacity-above z = rw (long, place-above kind level z)

    pub node-most : 0 < level → h.numrecs ≤ per_node (shape_of g kind)
    node-most z = rw (← capacity-above z) told.few

    pub node-room : 0 < level → h.maxrecs ≡ per_node (shape_of g kind)
    node-room z = told.maxrecs-is ∙ capacity-above z

-- ---- the header that 14 and the block check come to

-- a look is what stands under it
pub look-header : (g : Geometry) (kind : TreeKind) (image : List ℕ) (v : Visit)
    → look_in (shape_of g kind) image v
    ≡ look_of (map_outcome (λ h. under (shape_of g kind) (block_in g.blocksize image v.block) v.level h.numrecs) (header_in g kind image v))
unfolding look_in
look-header g kind image v =
    go (leb ((v.block + 1) * g.blocksize) (length image)) (check_block g kind v.block v.level (block_in g.blocksize image v.block))
  where
    f : ℕ → Look
    f = under (shape_of g kind) (block_in g.blocksize image v.block) v.level

    go : (b : Bool) (o : Outcome Header)
        → look_of (cond b (map_outcome f (numrecs_of o)) (refused 14 none)) ≡ look_of (map_outcome (λ h. f h.numrecs) (cond b o (refused 14 none)))
    go true (done h) = refl
    go true (refused n x) = refl
    go false o = refl

module _ (g : Geometry) (kind : TreeKind) (image : List ℕ) (block level : ℕ) where
  abbrev part : List ℕ
  part = block_in g.blocksize image block

  pub look-refused : (n : ℕ) (x : Values) → header_in g kind image (visit_of block level) ≡ refused n x → look_in (shape_of g kind) image (visit_of block level) ≡ bad n x
  look-refused n x e =
      look-header g kind image (visit_of block level)
      ∙ ap (λ (o : Outcome Header). look_of (map_outcome (λ h. under (shape_of g kind) part level h.numrecs) o)) e

  pub look-done : (h : Header) → header_in g kind image (visit_of block level) ≡ done h
      → look_in (shape_of g kind) image (visit_of block level) ≡ under (shape_of g kind) part level h.numrecs
  look-done h e =
      look-header g kind image (visit_of block level)
      ∙ ap (λ (o : Outcome Header). look_of (map_outcome (λ h. under (shape_of g kind) part level h.numrecs) o)) e

  pub header-outside : length image < block * g.blocksize + g.blocksize → header_in g kind image (visit_of block level) ≡ refused 14 none
  header-outside h = rw (next_start (shape_of g kind) image block level, lt-leb (block * g.blocksize + g.blocksize) (length image) h)

  pub header-checked : block * g.blocksize + g.blocksize ≤ length image → header_in g kind image (visit_of block level) ≡ check_block g kind block level part
  header-checked h = rw (next_start (shape_of g kind) image block level, le-leb (block * g.blocksize + g.blocksize) (length image) h)

  -- a block with a header lies in the image, and the block check gave it
  pub header-good : (h : Header) → header_in g kind image (visit_of block level) ≡ done h
      → (block * g.blocksize + g.blocksize ≤ length image) × (check_block g kind block level part ≡ done h)
  header-good h e = go (leb ((block + 1) * g.blocksize) (length image)) refl e
    where
      go : (b : Bool) → leb ((block + 1) * g.blocksize) (length image) ≡ b → cond b (check_block g kind block level part) (refused 14 none) ≡ done h
          → (block * g.blocksize + g.blocksize ≤ length image) × (check_block g kind block level part ≡ done h)
      go true t f = (omega (arith, leb-true ((block + 1) * g.blocksize) (length image) t, next_start (shape_of g kind) image block level), f)
      go false t f = cc

-- ---- a look finds blocks one level below, at most a node's capacity

pointers-below : (part : List ℕ) (at level n : ℕ) → Below (suc level) (pointers part at level n)
unfolding pointers
pointers-below b at level zero = tt
pointers-below b at level (suc n) = (refl, pointers-below b (at + 4) level n)

under-falls : (s : Shape) (part : List ℕ) (level n : ℕ) (below : List Visit) (bytes : List ℕ) → (0 < level → n ≤ per_node s) → under s part level n ≡ good below bytes
    → (length below ≤ per_node s) × Below level below
unfolding under
under-falls s part zero n below bytes h k =
    let b : [] ≡ below = cc in
    subst (λ (l : List Visit). (length l ≤ per_node s) × Below 0 l) b (omega arith, tt)
under-falls s part (suc level) n below bytes h k =
    let ps = pointers part (first_pointer s) level n in
    let b : ps ≡ below = cc in
    let m : n ≤ per_node s = h (omega arith) in
    subst (λ (l : List Visit). (length l ≤ per_node s) × Below (suc level) l) b (omega (arith, pointers-length part (first_pointer s) level n), pointers-below part (first_pointer s) level n)

pub look-falls : (g : Geometry) (kind : TreeKind) (image : List ℕ) → geometry_ok g ≡ true → Falls (per_node (shape_of g kind)) (look_in (shape_of g kind) image)
unfolding look_in
look-falls g kind image ok v below bytes h = outer (leb ((v.block + 1) * s.size) (length image)) refl h
  where
    s : Shape
    s = shape_of g kind

    part : List ℕ
    part = block_in s.size image v.block

    inner : length part ≡ s.size → (o : Outcome Header) → check_block g kind v.block v.level part ≡ o → look_of (map_outcome (under s part v.level) (numrecs_of o)) ≡ good below bytes
        → (length below ≤ per_node s) × Below v.level below
    inner l (done d) e f = under-falls s part v.level d.numrecs below bytes (node-most g kind ok v.block v.level part d l e) f
    inner l (refused n x) e f = cc

    outer : (b : Bool) → leb ((v.block + 1) * s.size) (length image) ≡ b
        → look_of (cond b (map_outcome (under s part v.level) (s.check v.block v.level part)) (refused 14 none)) ≡ good below bytes
        → (length below ≤ per_node s) × Below v.level below
    outer true t f =
        let w : v.block * s.size + s.size ≤ length image = omega (arith, leb-true ((v.block + 1) * s.size) (length image) t, next_start s image v.block v.level) in
        inner (part-long s image v.block v.level w) (check_block g kind v.block v.level part) refl f
    outer false t f = cc
