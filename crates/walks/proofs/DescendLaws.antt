-- Laws of a walk's descent: the pairs of the blocks above the one that is due.
-- Assumes nothing.
use Prim.Native.Nat.{ℕ, zero, suc, ◌+◌, ◌-◌, ◌*◌, ◌^◌, ◌≤◌, ◌<◌}
use native.Mathlib.Numerals.{add-one}
use native.Mathlib.Omega.{arith}
use native.Mathlib.Decide.{dec_lt}
use mathlib.Core.Path.{◌≡◌, refl, sym, ap, ap₂, ◌∙◌, subst}
use mathlib.Core.Bool.{Bool, true, false, cond}
use mathlib.Core.List.{List, [], ◌∷◌, ◌++◌}
use lib.Dec.{leb}
use lib.ListN.{length, get_or, set, length-set}
use lib.Seq.{get_or-set_same, get_or-set_other}
use borrow.Author.Tests.{leb-true, ne_eqb}
use Rattle.codec.specs.Question.{none, Outcome, done, refused, map_outcome}
use Rattle.blocks.specs.declared.geometry.Geometry.{Geometry}
use Rattle.blocks.specs.declared.kind.TreeKind.{TreeKind}
use Rattle.blocks.specs.declared.check.Header.{Header}
use Rattle.blocks.specs.Geometry.{geometry_ok}
use Rattle.blocks.specs.Check.{check_block}
use Rattle.blocks.proofs.Accepted.{accepted}
use Rattle.walks.specs.Walk.{Visit, visit_of, Look, bad, good, Trace, run, fit, visits, pointers, Shape, per_node, block_in, first_pointer, under, look_of, look_in}
use Rattle.walks.specs.Shapes.{shape_of, numrecs_of}
use Rattle.walks.specs.Path.{child_at, fan_of, children_from, every, due_in, path_of, Opened, with_pair, low_of, Moved}
use Rattle.walks.specs.declared.visit.Count.{Count}
use Rattle.walks.specs.OneVisit.{seen_of, step_of, Wrote}
use Rattle.walks.specs.Underway.{rest_of, Walking}
use Rattle.walks.specs.WalkCall.{stack_places, walk_in}
use Rattle.walks.proofs.LookLaws.{part-long, node-most, under-leaf, under-node}
use Rattle.walks.proofs.WalkLaws.{rest-done, rest-good, walking-first, walking-next, step-good}
use Rattle.walks.proofs.PathLaws.{path-below, path-cons, path-end, in_block}

-- ---- a walk skips no child

pub children-all : (s : Shape) (part : List ℕ) (level i k : ℕ) → children_from (every part) s part level i k ≡ pointers part (first_pointer s + i * 4) level k
unfolding children_from pointers
children-all s part level i zero = refl
children-all s part level i (suc k) =
    let e : first_pointer s + suc i * 4 ≡ first_pointer s + i * 4 + 4 = omega arith in
    ap (λ (l : List Visit). child_at s part level i ∷ l) (children-all s part level (suc i) k ∙ ap (λ (x : ℕ). pointers part x level k) e)

-- ---- what a good look at a block tells

pub record Looked (s : Shape) (image : List ℕ) (block level : ℕ) (below : List Visit) : Type 0 where
  pub inside : (block + 1) * s.size ≤ length image
  pub most : 0 < level → fan_of (block_in s.size image block) ≤ per_node s
  pub leaf : level ≡ 0 → below ≡ []
  pub node : 0 < level → below ≡ pointers (block_in s.size image block) (first_pointer s) (level - 1) (fan_of (block_in s.size image block))

module _ (g : Geometry) (kind : TreeKind) (ok : geometry_ok g ≡ true) (image : List ℕ) (block level : ℕ) (below : List Visit) (bytes : List ℕ) where
  abbrev s : Shape
  s = shape_of g kind

  abbrev part : List ℕ
  part = block_in g.blocksize image block

  under-node-is : (n : ℕ) → 0 < level → under s part level n ≡ good below bytes → below ≡ pointers part (first_pointer s) (level - 1) n
  under-node-is n h e = let f = sym (under-node s part level n h) ∙ e in cc

  under-leaf-is : (n : ℕ) → level ≡ 0 → under s part level n ≡ good below bytes → below ≡ []
  under-leaf-is n h e = let f = sym (under-leaf s part level n h) ∙ e in cc

  pub looked : look_in s image (visit_of block level) ≡ good below bytes → Looked s image block level below
  unfolding look_in
  looked h = outer (leb ((block + 1) * g.blocksize) (length image)) refl h
    where
      inner : (block + 1) * g.blocksize ≤ length image → (o : Outcome Header) → check_block g kind block level part ≡ o → look_of (map_outcome (under s part level) (numrecs_of o)) ≡ good below bytes
          → Looked s image block level below
      inner w (done d) e f =
          let l : length part ≡ g.blocksize = part-long s image block level (omega (arith, in_block image block g.blocksize)) in
          let n : d.numrecs ≡ fan_of part = (accepted g kind block level part d e).numrecs-is in
          record {
            inside = w;
            most = λ z. subst (λ (x : ℕ). x ≤ per_node s) n (node-most g kind ok block level part d l e z);
            leaf = λ z. under-leaf-is d.numrecs z f;
            node = λ z. under-node-is d.numrecs z f ∙ ap (pointers part (first_pointer s) (level - 1)) n;
          }
      inner w (refused n x) e f = cc

      outer : (b : Bool) → leb ((block + 1) * g.blocksize) (length image) ≡ b
          → look_of (cond b (map_outcome (under s part level) (numrecs_of (check_block g kind block level part))) (refused 14 none)) ≡ good below bytes
          → Looked s image block level below
      outer true t f = inner (leb-true ((block + 1) * g.blocksize) (length image) t) (check_block g kind block level part) refl f
      outer false t f = cc

-- ---- a block that was read has its own pair

low-node : (m : ℕ) → low_of (suc m) ≡ suc m
low-node m = ap (λ (t : Bool). cond t 1 (suc m)) (ne_eqb (suc m) 0 (λ e. omega arith))

pair-node : (p : List ℕ) (block m : ℕ) → with_pair p block (suc m) ≡ set (set p (suc m * 2) block) (suc m * 2 + 1) 0
pair-node p block m = ap (λ (t : Bool). cond t p (set (set p (suc m * 2) block) (suc m * 2 + 1) 0)) (ne_eqb (suc m) 0 (λ e. omega arith))

-- children skipped or not: what is under a block is due before what was due
module _ (keep : List ℕ → ℕ → Bool) (s : Shape) (image : List ℕ) where
  abbrev due_by : ℕ → ℕ → ℕ → List Visit
  due_by = due_in keep s image

  pub path-with : (p : List ℕ) (block level levels : ℕ) (below : List Visit) → stack_places ≤ length p → levels ≤ 9 → level < levels → (level ≡ 0 → below ≡ [])
      → (0 < level → below ≡ due_by level block 0)
      → below ++ path_of due_by p (level + 1) (levels - (level + 1)) ≡ path_of due_by (with_pair p block level) (low_of level) (levels - low_of level)
  path-with p block zero levels below h few k leaf node = ap (λ (x : List Visit). x ++ path_of due_by p 1 (levels - 1)) (leaf refl)
  path-with p block (suc m) levels below h few k leaf node =
      let level : ℕ = suc m in
      let q : List ℕ = set p (level * 2) block in
      let r : List ℕ = set q (level * 2 + 1) 0 in
      let long : length q ≡ length p = length-set p (level * 2) block in
      let d : level * 2 ≡ level * 2 + 1 → ⊥ = omega arith in
      let b : get_or r (level * 2) 0 ≡ block = get_or-set_other q (level * 2 + 1) (level * 2) 0 0 d ∙ get_or-set_same p (level * 2) block 0 (omega arith) in
      let i : get_or r (level * 2 + 1) 0 ≡ 0 = get_or-set_same q (level * 2 + 1) 0 0 (omega arith) in
      ap₂ (λ (x y : List Visit). x ++ y) (node (omega arith) ∙ sym (ap₂ (due_by level) b i))
      (ap (λ (x : ℕ). path_of due_by p x (levels - x)) (add-one level)
      ∙ sym (path-below due_by q (level * 2 + 1) 0 (suc level) (levels - suc level) (omega arith) ∙ path-below due_by p (level * 2) block (suc level) (levels - suc level) (omega arith)))
      ∙ sym (path-cons due_by r level levels k)
      ∙ sym (ap₂ (λ (x : List ℕ) (y : ℕ). path_of due_by x y (levels - y)) (pair-node p block m) (low-node m))

-- in a walk
module _ (s : Shape) (image : List ℕ) where
  abbrev due : ℕ → ℕ → ℕ → List Visit
  due = due_in every s image

  -- all children of a node are due
  pub due_below : (block level : ℕ) (below : List Visit) → Looked s image block level below → 0 < level → below ≡ due level block 0
  due_below block level below l up =
      let part : List ℕ = block_in s.size image block in
      let z : first_pointer s ≡ first_pointer s + 0 * 4 = omega arith in
      let all : fan_of part ≡ fan_of part - 0 = omega arith in
      l.node up ∙ ap (λ (x : ℕ). pointers part x (level - 1) (fan_of part)) z ∙ sym (children-all s part (level - 1) 0 (fan_of part))
      ∙ ap (children_from (every part) s part (level - 1) 0) all

  pub path-open : (p : List ℕ) (block level levels : ℕ) (below : List Visit) → stack_places ≤ length p → levels ≤ 9 → level < levels → Looked s image block level below
      → below ++ path_of due p (level + 1) (levels - (level + 1)) ≡ path_of due (with_pair p block level) (low_of level) (levels - low_of level)
  path-open p block level levels below h few k l =
      path-with every s image p block level levels below h few k l.leaf (due_below block level below l)

-- level, or above it
by_level : (P : ℕ → Type 0) (level l : ℕ) → level ≤ l → P level → (level < l → P l) → P l
by_level P level l h here above = elim (dec_lt level l) [ yes q ↦ above q | no q ↦ subst P (let e : level ≡ l = omega (arith, h, q) in e) here ]

module _ (s : Shape) (image : List ℕ) where
  abbrev fan : ℕ → ℕ
  fan x = fan_of (block_in s.size image x)

  -- the pairs with a block's own
  pub opened-open : (p : List ℕ) (block level levels : ℕ) (below : List Visit) → level < levels → Looked s image block level below → Opened s image p (level + 1) levels
      → Opened s image (with_pair p block level) (low_of level) levels
  opened-open p block zero levels below k l o = o
  opened-open p block (suc m) levels below k l o =
      let level : ℕ = suc m in
      let q : List ℕ = set p (level * 2) block in
      let r : List ℕ = set q (level * 2 + 1) 0 in
      let long : length q ≡ length p = length-set p (level * 2) block in
      let d : level * 2 ≡ level * 2 + 1 → ⊥ = omega arith in
      let room : level * 2 + 1 < length p = omega (arith, o.places, o.few) in
      let b : get_or r (level * 2) 0 ≡ block = get_or-set_other q (level * 2 + 1) (level * 2) 0 0 d ∙ get_or-set_same p (level * 2) block 0 (omega arith) in
      let i : get_or r (level * 2 + 1) 0 ≡ 0 = get_or-set_same q (level * 2 + 1) 0 0 (omega arith) in
      let blocks : (x : ℕ) → level < x → get_or r (x * 2) 0 ≡ get_or p (x * 2) 0 =
      λ x h. get_or-set_other q (level * 2 + 1) (x * 2) 0 0 (omega arith) ∙ get_or-set_other p (level * 2) (x * 2) block 0 (omega arith) in
      let nexts : (x : ℕ) → level < x → get_or r (x * 2 + 1) 0 ≡ get_or p (x * 2 + 1) 0 =
      λ x h. get_or-set_other q (level * 2 + 1) (x * 2 + 1) 0 0 (omega arith) ∙ get_or-set_other p (level * 2) (x * 2 + 1) block 0 (omega arith) in
      subst (λ (x : List ℕ). Opened s image x (low_of level) levels) (sym (pair-node p block m)) (subst (λ (x : ℕ). Opened s image r x levels) (sym (low-node m)) (record {
        places = rw (length-set q (level * 2 + 1) 0, long) o.places;
        few = o.few;
        above = omega arith;
        within = omega arith;
        inside = λ x h j. by_level (λ y. (get_or r (y * 2) 0 + 1) * s.size ≤ length image) level x h (rw b l.inside) (λ e. rw (blocks x e) (o.inside x (omega arith) j));
        most = λ x h j. by_level (λ y. fan (get_or r (y * 2) 0) ≤ per_node s) level x h (rw b (l.most (omega arith))) (λ e. rw (blocks x e) (o.most x (omega arith) j));
        next = λ x h j. by_level (λ y. get_or r (y * 2 + 1) 0 ≤ fan (get_or r (y * 2) 0)) level x h (rw i (omega arith)) (λ e. rw (nexts x e, blocks x e) (o.next x (omega arith) j));
      }))

  -- the pairs with a later child of one of them
  moved-set : (p : List ℕ) (v level low levels : ℕ) → low ≤ level → level < levels → v ≤ fan (get_or p (level * 2) 0) → Opened s image p low levels → Opened s image (set p (level * 2 + 1) v) level levels
  moved-set p v level low levels h k f o =
      let r : List ℕ = set p (level * 2 + 1) v in
      let room : level * 2 + 1 < length p = omega (arith, o.places, o.few) in
      let blocks : (x : ℕ) → get_or r (x * 2) 0 ≡ get_or p (x * 2) 0 = λ x. get_or-set_other p (level * 2 + 1) (x * 2) v 0 (omega arith) in
      record {
        places = rw (length-set p (level * 2 + 1) v) o.places;
        few = o.few;
        above = omega (arith, o.above);
        within = omega arith;
        inside = λ x a j. rw (blocks x) (o.inside x (omega arith) j);
        most = λ x a j. rw (blocks x) (o.most x (omega arith) j);
        next = λ x a j. by_level (λ y. get_or r (y * 2 + 1) 0 ≤ fan (get_or r (y * 2) 0)) level x a (rw (blocks level, get_or-set_same p (level * 2 + 1) v 0 room) f)
            (λ e. rw (blocks x, get_or-set_other p (level * 2 + 1) (x * 2 + 1) v 0 (let z : x * 2 + 1 ≡ level * 2 + 1 → ⊥ = omega arith in z)) (o.next x (omega arith) j));
      }

  pub opened-moved : (p p' : List ℕ) (b level low levels : ℕ) → Opened s image p low levels → Moved s image b level low levels p p' → Opened s image p' (level + 1) levels
  opened-moved p p' b level low levels o m =
      subst (λ (q : List ℕ). Opened s image q (level + 1) levels) (sym m.stored)
      (moved-set p (get_or p ((level + 1) * 2 + 1) 0 + 1) (level + 1) low levels m.least m.inside (omega (arith, m.one_left)) o)

-- ---- the walk

-- before the first turn
pub walking-begin : (s : Shape) (image : List ℕ) (root levels limit places w : ℕ) (stack scratch out : List ℕ) → 1 ≤ levels → levels ≤ 9 → stack_places ≤ length stack → places ≤ length scratch
    → Walking (look_in s image) limit places (length out) w (walk_in s image root levels limit places (length out)) out scratch out 0 0
    (visit_of root (levels - 1) ∷ path_of (due_in every s image) stack (levels - 1 + 1) (levels - (levels - 1 + 1)))
    × Opened s image stack (levels - 1 + 1) levels
unfolding walk_in
walking-begin s image root levels limit places w stack scratch out some few deep noting =
    let start = visit_of root (levels - 1) ∷ [] in
    let up : levels - 1 + 1 ≡ levels = omega arith in
    let none : path_of (due_in every s image) stack (levels - 1 + 1) (levels - (levels - 1 + 1)) ≡ [] = path-end (due_in every s image) stack (levels - 1 + 1) levels (omega arith) in (
      subst (λ (d : List Visit). Walking (look_in s image) limit places (length out) w (fit places (length out) (run (look_in s image) limit start)) out scratch out 0 0 (visit_of root (levels - 1) ∷ d)) (sym none)
          (walking-first (look_in s image) limit places w scratch out start noting),
      record {
        places = deep;
        few = few;
        above = omega arith;
        within = omega arith;
        inside = λ l h k. absurd (omega arith);
        most = λ l h k. absurd (omega arith);
        next = λ l h k. absurd (omega arith);
      },
    )

-- a turn: the block that is due is read
module _ (g : Geometry) (kind : TreeKind) (image : List ℕ) (levels : ℕ) where
  abbrev sh : Shape
  sh = shape_of g kind

  abbrev paths : List ℕ → ℕ → List Visit
  paths p l = path_of (due_in every sh image) p l (levels - l)

  -- what is below it is due before what was due
  pub walking-visit : {limit places room w : ℕ} {total : Trace} {out₀ scratch out : List ℕ} (block level : ℕ) (c : Count) (later : List Visit)
      → Walking (look_in sh image) limit places room w total out₀ scratch out c.visits c.bytes (visit_of block level ∷ later)
      → (n : Count) (scratch' out' : List ℕ) → c.visits < limit → block < 2 ^ 32 → (below : List Visit) (bytes : List ℕ)
      → look_in sh image (visit_of block level) ≡ good below bytes → step_of places room c (good below bytes) ≡ done n
      → Wrote (done n) (visit_of block level) (good below bytes) c scratch scratch' out out'
      → Walking (look_in sh image) limit places room w total out₀ scratch' out' n.visits n.bytes (below ++ later)
  walking-visit {limit} {places} {room} {w} {total} {out₀} {scratch} {out} block level c later k n scratch' out' v b32 below bytes e step wr =
      let q = step-good places room c below bytes n step in
      subst (λ (m : Count). Walking (look_in sh image) limit places room w total out₀ scratch' out' m.visits m.bytes (below ++ later)) (sym q.2)
      (walking-next k (visit_of block level) later below bytes scratch' out' (below ++ later) refl v b32 e q.0 q.1 wr.noted wr.copied refl)

  pub walking-turn : geometry_ok g ≡ true → {limit places room w : ℕ} {total : Trace} {out₀ scratch out : List ℕ} (stack : List ℕ) (block level : ℕ) (c : Count)
      → Walking (look_in sh image) limit places room w total out₀ scratch out c.visits c.bytes (visit_of block level ∷ paths stack (level + 1)) → Opened sh image stack (level + 1) levels → level < levels
      → (n : Count) (scratch' out' : List ℕ) → c.visits < limit → block < 2 ^ 32 → (l : Look) → look_in sh image (visit_of block level) ≡ l → step_of places room c l ≡ done n
      → Wrote (done n) (visit_of block level) l c scratch scratch' out out'
      → Walking (look_in sh image) limit places room w total out₀ scratch' out' n.visits n.bytes (paths (with_pair stack block level) (low_of level)) × Opened sh image (with_pair stack block level) (low_of level) levels
  unfolding step_of
  walking-turn ok {limit} {places} {room} {w} {total} {out₀} {scratch} {out} stack block level c k o h n scratch' out' v b32 (bad m x) e step wr = cc
  walking-turn ok {limit} {places} {room} {w} {total} {out₀} {scratch} {out} stack block level c k o h n scratch' out' v b32 (good below bytes) e step wr =
      let lk = looked g kind ok image block level below bytes e in (
        subst (λ (d : List Visit). Walking (look_in sh image) limit places room w total out₀ scratch' out' n.visits n.bytes d)
            (path-open sh image stack block level levels below o.places o.few h lk)
            (walking-visit block level c (paths stack (level + 1)) k n scratch' out' v b32 below bytes e step wr),
        opened-open sh image stack block level levels below h lk o,
      )

  -- and it is the next of the visits to come
  pub turn-visits : geometry_ok g ≡ true → (limit places room : ℕ) (stack : List ℕ) (block level : ℕ) (c : Count) → Opened sh image stack (level + 1) levels → level < levels
      → (n : Count) → c.visits < limit → (l : Look) → look_in sh image (visit_of block level) ≡ l → step_of places room c l ≡ done n
      → visits (rest_of (look_in sh image) limit places room c.visits c.bytes (visit_of block level ∷ paths stack (level + 1)))
      ≡ visit_of block level ∷ visits (rest_of (look_in sh image) limit places room n.visits n.bytes (paths (with_pair stack block level) (low_of level)))
  unfolding step_of visits
  turn-visits ok limit places room stack block level c o h n v (bad m x) e step = cc
  turn-visits ok limit places room stack block level c o h n v (good below bytes) e step =
      let q = step-good places room c below bytes n step in
      let lk = looked g kind ok image block level below bytes e in
      let x : Visit = visit_of block level in
      ap visits (rest-good (look_in sh image) limit places room c.visits c.bytes x (paths stack (level + 1)) v below bytes e q.0 q.1)
      ∙ ap (λ (u : List Visit). x ∷ visits (rest_of (look_in sh image) limit places room (c.visits + 1) (c.bytes + length bytes) u)) (path-open sh image stack block level levels below o.places o.few h lk)
      ∙ ap (λ (m : Count). x ∷ visits (rest_of (look_in sh image) limit places room m.visits m.bytes (paths (with_pair stack block level) (low_of level)))) (sym q.2)

-- before the first visit all are to come, and where nothing is due none is
pub visits-whole : {look : Visit → Look} {limit places room w : ℕ} {total : Trace} {out₀ scratch out : List ℕ} {b : ℕ} {due : List Visit}
    → Walking look limit places room w total out₀ scratch out 0 b due → visits total ≡ visits (rest_of look limit places room 0 b due)
unfolding seen_of
visits-whole k = k.seen

pub visits-none : (look : Visit → Look) (limit places room v b : ℕ) (due : List Visit) → due ≡ [] → visits (rest_of look limit places room v b due) ≡ []
unfolding visits
visits-none look limit places room v b due e = ap (λ (u : List Visit). visits (rest_of look limit places room v b u)) e ∙ ap visits (rest-done look limit places room v b)
