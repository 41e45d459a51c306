-- Laws of the two routines of the textbook walk: what a block that was read leads to, and the children of a node from one to the next.
-- Assumes nothing.
use Prim.Native.Nat.{ℕ, ◌+◌, ◌-◌, ◌^◌, ◌<◌}
use native.Mathlib.Omega.{arith}
use mathlib.Core.Path.{◌≡◌, refl, sym, ap, ◌∙◌, subst}
use mathlib.Core.Bool.{true}
use mathlib.Core.List.{List, ◌∷◌, ◌++◌}
use lib.ListN.{length}
use Rattle.codec.specs.Question.{done}
use Rattle.blocks.specs.declared.geometry.Geometry.{Geometry}
use Rattle.blocks.specs.declared.kind.TreeKind.{TreeKind}
use Rattle.blocks.specs.Geometry.{geometry_ok}
use Rattle.walks.specs.declared.visit.Count.{Count}
use Rattle.walks.specs.Walk.{Visit, visit_of, Look, bad, good, Trace, Shape, block_in, look_in}
use Rattle.walks.specs.Shapes.{shape_of}
use Rattle.walks.specs.Path.{child_at, fan_of, every, due_in}
use Rattle.walks.specs.OneVisit.{step_of, Fitting, Wrote}
use Rattle.walks.specs.Underway.{Walking}
use Rattle.walks.proofs.WalkLaws.{step-good}
use Rattle.walks.proofs.PathLaws.{due-next}
use Rattle.walks.proofs.DescendLaws.{Looked, looked, due_below, walking-visit}

-- ---- the measure

-- what is left to do at a call is less than what is left to do at its caller
pub less : {x m t : ℕ} → m ≡ t → x < m → x < t
less {x} e h = subst (λ (k : ℕ). x < k) e h

-- ---- a block

-- a visit that was accepted found what is below its block, and its records
pub step-found : (places room : ℕ) (c n : Count) (l : Look) → step_of places room c l ≡ done n → (below : List Visit) × (bytes : List ℕ) × (l ≡ good below bytes)
unfolding step_of
step-found places room c n (bad k x) e = cc
step-found places room c n (good below bytes) e = (below, bytes, refl)

module _ (g : Geometry) (kind : TreeKind) (image : List ℕ) (block level places room : ℕ) (c n : Count) where
  abbrev sh : Shape
  sh = shape_of g kind

  abbrev found : Look
  found = look_in sh image (visit_of block level)

  module _ (step : step_of places room c found ≡ done n) where
    abbrev below : List Visit
    below = (step-found places room c n found step).0

    abbrev bytes : List ℕ
    bytes = (step-found places room c n found step).1

    good-is : found ≡ good below bytes
    good-is = (step-found places room c n found step).2

    step_is : step_of places room c (good below bytes) ≡ done n
    step_is = subst (λ (l : Look). step_of places room c l ≡ done n) good-is step

    pub look_is : geometry_ok g ≡ true → Looked sh image block level below
    look_is ok = looked g kind ok image block level below bytes good-is

    -- the counts after it still fit the lent memory
    pub fits_next : (scratch scratch' out out' : List ℕ) → Fitting scratch out places c → length scratch' ≡ length scratch → length out' ≡ length out → room ≡ length out
        → Fitting scratch' out' places n
    fits_next scratch scratch' out out' f s o r =
        let q = step-good places room c below bytes n step_is in
        let e : n.bytes ≡ c.bytes + length bytes = ap (λ (k : Count). k.bytes) q.2 in
        record { noting = omega (arith, f.noting, s); stored = omega (arith, f.stored, o, r, e, q.1) }

    -- what is below it is due next
    module _ {limit w : ℕ} {total : Trace} {out₀ scratch out : List ℕ} (later : List Visit) (scratch' out' : List ℕ)
        (k : Walking (look_in sh image) limit places room w total out₀ scratch out c.visits c.bytes (visit_of block level ∷ later))
        (within : c.visits < limit) (b32 : block < 2 ^ 32) (wrote : Wrote (done n) (visit_of block level) found c scratch scratch' out out') where
      read-on : Walking (look_in sh image) limit places room w total out₀ scratch' out' n.visits n.bytes (below ++ later)
      read-on =
          walking-visit g kind image 0 block level c later k n scratch' out' within b32 below bytes good-is step_is
          (subst (λ (l : Look). Wrote (done n) (visit_of block level) l c scratch scratch' out out') good-is wrote)

      -- under a leaf nothing
      pub leaf-read : geometry_ok g ≡ true → level ≡ 0 → Walking (look_in sh image) limit places room w total out₀ scratch' out' n.visits n.bytes later
      leaf-read ok z =
          subst (λ (d : List Visit). Walking (look_in sh image) limit places room w total out₀ scratch' out' n.visits n.bytes (d ++ later)) ((look_is ok).leaf z) read-on

      -- under a node its children
      pub node-read : geometry_ok g ≡ true → 0 < level
          → Walking (look_in sh image) limit places room w total out₀ scratch' out' n.visits n.bytes (due_in every sh image level block 0 ++ later)
      node-read ok up =
          subst (λ (d : List Visit). Walking (look_in sh image) limit places room w total out₀ scratch' out' n.visits n.bytes (d ++ later))
          (due_below sh image block level below (look_is ok) up) read-on

-- ---- the children

-- a child, and those after it
pub child-next : (s : Shape) (image : List ℕ) (node level i b : ℕ) → i < fan_of (block_in s.size image node)
    → b ≡ (child_at s (block_in s.size image node) 0 i).block → due_in every s image level node i ≡ visit_of b (level - 1) ∷ due_in every s image level node (i + 1)
child-next s image node level i b h e =
    due-next every s image level node i h
    ∙ ap (λ (x : ℕ). visit_of x (level - 1) ∷ due_in every s image level node (i + 1)) (sym e)
