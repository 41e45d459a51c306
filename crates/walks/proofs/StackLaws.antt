-- Laws of the stack: the blocks that are due, and the room that they need.
-- Assumes nothing.
use Prim.Native.Nat.{ℕ, zero, suc, ◌+◌, ◌-◌, ◌*◌, ◌≤◌, ◌<◌}
use native.Mathlib.Nat.{suc-mul}
use native.Mathlib.Omega.{arith}
use mathlib.Core.Path.{◌≡◌, refl, sym, ap, subst}
use mathlib.Core.List.{List, [], ◌∷◌, ◌++◌}
use lib.ListN.{length, length-append}
use Rattle.walks.specs.Walk.{Visit, pointers}

pub pointers-length : (part : List ℕ) (at level n : ℕ) → length (pointers part at level n) ≡ n
unfolding pointers
pointers-length part at level zero = refl
pointers-length part at level (suc n) = ap suc (pointers-length part (at + 4) level n)

-- ---- what is due behind a block

-- every block of a list is one level below k
abbrev pub Below : ℕ → List Visit → Type 0
Below k [] = Unit {0}
Below k (w ∷ ws) = (suc w.level ≡ k) × Below k ws

-- the blocks that are due in a tree of so many levels: behind one at a level there is room only for its later siblings and those of the blocks above it
abbrev pub Stacked : ℕ → ℕ → List Visit → Type 0
Stacked levels most [] = Unit {0}
Stacked levels most (v ∷ due) = (v.level < levels) × (length due ≤ (levels - 1 - v.level) * most) × Stacked levels most due

module _ (levels most : ℕ) where
  pub stacked-push : (v : Visit) (due below : List Visit) → Stacked levels most (v ∷ due) → length below ≤ most → Below v.level below → Stacked levels most (below ++ due)
  stacked-push v due [] s h b = s.2
  stacked-push v due (w ∷ below) s h b =
      let k = levels - 1 - v.level in
      let e : levels - 1 - w.level ≡ suc k = omega (arith, b.0, s.0) in
      let m : suc k * most ≡ k * most + most = suc-mul k most in
      let n = length-append below due in
      (omega (arith, b.0, s.0), subst (λ (x : ℕ). length (below ++ due) ≤ x * most) (sym e) (omega (arith, m, n, s.1, h)), stacked-push v due below s (omega arith) b.1)
