-- Laws of how often an extent is in a list.
-- Assumes nothing.
use Prim.Native.Nat.{ℕ, zero, suc, ◌+◌, ◌≤◌, ◌<◌}
use native.Mathlib.Omega.{arith}
use mathlib.Core.Path.{◌≡◌, refl}
use mathlib.Core.Bool.{true, false}
use mathlib.Core.List.{List, [], ◌∷◌, ◌++◌}
use lib.ListN.{length, get_or}
use Rattle.codec.specs.declared.free_extent.FreeExtent.{FreeExtent}
use Rattle.free.specs.Free.{least}
use Rattle.free.specs.Same.{alike, occurs}
use Rattle.free.proofs.Cases.{split}
use Rattle.free.proofs.Extents.{alike_self}

module _ (e x : FreeExtent) (l : List FreeExtent) where
  pub occurs-more : alike e x ≡ true → occurs e (x ∷ l) ≡ 1 + occurs e l
  unfolding occurs
  occurs-more h = rw h refl

  pub occurs-other : alike e x ≡ false → occurs e (x ∷ l) ≡ occurs e l
  unfolding occurs
  occurs-other h = rw h (omega arith)

  pub occurs-tail : occurs e l ≤ occurs e (x ∷ l)
  occurs-tail = split (alike e x) (λ h. omega (arith, occurs-more h)) (λ h. omega (arith, occurs-other h))

pub occurs-first : (x : FreeExtent) (l : List FreeExtent) → 0 < occurs x (x ∷ l)
occurs-first x l = omega (arith, occurs-more x x l (alike_self x))

module _ (e : FreeExtent) where
  pub occurs-append : (l m : List FreeExtent) → occurs e (l ++ m) ≡ occurs e l + occurs e m
  unfolding occurs
  occurs-append [] m = omega arith
  occurs-append (x ∷ l) m = omega (arith, occurs-append l m)

  pub occurs-none : (l : List FreeExtent) → ((i : ℕ) → i < length l → alike e (get_or l i least) ≡ false) → occurs e l ≡ 0
  unfolding occurs
  occurs-none [] h = refl
  occurs-none (x ∷ l) h = rw (h 0 (omega arith)) (omega (arith, occurs-none l (λ i k. h (suc i) (omega arith))))

  pub occurs-some : (l : List FreeExtent) (i : ℕ) → i < length l → alike e (get_or l i least) ≡ true → 0 < occurs e l
  occurs-some [] i h a = absurd (omega arith)
  occurs-some (x ∷ l) zero h a = omega (arith, occurs-more e x l a)
  occurs-some (x ∷ l) (suc i) h a = omega (arith, occurs-some l i (omega arith) a, occurs-tail e x l)
