-- Laws of one extent and of two: what the code's tests come to, and that either order is strict.
-- Assumes nothing.
use Prim.Native.Nat.{ℕ, ◌<◌}
use native.Mathlib.Omega.{arith}
use mathlib.Core.Path.{◌≡◌, refl, sym, ap₂, ◌∙◌}
use mathlib.Core.Bool.{Bool, true, false}
use lib.Dec.{ltb, eqb}
use borrow.Author.Tests.{lt-ltb, le-ltb, eq-eqb, ne_eqb}
use Rattle.codec.specs.declared.free_extent.FreeExtent.{FreeExtent}
use Rattle.free.specs.declared.order.Order.{Order}
use Rattle.free.specs.declared.order.Order.TheVariants.{ByBlock, BySize}
use Rattle.free.specs.Free.{good, smaller, follows}
use Rattle.free.specs.Same.{alike}
use Rattle.free.proofs.Cases.{split, tests, conj, clash}

-- ---- the code's tests

module _ (q e : FreeExtent) where
  pub smaller-count : (q.blockcount ≡ e.blockcount → ⊥) → ltb q.blockcount e.blockcount ≡ smaller q e
  unfolding smaller
  smaller-count h = rw (ne_eqb q.blockcount e.blockcount h) refl

  pub smaller-start : q.blockcount ≡ e.blockcount → ltb q.startblock e.startblock ≡ smaller q e
  unfolding smaller
  smaller-start h = rw (eq-eqb q.blockcount e.blockcount h) refl

-- ---- a count and a start, and then two that they come before

data Less (a b c d : ℕ) : Type 0 where
  by_count : a < c → Less a b c d
  by_start : a ≡ c → b < d → Less a b c d

less-trans : {a b c d e f : ℕ} → Less a b c d → Less c d e f → Less a b e f
less-trans (by_count p) (by_count q) = by_count (omega arith)
less-trans (by_count p) (by_start q _) = by_count (omega arith)
less-trans (by_start p _) (by_count q) = by_count (omega arith)
less-trans (by_start p p') (by_start q q') = by_start (omega arith) (omega arith)

abbrev LessE : FreeExtent → FreeExtent → Type 0
LessE q e = Less q.blockcount q.startblock e.blockcount e.startblock

smaller-less : (q e : FreeExtent) → smaller q e ≡ true → LessE q e
unfolding smaller
smaller-less q e h =
    split (eqb q.blockcount e.blockcount)
    (λ f. let g : ltb q.startblock e.startblock ≡ true = rw f at h in by_start (omega tests) (omega tests))
    (λ f. let g : ltb q.blockcount e.blockcount ≡ true = rw f at h in by_count (omega tests))

less-smaller : (q e : FreeExtent) → LessE q e → smaller q e ≡ true
less-smaller q e (by_count p) = sym (smaller-count q e (omega arith)) ∙ lt-ltb q.blockcount e.blockcount p
less-smaller q e (by_start p r) = sym (smaller-start q e p) ∙ lt-ltb q.startblock e.startblock r

-- ---- either order

-- does x come before e in the order?
unfoldable pub before : Order → FreeExtent → FreeExtent → Bool
before ByBlock x e = ltb x.startblock e.startblock
before BySize x e = smaller x e

pub before-trans : (o : Order) (x y z : FreeExtent) → before o x y ≡ true → before o y z ≡ true → before o x z ≡ true
unfolding before
before-trans ByBlock x y z p q = lt-ltb x.startblock z.startblock (omega tests)
before-trans BySize x y z p q = less-smaller x z (less-trans (smaller-less x y p) (smaller-less y z q))

not_itself : (o : Order) (e : FreeExtent) → before o e e ≡ false
unfolding before
not_itself ByBlock e = le-ltb e.startblock e.startblock (omega arith)
not_itself BySize e = sym (smaller-start e e refl) ∙ le-ltb e.startblock e.startblock (omega arith)

-- what follows a good extent stands behind it
pub follows-before : (o : Order) (q e : FreeExtent) → good q ≡ true → follows o q e ≡ true → before o q e ≡ true
unfolding good follows before
follows-before ByBlock q e g f = let p : ltb 0 q.blockcount ≡ true = search conj in lt-ltb q.startblock e.startblock (omega tests)
follows-before BySize q e g f = f

-- ---- extents that are the same

abbrev extent : ℕ → ℕ → FreeExtent
extent s c = record { startblock = s; blockcount = c }

module _ (e x : FreeExtent) where
  pub alike-eq : alike e x ≡ true → e ≡ x
  alike-eq h =
      let s : eqb e.startblock x.startblock ≡ true = search conj in
      let c : eqb e.blockcount x.blockcount ≡ true = search conj in
      let p : e.startblock ≡ x.startblock = omega tests in
      let q : e.blockcount ≡ x.blockcount = omega tests in
      ap₂ extent p q

  pub apart-after : (o : Order) → before o e x ≡ true → alike e x ≡ false
  apart-after o h = split (alike e x) (λ t. absurd (clash (before o x x) (rw (alike-eq t) at h) (not_itself o x))) (λ f. f)

pub alike_self : (e : FreeExtent) → alike e e ≡ true
alike_self e = rw (eq-eqb e.startblock e.startblock refl, eq-eqb e.blockcount e.blockcount refl) refl
