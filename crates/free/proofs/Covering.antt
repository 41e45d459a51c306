-- Lists that hold the same extents lie over the same blocks, and in an accepted list by block no two extents lie over one block.
-- Assumes nothing.
use Prim.Native.Nat.{ℕ, ◌+◌, ◌≤◌, ◌<◌}
use native.Mathlib.Omega.{arith}
use mathlib.Core.Path.{◌≡◌, refl}
use mathlib.Core.Bool.{true, cond}
use mathlib.Core.List.{List, [], ◌∷◌}
use lib.Dec.{leb, ltb}
use Rattle.codec.specs.Accepted.{in_order}
use Rattle.codec.specs.declared.free_extent.FreeExtent.{FreeExtent}
use Rattle.free.specs.declared.order.Order.TheVariants.{ByBlock}
use Rattle.free.specs.Free.{end, good, follows, least}
use Rattle.free.specs.Same.{alike, occurs}
use Rattle.free.specs.Claims.{lies_over, over, EveryBlock}
use Rattle.free.proofs.Cases.{split, tests, conj}
use Rattle.free.proofs.Extents.{alike-eq}
use Rattle.free.proofs.Occurring.{occurs-first}
use Rattle.free.proofs.Removing.{without, occurs-without}
use Rattle.free.proofs.Sameness.{every-same}

module _ (b : ℕ) where
  over-without : (e : FreeExtent) (l : List FreeExtent) → 0 < occurs e l → over b l ≡ cond (lies_over b e) 1 0 + over b (without e l)
  unfolding occurs over without
  over-without e [] h = absurd (omega arith)
  over-without e (x ∷ l) h =
      split (alike e x)
      (λ a. rw (a, alike-eq e x a) refl)
      (λ a. let k : 0 < 0 + occurs e l = rw a at h in rw a (omega (arith, over-without e l (omega arith))))

  same_over : (l m : List FreeExtent) → ((e : FreeExtent) → occurs e l ≡ occurs e m) → over b l ≡ over b m
  unfolding occurs over
  same_over [] [] h = refl
  same_over [] (x ∷ m) h = absurd (omega (arith, h x, occurs-first x m))
  same_over (e ∷ l) m h =
      let some : 0 < occurs e m = omega (arith, h e, occurs-first e l) in
      let rest : over b l ≡ over b (without e m) = same_over l (without e m) (λ y. omega (arith, h y, occurs-without e y m some)) in
      omega (arith, over-without e m some)

  -- ---- by block

  -- past an extent none lies over its blocks, and none over any block twice
  apart : (q : FreeExtent) (l : List FreeExtent) → in_order good (follows ByBlock) q l ≡ true → (b < end q → over b l ≡ 0) × (over b l ≤ 1)
  unfolding in_order follows over
  apart q [] a = (λ h. refl, omega arith)
  apart q (r ∷ l) a =
      let f : leb (end q) r.startblock ≡ true = search conj in
      let t : in_order good (follows ByBlock) r l ≡ true = search conj in
      let later = apart r l t in
      let after : end q ≤ r.startblock = omega tests in
      split (lies_over b r)
      (λ o.
      let low : leb r.startblock b ≡ true = search conj in
      let high : ltb b (end r) ≡ true = search conj in
      let none : over b l ≡ 0 = later.0 (omega tests) in
      (λ h. absurd (omega tests), rw o (omega arith)))
      (λ o. (λ h. rw o (let z : over b l ≡ 0 = later.0 (omega arith) in omega arith), rw o (omega (arith, later.1))))

pub every-block : EveryBlock
every-block l m a s =
    let same : (b : ℕ) → over b l ≡ over b m = λ b. same_over b l m ((every-same l m).yes s) in
    record { same = same; once = λ b. omega (arith, same b, (apart b least l a).1) }
