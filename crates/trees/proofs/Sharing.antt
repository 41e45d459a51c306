-- Laws of the plan and of entries shared over blocks.
-- Assumes nothing.
use Prim.Native.Nat.{ℕ, zero, suc, ◌+◌, ◌-◌, ◌*◌, ◌/◌, ◌%◌, ◌≤◌, ◌<◌, min, max}
use native.Mathlib.Nat.{div-add-mod', mod-lt, add-zero, mul_comm, lt-div-mul-add, le_of_mul-le-mul_right, mul-le-mul_right, le-div_iff_mul-le}
use native.Mathlib.Omega.{arith}
use mathlib.Core.Path.{◌≡◌, refl, ap}
use mathlib.Core.Bool.{Bool, true, false}
use mathlib.Core.List.{List, [], ◌∷◌}
use lib.ListN.{length}
use lib.Dec.{ltb, leb}
use borrow.Author.Tests.{ltb-true, ltb-false, leb-true, leb-false}
use Rattle.trees.specs.Plan.{ceil, leaves, above, sum, share_of, shares_from, shares}

pub split {ℓ} : {P : Type ℓ} (t : Bool) → (t ≡ true → P) → (t ≡ false → P) → P
split true f g = f refl
split false f g = g refl

pub ruleset tests = (arith, ltb-true, ltb-false, leb-true, leb-false)

pub shares-length : (n k i m : ℕ) → length (shares_from n k i m) ≡ m
unfolding shares_from
shares-length n k i zero = refl
shares-length n k i (suc m) = ap suc (shares-length n k (suc i) m)

pub share-is : (n k i : ℕ) → share_of n k i + min i (n % k) ≡ n / k + min (suc i) (n % k)
unfolding share_of
share-is n k i = split (ltb i (n % k)) (λ e. rw e (omega tests)) (λ e. rw e (omega tests))

-- the parts of the blocks from i on
shares-sum-from : (n k i m : ℕ) → sum (shares_from n k i m) + min i (n % k) ≡ m * (n / k) + min (i + m) (n % k)
unfolding shares_from sum
shares-sum-from n k i zero = rw (add-zero i) (omega arith)
shares-sum-from n k i (suc m) = omega (arith, shares-sum-from n k (suc i) m, share-is n k i)

-- all entries are shared
pub shares_sum : (n k : ℕ) → 0 < k → sum (shares n k) ≡ n
shares_sum n k h = omega (arith, shares-sum-from n k 0 k, mod-lt n h, div-add-mod' n k, mul_comm k (n / k))

-- no block takes more than it has room for, where all have room together
pub share-most : (n k i p : ℕ) → 0 < k → n ≤ k * p → share_of n k i ≤ p
unfolding share_of
share-most n k i p h e =
    let d : n / k * k + n % k ≡ n = div-add-mod' n k in
    split (ltb i (n % k))
    (λ s.
    let q : i < n % k = ltb-true i (n % k) s in
    let c : (n / k) * k < p * k = omega (arith, mul_comm k p) in
    let f : suc (n / k) ≤ p = lt-from c in
    rw s (omega arith))
    (λ s.
    let c : (n / k) * k ≤ p * k = omega (arith, mul_comm k p) in
    let f : n / k ≤ p = le_of_mul-le-mul_right c h in
    rw s (omega arith))
  where
    lt-from : n / k * k < p * k → suc (n / k) ≤ p
    lt-from c = split (leb p (n / k)) (λ g. let g' : p ≤ n / k = leb-true p (n / k) g in absurd (omega (arith, mul-le-mul_right k g'))) (λ g. omega tests)

abbrev pub Most : ℕ → List ℕ → Type 0
Most p [] = Unit {0}
Most p (c ∷ cs) = (c ≤ p) × Most p cs

pub shares-most : (n k i m p : ℕ) → 0 < k → n ≤ k * p → Most p (shares_from n k i m)
unfolding shares_from
shares-most n k i zero p h e = tt
shares-most n k i (suc m) p h e = (share-most n k i p h e, shares-most n k (suc i) m p h e)

-- ---- the plan

pub ceil-room : (a b : ℕ) → 0 < b → a ≤ ceil a b * b
unfolding ceil
ceil-room a b h = omega (arith, lt-div-mul-add {a = a + (b - 1)} h)

pub ceil-some : (a b : ℕ) → 0 < a → 0 < b → 0 < ceil a b
unfolding ceil
ceil-some a b p h = (le-div_iff_mul-le h).1 (omega arith)

pub leaves-some : (p n : ℕ) → 0 < leaves p n
unfolding leaves
leaves-some p n = omega arith

pub leaves-room : (p n : ℕ) → 0 < p → n ≤ leaves p n * p
unfolding leaves
leaves-room p n h =
    let m : ceil n p ≤ max 1 (ceil n p) = omega arith in
    omega (arith, ceil-room n p h, mul-le-mul_right p m)

-- the plan above a level of b blocks: each level has room for the one below, and the last is the root
abbrev pub Shaped : ℕ → ℕ → List ℕ → Type 0
Shaped p b [] = b ≡ 1
Shaped p b (k ∷ ks) = (0 < k) × (b ≤ k * p) × Shaped p k ks

pub above-shaped : (p b n : ℕ) → 0 < p → 0 < b → length (above p b n) < n → Shaped p b (above p b n)
unfolding above
above-shaped p b zero h k l = absurd (omega arith)
above-shaped p b (suc n) h k l =
    split (leb b 1)
    (λ e. rw e (omega tests))
    (λ e.
    let l' : suc (length (above p (ceil b p) n)) < suc n = rw e at l in
    rw e (ceil-some b p k h, ceil-room b p h, above-shaped p (ceil b p) n h (ceil-some b p k h) (omega arith)))
