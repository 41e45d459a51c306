-- Going down the plan: where a block's entries begin, and the first record under a block of a level. No block of a plan is without records,
-- where there are as many records as leaves and no level is wider than the one below.
-- Assumes nothing.
use Prim.Native.Nat.{ℕ, zero, suc, ◌+◌, ◌-◌, ◌/◌, ◌≤◌, ◌<◌}
use native.Mathlib.Nat.{mul-le-mul_right, div-add-mod', mul_comm, le-div_iff_mul-le}
use native.Mathlib.Omega.{arith}
use mathlib.Core.Path.{◌≡◌, sym, ap, ◌∙◌, subst}
use mathlib.Core.List.{List}
use lib.ListN.{get_or}
use Rattle.trees.specs.Plan.{share_of, start_of, first_of}
use Rattle.trees.proofs.Spans.{start-next}

pub start-most : (n k i : ℕ) → 0 < k → i ≤ k → start_of n k i ≤ n
unfolding start_of
start-most n k i h e = omega (arith, mul-le-mul_right (n / k) e, div-add-mod' n k, mul_comm k (n / k))

pub first_step : (n : ℕ) (levels : List ℕ) (l at : ℕ) → 0 < l → first_of n levels l at ≡ first_of n levels (l - 1) (start_of (get_or levels (l - 1) 0) (get_or levels l 0) at)
unfolding first_of
first_step n levels zero at h = absurd (omega arith)
first_step n levels (suc l) at h = let e : suc l - 1 ≡ l = omega arith in rw e

pub first-end : (n : ℕ) (levels : List ℕ) (l at : ℕ) → l ≡ 0 → start_of n (get_or levels 0 0) at ≡ first_of n levels l at
unfolding first_of
first-end n levels l at e = rw e

share-some : (n k i : ℕ) → 0 < k → k ≤ n → 0 < share_of n k i
unfolding share_of
share-some n k i h e = let q : 1 ≤ n / k = (le-div_iff_mul-le h).1 (omega arith) in omega arith

abbrev Rising : (ℕ → ℕ) → ℕ → Type 0
Rising f m = (j : ℕ) → j < m → f j < f (suc j)

rising-far : (f : ℕ → ℕ) (m : ℕ) → Rising f m → (d a : ℕ) → a + suc d ≤ m → f a < f (a + suc d)
rising-far f m r zero a h = let e : suc a ≡ a + 1 = omega arith in omega (arith, r a (omega arith), ap f e)
rising-far f m r (suc d) a h = let e : suc (a + suc d) ≡ a + suc (suc d) = omega arith in omega (arith, rising-far f m r d a (omega arith), r (a + suc d) (omega arith), ap f e)

module _ (n : ℕ) (levels : List ℕ) where
  pub first_ends : (l j : ℕ) → ((m : ℕ) → m ≤ l → 0 < get_or levels m 0) → j ≤ get_or levels l 0 → first_of n levels l j ≤ n
  unfolding first_of
  first_ends zero j some k = start-most n (get_or levels 0 0) j (some 0 (omega arith)) k
  first_ends (suc l) j some k =
      first_ends l (start_of (get_or levels l 0) (get_or levels (suc l) 0) j) (λ m h. some m (omega arith))
      (start-most (get_or levels l 0) (get_or levels (suc l) 0) j (some (suc l) (omega arith)) k)

  pub first-rises : (l : ℕ) → get_or levels 0 0 ≤ n → ((m : ℕ) → m ≤ l → 0 < get_or levels m 0) → ((m : ℕ) → suc m ≤ l → get_or levels (suc m) 0 ≤ get_or levels m 0)
      → (j : ℕ) → j < get_or levels l 0 → first_of n levels l j < first_of n levels l (suc j)
  unfolding first_of
  first-rises zero leaves some narrower j k = omega (arith, start-next n (get_or levels 0 0) j, share-some n (get_or levels 0 0) j (some 0 (omega arith)) leaves)
  first-rises (suc l) leaves some narrower j k =
      let b : ℕ = get_or levels l 0 in
      let m : ℕ = get_or levels (suc l) 0 in
      let c : ℕ = share_of b m j in
      let a : ℕ = start_of b m j in
      let p : 0 < c = share-some b m j (some (suc l) (omega arith)) (narrower l (omega arith)) in
      let e : start_of b m (suc j) ≡ a + suc (c - 1) = start-next b m j ∙ (let z : a + c ≡ a + suc (c - 1) = omega arith in z) in
      let top : start_of b m (suc j) ≤ b = start-most b m (suc j) (some (suc l) (omega arith)) k in
      subst (λ (x : ℕ). first_of n levels l a < first_of n levels l x) (sym e)
      (rising-far (first_of n levels l) b (first-rises l leaves (λ x h. some x (omega arith)) (λ x h. narrower x (omega arith))) (c - 1) a (omega arith))
