-- Laws of ascending numbers: the first that is not below a number, and whether one lies between two.
-- Assumes nothing.
use Rattle.std.proofs.Common.{◌≡◌, ℕ, zero, suc, ◌+◌, ◌-◌, ◌<◌, ◌≤◌, Bool, true, false, ◌&&◌, ◌||◌, ltb, leb, ◌⊎◌, List, [], ◌∷◌, length, get_or, sym, refl, ap, ◌∙◌, inl, inr, arith, ltb-false, ltb-true, le-ltb, lt-ltb, le-leb, leb-false, leb-true}
use borrow.Author.Tests.{lt-leb}
use Rattle.std.proofs.lemmas.List.{get_or_default}
use Rattle.std.specs.List.{AllAdjacentBelow}
use Rattle.std.specs.List.Sorted.{IsNonDecreasingBy, IsPartitionPoint}
use Rattle.lookup.specs.Lookup.{ascending, any_between}
use Rattle.lookup.specs.Inner.Numbers.{first_at, is_below}
use Rattle.lists.proofs.Cases.{split, and_l, and_r, and-off}

or-on : (a : Bool) → (a || true) ≡ true
or-on true = refl
or-on false = refl

-- ---- ascending numbers

short-ascends : (l : List ℕ) → length l ≤ 1 → ascending l ≡ true
unfolding ascending
short-ascends [] h = refl
short-ascends (a ∷ []) h = refl
short-ascends (a ∷ b ∷ l) h = absurd (omega arith)

-- what the library says of each two neighbours
pub sorted-ascends : (l : List ℕ) → AllAdjacentBelow (λ x y. true ≡ ltb x y) l (length l) → ascending l ≡ true
unfolding ascending
sorted-ascends [] h = refl
sorted-ascends (a ∷ []) h = refl
sorted-ascends (a ∷ b ∷ l) h = rw (← h 0 0 (omega arith)) (sorted-ascends (b ∷ l) (λ k d q. let e : suc k + 1 ≡ suc (k + 1) = omega arith in rw e at (h (suc k) d (omega arith))))

pub unsorted-not : (l : List ℕ) (k : ℕ) → k + 1 < length l → false ≡ ltb (get_or l k 0) (get_or l (k + 1) 0) → ascending l ≡ false
unfolding ascending
unsorted-not [] k h e = absurd (omega arith)
unsorted-not (a ∷ []) k h e = absurd (omega arith)
unsorted-not (a ∷ b ∷ l) zero h e = rw (← e) refl
unsorted-not (a ∷ b ∷ l) (suc k) h e =
    let n : suc k + 1 ≡ suc (k + 1) = omega arith in
    ap (λ (t : Bool). ltb a b && t) (unsorted-not (b ∷ l) k (omega arith) (rw n at e)) ∙ and-off (ltb a b)

ascends-tail : (a : ℕ) (l : List ℕ) → ascending (a ∷ l) ≡ true → ascending l ≡ true
unfolding ascending
ascends-tail a [] e = refl
ascends-tail a (b ∷ l) e = and_r (ltb a b) (ascending (b ∷ l)) e

ascends-above : (a : ℕ) (l : List ℕ) → ascending (a ∷ l) ≡ true → (j : ℕ) → j < length l → a < get_or l j 0
unfolding ascending
ascends-above a [] e j h = absurd (omega arith)
ascends-above a (b ∷ l) e zero h = ltb-true a b (and_l (ltb a b) (ascending (b ∷ l)) e)
ascends-above a (b ∷ l) e (suc j) h = omega (arith, ltb-true a b (and_l (ltb a b) (ascending (b ∷ l)) e), ascends-above b l (and_r (ltb a b) (ascending (b ∷ l)) e) j (omega arith))

pub ascends-order : (l : List ℕ) → ascending l ≡ true → (i j : ℕ) → i ≤ j → j < length l → get_or l i 0 ≤ get_or l j 0
ascends-order [] e i j h k = absurd (omega arith)
ascends-order (a ∷ l) e zero zero h k = omega arith
ascends-order (a ∷ l) e zero (suc j) h k = omega (arith, ascends-above a l e j (omega arith))
ascends-order (a ∷ l) e (suc i) zero h k = absurd (omega arith)
ascends-order (a ∷ l) e (suc i) (suc j) h k = ascends-order l (ascends-tail a l e) i j (omega arith) (omega arith)

-- ---- the first number that is not below a

module _ (a : ℕ) where
  pub first-length : (l : List ℕ) → first_at a l ≤ length l
  unfolding first_at
  first-length [] = omega arith
  first-length (x ∷ l) = split (ltb x a) (λ e. rw e (omega (arith, first-length l))) (λ e. rw e (omega arith))

  pub first-before : (l : List ℕ) (j : ℕ) → j < first_at a l → get_or l j 0 < a
  unfolding first_at
  first-before [] j h = absurd (omega arith)
  first-before (x ∷ l) zero h = split (ltb x a) (λ e. ltb-true x a e) (λ e. let z : 0 < 0 = rw e at h in absurd (omega arith))
  first-before (x ∷ l) (suc j) h = split (ltb x a) (λ e. let z : suc j < suc (first_at a l) = rw e at h in first-before l j (omega arith)) (λ e. let z : suc j < 0 = rw e at h in absurd (omega arith))

  pub first-most : (l : List ℕ) (i : ℕ) → i < length l → a ≤ get_or l i 0 → first_at a l ≤ i
  unfolding first_at
  first-most [] i h k = absurd (omega arith)
  first-most (x ∷ l) zero h k = rw (le-ltb x a k) (omega arith)
  first-most (x ∷ l) (suc i) h k = split (ltb x a) (λ e. rw e (omega (arith, first-most l i (omega arith) k))) (λ e. rw e (omega arith))

  pub first_past : (l : List ℕ) → ascending l ≡ true → (i : ℕ) → i < length l → get_or l i 0 < a → i < first_at a l
  unfolding first_at
  first_past [] e i h k = absurd (omega arith)
  first_past (x ∷ l) e zero h k = rw (lt-ltb x a k) (omega arith)
  first_past (x ∷ l) e (suc i) h k = rw (lt-ltb x a (omega (arith, ascends-above x l e i (omega arith)))) (omega (arith, first_past l (ascends-tail x l e) i (omega arith) k))

  -- from there on none is below it
  pub first-after : (l : List ℕ) → ascending l ≡ true → (i : ℕ) → i < length l → first_at a l ≤ i → a ≤ get_or l i 0
  first-after l e i h k = split (ltb (get_or l i 0) a) (λ f. absurd (omega (arith, first_past l e i h (ltb-true (get_or l i 0) a f)))) (λ f. ltb-false (get_or l i 0) a f)

-- where the library parts the numbers below a from the others
pub rising : (l : List ℕ) → ascending l ≡ true → IsNonDecreasingBy (λ (x : ℕ). x) l
rising l e i j d h k = rw (get_or_default l i d 0 (omega arith), get_or_default l j d 0 k) (ascends-order l e i j h k)

pub part-first : (a : ℕ) (l : List ℕ) (i : ℕ) → ascending l ≡ true → i ≤ length l → IsPartitionPoint (λ y. ltb y a ≡ true) (λ y. ltb y a ≡ false) l i → i ≡ first_at a l
part-first a l i up h p =
    let low : i ≤ first_at a l = split (ltb 0 i)
    (λ t. omega (arith, ltb-true 0 i t, first_past a l up (i - 1) (omega (arith, ltb-true 0 i t)) (ltb-true (get_or l (i - 1) 0) a (p.0 (i - 1) 0 (omega arith) (omega (arith, ltb-true 0 i t))))))
    (λ t. omega (arith, ltb-false 0 i t)) in
    let high : first_at a l ≤ i = split (ltb i (length l))
    (λ t. first-most a l i (ltb-true i (length l) t) (ltb-false (get_or l i 0) a (p.1 i 0 (omega arith) (ltb-true i (length l) t))))
    (λ t. omega (arith, first-length a l, ltb-false i (length l) t)) in
    omega arith

-- ---- a number between two others

module _ (low high : ℕ) where
  any_at : (l : List ℕ) (i : ℕ) → i < length l → low ≤ get_or l i 0 → get_or l i 0 ≤ high → any_between l low high ≡ true
  unfolding any_between
  any_at [] i h p q = absurd (omega arith)
  any_at (a ∷ l) zero h p q = rw (le-leb low a p, le-leb a high q) refl
  any_at (a ∷ l) (suc i) h p q = ap (λ (t : Bool). (leb low a && leb a high) || t) (any_at l i (omega arith) p q) ∙ or-on (leb low a && leb a high)

  any_none : (l : List ℕ) → ((j : ℕ) → j < length l → (get_or l j 0 < low) ⊎ (high < get_or l j 0)) → any_between l low high ≡ false
  unfolding any_between
  any_none [] h = refl
  any_none (a ∷ l) h = ap (λ (t : Bool). t || any_between l low high) (out (h 0 (omega arith))) ∙ any_none l (λ j k. h (suc j) (omega arith))
    where
      out : (a < low) ⊎ (high < a) → (leb low a && leb a high) ≡ false
      out (inl p) = rw (lt-leb low a p) refl
      out (inr p) = ap (λ (t : Bool). leb low a && t) (lt-leb a high p) ∙ and-off (leb low a)

  -- only the first that is not below the lower one is asked
  pub between_first : (l : List ℕ) → ascending l ≡ true → first_at low l < length l → leb (get_or l (first_at low l) 0) high ≡ any_between l low high
  between_first l e h =
      let i : ℕ = first_at low l in
      split (leb (get_or l i 0) high)
      (λ f. f ∙ sym (any_at l i h (first-after low l e i h (omega arith)) (leb-true (get_or l i 0) high f)))
      (λ f. f ∙ sym (any_none l (λ j k. split (ltb j i)
      (λ b. inl (first-before low l j (ltb-true j i b)))
      (λ b. inr (omega (arith, leb-false (get_or l i 0) high f, ascends-order l e i j (ltb-false j i b) k))))))

  pub between-past : (l : List ℕ) → length l ≤ first_at low l → false ≡ any_between l low high
  between-past l h = sym (any_none l (λ j k. inl (first-before low l j (omega arith))))

-- ---- a place that is tried first

module _ (l : List ℕ) (a i : ℕ) (up : ascending l ≡ true) where
  below-before : (j : ℕ) → is_below l j a ≡ true → j < first_at a l
  below-before j e = first_past a l up j (ltb-true j (length l) (and_l (ltb j (length l)) (ltb (get_or l j 0) a) e)) (ltb-true (get_or l j 0) a (and_r (ltb j (length l)) (ltb (get_or l j 0) a) e))

  not-below : is_below l i a ≡ false → first_at a l ≤ i
  not-below e =
      split (ltb i (length l))
      (λ t. first-most a l i (ltb-true i (length l) t) (ltb-false (get_or l i 0) a (sym (ap (λ (b : Bool). b && ltb (get_or l i 0) a) t) ∙ e)))
      (λ t. omega (arith, first-length a l, ltb-false i (length l) t))

  pub first-zero : is_below l i a ≡ false → i ≡ 0 → i ≡ first_at a l
  first-zero e z = omega (arith, not-below e)

  pub first-here : is_below l i a ≡ false → 0 < i → is_below l (i - 1) a ≡ true → i ≡ first_at a l
  first-here e h f = omega (arith, not-below e, below-before (i - 1) f)
