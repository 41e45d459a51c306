-- Laws of the first record that passes a test, by index.
-- Assumes nothing.
use Prim.Native.Nat.{ℕ, zero, suc, ◌+◌, ◌-◌, ◌≤◌, ◌<◌, zero-le}
use native.Mathlib.Omega.{arith}
use mathlib.Core.Path.{◌≡◌, refl, ap, ◌∙◌}
use mathlib.Core.Bool.{Bool, true, false, cond}
use mathlib.Core.List.{List, [], ◌∷◌, ◌++◌}
use mathlib.Core.Option.{none, some}
use lib.Dec.{ltb}
use lib.ListN.{length, get_or, take, drop}
use borrow.Author.Tests.{lt-ltb, le-ltb}
use Rattle.codec.specs.Rmaps.{least}
use Rattle.codec.specs.declared.rmap.Rmap.{Rmap}
use Rattle.lists.specs.RmapEdits.{index_where, note_of, first, is_some, any, replace, nothing}
use Rattle.lists.proofs.Cases.{split, tests}

-- ---- records of any kind

module _ {R : Type 0} (p : R → Bool) where
  pub index-le : (l : List R) → index_where p l ≤ length l
  unfolding index_where
  index-le [] = zero-le
  index-le (r ∷ l) = split (p r) (λ e. rw e zero-le) (λ e. rw e (let t = index-le l in omega arith))

  -- the record at the index passes
  pub index-hits : (l : List R) (d : R) → index_where p l < length l → p (get_or l (index_where p l) d) ≡ true
  unfolding index_where
  index-hits [] d h = absurd (omega arith)
  index-hits (r ∷ l) d h =
      split (p r)
      (λ e. rw (e, e) refl)
      (λ e. let k : suc (index_where p l) < suc (length l) = rw e at h in rw e (index-hits l d (omega arith)))

  -- tests that agree find the same
  pub index_same : (q : R → Bool) (l : List R) → ((r : R) → p r ≡ q r) → index_where p l ≡ index_where q l
  unfolding index_where
  index_same q [] h = refl
  index_same q (r ∷ l) h = rw (h r, index_same q l h) refl

-- ---- records of the reverse map

module _ (p : Rmap → Bool) where
  pub index-passes : (l : List Rmap) → index_where p l < length l → p (get_or l (index_where p l) least) ≡ true
  index-passes l h = index-hits p l least h

  -- the first that passes is no later than any that does
  pub index-first : (l : List Rmap) (i : ℕ) → i < length l → p (get_or l i least) ≡ true → index_where p l ≤ i
  unfolding index_where
  index-first [] i h e = absurd (omega arith)
  index-first (r ∷ l) zero h e = rw e (omega arith)
  index-first (r ∷ l) (suc i) h e = split (p r) (λ f. rw f (omega arith)) (λ f. rw f (let t = index-first l i (omega arith) e in omega arith))

  -- the index from a place on
  pub index-drop : (l : List Rmap) (n : ℕ) → n ≤ index_where p l → index_where p (drop n l) ≡ index_where p l - n
  unfolding index_where
  index-drop l zero h = omega arith
  index-drop [] (suc n) h = absurd (omega arith)
  index-drop (r ∷ l) (suc n) h =
      split (p r)
      (λ e. let k : suc n ≤ 0 = rw e at h in absurd (omega arith))
      (λ e. let k : suc n ≤ suc (index_where p l) = rw e at h in rw e (index-drop l n (omega arith) ∙ omega arith))

  pub first_some : (l : List Rmap) → index_where p l < length l → first p l ≡ some (get_or l (index_where p l) least)
  unfolding index_where first
  first_some [] h = absurd (omega arith)
  first_some (r ∷ l) h = split (p r) (λ e. rw e refl) (λ e. let k : suc (index_where p l) < suc (length l) = rw e at h in rw e (first_some l (omega arith)))

  pub first-none : (l : List Rmap) → length l ≤ index_where p l → first p l ≡ none
  unfolding index_where first
  first-none [] h = refl
  first-none (r ∷ l) h =
      split (p r)
      (λ e. let k : suc (length l) ≤ 0 = rw e at h in absurd (omega arith))
      (λ e. let k : suc (length l) ≤ suc (index_where p l) = rw e at h in rw e (first-none l (omega arith)))

  pub any-index : (l : List Rmap) → any p l ≡ ltb (index_where p l) (length l)
  unfolding is_some
  any-index l =
      split (ltb (index_where p l) (length l))
      (λ e. let h : index_where p l < length l = omega tests in rw (first_some l h, e) refl)
      (λ e. let h : length l ≤ index_where p l = omega tests in rw (first-none l h, e) refl)

  -- others in the place of the first that passes
  pub replace-at : (f : Rmap → List Rmap) (l : List Rmap) → index_where p l < length l
      → replace p f l ≡ take (index_where p l) l ++ (f (get_or l (index_where p l) least) ++ drop (suc (index_where p l)) l)
  unfolding index_where replace
  replace-at f [] h = absurd (omega arith)
  replace-at f (r ∷ l) h =
      split (p r)
      (λ e. rw e refl)
      (λ e. let k : suc (index_where p l) < suc (length l) = rw e at h in rw e (ap (λ (m : List Rmap). r ∷ m) (replace-at f l (omega arith))))

  -- the list without the first that passes
  pub take_out : (l : List Rmap) → replace p nothing l ≡ take (index_where p l) l ++ drop (suc (index_where p l)) l
  unfolding index_where replace
  take_out [] = refl
  take_out (r ∷ l) = split (p r) (λ e. rw e refl) (λ e. rw e (ap (λ (m : List Rmap). r ∷ m) (take_out l)))

  -- the search in the list without an earlier record
  pub first_out : (q : Rmap → Bool) (l : List Rmap) → index_where q l < index_where p l → first p (replace q nothing l) ≡ first p l
  unfolding index_where first replace
  first_out q [] h = refl
  first_out q (r ∷ l) h =
      split (p r)
      (λ e. let k : cond (q r) 0 (suc (index_where q l)) < 0 = rw e at h in absurd (omega arith))
      (λ e. split (q r)
      (λ f. rw (e, f) refl)
      (λ f. let k : suc (index_where q l) < suc (index_where p l) = rw (e, f) at h in rw (e, f, e) (first_out q l (omega arith))))

  -- two taken out, the one of q before the one of p
  pub take-two : (q : Rmap → Bool) (l : List Rmap) → index_where q l < index_where p l
      → replace p nothing (replace q nothing l)
      ≡ take (index_where q l) l ++ take (index_where p l - suc (index_where q l)) (drop (suc (index_where q l)) l) ++ drop (suc (index_where p l)) l
  unfolding index_where replace
  take-two q [] h = absurd (omega arith)
  take-two q (r ∷ l) h =
      split (p r)
      (λ e. let k : cond (q r) 0 (suc (index_where q l)) < 0 = rw e at h in absurd (omega arith))
      (λ e. split (q r)
      (λ f. let n : index_where p l ≡ suc (index_where p l) - 1 = omega arith in rw (e, f) (take_out l ∙ ap (λ (n : ℕ). take n l ++ drop (suc (index_where p l)) l) n))
      (λ f. let k : suc (index_where q l) < suc (index_where p l) = rw (e, f) at h in
      let n : index_where p l - suc (index_where q l) ≡ suc (index_where p l) - suc (suc (index_where q l)) = omega arith in
      rw (e, f, e) (ap (λ (m : List Rmap). r ∷ m) (take-two q l (omega arith) ∙ ap (λ (n : ℕ). take (index_where q l) l ++ take n (drop (suc (index_where q l)) l) ++ drop (suc (index_where p l)) l) n))))

-- nothing is noted
pub note-none : (found n i : ℕ) → found ≤ n → found ≡ note_of found n i false
unfolding note_of
note-none found n i h = split (ltb found n) (λ e. rw e refl) (λ e. rw e (omega tests))

-- the index found among the first i records, or n
unfoldable pub seen : ℕ → ℕ → ℕ → ℕ
seen at i n = cond (ltb at i) at n

pub seen_none : (at n : ℕ) → n ≡ seen at 0 n
unfolding seen
seen_none at n = rw (le-ltb at 0 (omega arith)) refl

pub seen-le : (at i n found : ℕ) → i ≤ n → found ≡ seen at i n → found ≤ n
unfolding seen
seen-le at i n found h e = split (ltb at i) (λ f. let q : found ≡ at = rw f at e in omega tests) (λ f. let q : found ≡ n = rw f at e in omega arith)

pub seen_all : (p : Rmap → Bool) (l : List Rmap) (i n : ℕ) → n ≡ length l → n ≤ i → seen (index_where p l) i n ≡ index_where p l
unfolding seen
seen_all p l i n e h =
    split (ltb (index_where p l) i)
    (λ f. rw f refl)
    (λ f. rw f (let t = index-le p l in omega tests))

-- one record more
pub seen_next : (p : Rmap → Bool) (l : List Rmap) (i n was now : ℕ) (r : Rmap) → n ≡ length l → i < n → r ≡ get_or l i least → was ≡ seen (index_where p l) i n
    → now ≡ note_of was n i (p r) → now ≡ seen (index_where p l) (i + 1) n
unfolding seen note_of
seen_next p l i n was now r en h er ew e =
    split (ltb (index_where p l) i)
    (λ f. let w : was ≡ index_where p l = rw f at ew in
    let a : ltb was n ≡ true = lt-ltb was n (omega tests) in
    let b : ltb (index_where p l) (i + 1) ≡ true = lt-ltb (index_where p l) (i + 1) (omega tests) in
    rw b (rw a at e ∙ w))
    (λ f. let w : was ≡ n = rw f at ew in
    let a : ltb was n ≡ false = le-ltb was n (omega arith) in
    split (p r)
    (λ g. let q : index_where p l ≤ i = index-first p l i (omega arith) (rw er at g) in
    let s : index_where p l ≡ i = omega tests in
    let b : ltb (index_where p l) (i + 1) ≡ true = lt-ltb (index_where p l) (i + 1) (omega arith) in
    rw b (rw (a, g) at e ∙ omega arith))
    (λ g. split (ltb (index_where p l) (i + 1))
    (λ b. let s : index_where p l ≡ i = omega tests in
    let t : p (get_or l (index_where p l) least) ≡ true = index-passes p l (omega arith) in
    let u : p r ≡ true = rw er (rw s at t) in
    let z : ◌≡◌ {A = ℕ} 0 1 = cc in absurd (omega arith))
    (λ b. rw b (rw (a, g) at e))))
