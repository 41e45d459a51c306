-- The longest runs of an extent's blocks that no shared record covers, found by going along the records.
-- Assumes nothing.
use Prim.Native.Nat.{ℕ, zero, suc, ◌+◌, ◌-◌, ◌^◌, ◌≤◌, ◌<◌, min, max}
use mathlib.Core.Bool.{Bool, true, false}
use mathlib.Core.Path.{◌≡◌, refl, sym, ap, ◌∙◌}
use mathlib.Core.List.{List, [], ◌∷◌, ◌++◌, append-nil}
use native.Mathlib.Nat.{add-zero, zero-add, suc-add}
use native.Mathlib.Omega.{arith}
use lib.Dec.{ltb, leb, eqb}
use borrow.Author.Tests.{le-ltb, lt-leb, eq-eqb, ne_eqb}
use Rattle.codec.specs.Refcounts.{staging}
use Rattle.codec.specs.declared.refcount.Refcount.{Refcount}
use Rattle.codec.specs.declared.free_extent.FreeExtent.{FreeExtent}
use Rattle.lists.specs.Extent.{grow, runs}
use Rattle.lists.specs.Release.{owners, stop, unshared}
use Rattle.lists.specs.Inner.Passes.{gap_of}
use Rattle.lists.proofs.Cases.{split, tests, within_in, within-right}
use Rattle.lists.proofs.Counts.{From, Accepted, owners-left, kind-owners}

-- runs go by the test's values in the extent
pub runs_same : (p q : ℕ → Bool) (s n : ℕ) → ((b : ℕ) → s ≤ b → b < s + n → p b ≡ q b) → runs p s n ≡ runs q s n
unfolding runs
runs_same p q s zero h = refl
runs_same p q s (suc n) h =
    rw (h s (omega arith) (omega arith), runs_same p q (suc s) n (λ b u v. h b (omega arith) (omega arith))) refl

-- no run of the list begins before k
abbrev Head : ℕ → List FreeExtent → Type 0
Head k [] = Unit {0}
Head k (f ∷ fs) = k ≤ f.startblock

head-weaken : (j k : ℕ) (fs : List FreeExtent) → j ≤ k → Head k fs → Head j fs
head-weaken j k [] h p = tt
head-weaken j k (f ∷ fs) h p = omega arith

grow-head : (b : ℕ) (fs : List FreeExtent) → Head b (grow b fs)
unfolding grow
grow-head b [] = omega arith
grow-head b (f ∷ fs) = split (eqb f.startblock (suc b)) (λ e. rw e (omega arith)) (λ e. rw e (omega arith))

runs-head : (p : ℕ → Bool) (s n : ℕ) → Head s (runs p s n)
unfolding runs
runs-head p s zero = tt
runs-head p s (suc n) =
    split (p s) (λ e. rw e (grow-head s (runs p (suc s) n))) (λ e. rw e (head-weaken s (suc s) (runs p (suc s) n) (omega arith) (runs-head p (suc s) n)))

-- after a block that fails the test
runs-head-false : (p : ℕ → Bool) (s n : ℕ) → p s ≡ false → Head (suc s) (runs p s n)
unfolding runs
runs-head-false p s zero e = tt
runs-head-false p s (suc n) e = rw e (runs-head p (suc s) n)

grow-append : (s : ℕ) (A R : List FreeExtent) → Head (suc (suc s)) R → grow s (A ++ R) ≡ grow s A ++ R
unfolding grow
grow-append s [] [] h = refl
grow-append s [] (f ∷ fs) h = rw (ne_eqb f.startblock (suc s) (omega arith)) refl
grow-append s (f ∷ fs) R h = split (eqb f.startblock (suc s)) (λ e. rw e refl) (λ e. rw e refl)

-- two parts, of which the second does not go on where the first ends
runs_append : (p : ℕ → Bool) (s n m : ℕ) → Head (suc (s + n)) (runs p (s + n) m) → runs p s (n + m) ≡ runs p s n ++ runs p (s + n) m
unfolding runs
runs_append p s zero m h = rw (zero-add, add-zero) refl
runs_append p s (suc n) m h =
    let q : s + suc n ≡ suc s + n = omega arith in
    let k : Head (suc (suc s + n)) (runs p (suc s + n) m) = rw q at h in
    rw (suc-add, q)
    (rw (runs_append p (suc s) n m k)
    (split (p s)
    (λ e. rw e (grow-append s (runs p (suc s) n) (runs p (suc s + n) m) (head-weaken (suc (suc s)) (suc (suc s + n)) (runs p (suc s + n) m) (omega arith) k)))
    (λ e. rw e refl)))

runs-true : (p : ℕ → Bool) (s n : ℕ) → ((b : ℕ) → s ≤ b → b < s + suc n → p b ≡ true) → runs p s (suc n) ≡ record { startblock = s; blockcount = suc n } ∷ []
unfolding runs grow
runs-true p s zero h = rw (h s (omega arith) (omega arith)) refl
runs-true p s (suc n) h =
    rw (h s (omega arith) (omega arith), runs-true p (suc s) n (λ b u v. h b (omega arith) (omega arith))) (rw (eq-eqb (suc s) (suc s) refl) refl)

-- blocks that fail the test lead to no run
runs_skip : (p : ℕ → Bool) (s n m : ℕ) → ((b : ℕ) → s ≤ b → b < s + n → p b ≡ false) → runs p s (n + m) ≡ runs p (s + n) m
unfolding runs
runs_skip p s zero m h = rw (zero-add, add-zero) refl
runs_skip p s (suc n) m h =
    let q : s + suc n ≡ suc s + n = omega arith in
    rw (suc-add, q) (rw (h s (omega arith) (omega arith)) (runs_skip p (suc s) n m (λ b u v. h b (omega arith) (omega arith))))

-- the same from block to block: a run from a up to m, and then blocks that fail the test up to z
runs-gap : (p : ℕ → Bool) (a z : ℕ) → a ≤ z → ((b : ℕ) → a ≤ b → b < z → p b ≡ true) → runs p a (z - a) ≡ gap_of a z
unfolding gap_of runs
runs-gap p a z l h =
    split (ltb a z)
    (λ e. let q : z - a ≡ suc (z - a - 1) = omega tests in rw (e, q) (runs-true p a (z - a - 1) (λ b u v. h b u (omega tests))))
    (λ e. let q : z - a ≡ 0 = omega tests in rw (e, q) refl)

runs-part : (p : ℕ → Bool) (a m z e : ℕ) → a ≤ m → m < z → z ≤ e → ((b : ℕ) → a ≤ b → b < m → p b ≡ true) → ((b : ℕ) → m ≤ b → b < z → p b ≡ false) → runs p a (e - a) ≡ gap_of a m ++ runs p z (e - z)
runs-part p a m z e l k g t f =
    let q : e - a ≡ (m - a) + (e - m) = omega arith in
    let q' : a + (m - a) ≡ m = omega arith in
    let r : e - m ≡ (z - m) + (e - z) = omega arith in
    let r' : m + (z - m) ≡ z = omega arith in
    let u : runs p m (e - m) ≡ runs p z (e - z) = rw (r, runs_skip p m (z - m) (e - z) (λ b x y. f b x (omega arith)), r') refl in
    let v : runs p a ((m - a) + (e - m)) ≡ runs p a (m - a) ++ runs p (a + (m - a)) (e - m) =
    runs_append p a (m - a) (e - m) (rw q' (runs-head-false p m (e - m) (f m (omega arith) k))) in
    rw (q, v, q', runs-gap p a m l t, u) refl

-- ---- along the records

-- the free runs from a up to e
unfoldable pub gaps : ℕ → ℕ → List Refcount → List FreeExtent
gaps a e [] = gap_of a e
gaps a e (r ∷ l) = gap_of a (min r.startblock e) ++ gaps (max a (stop r)) e l

gap-none : (a z : ℕ) → z ≤ a → gap_of a z ≡ []
unfolding gap_of
gap-none a z h = rw (le-ltb a z h) refl

gaps-done : (a e : ℕ) (l : List Refcount) → e ≤ a → gaps a e l ≡ []
unfolding gaps
gaps-done a e [] h = gap-none a e h
gaps-done a e (r ∷ l) h = rw (gap-none a (min r.startblock e) (omega arith), gaps-done (max a (stop r)) e l (omega arith)) refl

abbrev none_over : List Refcount → ℕ → Bool
none_over l b = eqb (owners l b) 0

-- past a record it does not count
owners-past : (d : ℕ) (r : Refcount) (l : List Refcount) (b : ℕ) → From d (r ∷ l) → b < 2 ^ 31 → stop r ≤ b → owners (r ∷ l) b ≡ owners l b
unfolding owners
owners-past d r l b h k t =
    split (staging r) (λ e. rw e (omega arith)) (λ e. rw e (omega (arith, within-right r.startblock r.blockcount r.refcount b t)))

-- over a shared record there are owners
owners-over : (d : ℕ) (r : Refcount) (l : List Refcount) (b : ℕ) → From d (r ∷ l) → r.startblock < 2 ^ 31 → r.startblock ≤ b → b < stop r → none_over (r ∷ l) b ≡ false
unfolding owners staging
owners-over d r l b h k t u =
    let s : leb (2 ^ 31) r.startblock ≡ false = lt-leb (2 ^ 31) r.startblock k in
    ne_eqb (owners (r ∷ l) b) 0 (rw s (omega (arith, within_in r.startblock r.blockcount r.refcount b t u, kind-owners r h.0.1 s)))

-- before the first record there are none
owners-before : (d : ℕ) (r : Refcount) (l : List Refcount) (b : ℕ) → From d (r ∷ l) → b < r.startblock → none_over (r ∷ l) b ≡ true
owners-before d r l b h k = eq-eqb (owners (r ∷ l) b) 0 (owners-left r.startblock (r ∷ l) b (h.0, omega arith, h.2) k)

runs_past : (d a e : ℕ) (r : Refcount) (l : List Refcount) → From d (r ∷ l) → e ≤ 2 ^ 31 → stop r ≤ a → a ≤ e → runs (none_over (r ∷ l)) a (e - a) ≡ runs (none_over l) a (e - a)
runs_past d a e r l h t k g = runs_same (none_over (r ∷ l)) (none_over l) a (e - a) (λ b u v. ap (λ (n : ℕ). eqb n 0) (owners-past d r l b h (omega arith) (omega arith)))

gap_ends : (a m n : ℕ) → m ≡ max a n → gap_of a m ≡ gap_of a n
gap_ends a m n h =
    split (leb n a)
    (λ e. gap-none a m (omega tests) ∙ sym (gap-none a n (omega tests)))
    (λ e. ap (gap_of a) (omega tests))

pub runs-gaps : (d a e : ℕ) (l : List Refcount) → From d l → a ≤ e → e ≤ 2 ^ 31 → runs (none_over l) a (e - a) ≡ gaps a e l
unfolding gaps owners runs
runs-gaps d a e [] h k t = runs-gap (none_over []) a e k (λ b u v. refl)
runs-gaps d a e (r ∷ l) h k t =
    split (leb e r.startblock)
    (λ f. let q : min r.startblock e ≡ e = omega tests in
    rw (q, gaps-done (max a (stop r)) e l (omega tests), append-nil) (runs-gap (none_over (r ∷ l)) a e k (λ b u v. owners-before d r l b h (omega tests))))
    (λ f. split (leb (stop r) a)
    (λ g. let q : max a (stop r) ≡ a = omega tests in
    rw (gap-none a (min r.startblock e) (omega tests), q) (runs_past d a e r l h t (omega tests) k ∙ runs-gaps (stop r) a e l h.2 k t))
    (λ g. split (ltb a e)
    (λ u. let p = runs-part (none_over (r ∷ l)) a (max a r.startblock) (min (stop r) e) e (omega arith) (omega tests) (omega arith)
    (λ b x y. owners-before d r l b h (omega arith)) (λ b x y. owners-over d r l b h (omega tests) (omega arith) (omega arith)) in
    let q : max a (stop r) ≡ stop r = omega tests in
    p ∙ rw (q, gap_ends a (max a r.startblock) (min r.startblock e) (omega tests))
    (ap (λ (fs : List FreeExtent). gap_of a (min r.startblock e) ++ fs)
    (split (leb e (stop r))
    (λ v. let w : min (stop r) e ≡ e = omega tests in let n : e - e ≡ 0 = omega arith in rw (w, n, gaps-done (stop r) e l (omega tests)) refl)
    (λ v. let w : min (stop r) e ≡ stop r = omega tests in rw w (runs_past d (stop r) e r l h t (omega arith) (omega tests) ∙ runs-gaps (stop r) (stop r) e l h.2 (omega tests) t)))))
    (λ u. let n : e - a ≡ 0 = omega tests in
    rw (n, gap-none a (min r.startblock e) (omega tests), gaps-done (max a (stop r)) e l (omega tests)) refl)))

-- the free extents of a release in one pass along the counts
pub unshared-gaps : (l : List Refcount) (start count : ℕ) → Accepted l → start + count ≤ 2 ^ 31 → unshared l start count ≡ gaps start (start + count) l
unshared-gaps l start count h k =
    let q : start + count - start ≡ count = omega arith in
    rw q at (runs-gaps 0 start (start + count) l h (omega arith) k)
