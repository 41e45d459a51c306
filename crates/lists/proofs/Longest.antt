-- What `runs` means: its extents lie over exactly the blocks that pass the test, ascending, and each is as long as it can be, since at least
-- one block lies between it and the next: it is `Longest` of specs/Extent.antt, for every test, and no other list is.
-- Assumes nothing.
use Prim.Native.Nat.{ℕ, zero, suc, ◌+◌, ◌≤◌, ◌<◌}
use mathlib.Core.Bool.{Bool, true, false, ◌&&◌}
use mathlib.Core.Path.{◌≡◌, refl, sym, ap₂, ◌∙◌}
use mathlib.Core.List.{List, [], ◌∷◌}
use native.Mathlib.Omega.{arith}
use lib.Dec.{leb, eqb}
use borrow.Author.Tests.{le-ltb, lt-leb, eqb-false}
use Rattle.codec.specs.declared.free_extent.FreeExtent.{FreeExtent}
use Rattle.lists.specs.Extent.{over, grow, runs, lies, Apart, Inside, Longest}
use Rattle.lists.proofs.Cases.{split, tests, over-facts, facts-over}
use Rattle.lists.proofs.Fits.{All, inside-runs}

-- ---- the blocks

same : (t u : Bool) → (t ≡ true → u ≡ true) → (u ≡ true → t ≡ true) → t ≡ u
same t u f g = split t (λ e. e ∙ sym (f e)) (λ e. split u (λ h. let k = g h in cc) (λ h. e ∙ sym h))

over-here : (s c : ℕ) → over s (suc c) s ≡ true
over-here s c = facts-over s (suc c) s (omega arith) (omega arith)

over-next : (s c b : ℕ) → eqb b s ≡ false → over s (suc c) b ≡ over (suc s) c b
over-next s c b e =
    same (over s (suc c) b) (over (suc s) c b)
    (λ u. let k = over-facts s (suc c) b u in facts-over (suc s) c b (omega (tests, eqb-false b s e)) (omega arith))
    (λ u. let k = over-facts (suc s) c b u in facts-over s (suc c) b (omega arith) (omega arith))

over_none : (s b : ℕ) → over s 0 b ≡ false
unfolding over
over_none s b = split (leb s b) (λ e. rw (e, le-ltb b (s + 0) (omega tests)) refl) (λ e. rw e refl)

lies-here : (s : ℕ) (fs : List FreeExtent) → lies (grow s fs) s ≡ true
unfolding lies grow
lies-here s [] = rw (over-here s 0) refl
lies-here s (f ∷ fs) =
    split (eqb f.startblock (suc s)) (λ e. rw e (rw (over-here s f.blockcount) refl)) (λ e. rw e (rw (over-here s 0) refl))

lies-next : (s : ℕ) (fs : List FreeExtent) (b : ℕ) → eqb b s ≡ false → lies (grow s fs) b ≡ lies fs b
unfolding lies grow
lies-next s [] b h = rw (over-next s 0 b h, over_none (suc s) b) refl
lies-next s (f ∷ fs) b h =
    split (eqb f.startblock (suc s))
    (λ e. let q : f.startblock ≡ suc s = omega tests in rw e (rw (over-next s f.blockcount b h, q) refl))
    (λ e. rw e (rw (over-next s 0 b h, over_none (suc s) b) refl))

pub lies-runs : (p : ℕ → Bool) (s n b : ℕ) → lies (runs p s n) b ≡ (over s n b && p b)
unfolding runs lies
lies-runs p s zero b = rw over_none refl
lies-runs p s (suc n) b =
    split (eqb b s)
    (λ e. let q : b ≡ s = omega tests in
    rw (q, over-here s n)
    (split (p s) (λ f. rw f (lies-here s (runs p (suc s) n))) (λ f. rw f (lies-runs p (suc s) n s ∙ rw (past s n) refl))))
    (λ e. rw (over-next s n b e)
    (split (p s) (λ f. rw f (lies-next s (runs p (suc s) n) b e ∙ lies-runs p (suc s) n b)) (λ f. rw f (lies-runs p (suc s) n b))))
  where
    past : (s n : ℕ) → over (suc s) n s ≡ false
    past s n = split (over (suc s) n s) (λ e. let k = over-facts (suc s) n s e in absurd (omega arith)) (λ e. e)

-- ---- as long as they can be, ascending

apart-weaken : (a b : ℕ) (fs : List FreeExtent) → a ≤ b → Apart b fs → Apart a fs
apart-weaken a b [] h k = tt
apart-weaken a b (f ∷ fs) h k = (omega arith, k.1, k.2)

apart-grow : (s : ℕ) (fs : List FreeExtent) → Apart (suc s) fs → Apart s (grow s fs)
unfolding grow
apart-grow s [] h = (omega arith, omega arith, tt)
apart-grow s (f ∷ fs) h =
    split (eqb f.startblock (suc s))
    (λ e. rw e (omega arith, omega arith, apart-weaken (suc (s + suc f.blockcount)) (suc (f.startblock + f.blockcount)) fs (omega tests) h.2))
    (λ e. rw e (omega arith, omega arith, (omega (tests, eqb-false f.startblock (suc s) e), h.1, h.2)))

pub apart-runs : (p : ℕ → Bool) (s n : ℕ) → Apart s (runs p s n)
unfolding runs
apart-runs p s zero = tt
apart-runs p s (suc n) =
    split (p s)
    (λ e. rw e (apart-grow s (runs p (suc s) n) (apart-runs p (suc s) n)))
    (λ e. rw e (apart-weaken s (suc s) (runs p (suc s) n) (omega arith) (apart-runs p (suc s) n)))

each-inside : (s n : ℕ) (fs : List FreeExtent) → All (λ f. (s ≤ f.startblock) × (f.startblock + f.blockcount ≤ s + n)) fs → Inside s n fs
each-inside s n [] h = tt
each-inside s n (f ∷ fs) h = (h.0.0, h.0.1, each-inside s n fs h.1)

pub longest-runs : (p : ℕ → Bool) (s n : ℕ) → Longest p s n (runs p s n)
longest-runs p s n =
    record { inside = each-inside s n (runs p s n) (inside-runs p s n (s + n) (omega arith)); blocks = lies-runs p s n; apart = apart-runs p s n }

-- ---- and no other list is so

over-left : (s c b : ℕ) → b < s → over s c b ≡ false
unfolding over
over-left s c b h = rw (lt-leb s b h) refl

over-right : (s c b : ℕ) → s + c ≤ b → over s c b ≡ false
unfolding over
over-right s c b h = split (leb s b) (λ e. rw (e, le-ltb b (s + c) h) refl) (λ e. rw e refl)

-- nothing lies before the first, and what lies behind it is of the rest
lies-before : (a : ℕ) (fs : List FreeExtent) (b : ℕ) → Apart a fs → b < a → lies fs b ≡ false
unfolding lies
lies-before a [] b h l = refl
lies-before a (f ∷ fs) b h l =
    rw (over-left f.startblock f.blockcount b (omega (arith, h.0)), lies-before (suc (f.startblock + f.blockcount)) fs b h.2 (omega (arith, h.0))) refl

lies-first : (f : FreeExtent) (fs : List FreeExtent) (b : ℕ) → f.startblock ≤ b → b < f.startblock + f.blockcount → lies (f ∷ fs) b ≡ true
unfolding lies
lies-first f fs b h k = rw (facts-over f.startblock f.blockcount b h k) refl

lies-behind : (f : FreeExtent) (fs : List FreeExtent) (b : ℕ) → f.startblock + f.blockcount ≤ b → lies (f ∷ fs) b ≡ lies fs b
unfolding lies
lies-behind f fs b h = rw (over-right f.startblock f.blockcount b h) refl

clash : (t u : Bool) → t ≡ u → t ≡ true → u ≡ false → ⊥
clash t u e f g = let z : ◌≡◌ {A = ℕ} 0 1 = cc in omega arith

-- two lists over the same blocks begin with the same run
module _ (a : ℕ) (f g : FreeExtent) (fs gs : List FreeExtent) (h : Apart a (f ∷ fs)) (k : Apart a (g ∷ gs)) (s : (b : ℕ) → lies (f ∷ fs) b ≡ lies (g ∷ gs) b) where
  start-most : g.startblock ≤ f.startblock
  start-most =
      split (leb g.startblock f.startblock) (λ e. omega tests)
      (λ e. absurd (clash (lies (f ∷ fs) f.startblock) (lies (g ∷ gs) f.startblock) (s f.startblock)
      (lies-first f fs f.startblock (omega arith) (omega (arith, h.1)))
      (lies-before g.startblock (g ∷ gs) f.startblock (omega arith, k.1, k.2) (omega tests))))

  end-least : f.startblock ≡ g.startblock → f.startblock + f.blockcount ≤ g.startblock + g.blockcount
  end-least q =
      let n : ℕ = g.startblock + g.blockcount in
      split (leb (f.startblock + f.blockcount) n) (λ e. omega tests)
      (λ e. absurd (clash (lies (f ∷ fs) n) (lies (g ∷ gs) n) (s n)
      (lies-first f fs n (omega arith) (omega tests))
      (lies-behind g gs n (omega arith) ∙ lies-before (suc n) gs n k.2 (omega arith))))

abbrev extent_of : ℕ → ℕ → FreeExtent
extent_of s c = record { startblock = s; blockcount = c }

only : (a : ℕ) (fs gs : List FreeExtent) → Apart a fs → Apart a gs → ((b : ℕ) → lies fs b ≡ lies gs b) → fs ≡ gs
only a [] [] h k s = refl
only a [] (g ∷ gs) h k s =
    absurd (clash (lies (g ∷ gs) g.startblock) (lies [] g.startblock) (sym (s g.startblock)) (lies-first g gs g.startblock (omega arith) (omega (arith, k.1))) (lies-before (suc g.startblock) [] g.startblock tt (omega arith)))
only a (f ∷ fs) [] h k s =
    absurd (clash (lies (f ∷ fs) f.startblock) (lies [] f.startblock) (s f.startblock) (lies-first f fs f.startblock (omega arith) (omega (arith, h.1))) (lies-before (suc f.startblock) [] f.startblock tt (omega arith)))
only a (f ∷ fs) (g ∷ gs) h k s =
    let p : f.startblock ≡ g.startblock = omega (arith, start-most a f g fs gs h k s, start-most a g f gs fs k h (λ b. sym (s b))) in
    let q : f.startblock + f.blockcount ≡ g.startblock + g.blockcount = omega (arith, end-least a f g fs gs h k s p, end-least a g f gs fs k h (λ b. sym (s b)) (sym p)) in
    let c : f.blockcount ≡ g.blockcount = omega arith in
    ap₂ (λ (x : FreeExtent) (l : List FreeExtent). x ∷ l) (ap₂ extent_of p c)
    (only (suc (f.startblock + f.blockcount)) fs gs h.2 (apart-weaken (suc (f.startblock + f.blockcount)) (suc (g.startblock + g.blockcount)) gs (omega arith) k.2)
    (λ b. split (leb (f.startblock + f.blockcount) b)
    (λ e. sym (lies-behind f fs b (omega tests)) ∙ s b ∙ lies-behind g gs b (omega tests))
    (λ e. lies-before (suc (f.startblock + f.blockcount)) fs b h.2 (omega tests) ∙ sym (lies-before (suc (g.startblock + g.blockcount)) gs b k.2 (omega tests)))))

pub longest-only : (p : ℕ → Bool) (s n : ℕ) (fs : List FreeExtent) → Longest p s n fs → fs ≡ runs p s n
longest-only p s n fs h = only s fs (runs p s n) h.apart (apart-runs p s n) (λ b. h.blocks b ∙ sym (lies-runs p s n b))
