-- Case analysis on tests, and the arithmetic of extents.
-- Assumes nothing.
use Prim.Native.Nat.{ℕ, ◌+◌, ◌-◌, ◌≤◌, ◌<◌}
use mathlib.Core.Bool.{Bool, true, false, not, cond, ◌||◌}
use mathlib.Core.Path.{◌≡◌, refl, sym, ap, ◌∙◌}
use native.Mathlib.Omega.{arith}
use lib.Dec.{ltb, leb}
use borrow.Author.Tests.{lt-ltb, le-ltb, le-leb, lt-leb}
pub use Rattle.codec.proofs.Tests.{split, tests, conj, and_l, and_r, and-true, and-on, and-off}
use Rattle.lists.specs.Extent.{over, within}

pub or_l : (a b : Bool) → (a || b) ≡ false → a ≡ false
or_l true b e = e
or_l false b e = refl

pub not-false : (t : Bool) → not t ≡ true → t ≡ false
not-false true e = sym e
not-false false e = refl

-- n below x, and 0 from x on: what an extent adds is the difference of two of these
unfoldable pub below : ℕ → ℕ → ℕ → ℕ
below x n b = cond (ltb b x) n 0

-- the sum by which extents are cut and joined
pub within-sum : (s c n b : ℕ) → within s c n b + below s n b ≡ below (s + c) n b
unfolding within below
within-sum s c n b =
    split (leb s b)
    (λ e. split (ltb b (s + c))
    (λ f. split (ltb b s) (λ g. omega tests) (λ g. rw (e, f, g) (omega arith)))
    (λ f. split (ltb b s) (λ g. omega tests) (λ g. rw (e, f, g) (omega arith))))
    (λ e. split (ltb b (s + c))
    (λ f. split (ltb b s) (λ g. rw (e, f, g) (omega arith)) (λ g. omega tests))
    (λ f. omega tests))

-- the same from the two ends
pub within-ends : (a z n b : ℕ) → a ≤ z → within a (z - a) n b + below a n b ≡ below z n b
within-ends a z n b h = within-sum a (z - a) n b ∙ ap (λ (x : ℕ). below x n b) (omega arith)

pub within_in : (s c n b : ℕ) → s ≤ b → b < s + c → within s c n b ≡ n
unfolding within
within_in s c n b h k = rw (le-leb s b h, lt-ltb b (s + c) k) refl

pub within-left : (s c n b : ℕ) → b < s → within s c n b ≡ 0
unfolding within
within-left s c n b h = rw (lt-leb s b h) refl

pub within-right : (s c n b : ℕ) → s + c ≤ b → within s c n b ≡ 0
unfolding within
within-right s c n b h = split (leb s b) (λ e. rw (e, le-ltb b (s + c) h) refl) (λ e. rw e refl)

pub over-facts : (s c b : ℕ) → over s c b ≡ true → (s ≤ b) × (b < s + c)
unfolding over
over-facts s c b e =
    let h : leb s b ≡ true = search conj in
    let k : ltb b (s + c) ≡ true = search conj in
    (omega tests, omega tests)

pub facts-over : (s c b : ℕ) → s ≤ b → b < s + c → over s c b ≡ true
unfolding over
facts-over s c b h k = and-true _ _ (le-leb s b h) (lt-ltb b (s + c) k)

pub within-over : (s c n b : ℕ) → over s c b ≡ true → within s c n b ≡ n
unfolding within
within-over s c n b e = rw e refl

pub within-not : (s c n b : ℕ) → over s c b ≡ false → within s c n b ≡ 0
unfolding within
within-not s c n b e = rw e refl
