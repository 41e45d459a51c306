-- The tests of the searches, branch by branch.
-- Assumes nothing.
use Rattle.std.proofs.Common.{◌≡◌, ◌+◌, ◌%◌, ◌^◌, ◌<◌, ◌≤◌, ℕ, Bool, true, false, refl, ltb, leb, sym, le-ltb, lt-ltb}
use mathlib.Core.Bool.{beq}
use Rattle.codec.specs.Refcounts as refcount
use Rattle.codec.specs.declared.refcount.Refcount.{Refcount}
use Rattle.lists.specs.Extent.{over}
use Rattle.reasons.specs.Inner.Deciding.{count_over}
use Rattle.lists.proofs.Cases.{split, tests, and-on}

pub over-before : (s c b : ℕ) → b < s + c → leb s b ≡ over s c b
unfolding over
over-before s c b h = rw (lt-ltb b (s + c) h) (sym (and-on (leb s b)))

-- the same by the difference, which wraps before the extent
pub over-wrapped : (s c b d : ℕ) → s + c ≤ 2 ^ 31 → b < 2 ^ 32 → d < 2 ^ 32 → (d + s) % 2 ^ 32 ≡ b → ltb d c ≡ over s c b
unfolding over
over-wrapped s c b d h k l e =
    split (leb s b)
    (λ t. rw t (split (ltb b (s + c)) (λ u. rw u (lt-ltb d c (omega tests))) (λ u. rw u (le-ltb d c (omega tests)))))
    (λ t. rw t (le-ltb d c (omega tests)))

-- one test for both kinds of record: a shared count stores its block as it is
same : (s t : Bool) → beq s t ≡ true → s ≡ t
same true true e = refl
same true false e = sym e
same false true e = e
same false false e = refl

pub counts-over : (staging : Bool) (r : Refcount) (b : ℕ) → beq (refcount.staging r) staging ≡ true → over (refcount.block r) r.blockcount b ≡ count_over staging b r
unfolding refcount.staging
counts-over true r b e = rw (same (refcount.staging r) true e) refl
counts-over false r b e =
    let t : refcount.staging r ≡ false = same (refcount.staging r) false e in
    let q : refcount.block r ≡ r.startblock = omega tests in
    rw (t, q) refl
