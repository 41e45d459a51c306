-- What the yes or no means, and that no accepted list has an extent twice; so where two are as long, one search decides it.
-- Assumes nothing.
use Prim.Native.Nat.{◌+◌, ◌≤◌, ◌<◌}
use native.Mathlib.Omega.{arith}
use mathlib.Core.Path.{◌≡◌, refl, sym, ◌∙◌}
use mathlib.Core.Bool.{true, false}
use mathlib.Core.List.{List, [], ◌∷◌, ◌++◌}
use lib.Dec.{ltb, eqb}
use lib.ListN.{length, get_or}
use borrow.Author.Tests.{lt-ltb, eqb-false}
use Rattle.codec.specs.Accepted.{in_order}
use Rattle.codec.specs.declared.free_extent.FreeExtent.{FreeExtent}
use Rattle.free.specs.declared.order.Order.{Order}
use Rattle.free.specs.Free.{good, follows, least}
use Rattle.free.specs.Same.{alike, occurs, equally_often, same_extents}
use Rattle.free.specs.Claims.{EverySame, EveryOnce}
use Rattle.free.specs.Inner.Searches.{is_in, all_in}
use Rattle.free.proofs.Cases.{split, tests, conj, clash, and-true}
use Rattle.free.proofs.Extents.{alike-eq, apart-after}
use Rattle.free.proofs.Ordered.{after_first}
use Rattle.free.proofs.Occurring.{occurs-tail, occurs-first, occurs-append, occurs-none}
use Rattle.free.proofs.Removing.{same_length, within_same}

-- ---- no extent twice

once_after : (o : Order) (q : FreeExtent) (l : List FreeExtent) → in_order good (follows o) q l ≡ true → (e : FreeExtent) → occurs e l ≤ 1
unfolding in_order occurs
once_after o q [] a e = omega arith
once_after o q (r ∷ l) a e =
    let k : good r ≡ true = search conj in
    let t : in_order good (follows o) r l ≡ true = search conj in
    split (alike e r)
    (λ h. let none : occurs e l ≡ 0 = occurs-none e l (λ i b. rw (alike-eq e r h) (apart-after r (get_or l i least) o (after_first o r l k t i b))) in
    rw h (omega arith))
    (λ h. rw h (omega (arith, once_after o r l t e)))

pub every-once : EveryOnce
every-once o l a e = once_after o least l a e

-- ---- yes and no

module _ (l m : List FreeExtent) where
  equal-in : (es : List FreeExtent) → equally_often es l m ≡ true → (e : FreeExtent) → 0 < occurs e es → occurs e l ≡ occurs e m
  unfolding equally_often occurs
  equal-in [] h e k = absurd (omega arith)
  equal-in (x ∷ es) h e k =
      let p : eqb (occurs x l) (occurs x m) ≡ true = search conj in
      let t : equally_often es l m ≡ true = search conj in
      split (alike e x)
      (λ a. rw (alike-eq e x a) (omega tests))
      (λ a. let j : 0 < 0 + occurs e es = rw a at k in equal-in es t e (omega arith))

  yes : same_extents l m ≡ true → (e : FreeExtent) → occurs e l ≡ occurs e m
  yes h e =
      split (ltb 0 (occurs e (l ++ m)))
      (λ k. equal-in (l ++ m) h e (omega tests))
      (λ k. omega (tests, occurs-append e l m))

  unequal-in : (es : List FreeExtent) → equally_often es l m ≡ false → (e : FreeExtent) × (occurs e l ≡ occurs e m → ⊥)
  unfolding equally_often
  unequal-in [] h = absurd (clash true refl h)
  unequal-in (x ∷ es) h =
      split (eqb (occurs x l) (occurs x m))
      (λ a. unequal-in es (rw a at h))
      (λ a. (x, eqb-false (occurs x l) (occurs x m) a))

pub every-same : EverySame
every-same l m = record { yes = yes l m; no = unequal-in l m (l ++ m) }

-- ---- each extent of one list in the other

module _ (m : List FreeExtent) where
  all-in-has : (l : List FreeExtent) → all_in l m ≡ true → (e : FreeExtent) → 0 < occurs e l → 0 < occurs e m
  unfolding all_in occurs
  all-in-has [] h e k = absurd (omega arith)
  all-in-has (x ∷ l) h e k =
      let p : is_in x m ≡ true = search conj in
      let t : all_in l m ≡ true = search conj in
      split (alike e x)
      (λ a. rw (alike-eq e x a) (omega tests))
      (λ a. let j : 0 < 0 + occurs e l = rw a at k in all-in-has l t e (omega arith))

  has-all-in : (l : List FreeExtent) → ((e : FreeExtent) → 0 < occurs e l → 0 < occurs e m) → all_in l m ≡ true
  unfolding all_in
  has-all-in [] h = refl
  has-all-in (x ∷ l) h =
      and-true (is_in x m) (all_in l m) (lt-ltb 0 (occurs x m) (h x (occurs-first x l))) (has-all-in l (λ e k. h e (omega (arith, occurs-tail e x l))))

-- lists that hold the same are as long
pub not_as_long : (l m : List FreeExtent) → (length l ≡ length m → ⊥) → same_extents l m ≡ false
not_as_long l m h = split (same_extents l m) (λ s. absurd (h (same_length l m (yes l m s)))) (λ s. s)

-- where no extent is twice in a list that is as long as another, it is enough that each of its extents is in the other
pub all-in-same : (l m : List FreeExtent) → ((e : FreeExtent) → occurs e m ≤ 1) → length l ≡ length m → all_in m l ≡ same_extents l m
all-in-same l m once len =
    split (same_extents l m)
    (λ s. has-all-in l m (λ e k. let q = yes l m s e in omega arith) ∙ sym s)
    (λ s. split (all_in m l) (λ t. let w = unequal-in l m (l ++ m) s in absurd (w.1 (sym (within_same m l (no_more t) (sym len) w.0)))) (λ t. t ∙ sym s))
  where
    no_more : all_in m l ≡ true → (e : FreeExtent) → occurs e m ≤ occurs e l
    no_more t e = split (ltb 0 (occurs e m)) (λ k. omega (tests, all-in-has l m t e (omega tests), once e)) (λ k. omega tests)
