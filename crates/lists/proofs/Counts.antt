-- Acceptance of the counts (21) as facts, the owners over each block before and after a release, and that a release keeps 21.
-- Assumes nothing.
use Prim.Native.Nat.{ℕ, ◌+◌, ◌-◌, ◌%◌, ◌^◌, ◌≤◌, ◌<◌}
use mathlib.Core.Bool.{true, false, cond, ◌&&◌, and-false}
use mathlib.Core.Path.{◌≡◌, refl, sym, ap, ◌∙◌}
use mathlib.Core.List.{List, [], ◌∷◌, ◌++◌, append_assoc}
use native.Mathlib.Omega.{arith}
use native.Mathlib.Nat.{add-zero, zero-add, add_assoc}
use lib.Dec.{ltb, leb, eqb}
use borrow.Author.Tests.{lt-ltb, le-ltb, le-leb, lt-leb, eq-eqb, ne_eqb, eqb-false}
use Rattle.codec.specs.Records.{AllStorable, refcounts}
use Rattle.codec.specs.Refcounts.{staging, accepted}
use Rattle.codec.specs.declared.refcount.Refcount.{Refcount}
use Rattle.lists.specs.Extent.{within}
use Rattle.lists.specs.Release.{owners, stop, piece, clamp, share, lowered, lower_all, same_kind, continues, joined, join_from, join_all, release, fewer}
use Rattle.lists.proofs.Cases.{split, tests, conj, and-true, below, within-sum, within_in, within-left, within-right}
use Rattle.lists.proofs.Places.{good_kind, accepted_from, Short, storable-short, accepted-place}

-- ---- acceptance as facts

pub data OfKind (r : Refcount) : Type 0 where
  shared : stop r ≤ 2 ^ 31 → 2 ≤ r.refcount → OfKind r
  staged : 2 ^ 31 ≤ r.startblock → stop r ≤ 2 ^ 32 → r.refcount ≡ 1 → OfKind r

abbrev pub Good : Refcount → Type 0
Good r = (0 < r.blockcount) × OfKind r

abbrev pub From : ℕ → List Refcount → Type 0
From e [] = Unit {0}
From e (r ∷ l) = Good r × (e ≤ r.startblock) × From (stop r) l

abbrev pub Accepted : List Refcount → Type 0
Accepted l = From 0 l

kind-facts : (r : Refcount) → 0 < r.blockcount → good_kind r ≡ true → OfKind r
unfolding good_kind staging
kind-facts r n e =
    split (leb (2 ^ 31) r.startblock)
    (λ f. let g : (eqb r.refcount 1 && leb (stop r) (2 ^ 32)) ≡ true = rw f at e in
    let h : eqb r.refcount 1 ≡ true = search conj in
    let k : leb (stop r) (2 ^ 32) ≡ true = search conj in
    staged (omega tests) (omega tests) (omega tests))
    (λ f. let g : (leb 2 r.refcount && leb (stop r) (2 ^ 31)) ≡ true = rw f at e in
    let h : leb 2 r.refcount ≡ true = search conj in
    let k : leb (stop r) (2 ^ 31) ≡ true = search conj in
    shared (omega tests) (omega tests))

facts-kind : (r : Refcount) → 0 < r.blockcount → OfKind r → good_kind r ≡ true
unfolding good_kind staging
facts-kind r n (shared p q) = rw (lt-leb (2 ^ 31) r.startblock (omega arith)) (and-true _ _ (le-leb 2 r.refcount q) (le-leb (stop r) (2 ^ 31) p))
facts-kind r n (staged p q t) = rw (le-leb (2 ^ 31) r.startblock p) (and-true _ _ (eq-eqb r.refcount 1 t) (le-leb (stop r) (2 ^ 32) q))

pub from-facts : (e : ℕ) (l : List Refcount) → accepted_from e l ≡ true → From e l
unfolding accepted_from
from-facts e [] t = tt
from-facts e (r ∷ l) t =
    let p : ltb 0 r.blockcount ≡ true = search conj in
    let k : good_kind r ≡ true = search conj in
    let q : leb e r.startblock ≡ true = search conj in
    let u : accepted_from (stop r) l ≡ true = search conj in
    ((omega tests, kind-facts r (omega tests) k), omega tests, from-facts (stop r) l u)

pub facts-from : (e : ℕ) (l : List Refcount) → From e l → accepted_from e l ≡ true
unfolding accepted_from
facts-from e [] h = refl
facts-from e (r ∷ l) h =
    and-true _ _ (and-true _ _ (lt-ltb 0 r.blockcount h.0.0) (facts-kind r h.0.0 h.0.1)) (and-true _ _ (le-leb e r.startblock h.1) (facts-from (stop r) l h.2))

-- the starts fit their bytes
pub from-short : (e : ℕ) (l : List Refcount) → From e l → Short l
from-short e [] h = tt
from-short e (r ∷ l) h = (small r h.0.0 h.0.1, from-short (stop r) l h.2)
  where
    small : (r : Refcount) → 0 < r.blockcount → OfKind r → r.startblock < 2 ^ 32
    small r n (shared p q) = omega arith
    small r n (staged p q t) = omega arith

-- 21 as document 01 words it
pub accepted-facts : (l : List Refcount) → AllStorable refcounts l → accepted l ≡ true → Accepted l
accepted-facts l h e = from-facts 0 l (sym (accepted-place l (storable-short l h)) ∙ e)

pub facts-accepted : (l : List Refcount) → Accepted l → accepted l ≡ true
facts-accepted l h = accepted-place l (from-short 0 l h) ∙ facts-from 0 l h

pub weaken : (d e : ℕ) (l : List Refcount) → d ≤ e → From e l → From d l
weaken d e [] p h = tt
weaken d e (r ∷ l) p h = (h.0, omega arith, h.2)

-- ---- owners at a block, by places in the list's order: below 2 ^ 31 only shared records count

unfoldable pub at : List Refcount → ℕ → ℕ
at [] b = 0
at (r ∷ l) b = within r.startblock r.blockcount r.refcount b + at l b

pub at-append : (l m : List Refcount) (b : ℕ) → at (l ++ m) b ≡ at l b + at m b
unfolding at
at-append [] m b = omega arith
at-append (r ∷ l) m b = omega (arith, at-append l m b)

pub owners-at : (l : List Refcount) (b : ℕ) → b < 2 ^ 31 → owners l b ≡ at l b
unfolding owners at staging
owners-at [] b h = refl
owners-at (r ∷ l) b h =
    split (leb (2 ^ 31) r.startblock)
    (λ e. rw e (omega (arith, within-left r.startblock r.blockcount r.refcount b (omega tests), owners-at l b h)))
    (λ e. rw e (omega (arith, owners-at l b h)))

-- nothing lies before the first start
pub at_left : (e : ℕ) (l : List Refcount) (b : ℕ) → From e l → b < e → at l b ≡ 0
unfolding at
at_left e [] b h p = refl
at_left e (r ∷ l) b h p = omega (arith, within-left r.startblock r.blockcount r.refcount b (omega arith), at_left (stop r) l b h.2 (omega arith))

-- ---- pieces

pub piece-in : (a z n b : ℕ) → a ≤ b → b < z → at (piece a z n) b ≡ n
unfolding at piece
piece-in a z n b h k = rw (lt-ltb a z (omega arith)) (omega (arith, within_in a (z - a) n b h (omega arith)))

pub piece-left : (a z n b : ℕ) → b < a → at (piece a z n) b ≡ 0
unfolding at piece
piece-left a z n b h = split (ltb a z) (λ e. rw e (omega (arith, within-left a (z - a) n b h))) (λ e. rw e refl)

pub piece-right : (a z n b : ℕ) → z ≤ b → at (piece a z n) b ≡ 0
unfolding at piece
piece-right a z n b h = split (ltb a z) (λ e. rw e (omega (tests, within-right a (z - a) n b (omega tests)))) (λ e. rw e refl)

-- what becomes of the owners between
abbrev middle : ℕ → ℕ → ℕ → List Refcount
middle a z n = share a z (fewer n)

middle-in : (a z n b : ℕ) → a ≤ b → b < z → at (middle a z n) b ≡ fewer n
unfolding share fewer at
middle-in a z n b h k = split (leb n 2) (λ e. rw e refl) (λ e. rw (e, ne_eqb (n - 1) 0 (omega tests)) (piece-in a z (n - 1) b h k))

middle-left : (a z n b : ℕ) → b < a → at (middle a z n) b ≡ 0
unfolding share fewer at
middle-left a z n b h = split (leb n 2) (λ e. rw e refl) (λ e. rw (e, ne_eqb (n - 1) 0 (omega tests)) (piece-left a z (n - 1) b h))

middle-right : (a z n b : ℕ) → z ≤ b → at (middle a z n) b ≡ 0
unfolding share fewer at
middle-right a z n b h = split (leb n 2) (λ e. rw e refl) (λ e. rw (e, ne_eqb (n - 1) 0 (omega tests)) (piece-right a z (n - 1) b h))

-- ---- one record

-- the owners at b after blocks s up to e have been let go
unfoldable pub lower : ℕ → ℕ → ℕ → ℕ → ℕ
lower s e b n = cond (leb s b && ltb b e) (fewer n) n

lowered-sum : (s e : ℕ) (r : Refcount) (b : ℕ) → at (lowered s e r) b ≡ at (piece r.startblock (clamp r s) r.refcount) b + (at (middle (clamp r s) (clamp r e) r.refcount) b + at (piece (clamp r e) (stop r) r.refcount) b)
unfolding lowered
lowered-sum s e r b = rw (at-append, at-append (middle (clamp r s) (clamp r e) r.refcount) (piece (clamp r e) (stop r) r.refcount) b) refl

pub lower-zero : (s e b : ℕ) → lower s e b 0 ≡ 0
unfolding lower fewer
lower-zero s e b = split (leb s b && ltb b e) (λ f. rw f refl) (λ f. rw f refl)

-- by where b lies in the record
lowered-inside : (s e : ℕ) (r : Refcount) (b : ℕ) → s ≤ e → ltb b r.startblock ≡ false → ltb b (stop r) ≡ true
    → at (piece r.startblock (clamp r s) r.refcount) b + (at (middle (clamp r s) (clamp r e) r.refcount) b + at (piece (clamp r e) (stop r) r.refcount) b) ≡ lower s e b r.refcount
unfolding lower clamp
lowered-inside s e r b h f g =
    split (leb s b)
    (λ p. split (ltb b e)
    (λ q. rw (p, q, piece-right r.startblock (clamp r s) r.refcount b (omega tests), middle-in (clamp r s) (clamp r e) r.refcount b (omega tests) (omega tests), piece-left (clamp r e) (stop r) r.refcount b (omega tests)) (omega arith))
    (λ q. rw (p, q, piece-right r.startblock (clamp r s) r.refcount b (omega tests), middle-right (clamp r s) (clamp r e) r.refcount b (omega tests), piece-in (clamp r e) (stop r) r.refcount b (omega tests) (omega tests)) (omega arith)))
    (λ p. rw (p, piece-in r.startblock (clamp r s) r.refcount b (omega tests) (omega tests), middle-left (clamp r s) (clamp r e) r.refcount b (omega tests), piece-left (clamp r e) (stop r) r.refcount b (omega tests)) (omega arith))

lowered-at : (s e : ℕ) (r : Refcount) (b : ℕ) → s ≤ e → at (lowered s e r) b ≡ lower s e b (within r.startblock r.blockcount r.refcount b)
unfolding clamp
lowered-at s e r b h =
    split (ltb b r.startblock)
    (λ f. rw (within-left r.startblock r.blockcount r.refcount b (omega tests), lower-zero, lowered-sum s e r b, piece-left r.startblock (clamp r s) r.refcount b (omega tests), middle-left (clamp r s) (clamp r e) r.refcount b (omega tests), piece-left (clamp r e) (stop r) r.refcount b (omega tests)) refl)
    (λ f. split (ltb b (stop r))
    (λ g. rw (within_in r.startblock r.blockcount r.refcount b (omega tests) (omega tests), lowered-sum s e r b) (lowered-inside s e r b h f g))
    (λ g. rw (within-right r.startblock r.blockcount r.refcount b (omega tests), lower-zero, lowered-sum s e r b, piece-right r.startblock (clamp r s) r.refcount b (omega tests), middle-right (clamp r s) (clamp r e) r.refcount b (omega tests), piece-right (clamp r e) (stop r) r.refcount b (omega tests)) refl))

-- ---- the whole list

-- an extent that ends by 2^31 does not reach a staging record where that stands in the list's order
pub clamp-before : (r : Refcount) (a : ℕ) → a ≤ r.startblock → clamp r a ≡ r.startblock
unfolding clamp
clamp-before r a h = omega arith

pub piece-whole : (r : Refcount) → 0 < r.blockcount → piece r.startblock (stop r) r.refcount ≡ r ∷ []
unfolding piece
piece-whole r n =
    let q : stop r - r.startblock ≡ r.blockcount = omega arith in rw (lt-ltb r.startblock (stop r) (omega arith), q) refl

pub piece-empty : (a z n : ℕ) → z ≤ a → piece a z n ≡ []
unfolding piece
piece-empty a z n h = rw (le-ltb a z h) refl

middle-empty : (a n : ℕ) → middle a a n ≡ []
unfolding share fewer
middle-empty a n = split (leb n 2) (λ e. rw e refl) (λ e. rw (e, ne_eqb (n - 1) 0 (omega tests)) (piece-empty a a (n - 1) (omega arith)))

pub staging-start : (r : Refcount) → staging r ≡ true → 2 ^ 31 ≤ r.startblock
unfolding staging
staging-start r e = omega tests

lowered-beyond : (s e : ℕ) (r : Refcount) → s ≤ r.startblock → e ≤ r.startblock → 0 < r.blockcount → lowered s e r ≡ r ∷ []
unfolding lowered
lowered-beyond s e r h k n =
    rw (clamp-before r s h, clamp-before r e k, piece-empty r.startblock r.startblock r.refcount (omega arith), middle-empty r.startblock r.refcount) (piece-whole r n)

pub lower-one : (s e : ℕ) (r : Refcount) → s ≤ e → e ≤ 2 ^ 31 → Good r → cond (staging r) (r ∷ []) (lowered s e r) ≡ lowered s e r
lower-one s e r h t g =
    split (staging r)
    (λ f. let p = staging-start r f in rw f (sym (lowered-beyond s e r (omega arith) (omega arith) g.0)))
    (λ f. rw f refl)

lower_all-at : (s e d : ℕ) (l : List Refcount) (b : ℕ) → s ≤ e → e ≤ 2 ^ 31 → From d l → at (lower_all s e l) b ≡ lower s e b (at l b)
unfolding at lower_all
lower_all-at s e d [] b h t k = rw lower-zero refl
lower_all-at s e d (r ∷ l) b h t k =
    rw (lower-one s e r h t k.0)
    (split (ltb b (stop r))
    (λ f. rw (at-append, lowered-at s e r b h, lower_all-at s e (stop r) l b h t k.2, at_left (stop r) l b k.2 (omega tests), lower-zero, add-zero) (rw add-zero refl))
    (λ f. rw (at-append, lowered-at s e r b h, lower_all-at s e (stop r) l b h t k.2, within-right r.startblock r.blockcount r.refcount b (omega tests), lower-zero) (rw zero-add (rw zero-add refl))))

-- ---- joins

-- in the list's order s begins where r stops
pub continues-is : (r s : Refcount) → Good r → Good s → continues r s ≡ (eqb (stop r) s.startblock && eqb r.refcount s.refcount)
unfolding continues same_kind staging
continues-is r s (n, shared p q) (m, shared p' q') =
    let a : r.startblock % 2 ^ 31 ≡ r.startblock = omega arith in
    let b : s.startblock % 2 ^ 31 ≡ s.startblock = omega arith in
    rw (lt-leb (2 ^ 31) r.startblock (omega arith), lt-leb (2 ^ 31) s.startblock (omega arith), a, b) refl
continues-is r s (n, shared p q) (m, staged p' q' t') =
    rw (lt-leb (2 ^ 31) r.startblock (omega arith), le-leb (2 ^ 31) s.startblock p', ne_eqb r.refcount s.refcount (λ u. omega arith)) (sym (and-false (eqb (stop r) s.startblock)))
continues-is r s (n, staged p q t) (m, shared p' q') =
    rw (le-leb (2 ^ 31) r.startblock p, lt-leb (2 ^ 31) s.startblock (omega arith), ne_eqb r.refcount s.refcount (λ u. omega arith)) (sym (and-false (eqb (stop r) s.startblock)))
continues-is r s (n, staged p q t) (m, staged p' q' t') =
    let same : eqb (r.startblock % 2 ^ 31 + r.blockcount) (s.startblock % 2 ^ 31) ≡ eqb (stop r) s.startblock =
    split (eqb (stop r) s.startblock)
    (λ e. rw e (eq-eqb (r.startblock % 2 ^ 31 + r.blockcount) (s.startblock % 2 ^ 31) (omega tests)))
    (λ e. rw e (ne_eqb (r.startblock % 2 ^ 31 + r.blockcount) (s.startblock % 2 ^ 31) (λ u. eqb-false (stop r) s.startblock e (omega arith)))) in
    rw (le-leb (2 ^ 31) r.startblock p, le-leb (2 ^ 31) s.startblock p', same) refl

continues-facts : (r s : Refcount) → Good r → Good s → continues r s ≡ true → (stop r ≡ s.startblock) × (r.refcount ≡ s.refcount)
continues-facts r s g g' e =
    let t : (eqb (stop r) s.startblock && eqb r.refcount s.refcount) ≡ true = sym (continues-is r s g g') ∙ e in
    let h : eqb (stop r) s.startblock ≡ true = search conj in
    let k : eqb r.refcount s.refcount ≡ true = search conj in
    (omega tests, omega tests)

joined_at : (r s : Refcount) (b : ℕ) → (stop r ≡ s.startblock) × (r.refcount ≡ s.refcount) → within r.startblock (r.blockcount + s.blockcount) r.refcount b ≡ within r.startblock r.blockcount r.refcount b + within s.startblock s.blockcount s.refcount b
joined_at r s b h =
    rw (← h.1, ← h.0)
    (omega (
      arith,
      within-sum r.startblock (r.blockcount + s.blockcount) r.refcount b,
      within-sum r.startblock r.blockcount r.refcount b,
      within-sum (stop r) s.blockcount r.refcount b,
      ap (λ (k : ℕ). below k r.refcount b) (add_assoc r.startblock r.blockcount s.blockcount),
    ))

kind-joined : (r s : Refcount) → stop r ≡ s.startblock → r.refcount ≡ s.refcount → 0 < s.blockcount → OfKind r → OfKind s → OfKind (joined r s)
kind-joined r s a o n (shared p q) (shared p' q') = shared (omega arith) (omega arith)
kind-joined r s a o n (shared p q) (staged p' q' u') = shared (omega arith) (omega arith)
kind-joined r s a o n (staged p q u) (shared p' q') = shared (omega arith) (omega arith)
kind-joined r s a o n (staged p q u) (staged p' q' u') = staged (omega arith) (omega arith) (omega arith)

joined-from : (d : ℕ) (r s : Refcount) (l : List Refcount) → From d (r ∷ (s ∷ l)) → continues r s ≡ true → From d (joined r s ∷ l)
joined-from d r s l h e =
    let t = continues-facts r s h.0 h.2.0 e in
    ((omega (arith, h.0.0), kind-joined r s t.0 t.1 h.2.0.0 h.0.1 h.2.0.1), h.1, weaken (stop (joined r s)) (stop s) l (omega arith) h.2.2)

join_from-at : (d : ℕ) (r : Refcount) (l : List Refcount) (b : ℕ) → From d (r ∷ l) → at (join_from r l) b ≡ within r.startblock r.blockcount r.refcount b + at l b
unfolding at join_from
join_from-at d r [] b h = refl
join_from-at d r (s ∷ l) b h =
    split (continues r s)
    (λ e. rw e (omega (arith, join_from-at d (joined r s) l b (joined-from d r s l h e), joined_at r s b (continues-facts r s h.0 h.2.0 e))))
    (λ e. rw e (omega (arith, join_from-at (stop r) s l b h.2)))

pub join_all-at : (d : ℕ) (l : List Refcount) (b : ℕ) → From d l → at (join_all l) b ≡ at l b
unfolding join_all at
join_all-at d [] b h = refl
join_all-at d (r ∷ l) b h = join_from-at d r l b h

-- ---- acceptance

pub kind-piece : (r : Refcount) (a z : ℕ) → OfKind r → r.startblock ≤ a → a < z → z ≤ stop r → OfKind (record { startblock = a; blockcount = z - a; refcount = r.refcount })
kind-piece r a z (shared p q) h k t = shared (omega arith) q
kind-piece r a z (staged p q u) h k t = staged (omega arith) (omega arith) u

kind-middle : (r : Refcount) (a z : ℕ) → OfKind r → r.startblock ≤ a → a < z → z ≤ stop r → leb r.refcount 2 ≡ false → OfKind (record { startblock = a; blockcount = z - a; refcount = r.refcount - 1 })
kind-middle r a z (shared p q) h k t f = shared (omega arith) (omega tests)
kind-middle r a z (staged p q u) h k t f = shared (omega tests) (omega tests)

pub piece-from : (d a z n : ℕ) (m : List Refcount) → d ≤ a → a ≤ z → (a < z → OfKind (record { startblock = a; blockcount = z - a; refcount = n })) → From z m → From d (piece a z n ++ m)
unfolding piece
piece-from d a z n m h k f g =
    split (ltb a z)
    (λ e. rw e ((omega tests, f (omega tests)), h, weaken (a + (z - a)) z m (omega arith) g))
    (λ e. rw e (weaken d z m (omega arith) g))

middle-from : (d : ℕ) (r : Refcount) (a z : ℕ) (m : List Refcount) → OfKind r → d ≤ a → r.startblock ≤ a → a ≤ z → z ≤ stop r → From z m → From d (middle a z r.refcount ++ m)
unfolding share fewer
middle-from d r a z m k h p q t g =
    split (leb r.refcount 2)
    (λ e. rw e (weaken d z m (omega arith) g))
    (λ e. rw (e, ne_eqb (r.refcount - 1) 0 (omega tests)) (piece-from d a z (r.refcount - 1) m h q (λ u. kind-middle r a z k p u t e) g))

lowered-from : (d s e : ℕ) (r : Refcount) (m : List Refcount) → s ≤ e → d ≤ r.startblock → Good r → From (stop r) m → From d (lowered s e r ++ m)
unfolding lowered clamp
lowered-from d s e r m h p g k =
    simp append_assoc
    (piece-from d r.startblock (clamp r s) r.refcount _ p (omega arith) (λ u. kind-piece r r.startblock (clamp r s) g.1 (omega arith) u (omega arith))
    (middle-from (clamp r s) r (clamp r s) (clamp r e) _ g.1 (omega arith) (omega arith) (omega arith) (omega arith)
    (piece-from (clamp r e) (clamp r e) (stop r) r.refcount m (omega arith) (omega arith) (λ u. kind-piece r (clamp r e) (stop r) g.1 (omega arith) u (omega arith)) k)))

lower_all-from : (d s e : ℕ) (l : List Refcount) → s ≤ e → e ≤ 2 ^ 31 → From d l → From d (lower_all s e l)
unfolding lower_all
lower_all-from d s e [] h t k = tt
lower_all-from d s e (r ∷ l) h t k =
    rw (lower-one s e r h t k.0) (lowered-from d s e r (lower_all s e l) h k.1 k.0 (lower_all-from (stop r) s e l h t k.2))

join_from-from : (d : ℕ) (r : Refcount) (l : List Refcount) → From d (r ∷ l) → From d (join_from r l)
unfolding join_from
join_from-from d r [] h = h
join_from-from d r (s ∷ l) h =
    split (continues r s)
    (λ e. rw e (join_from-from d (joined r s) l (joined-from d r s l h e)))
    (λ e. rw e (h.0, h.1, join_from-from (stop r) s l h.2))

pub join_all-from : (d : ℕ) (l : List Refcount) → From d l → From d (join_all l)
unfolding join_all
join_all-from d [] h = tt
join_all-from d (r ∷ l) h = join_from-from d r l h

pub release-from : (s e : ℕ) (l : List Refcount) → s ≤ e → e ≤ 2 ^ 31 → Accepted l → Accepted (release s e l)
release-from s e l h t k = join_all-from 0 (lower_all s e l) (lower_all-from 0 s e l h t k)

pub release-at : (s e : ℕ) (l : List Refcount) (b : ℕ) → s ≤ e → e ≤ 2 ^ 31 → Accepted l → at (release s e l) b ≡ lower s e b (at l b)
release-at s e l b h t k = join_all-at 0 (lower_all s e l) b (lower_all-from 0 s e l h t k) ∙ lower_all-at s e 0 l b h t k

-- ---- owners over each block

pub owners-left : (e : ℕ) (l : List Refcount) (b : ℕ) → From e l → b < e → owners l b ≡ 0
unfolding owners
owners-left e [] b h p = refl
owners-left e (r ∷ l) b h p =
    split (staging r)
    (λ f. rw f (omega (arith, owners-left (stop r) l b h.2 (omega arith))))
    (λ f. rw f (omega (arith, within-left r.startblock r.blockcount r.refcount b (omega arith), owners-left (stop r) l b h.2 (omega arith))))

pub kind-end : (r : Refcount) → OfKind r → staging r ≡ false → stop r ≤ 2 ^ 31
unfolding staging
kind-end r (shared p q) e = p
kind-end r (staged p q t) e = omega tests

pub kind-owners : (r : Refcount) → OfKind r → staging r ≡ false → 2 ≤ r.refcount
unfolding staging
kind-owners r (shared p q) e = q
kind-owners r (staged p q t) e = omega tests

pub owners-high : (e : ℕ) (l : List Refcount) (b : ℕ) → From e l → 2 ^ 31 ≤ b → owners l b ≡ 0
unfolding owners
owners-high e [] b h p = refl
owners-high e (r ∷ l) b h p =
    split (staging r)
    (λ f. rw f (omega (arith, owners-high (stop r) l b h.2 p)))
    (λ f. let k : stop r ≤ 2 ^ 31 = kind-end r h.0.1 f in
    rw f (omega (arith, within-right r.startblock r.blockcount r.refcount b (omega arith), owners-high (stop r) l b h.2 p)))

-- one fewer over the blocks from s up to e, none where there were two, and as many elsewhere
pub release-owners : (s e : ℕ) (l : List Refcount) (b : ℕ) → s ≤ e → e ≤ 2 ^ 31 → Accepted l → owners (release s e l) b ≡ lower s e b (owners l b)
release-owners s e l b h t k =
    split (ltb b (2 ^ 31))
    (λ f. let p : b < 2 ^ 31 = omega tests in rw (owners-at (release s e l) b p, owners-at l b p) (release-at s e l b h t k))
    (λ f. let p : 2 ^ 31 ≤ b = omega tests in
    rw (owners-high 0 (release s e l) b (release-from s e l h t k) p, owners-high 0 l b k p, lower-zero) refl)
