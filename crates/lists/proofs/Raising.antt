-- The owners over each block before and after a raise; and that a raise keeps 21 and can be stored.
-- Assumes nothing.
use Prim.Native.Nat.{ℕ, suc, ◌+◌, ◌-◌, ◌^◌, ◌≤◌, ◌<◌, min, max}
use mathlib.Core.Bool.{Bool, true, false, not, cond, ◌&&◌}
use mathlib.Core.Path.{◌≡◌, refl, sym, subst, ◌∙◌}
use mathlib.Core.List.{List, [], ◌∷◌, ◌++◌, append_assoc, append-nil}
use native.Mathlib.Omega.{arith}
use native.Mathlib.Nat.{add-zero, zero-add}
use lib.Dec.{ltb, leb, eqb}
use borrow.Author.Tests.{le-ltb, le-leb, lt-leb, ne_eqb}
use Rattle.codec.specs.Bytes.{IsBytes}
use Rattle.codec.specs.Question.{done}
use Rattle.codec.specs.Records.{records_of, AllStorable, refcounts}
use Rattle.codec.specs.Refcounts as refcount
use Rattle.codec.specs.Refcounts.{staging}
use Rattle.codec.specs.declared.refcount.Refcount.{Refcount}
use Rattle.codec.proofs.RecordKinds.{refcounts-lawful}
use Rattle.codec.proofs.ListBytes.{storable-records_of}
use Rattle.lists.specs.Extent.{over, within}
use Rattle.lists.specs.Release.{owners, stop, piece, clamp}
use Rattle.lists.specs.Raise.{raised, raise_all, raise, full, owners_fit, raise_outcome}
use Rattle.lists.proofs.Done.{raise-done}
use Rattle.lists.proofs.Cases.{split, tests, conj, not-false, within_in, within-left, within-right}
use Rattle.lists.proofs.Counts.{OfKind, shared, staged, Good, From, Accepted, accepted-facts, facts-accepted, weaken, at, at-append, at_left, owners-at, owners-high, piece-in, piece-left, piece-right, clamp-before, piece-whole, piece-empty, staging-start, kind-piece, join_all-at, join_all-from, piece-from}
use Rattle.lists.proofs.Fits.{All, all_append, Narrow, narrow-piece, narrow-join_all, storable-narrow, narrow-storable}

-- the owners at block b after it
unfoldable pub lift : ℕ → ℕ → ℕ → ℕ → ℕ
lift a e b n = cond (leb a b && ltb b e) (cond (eqb n 0) 2 (n + 1)) n

raised-sum : (s e : ℕ) (r : Refcount) (b : ℕ) → at (raised s e r) b ≡ at (piece r.startblock (clamp r s) r.refcount) b + (at (piece (clamp r s) (clamp r e) (r.refcount + 1)) b + at (piece (clamp r e) (stop r) r.refcount) b)
unfolding raised
raised-sum s e r b = rw (at-append, at-append (piece (clamp r s) (clamp r e) (r.refcount + 1)) (piece (clamp r e) (stop r) r.refcount) b) refl

-- by where b lies
lift-out : (a e b n : ℕ) → b < a → lift a e b n ≡ n
unfolding lift
lift-out a e b n h = rw (lt-leb a b h) refl

raised-left : (s e : ℕ) (r : Refcount) (b : ℕ) → b < r.startblock → at (raised s e r) b ≡ 0
unfolding clamp
raised-left s e r b h = omega (arith, raised-sum s e r b, piece-left r.startblock (clamp r s) r.refcount b h, piece-left (clamp r s) (clamp r e) (r.refcount + 1) b (omega arith), piece-left (clamp r e) (stop r) r.refcount b (omega arith))

raised-right : (s e : ℕ) (r : Refcount) (b : ℕ) → stop r ≤ b → at (raised s e r) b ≡ 0
unfolding clamp
raised-right s e r b h = omega (arith, raised-sum s e r b, piece-right r.startblock (clamp r s) r.refcount b (omega arith), piece-right (clamp r s) (clamp r e) (r.refcount + 1) b (omega arith), piece-right (clamp r e) (stop r) r.refcount b h)

raised-in : (s e : ℕ) (r : Refcount) (b : ℕ) → s ≤ max e r.startblock → r.startblock ≤ b → b < stop r → 0 < r.refcount → at (raised s e r) b ≡ lift s e b r.refcount
unfolding clamp lift
raised-in s e r b h u v n =
    split (leb s b)
    (λ p. split (ltb b e)
    (λ q. rw (p, q, ne_eqb r.refcount 0 (omega arith)) (omega (arith, raised-sum s e r b, piece-right r.startblock (clamp r s) r.refcount b (omega tests), piece-in (clamp r s) (clamp r e) (r.refcount + 1) b (omega tests) (omega tests), piece-left (clamp r e) (stop r) r.refcount b (omega tests))))
    (λ q. rw (p, q) (omega (arith, raised-sum s e r b, piece-right r.startblock (clamp r s) r.refcount b (omega tests), piece-right (clamp r s) (clamp r e) (r.refcount + 1) b (omega tests), piece-in (clamp r e) (stop r) r.refcount b (omega tests) (omega tests)))))
    (λ p. rw p (omega (arith, raised-sum s e r b, piece-in r.startblock (clamp r s) r.refcount b (omega tests) (omega tests), piece-left (clamp r s) (clamp r e) (r.refcount + 1) b (omega tests), piece-left (clamp r e) (stop r) r.refcount b (omega tests))))

pub kind-some : (r : Refcount) → OfKind r → 0 < r.refcount
kind-some r (shared p q) = omega arith
kind-some r (staged p q t) = omega arith

gap_at : (a z e b : ℕ) → b < z → at (piece a (min z e) 2) b ≡ lift a e b 0
unfolding lift
gap_at a z e b h =
    split (leb a b)
    (λ p. split (ltb b e)
    (λ q. rw (p, q) (piece-in a (min z e) 2 b (omega tests) (omega tests)))
    (λ q. rw (p, q) (piece-right a (min z e) 2 b (omega tests))))
    (λ p. rw p (piece-left a (min z e) 2 b (omega tests)))

lift-max : (a d e b n : ℕ) → d ≤ b → lift (max a d) e b n ≡ lift a e b n
unfolding lift
lift-max a d e b n h =
    split (leb a b)
    (λ p. rw (p, le-leb (max a d) b (omega tests)) refl)
    (λ p. rw (p, lt-leb (max a d) b (omega tests)) refl)

-- ---- in the list's order

-- a raise record by record, staging too: an extent that ends by 2^31 does not reach a staging record
unfoldable pub raise_on : ℕ → ℕ → List Refcount → List Refcount
raise_on a e [] = piece a e 2
raise_on a e (r ∷ l) = piece a (min r.startblock e) 2 ++ (raised a e r ++ raise_on (max a (stop r)) e l)

raised-beyond : (a e : ℕ) (r : Refcount) → a ≤ r.startblock → e ≤ r.startblock → 0 < r.blockcount → raised a e r ≡ r ∷ []
unfolding raised
raised-beyond a e r h k n =
    rw (clamp-before r a h, clamp-before r e k, piece-empty r.startblock r.startblock r.refcount (omega arith), piece-empty r.startblock r.startblock (r.refcount + 1) (omega arith))
    (piece-whole r n)

beyond : (d a e : ℕ) (l : List Refcount) → e ≤ a → a ≤ d → From d l → raise_on a e l ≡ l
unfolding raise_on
beyond d a e [] h k g = piece-empty a e 2 h
beyond d a e (r ∷ l) h k g =
    rw (piece-empty a (min r.startblock e) 2 (omega arith), raised-beyond a e r (omega (arith, g.1)) (omega (arith, g.1)) g.0.0, beyond (stop r) (max a (stop r)) e l (omega arith) (omega (arith, g.1)) g.2)
    refl

-- a is a block of the extent, or no record that is left starts before it
pub raise_all-on : (d a e : ℕ) (l : List Refcount) → a ≤ max e d → e ≤ 2 ^ 31 → From d l → raise_all a e l ≡ raise_on a e l
unfolding raise_all raise_on
raise_all-on d a e [] h t g = refl
raise_all-on d a e (r ∷ l) h t g =
    split (staging r)
    (λ f. let p = staging-start r f in
    let q : min r.startblock e ≡ e = omega arith in
    rw (f, q, raised-beyond a e r (omega (arith, g.1)) (omega arith) g.0.0, beyond (stop r) (max a (stop r)) e l (omega arith) (omega (arith, g.1)) g.2) refl)
    (λ f. rw (f, raise_all-on (stop r) (max a (stop r)) e l (omega arith) t g.2) refl)

raise_all-at : (d a e : ℕ) (l : List Refcount) (b : ℕ) → a ≤ max e d → From d l → at (raise_on a e l) b ≡ lift a e b (at l b)
unfolding at raise_on
raise_all-at d a e [] b h g = let q : min (suc b + e) e ≡ e = omega arith in rw q at (gap_at a (suc b + e) e b (omega arith))
raise_all-at d a e (r ∷ l) b h g =
    let n : 0 < r.refcount = kind-some r g.0.1 in
    let i : at (raise_on (max a (stop r)) e l) b ≡ lift (max a (stop r)) e b (at l b) = raise_all-at (stop r) (max a (stop r)) e l b (omega arith) g.2 in
    rw (at-append, at-append (raised a e r) (raise_on (max a (stop r)) e l) b, i)
    (split (ltb b (stop r))
    (λ f. let z : at l b ≡ 0 = at_left (stop r) l b g.2 (omega tests) in
    rw (z, lift-out (max a (stop r)) e b 0 (omega tests))
    (split (ltb b r.startblock)
    (λ u. let w : within r.startblock r.blockcount r.refcount b ≡ 0 = within-left r.startblock r.blockcount r.refcount b (omega tests) in
    rw (w, gap_at a r.startblock e b (omega tests), raised-left a e r b (omega tests)) (omega arith))
    (λ u. let w : within r.startblock r.blockcount r.refcount b ≡ r.refcount = within_in r.startblock r.blockcount r.refcount b (omega tests) (omega tests) in
    rw (w, piece-right a (min r.startblock e) 2 b (omega tests), raised-in a e r b (omega arith) (omega tests) (omega tests) n, add-zero, add-zero) (zero-add _))))
    (λ f. let w : within r.startblock r.blockcount r.refcount b ≡ 0 = within-right r.startblock r.blockcount r.refcount b (omega tests) in
    rw (w, piece-right a (min r.startblock e) 2 b (omega tests), raised-right a e r b (omega tests), lift-max a (stop r) e b (at l b) (omega tests), zero-add) (rw (zero-add, zero-add) refl)))

-- ---- acceptance

kind-raised : (r : Refcount) (a z : ℕ) → OfKind r → r.startblock ≤ a → a < z → z ≤ stop r → a < 2 ^ 31 → OfKind (record { startblock = a; blockcount = z - a; refcount = r.refcount + 1 })
kind-raised r a z (shared p q) h k t u = shared (omega arith) (omega arith)
kind-raised r a z (staged p q w) h k t u = shared (omega arith) (omega arith)

raised-from : (d s e : ℕ) (r : Refcount) (m : List Refcount) → s ≤ max e r.startblock → e ≤ 2 ^ 31 → d ≤ r.startblock → Good r → From (stop r) m → From d (raised s e r ++ m)
unfolding raised clamp
raised-from d s e r m h b p g k =
    simp append_assoc
    (piece-from d r.startblock (clamp r s) r.refcount _ p (omega arith) (λ u. kind-piece r r.startblock (clamp r s) g.1 (omega arith) u (omega arith))
    (piece-from (clamp r s) (clamp r s) (clamp r e) (r.refcount + 1) _ (omega arith) (omega arith) (λ u. kind-raised r (clamp r s) (clamp r e) g.1 (omega arith) u (omega arith) (omega arith))
    (piece-from (clamp r e) (clamp r e) (stop r) r.refcount m (omega arith) (omega arith) (λ u. kind-piece r (clamp r e) (stop r) g.1 (omega arith) u (omega arith)) k)))

-- a gap before what follows
gap_from : (d a z : ℕ) (m : List Refcount) → d ≤ a → z ≤ 2 ^ 31 → From d m → From z m → From d (piece a z 2 ++ m)
unfolding piece
gap_from d a z m h b f g =
    split (ltb a z)
    (λ e. rw e ((omega tests, shared (omega tests) (omega arith)), h, weaken (a + (z - a)) z m (omega tests) g))
    (λ e. rw e f)

raise_all-from : (d a e : ℕ) (l : List Refcount) → d ≤ a → a ≤ max e d → e ≤ 2 ^ 31 → From d l → From d (raise_on a e l)
unfolding raise_on
raise_all-from d a e [] h k b g = rw append-nil at (gap_from d a e [] h b tt tt)
raise_all-from d a e (r ∷ l) h k b g =
    let m : List Refcount = raised a e r ++ raise_on (max a (stop r)) e l in
    let f : From r.startblock m = raised-from r.startblock a e r (raise_on (max a (stop r)) e l) (omega arith) b (omega arith) g.0 (raise_all-from (stop r) (max a (stop r)) e l (omega arith) (omega arith) b g.2) in
    gap_from d a (min r.startblock e) m h (omega arith) (weaken d r.startblock m g.1 f) (weaken (min r.startblock e) r.startblock m (omega arith) f)

-- ---- the whole raise

pub raise-from : (s e : ℕ) (l : List Refcount) → s ≤ e → e ≤ 2 ^ 31 → Accepted l → Accepted (raise s e l)
raise-from s e l h b k =
    rw (raise_all-on 0 s e l (omega arith) b k) (join_all-from 0 (raise_on s e l) (raise_all-from 0 s e l (omega arith) (omega arith) b k))

pub lift-high : (s e b n : ℕ) → e ≤ b → lift s e b n ≡ n
unfolding lift
lift-high s e b n h = split (leb s b) (λ p. rw (p, le-ltb b e h) refl) (λ p. rw p refl)

pub raise-at : (s e : ℕ) (l : List Refcount) (b : ℕ) → s ≤ e → e ≤ 2 ^ 31 → Accepted l → at (raise s e l) b ≡ lift s e b (at l b)
raise-at s e l b h t k =
    rw (raise_all-on 0 s e l (omega arith) t k)
    (join_all-at 0 (raise_on s e l) b (raise_all-from 0 s e l (omega arith) (omega arith) t k) ∙ raise_all-at 0 s e l b (omega arith) k)

pub raise-owners : (s e : ℕ) (l : List Refcount) (b : ℕ) → s ≤ e → e ≤ 2 ^ 31 → Accepted l → owners (raise s e l) b ≡ lift s e b (owners l b)
raise-owners s e l b h t k =
    split (ltb b (2 ^ 31))
    (λ f. let p : b < 2 ^ 31 = omega tests in rw (owners-at (raise s e l) b p, owners-at l b p) (raise-at s e l b h t k))
    (λ f. let p : 2 ^ 31 ≤ b = omega tests in rw (owners-high 0 (raise s e l) b (raise-from s e l h t k) p, owners-high 0 l b k p, lift-high s e b 0 (omega arith)) refl)

-- ---- 4 bytes hold the owners

-- a staging record is not full, and has one owner
abbrev pub full_at : ℕ → ℕ → Refcount → Bool
full_at s e r = leb (2 ^ 32 - 1) r.refcount && (ltb s (stop r) && ltb r.startblock e)

pub full_at_lem : (s e : ℕ) (r : Refcount) → Good r → full s e r ≡ full_at s e r
unfolding full refcount.staging
full_at_lem s e r (n, shared p q) = rw (lt-leb (2 ^ 31) r.startblock (omega arith)) refl
full_at_lem s e r (n, staged p q t) = rw (lt-leb (2 ^ 32 - 1) r.refcount (omega arith)) refl

-- by whether the extent meets the record
narrow-raised : (s e d a : ℕ) (r : Refcount) → s ≤ e → s ≤ a → a ≤ max s d → d ≤ r.startblock → full_at s e r ≡ false → Narrow r → All Narrow (raised a e r)
unfolding raised clamp piece
narrow-raised s e d a r h k p q f n =
    let m : List Refcount = piece (clamp r a) (clamp r e) (r.refcount + 1) in
    let b : List Refcount = piece (clamp r e) (stop r) r.refcount in
    all_append Narrow (piece r.startblock (clamp r a) r.refcount) (m ++ b) (narrow-piece r.startblock (clamp r a) r.refcount n)
    (all_append Narrow m b
    (split (leb (2 ^ 32 - 1) r.refcount)
    (λ g. split (ltb s (stop r))
    (λ u. let v : ltb r.startblock e ≡ false = rw (g, u) at f in rw (le-ltb (clamp r a) (clamp r e) (omega tests)) tt)
    (λ u. rw (le-ltb (clamp r a) (clamp r e) (omega tests)) tt))
    (λ g. narrow-piece (clamp r a) (clamp r e) (r.refcount + 1) (omega tests)))
    (narrow-piece (clamp r e) (stop r) r.refcount n))

narrow-raise_all : (s e d a : ℕ) (l : List Refcount) → s ≤ e → s ≤ a → a ≤ max s d → From d l → owners_fit s e l ≡ true → All Narrow l → All Narrow (raise_on a e l)
unfolding raise_on owners_fit
narrow-raise_all s e d a [] h k p g o n = narrow-piece a e 2 (omega arith)
narrow-raise_all s e d a (r ∷ l) h k p g o n =
    let u : not (full s e r) ≡ true = search conj in
    let v : owners_fit s e l ≡ true = search conj in
    let m : List Refcount = raise_on (max a (stop r)) e l in
    all_append Narrow (piece a (min r.startblock e) 2) (raised a e r ++ m) (narrow-piece a (min r.startblock e) 2 (omega arith))
    (all_append Narrow (raised a e r) m (narrow-raised s e d a r h k p g.1 (sym (full_at_lem s e r g.0) ∙ not-false (full s e r) u) n.0)
    (narrow-raise_all s e (stop r) (max a (stop r)) l h (omega arith) (omega arith) g.2 v n.1))

pub storable-raise : (s e : ℕ) (l : List Refcount) → s ≤ e → e ≤ 2 ^ 31 → Accepted l → owners_fit s e l ≡ true → AllStorable refcounts l → AllStorable refcounts (raise s e l)
storable-raise s e l h b g o k =
    narrow-storable 0 (raise s e l) (raise-from s e l h b g)
    (rw (raise_all-on 0 s e l (omega arith) b g)
    (narrow-join_all (raise_on s e l) (narrow-raise_all s e 0 s l h (omega arith) (omega arith) g o (storable-narrow l k))))

-- ---- what a raise does

-- one owner more of a block that is held: with no record it has one
unfoldable pub another : ℕ → ℕ
another n = cond (eqb n 0) 2 (n + 1)

-- m is l with the blocks of an extent, which are held, taken once more
pub record Lifted (start count : ℕ) (l m : List Refcount) : Type 0 where
  pub accepted : refcount.accepted m ≡ true
  pub stored : AllStorable refcounts m
  -- one owner more over each of its blocks, and as many over any other
  pub owned : (b : ℕ) → owners m b ≡ cond (over start count b) (another (owners l b)) (owners l b)

pub raise-lifts : (start count : ℕ) (l : List Refcount) → start + count ≤ 2 ^ 31 → refcount.accepted l ≡ true → owners_fit start (start + count) l ≡ true → AllStorable refcounts l
    → Lifted start count l (raise start (start + count) l)
unfolding lift over another
raise-lifts start count l h a o s =
    let k : Accepted l = accepted-facts l s a in
    let e : ℕ = start + count in
    record {
      accepted = facts-accepted (raise start e l) (raise-from start e l (omega arith) h k);
      stored = storable-raise start e l (omega arith) h k o s;
      owned = λ b. raise-owners start e l b (omega arith) h k;
    }

pub raise-law : (c : List ℕ) (start count : ℕ) (m : List Refcount) → IsBytes c → raise_outcome c start count ≡ done m → Lifted start count (records_of refcounts c) m
raise-law c start count m h e =
    let l : List Refcount = records_of refcounts c in
    let q = raise-done c start count m e in
    subst (Lifted start count l) q.3 (raise-lifts start count l q.0 q.1 q.2 (storable-records_of refcounts refcounts-lawful c h))
