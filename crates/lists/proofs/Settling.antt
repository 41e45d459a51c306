-- After a release or a raise no record continues its predecessor, and staging lies over the same blocks as before.
-- Assumes nothing.
use Prim.Native.Nat.{ℕ, ◌+◌, ◌%◌, ◌^◌, ◌≤◌, ◌<◌}
use mathlib.Core.Bool.{true, false, ◌&&◌, ◌||◌}
use mathlib.Core.Path.{◌≡◌, refl, sym, ap, subst, ◌∙◌}
use mathlib.Core.List.{List, [], ◌∷◌}
use native.Mathlib.Omega.{arith}
use native.Mathlib.Nat.{zero-add}
use lib.Dec.{ltb, leb}
use borrow.Author.Tests.{lt-ltb, le-ltb, le-leb, lt-leb}
use Rattle.codec.specs.Question.{done}
use Rattle.codec.specs.Bytes as bytes
use Rattle.codec.specs.Accepted as accepted
use Rattle.codec.specs.Records as records
use Rattle.codec.specs.Records.{records_of, bytes_of, AllStorable, refcounts}
use Rattle.codec.specs.Refcounts as refcount
use Rattle.codec.specs.Refcounts.{staging, block}
use Rattle.codec.specs.declared.refcount.Refcount.{Refcount}
use Rattle.codec.proofs.RecordKinds.{refcounts-lawful}
use Rattle.codec.proofs.ListBytes.{storable-records_of, IsBytes-bytes_of}
use Rattle.lists.specs.Extent as extent
use Rattle.lists.specs.Extent.{over, within, good_extent}
use Rattle.lists.specs.Release.{owners, clear, stop, piece, share, fewer, clamp, lowered, lower_all, same_kind, continues, joined, join_from, join_all, release}
use Rattle.lists.specs.Raise.{raised, raise_all, raise, full, owners_fit, raise_outcome}
use Rattle.lists.specs.Edits.{Freed, release_outcome}
use Rattle.lists.specs.Settled.{PartedFrom, Parted, staged, Settled, EveryRelease, EveryRaise}
use Rattle.lists.proofs.Done.{release-done, raise-done}
use Rattle.lists.proofs.Cases.{split, tests, over-facts, facts-over, within_in, within-right, within-not}
use Rattle.lists.proofs.Counts as C
use Rattle.lists.proofs.Counts.{OfKind, From, at, lower, release-at, release-from}
use Rattle.lists.proofs.Raising.{lift-high, raise-at, raise-from}

-- ---- joins

-- what is joined to r begins where r does, with as many owners
parted-from : (q r : Refcount) (l : List Refcount) → continues q r ≡ false → PartedFrom q (join_from r l)
unfolding join_from
parted-from q r [] h = (h, tt)
parted-from q r (s ∷ l) h =
    split (continues r s)
    (λ e. rw e (parted-from q (joined r s) l (joined-starts q r s h)))
    (λ e. rw e (h, parted-from r s l e))
  where
    joined-starts : (q r s : Refcount) → continues q r ≡ false → continues q (joined r s) ≡ false
    joined-starts q r s h = unfold continues same_kind staging in h

-- the same of the first
parted-first : (r : Refcount) (l : List Refcount) → Parted (join_from r l)
unfolding join_from
parted-first r [] = tt
parted-first r (s ∷ l) = split (continues r s) (λ e. rw e (parted-first (joined r s) l)) (λ e. rw e (parted-from r s l e))

-- whatever the records are
pub parted-join_all : (l : List Refcount) → Parted (join_all l)
unfolding join_all
parted-join_all [] = tt
parted-join_all (r ∷ l) = parted-first r l

pub parted-release : (s e : ℕ) (l : List Refcount) → Parted (release s e l)
parted-release s e l = parted-join_all (lower_all s e l)

pub parted-raise : (s e : ℕ) (l : List Refcount) → Parted (raise s e l)
parted-raise s e l = parted-join_all (raise_all s e l)

-- ---- staging: what lies from 2^31 on

-- one record, by its kind
staged-kind : (r : Refcount) (b : ℕ) → 0 < r.blockcount → OfKind r → (staging r && over (block r) r.blockcount b) ≡ ltb 0 (within r.startblock r.blockcount r.refcount (2 ^ 31 + b))
unfolding staging
staged-kind r b n (C.shared p q) =
    rw (lt-leb (2 ^ 31) r.startblock (omega arith), within-right r.startblock r.blockcount r.refcount (2 ^ 31 + b) (omega arith)) refl
staged-kind r b n (C.staged p q t) =
    let m : r.startblock % 2 ^ 31 + 2 ^ 31 ≡ r.startblock = omega arith in
    rw (le-leb (2 ^ 31) r.startblock p)
    (split (over (block r) r.blockcount b)
    (λ e. let k = over-facts (block r) r.blockcount b e in
    rw (e, within_in r.startblock r.blockcount r.refcount (2 ^ 31 + b) (omega arith) (omega arith), t) refl)
    (λ e. rw (e, outside e m) refl))
  where
    outside : over (block r) r.blockcount b ≡ false → r.startblock % 2 ^ 31 + 2 ^ 31 ≡ r.startblock
        → within r.startblock r.blockcount r.refcount (2 ^ 31 + b) ≡ 0
    outside e m =
        split (over r.startblock r.blockcount (2 ^ 31 + b))
        (λ f. let k = over-facts r.startblock r.blockcount (2 ^ 31 + b) f in
        let g : over (block r) r.blockcount b ≡ true = facts-over (block r) r.blockcount b (omega arith) (omega arith) in
        cc)
        (λ f. within-not r.startblock r.blockcount r.refcount (2 ^ 31 + b) f)

-- the sum of two numbers is above 0 where one of them is
some-sum : (x y : ℕ) → ltb 0 (x + y) ≡ (ltb 0 x || ltb 0 y)
some-sum x y =
    split (ltb 0 x)
    (λ e. rw (e, lt-ltb 0 (x + y) (omega tests)) refl)
    (λ e. let q : x ≡ 0 = omega tests in rw (q, zero-add y) refl)

pub staged-at : (d : ℕ) (l : List Refcount) (b : ℕ) → From d l → staged l b ≡ ltb 0 (at l (2 ^ 31 + b))
unfolding staged at
staged-at d [] b h = refl
staged-at d (r ∷ l) b h =
    rw (some-sum (within r.startblock r.blockcount r.refcount (2 ^ 31 + b)) (at l (2 ^ 31 + b)), staged-kind r b h.0.0 h.0.1, staged-at (stop r) l b h.2)
    refl

-- an edit that leaves the places from 2^31 on as they are leaves staging so
staged-same : (l m : List Refcount) → C.Accepted l → C.Accepted m → ((b : ℕ) → 2 ^ 31 ≤ b → at m b ≡ at l b) → (b : ℕ) → staged m b ≡ staged l b
staged-same l m hl hm h b = staged-at 0 m b hm ∙ ap (ltb 0) (h (2 ^ 31 + b) (omega arith)) ∙ sym (staged-at 0 l b hl)

lower_high : (s e b n : ℕ) → e ≤ b → lower s e b n ≡ n
unfolding lower
lower_high s e b n h = split (leb s b) (λ p. rw (p, le-ltb b e h) refl) (λ p. rw p refl)

-- ---- both edits

module _ (start count : ℕ) (l : List Refcount) (end : start + count ≤ 2 ^ 31) (order : refcount.accepted l ≡ true) (stored : AllStorable refcounts l) where
  facts : C.Accepted l
  facts = C.accepted-facts l stored order

  pub release-settles : Settled l (release start (start + count) l)
  release-settles =
      record {
        joined = parted-release start (start + count) l;
        staging =
            staged-same l (release start (start + count) l) facts (release-from start (start + count) l (omega arith) end facts)
            (λ b h. release-at start (start + count) l b (omega arith) end facts ∙ lower_high start (start + count) b (at l b) (omega arith));
      }

  pub raise-settles : Settled l (raise start (start + count) l)
  raise-settles =
      record {
        joined = parted-raise start (start + count) l;
        staging =
            staged-same l (raise start (start + count) l) facts (raise-from start (start + count) l (omega arith) end facts)
            (λ b h. raise-at start (start + count) l b (omega arith) end facts ∙ lift-high start (start + count) b (at l b) (omega arith));
      }

-- ---- over lent bytes

pub release-settled : EveryRelease
release-settled c start count room free_room r h e =
    let l : List Refcount = records_of refcounts c in
    let q = release-done c start count room free_room r e in
    subst (λ (r : Freed). Settled l r.counts) q.2
    (release-settles start count l q.0 q.1 (storable-records_of refcounts refcounts-lawful c h))

pub raise-settled : EveryRaise
raise-settled c start count m h e =
    let l : List Refcount = records_of refcounts c in
    let q = raise-done c start count m e in
    subst (Settled l) q.3 (raise-settles start count l q.0 q.1 (storable-records_of refcounts refcounts-lawful c h))

-- ---- instances

-- start / count / owners
abbrev pub count_of : ℕ → ℕ → ℕ → Refcount
count_of s c n = record { startblock = s; blockcount = c; refcount = n }

-- 0/4/3 and 4/4/2, and staging over blocks 20 and 21 in two records
abbrev before : List Refcount
before = count_of 0 4 3 ∷ count_of 4 4 2 ∷ count_of (2 ^ 31 + 20) 1 1 ∷ count_of (2 ^ 31 + 21) 1 1 ∷ []

-- 0/4 let go: 0/8/2, and the staging joined
abbrev after : List Refcount
after = count_of 0 8 2 ∷ count_of (2 ^ 31 + 20) 2 1 ∷ []

row : release_outcome (bytes_of refcounts before) 0 4 24 0 ≡ done (record { counts = after; free = [] })
unfolding release_outcome good_extent bytes.be_of bytes.be_bytes records.fields_of records.field_bytes records.first_records records.records_of records.bytes_of accepted.whole accepted.in_order refcount.staging refcount.good refcount.follows over within extent.grow extent.runs owners clear piece share fewer clamp lowered lower_all same_kind continues join_from join_all
row = refl

pub row_settled : Settled (records_of refcounts (bytes_of refcounts before)) after
row_settled = release-settled (bytes_of refcounts before) 0 4 24 0 (record { counts = after; free = [] }) (IsBytes-bytes_of refcounts refcounts-lawful before) row

-- 4/4 of what is left taken once more: 0/4/2, 4/4/3, and staging as it was
abbrev lifted : List Refcount
lifted = count_of 0 4 2 ∷ count_of 4 4 3 ∷ count_of (2 ^ 31 + 20) 2 1 ∷ []

raise-row : raise_outcome (bytes_of refcounts after) 4 4 ≡ done lifted
unfolding raise_outcome good_extent bytes.be_of bytes.be_bytes records.fields_of records.field_bytes records.first_records records.records_of records.bytes_of accepted.whole accepted.in_order refcount.staging refcount.good refcount.follows over within clear piece clamp same_kind continues join_from join_all raised raise_all full owners_fit
raise-row = refl

pub raise-row-settled : Settled (records_of refcounts (bytes_of refcounts after)) lifted
raise-row-settled = raise-settled (bytes_of refcounts after) 4 4 lifted (IsBytes-bytes_of refcounts refcounts-lawful after) raise-row
