-- The exits of a release, in the order of its questions.
-- Assumes nothing.
use Prim.Native.Nat.{ℕ, ◌+◌, ◌^◌, ◌≤◌, ◌<◌}
use native.Mathlib.Omega.{arith}
use mathlib.Core.Path.{◌≡◌, refl, ap}
use mathlib.Core.Bool.{true, false, cond, ◌&&◌, and-false}
use mathlib.Core.List.{List}
use lib.Dec.{ltb, leb}
use lib.ListN.{length}
use borrow.Author.Tests.{le-leb, lt-leb}
use Rattle.codec.specs.Bytes.{with_bytes}
use Rattle.codec.specs.Question.{none, Outcome, done, refused}
use Rattle.codec.specs.Records.{records_of, bytes_of, refcounts, free_extents}
use Rattle.codec.specs.Accepted.{whole}
use Rattle.codec.specs.Refcounts.{accepted}
use Rattle.codec.specs.declared.refcount.Refcount.{Refcount}
use Rattle.lists.specs.declared.EditRefusal.{EditRefusal}
use Rattle.lists.specs.declared.EditRefusal.TheVariants as why
use Rattle.lists.specs.declared.Lengths.{Lengths}
use Rattle.std.specs.Prelude.{Result, Ok, Err}
use Rattle.lists.specs.Extent.{good_extent}
use Rattle.lists.specs.Release.{clear, release, unshared}
use Rattle.lists.specs.Edits.{Freed, fits, release_outcome, written, freed}
use Rattle.lists.specs.Answer.{released_outcome, lengths_of, ReleaseIs}
use Rattle.lists.specs.Steps.{measure_outcome, Writable}
use Rattle.lists.proofs.Cases.{split, tests, conj}

module _ (b : List ℕ) (start count : ℕ) where
  abbrev l : List Refcount
  l = records_of refcounts b

  -- ---- 26

  abbrev fitted : Outcome Freed → ℕ → ℕ → Outcome Freed
  fitted (refused n v) room free_room = refused n v
  fitted (done f) room free_room = cond (fits refcounts f.counts room && fits free_extents f.free free_room) (done f) (refused 26 none)

  release-fitted : (room free_room : ℕ) → release_outcome b start count room free_room ≡ fitted (measure_outcome b start count) room free_room
  unfolding release_outcome measure_outcome
  release-fitted room free_room =
      split (whole 12 b)
      (λ p. split (accepted l)
      (λ q. split (good_extent start count)
      (λ g. split (clear start (start + count) l) (λ k. rw (p, q, g, k) refl) (λ k. rw (p, q, g, k) refl))
      (λ g. rw (p, q, g) refl))
      (λ q. rw (p, q) refl))
      (λ p. rw p refl)

  module _ (new free : List ℕ) where
    abbrev outcome : Outcome Freed
    outcome = release_outcome b start count (length new) (length free)

    abbrev pub Tells : Result Lengths EditRefusal → (new' free' : List ℕ) → Type 0
    Tells r new' free' = ReleaseIs outcome r new new' free free'

    by-fitted : (r : Result Lengths EditRefusal) (new' free' : List ℕ) → ReleaseIs (fitted (measure_outcome b start count) (length new) (length free)) r new new' free free' → Tells r new' free'
    by-fitted r new' free' h = rw (release-fitted (length new) (length free)) h

    pub tells-refused : (q : EditRefusal) → released_outcome (Err q) ≡ lengths_of (measure_outcome b start count) → Tells (Err q) new free
    unfolding written
    tells-refused q e = by-fitted (Err q) new free (go (measure_outcome b start count) e)
      where
        go : (o : Outcome Freed) → released_outcome (Err q) ≡ lengths_of o → ReleaseIs (fitted o (length new) (length free)) (Err q) new new free free
        go (refused n v) e = record { said = e; counts = refl; extents = refl }
        go (done f) e = absurd (let y : ◌≡◌ {A = ℕ} 0 1 = cc in omega arith)

    module _ (m : Lengths) (e : released_outcome (Ok m) ≡ lengths_of (measure_outcome b start count)) where
      -- all questions of the first step hold
      held : (accepted l ≡ true) × (good_extent start count ≡ true) × (clear start (start + count) l ≡ true) × (measure_outcome b start count ≡ done (freed l start count))
      unfolding measure_outcome
      held =
          split (whole 12 b)
          (λ p. split (accepted l)
          (λ q. split (good_extent start count)
          (λ g. split (clear start (start + count) l)
          (λ k. rw (p, q, g, k) (refl, refl, refl, refl))
          (λ k. let f : ◌≡◌ {A = Outcome Lengths} (done m) (refused 25 none) = rw (p, q, g, k) at e in absurd (let y : ◌≡◌ {A = ℕ} 0 1 = cc in omega arith)))
          (λ g. let f : ◌≡◌ {A = Outcome Lengths} (done m) (refused 22 none) = rw (p, q, g) at e in absurd (let y : ◌≡◌ {A = ℕ} 0 1 = cc in omega arith)))
          (λ q. let f : ◌≡◌ {A = Outcome Lengths} (done m) (refused 21 none) = rw (p, q) at e in absurd (let y : ◌≡◌ {A = ℕ} 0 1 = cc in omega arith)))
          (λ p. let f : ◌≡◌ {A = Outcome Lengths} (done m) (refused 19 none) = rw p at e in absurd (let y : ◌≡◌ {A = ℕ} 0 1 = cc in omega arith))

      measured : measure_outcome b start count ≡ done (freed l start count)
      measured = held.3

      lengths : (m.counts ≡ length (bytes_of refcounts (release start (start + count) l))) × (m.free ≡ length (bytes_of free_extents (unshared l start count)))
      lengths = let f : ◌≡◌ {A = Outcome Lengths} (done m) (lengths_of (done (freed l start count))) = rw measured at e in (ap-counts f, ap-free f)
        where
          ap-counts : (done m ≡ lengths_of (done (freed l start count))) → m.counts ≡ length (bytes_of refcounts (release start (start + count) l))
          ap-counts f = let g : m ≡ record { counts = length (bytes_of refcounts (release start (start + count) l)); free = length (bytes_of free_extents (unshared l start count)) } = cc in ap (λ (k : Lengths). k.counts) g

          ap-free : (done m ≡ lengths_of (done (freed l start count))) → m.free ≡ length (bytes_of free_extents (unshared l start count))
          ap-free f = let g : m ≡ record { counts = length (bytes_of refcounts (release start (start + count) l)); free = length (bytes_of free_extents (unshared l start count)) } = cc in ap (λ (k : Lengths). k.free) g

      pub writable : m.counts ≤ length new → m.free ≤ length free → Writable l start count (length new) (length free)
      unfolding good_extent
      writable h k =
          let t : (ltb 0 count && leb (start + count) (2 ^ 31)) ≡ true = held.1 in
          let u : leb (start + count) (2 ^ 31) ≡ true = search conj in
          record { end = omega tests; accepted = held.0; clear = held.2; counts = omega (arith, lengths.0); free = omega (arith, lengths.1) }

      tells-room : (leb m.counts (length new) && leb m.free (length free)) ≡ false → Tells (Err why.Room) new free
      unfolding written
      tells-room h =
          let t : (leb (length (bytes_of refcounts (release start (start + count) l))) (length new) && leb (length (bytes_of free_extents (unshared l start count))) (length free)) ≡ false =
          rw (← lengths.0, ← lengths.1) h in
          by-fitted (Err why.Room) new free (rw (measured, t) (record { said = refl; counts = refl; extents = refl }))

      pub tells-short : length new < m.counts → Tells (Err why.Room) new free
      tells-short h = tells-room (rw (lt-leb m.counts (length new) h) refl)

      pub tells-short-free : length free < m.free → Tells (Err why.Room) new free
      tells-short-free h = tells-room (rw (lt-leb m.free (length free) h) (and-false (leb m.counts (length new))))

      pub tells-done : m.counts ≤ length new → m.free ≤ length free → (new' free' : List ℕ)
          → new' ≡ with_bytes new 0 (bytes_of refcounts (release start (start + count) l))
          → free' ≡ with_bytes free 0 (bytes_of free_extents (unshared l start count))
          → Tells (Ok m) new' free'
      unfolding written
      tells-done h k new' free' p q =
          by-fitted (Ok m) new' free'
          (rw (measured, le-leb _ (length new) (rw lengths.0 at h), le-leb _ (length free) (rw lengths.1 at k)) (record { said = rw measured at e; counts = p; extents = q }))
