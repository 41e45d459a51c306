-- The exits of a raise, in the order of its questions, and what the second step may take from the first.
-- Assumes nothing.
use Prim.Native.Nat.{ℕ, ◌+◌, ◌≤◌}
use native.Mathlib.Omega.{arith}
use mathlib.Core.Path.{◌≡◌, refl}
use mathlib.Core.Bool.{true}
use mathlib.Core.List.{List}
use lib.ListN.{length}
use Rattle.codec.specs.Question.{none, Values, Outcome, done, refused}
use Rattle.codec.specs.Records.{records_of, bytes_of, refcounts}
use Rattle.codec.specs.Accepted.{whole}
use Rattle.codec.specs.Refcounts.{accepted}
use Rattle.codec.specs.declared.refcount.Refcount.{Refcount}
use Rattle.lists.specs.Extent.{good_extent}
use Rattle.lists.specs.Release.{clear}
use Rattle.lists.specs.Raise.{raise, owners_fit, raise_outcome, Raisable}
use Rattle.lists.specs.Answer.{length_of}
use Rattle.lists.proofs.Cases.{split}
use Rattle.lists.proofs.Staged.{good-end}

module _ (b : List ℕ) (start count : ℕ) where
  abbrev l : List Refcount
  l = records_of refcounts b

  -- ---- what the first step said

  pub raise-refused : (n : ℕ) (v : Values) → refused n v ≡ length_of refcounts (raise_outcome b start count) → raise_outcome b start count ≡ refused n v
  raise-refused n v e = go (raise_outcome b start count) e
    where
      go : (o : Outcome (List Refcount)) → refused n v ≡ length_of refcounts o → o ≡ refused n v
      go (done m) e = absurd (let y : ◌≡◌ {A = ℕ} 0 1 = cc in omega arith)
      go (refused m w) e = let f : ◌≡◌ {A = Outcome ℕ} (refused n v) (refused m w) = e in cc

  -- every question holds, and n is the length
  pub record Measured (n : ℕ) : Type 0 where
    pub accepted : accepted l ≡ true
    pub extent : good_extent start count ≡ true
    pub clear : clear start (start + count) l ≡ true
    pub owners : owners_fit start (start + count) l ≡ true
    pub outcome : raise_outcome b start count ≡ done (raise start (start + count) l)
    pub size : n ≡ length (bytes_of refcounts (raise start (start + count) l))

  module _ (n : ℕ) (e : done n ≡ length_of refcounts (raise_outcome b start count)) where
    never : {P : Type 0} (m : ℕ) → ◌≡◌ {A = Outcome ℕ} (done n) (refused m none) → P
    never m f = absurd (let y : ◌≡◌ {A = ℕ} 0 1 = cc in omega arith)

    pub raise-measured : Measured n
    unfolding raise_outcome
    raise-measured =
        split (whole 12 b)
        (λ p. split (accepted l)
        (λ q. split (good_extent start count)
        (λ g. split (clear start (start + count) l)
        (λ k. split (owners_fit start (start + count) l)
        (λ o. let f : ◌≡◌ {A = Outcome ℕ} (done n) (done (length (bytes_of refcounts (raise start (start + count) l)))) = rw (p, q, g, k, o) at e in
        record { accepted = q; extent = g; clear = k; owners = o; outcome = rw (p, q, g, k, o) refl; size = cc })
        (λ o. never 28 (rw (p, q, g, k, o) at e)))
        (λ k. never 25 (rw (p, q, g, k) at e)))
        (λ g. never 22 (rw (p, q, g) at e)))
        (λ q. never 21 (rw (p, q) at e)))
        (λ p. never 19 (rw p at e))

    -- what the second step needs, where the new counts fit
    pub raisable : (room : ℕ) → n ≤ room → Raisable l start count room
    raisable room h =
        let m = raise-measured in
        record { end = good-end start count m.extent; accepted = m.accepted; clear = m.clear; owners = m.owners; counts = omega (arith, m.size) }
