-- Laws of the free extents as a pass over the counts finds them.
-- Assumes nothing.
use Prim.Native.Nat.{ℕ, ◌+◌, ◌-◌, ◌*◌, ◌≤◌, ◌<◌, min, max}
use native.Mathlib.Omega.{arith}
use mathlib.Core.Path.{◌≡◌, refl, sym, ap}
use mathlib.Core.Bool.{Bool, true}
use mathlib.Core.List.{List, [], ◌∷◌, ◌++◌, append-nil}
use lib.Dec.{ltb}
use lib.ListN.{length}
use borrow.Author.Tests.{lt-ltb, le-ltb}
use Rattle.codec.specs.Records.{bytes_of, free_extents}
use Rattle.codec.specs.declared.refcount.Refcount.{Refcount}
use Rattle.codec.specs.declared.free_extent.FreeExtent.{FreeExtent}
use Rattle.codec.proofs.RecordLists.{length-bytes_of, bytes_of-append}
use Rattle.codec.proofs.RecordKinds.{free_extents-lawful}
use Rattle.lists.specs.Release.{stop}
use Rattle.lists.specs.Inner.Passes.{put_if, gap_of}
use Rattle.lists.proofs.Cases.{split, tests}
use Rattle.lists.proofs.Runs as R
use Rattle.lists.proofs.Puts.{put-nil}

abbrev W : List FreeExtent → List ℕ
W l = bytes_of free_extents l

-- ---- one gap

pub gap-none : (w : Bool) (free : List ℕ) (at a z : ℕ) → z ≤ a → (at ≡ at + length (W (gap_of a z))) × (free ≡ put_if w free at (W (gap_of a z)))
unfolding gap_of bytes_of
gap-none w free at a z h = rw (le-ltb a z h) (omega arith, sym (put-nil w free at))

pub gap-some : (at a z : ℕ) → a < z → (at + 8 ≡ at + length (W (gap_of a z))) × (free_extents.encode (record { startblock = a; blockcount = z - a }) ≡ W (gap_of a z))
unfolding gap_of bytes_of
gap-some at a z h =
    let q : gap_of a z ≡ record { startblock = a; blockcount = z - a } ∷ [] = rw (lt-ltb a z h) refl in
    (omega (arith, length-bytes_of free_extents free_extents-lawful (gap_of a z), ap length q), rw (q, append-nil) refl)

gap-few : (a z : ℕ) → length (W (gap_of a z)) ≤ 8 * (z - a)
unfolding gap_of
gap-few a z =
    split (ltb a z)
    (λ e. omega (tests, (gap-some 0 a z (omega tests)).0))
    (λ e. omega (tests, (gap-none true [] 0 a z (omega tests)).0))

gap-one : (a z : ℕ) → length (W (gap_of a z)) ≤ 8
gap-one a z = split (ltb a z) (λ e. omega (tests, (gap-some 0 a z (omega tests)).0)) (λ e. omega (tests, (gap-none true [] 0 a z (omega tests)).0))

-- no more runs are found than there are blocks before the next
pub gap-place : (a z b n : ℕ) → n ≤ 8 * a → z ≤ b → n + length (W (gap_of a z)) ≤ 8 * max a b
gap-place a z b n h k = omega (arith, gap-few a z, gap-one a z)

-- ---- the pass

pub gaps-step : (a e : ℕ) (r : Refcount) (m : List Refcount) → W (R.gaps a e (r ∷ m)) ≡ W (gap_of a (min r.startblock e)) ++ W (R.gaps (max a (stop r)) e m)
unfolding R.gaps gap_of
gaps-step a e r m = bytes_of-append free_extents free_extents-lawful (gap_of a (min r.startblock e)) (R.gaps (max a (stop r)) e m)

pub gaps-end : (a e : ℕ) → W (R.gaps a e []) ≡ W (gap_of a e)
unfolding R.gaps gap_of
gaps-end a e = refl
