-- Lists that are accepted and lists that are not, the same and not, by computation.
-- Assumes nothing.
use mathlib.Core.Path.{◌≡◌, refl}
use mathlib.Core.Bool.{true, false}
use mathlib.Core.List.{List, [], ◌∷◌, ◌++◌}
use Prim.Native.Nat.{ℕ, ◌≤◌}
use Rattle.codec.specs.Bytes as bytes
use Rattle.codec.specs.Question.{none, done, refused}
use Rattle.codec.specs.Records as records
use Rattle.codec.specs.Records.{records_of, free_extents}
use Rattle.codec.specs.Accepted as lists
use Rattle.codec.specs.declared.free_extent.FreeExtent.{FreeExtent}
use Rattle.free.specs.declared.order.Order.TheVariants.{ByBlock, BySize}
use Rattle.free.specs.Free.{good, smaller, follows, accepted, check_order}
use Rattle.free.specs.Same.{occurs, equally_often, same_extents, same_outcome}
use Rattle.free.specs.Claims.{SameBlocks}
use Rattle.free.specs.Inner.Searches.{all_in}
use Rattle.free.proofs.Sameness.{every-once}
use Rattle.free.proofs.Covering.{every-block}

-- the bytes of start / count, both below 256
abbrev at : ℕ → ℕ → List ℕ
at s c = 0 ∷ 0 ∷ 0 ∷ s ∷ 0 ∷ 0 ∷ 0 ∷ c ∷ []

-- 10/5 and 20/3, by block and by size
abbrev block : List ℕ
block = at 10 5 ++ at 20 3

abbrev size : List ℕ
size = at 20 3 ++ at 10 5

pub record Says : Type 0 where
  pub same : same_outcome block size ≡ done true
  -- one list within the other is not enough, whichever it is
  pub one-less-by-size : same_outcome block (at 20 3) ≡ done false
  pub within-by-block : all_in (records_of free_extents (at 20 3)) (records_of free_extents block) ≡ true
  pub one-less-by-block : same_outcome (at 20 3) size ≡ done false
  pub within-by-size : all_in (records_of free_extents (at 20 3)) (records_of free_extents size) ≡ true
  -- the questions on the list by block come first
  pub by-block-first : same_outcome size (0 ∷ []) ≡ refused 21 none

pub says : Says
unfolding same_outcome occurs equally_often all_in good smaller follows bytes.be_of records.fields_of records.first_records records.records_of lists.whole lists.in_order
says = record { same = refl; one-less-by-size = refl; within-by-block = refl; one-less-by-block = refl; within-by-size = refl; by-block-first = refl }

pub record Asked : Type 0 where
  -- an extent may start where the one before it ends
  pub touching : check_order ByBlock (at 0 4 ++ at 4 4) ≡ done 2
  -- overlapping ones are refused by block; by size they are not looked for
  pub overlapping : check_order ByBlock (at 0 2 ++ at 1 3) ≡ refused 21 none
  pub overlapping-by-size : check_order BySize (at 0 2 ++ at 1 3) ≡ done 2
  -- by count first, and strictly
  pub by_count : check_order BySize block ≡ refused 21 none
  pub twice : check_order BySize (at 10 5 ++ at 10 5) ≡ refused 21 none

pub asked : Asked
unfolding check_order good smaller follows bytes.be_of records.fields_of records.first_records records.records_of lists.whole lists.in_order
asked = record { touching = refl; overlapping = refl; overlapping-by-size = refl; by_count = refl; twice = refl }

-- the premise of `EveryOnce` is met
size-accepted : accepted BySize (records_of free_extents size) ≡ true
unfolding good smaller follows bytes.be_of records.fields_of records.first_records records.records_of lists.in_order
size-accepted = refl

pub size-once : (e : FreeExtent) → occurs e (records_of free_extents size) ≤ 1
size-once = every-once BySize (records_of free_extents size) size-accepted

-- and those of `EveryBlock`
block-accepted : accepted ByBlock (records_of free_extents block) ≡ true
unfolding good follows bytes.be_of records.fields_of records.first_records records.records_of lists.in_order
block-accepted = refl

block-size-same : same_extents (records_of free_extents block) (records_of free_extents size) ≡ true
unfolding occurs equally_often bytes.be_of records.fields_of records.first_records records.records_of
block-size-same = refl

pub size-blocks : SameBlocks (records_of free_extents block) (records_of free_extents size)
size-blocks = every-block (records_of free_extents block) (records_of free_extents size) block-accepted block-size-same
