-- The tests of one staging record and of one record's owners, and the goodness of an extent, exit by exit.
-- Assumes nothing.
use Prim.Native.Nat.{ℕ, ◌+◌, ◌^◌, ◌≤◌, ◌<◌}
use mathlib.Core.Path.{◌≡◌, refl}
use mathlib.Core.Bool.{Bool, true, false, not, ◌&&◌}
use lib.Dec.{ltb, leb}
use borrow.Author.Tests.{lt-leb}
use Rattle.codec.specs.Refcounts.{staging, block, end}
use Rattle.codec.specs.declared.refcount.Refcount.{Refcount}
use Rattle.lists.specs.Extent.{good_extent}
use Rattle.lists.proofs.Cases.{tests, conj}

pub not-staging : (r : Refcount) → r.startblock < 2 ^ 31 → staging r ≡ false
unfolding staging
not-staging r h = lt-leb (2 ^ 31) r.startblock h

module _ (r : Refcount) (s e : ℕ) where
  pub unstaged : staging r ≡ false → false ≡ (staging r && (ltb (block r) e && ltb s (end r)))
  unstaged h = rw h refl

pub clear-on : (c t : Bool) → t ≡ false → c ≡ (c && not t)
clear-on true t h = rw h refl
clear-on false t h = refl

module _ (start count : ℕ) where
  pub good-end : good_extent start count ≡ true → start + count ≤ 2 ^ 31
  unfolding good_extent
  good-end h = let k : leb (start + count) (2 ^ 31) ≡ true = search conj in omega tests
